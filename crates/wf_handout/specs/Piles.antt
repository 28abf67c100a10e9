-- The rule of one deque: what is in it and what its passes know say together,
-- between any two steps.
use Rattle.std.specs.Prelude.{◌≡◌, ℕ, ◌+◌, ◌<◌, ◌≤◌, List, [], ◌∷◌, ◌++◌, Option, MatchOption}
use mathlib.Core.Option.{some}
use lib.ListN.{get_elem?}
use Rattle.wf_core.specs.Count.{total}
use Rattle.wf_handout.specs.declared.deque.Pile.{Pile}

abbrev pub pile : ℕ → List ℕ → List ℕ → Pile
pile parts dealt taken = record { parts = parts; dealt = dealt; taken = taken }

-- one more branch was dealt
abbrev pub with_dealt : Pile → ℕ → Pile
with_dealt v i = pile v.parts (v.dealt ++ i ∷ []) v.taken

-- a pass with a part knows all that was dealt, and one with none has taken nothing
abbrev pub Knows : List ℕ → Pile → Type 0
Knows all v = (0 < v.parts → v.dealt ≡ all) × (v.parts ≡ 0 → v.taken ≡ [])

-- What was dealt is what was taken and what is left, however it is weighed. There are two parts.
abbrev pub Held : List ℕ → List Pile → Type 0
Held items views =
    (all : List ℕ)
    × (total (λ v. v.parts) views ≡ 2)
    × ((h : ℕ → ℕ) → total h all ≡ total (λ v. total h v.taken) views + total h items)
    × ((port : ℕ) (v : Pile) → get_elem? views port ≡ some v → Knows all v)

-- the branches are added to what was taken, and no branch was taken more often than it was dealt
abbrev pub Takes : Pile → List ℕ → Pile → Type 0
Takes v xs w = (w ≡ pile v.parts v.dealt (v.taken ++ xs)) × ((h : ℕ → ℕ) → total h w.taken ≤ total h w.dealt)

-- nothing is left, if the pass has both parts
abbrev pub AllTaken : Pile → Type 0
AllTaken v = v.parts ≡ 2 → (h : ℕ → ℕ) → total h v.dealt ≡ total h v.taken

-- the first branch was taken; or there was none, and the pass is as it was
abbrev pub Pops : Option ℕ → Pile → Pile → Type 0
Pops found v w = MatchOption found ((w ≡ v) × AllTaken v) (λ i. Takes v (i ∷ []) w)
