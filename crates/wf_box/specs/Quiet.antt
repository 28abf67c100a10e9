-- What executions without a mark keep.
use Rattle.std.specs.Prelude.{◌≡◌, ◌≢◌, ◌<◌, ◌≤◌, ℕ, List, [], length, get_or, None}
use Rattle.wf_model.specs.Problem.{Problem, Constraint, no_constraint}
use Rattle.wf_model.specs.Box.{Box, first_empty}
use Rattle.wf_model.specs.Closing.{lost, sweep}
use Rattle.wf_network.specs.Marks.{bit_of}
use Rattle.wf_base.specs.Set.Sets.{box_of, values_in}
use Rattle.wf_box.specs.Changes.{sets_in, words_after, words_at}
use Rattle.wf_box.specs.declared.tracked.Change.{Change}
use Rattle.wf_box.specs.declared.tracked.Tracked.{Tracked}
use Rattle.wf_network.specs.declared.marks.Marks.{Marks}
use Rattle.wf_network.specs.declared.users.Users.{Users}
use Rattle.wf_network.specs.Users.{IsUser}

-- an execution without a mark has lost nothing
abbrev pub IsQuiet : List Constraint → List ℕ → Box → Type 0
IsQuiet ks marks box = (e : ℕ) → e < length ks → bit_of marks e ≡ 0 → lost box (get_or ks e no_constraint) ≡ []

-- each execution that has lost something is marked
abbrev pub MarksTell : List Constraint → Marks → Tracked → Type 0
MarksTell ks marks t = IsQuiet ks marks.words.items (sets_in t)

-- and this one may have
abbrev pub IsQuietBut : ℕ → List Constraint → List ℕ → Box → Type 0
IsQuietBut number ks marks box = (e : ℕ) → e ≢ number → e < length ks → bit_of marks e ≡ 0 → lost box (get_or ks e no_constraint) ≡ []

-- an execution without a mark had none before, and its points have the sets that they had
abbrev pub IsUntouched : Users → List (List ℕ) → List ℕ → List (List ℕ) → List ℕ → Type 0
IsUntouched u words marks fewer more =
    (e : ℕ) → bit_of more e ≡ 0 → (bit_of marks e ≡ 0) × ((v : ℕ) → IsUser u v e → get_or fewer v [] ≡ get_or words v [])

-- each execution but this one, if it has no mark, had none before, and its points have the sets
-- that they had
abbrev pub IsUntouchedBut : ℕ → Users → List (List ℕ) → List ℕ → List (List ℕ) → List ℕ → Type 0
IsUntouchedBut number u words marks fewer more =
    (e : ℕ) → e ≢ number → bit_of more e ≡ 0 → (bit_of marks e ≡ 0) × ((v : ℕ) → IsUser u v e → get_or fewer v [] ≡ get_or words v [])

-- the points of an execution without a mark have the candidates that they had after so many changes
abbrev pub IsUntouchedSince : ℕ → Users → Tracked → Marks → Type 0
IsUntouchedSince n u t marks =
    (e : ℕ) → bit_of marks.words.items e ≡ 0 → (v : ℕ) → IsUser u v e → get_or (words_at n t) v [] ≡ get_or t.words.items v []

-- a point without a candidate had none after so many changes
abbrev pub EmptiesNoneSince : ℕ → Tracked → Type 0
EmptiesNoneSince n t = (v : ℕ) → values_in (get_or t.words.items v []) ≡ [] → values_in (get_or (words_at n t) v []) ≡ []

-- after so many changes the sets were those of a closed box without an empty point
pub record WasClosed (p : Problem) (trail : List Change) (words : List (List ℕ)) (n : ℕ) : Type 0 where
  pub within : n ≤ length trail
  pub filled : first_empty (box_of (words_after n trail words)) ≡ None
  pub closed : (sweep p (box_of (words_after n trail words))).lines ≡ []

-- after so many of its changes it was closed and no point was without a candidate
abbrev pub StoodClosed : Problem → Tracked → ℕ → Type 0
StoodClosed p t n = WasClosed p t.trail.items t.words.items n
