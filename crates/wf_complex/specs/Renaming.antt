-- The views inside a view, and the entries that they get with their processes renamed.
use Rattle.std.specs.Prelude.{◌≡◌, ◌<◌, ◌≤◌, ◌==◌, ◌||◌, ℕ, Bool, true, List, [], ◌∷◌, ◌++◌, map, filter, length, take, drop, All, if◌then◌else◌}
use Rattle.std.specs.Int.{bit_at}
use Rattle.std.specs.List.{list_any}
use Rattle.wf_model.specs.Lists.{below, has}
use Rattle.wf_model.specs.Simplex.{is_ascending}
use Rattle.wf_model.specs.View.{View, renamed, same_view}
use Rattle.wf_complex.specs.declared.node.Node.{Node}
use Rattle.wf_complex.specs.Views.{view_at, inner_views, count_within}

-- how many processes of a set are below p: bit q is set where process q is in the set
abbrev pub rank_in : ℕ → ℕ → ℕ
rank_in processes p = length (filter (λ q. bit_at processes q == 1) (below p))

-- whether a set leaves no process out below another
abbrev pub are_lowest : ℕ → Bool
are_lowest processes = (processes == 1) || ((processes == 3) || ((processes == 7) || (processes == 15)))

-- the views that the view of this number saw stand under some of these numbers
abbrev pub SawAmong : List View → ℕ → List ℕ → Type 0
SawAmong vs id ids = All (λ w. list_any (same_view w) (map (view_at vs) ids) ≡ true) (inner_views (view_at vs id))

-- each number stands after those of the views that its view saw
abbrev pub SawEarlier : List View → List ℕ → List ℕ → Type 0
SawEarlier vs before [] = Unit {0}
SawEarlier vs before (id ∷ ids) = SawAmong vs id before × SawEarlier vs (before ++ id ∷ []) ids

-- the numbers of a view and of the views inside it
pub record AreInside (vs : List View) (id : ℕ) (ids : List ℕ) : Type 0 where
  pub ascending : is_ascending ids ≡ true
  pub numbers : All (λ k. k < length vs) ids
  pub itself : has ids id ≡ true
  pub parts : SawEarlier vs [] ids
  pub few : length ids ≤ count_within (view_at vs id)

-- the new number that stands beside this old one
abbrev pub number_beside : List ℕ → List ℕ → ℕ → ℕ
number_beside [] new id = 0
number_beside (k ∷ old) [] id = 0
number_beside (k ∷ old) (n ∷ new) id = if k == id then n else number_beside old new id

-- each new number is that of the renamed view of the old number beside it
abbrev pub AreRenamed : List View → (ℕ → ℕ) → List ℕ → List ℕ → Type 0
AreRenamed vs f old [] = Unit {0}
AreRenamed vs f [] (n ∷ new) = ⊥
AreRenamed vs f (k ∷ old) (n ∷ new) = ((n < length vs) × (view_at vs n ≡ renamed f (view_at vs k))) × AreRenamed vs f old new

-- the entry with this process, and with these numbers of the views in it
abbrev pub renumbered_node : ℕ → (ℕ → ℕ) → Node → Node
renumbered_node p f node = record { process = p; count = node.count; ids = map f (take node.count node.ids) ++ drop node.count node.ids }

-- each of these numbers is an old one that has a new number beside it
abbrev pub HaveNewNumbers : List ℕ → List ℕ → List ℕ → Type 0
HaveNewNumbers old new ids = All (λ k. has (take (length new) old) k ≡ true) ids

-- the view of this number with its processes replaced by f
abbrev pub renamed_at : List View → (ℕ → ℕ) → ℕ → View
renamed_at vs f id = renamed f (view_at vs id)
