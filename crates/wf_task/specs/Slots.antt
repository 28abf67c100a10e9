-- Which entries each input simplex has.
use Rattle.std.specs.Prelude.{◌≡◌, ℕ, ◌<◌, Bool, true, false, List, [], ◌∷◌, filter, length, slice_index_or}
use Rattle.wf_model.specs.Simplex.{Simplex}
use Rattle.wf_model.specs.Task.{Rule, Tuple}
use Rattle.wf_simplex.specs.Order.{same_simplex}
use Rattle.wf_task.specs.declared.slots.EntryCount.{EntryCount}
use Rattle.wf_task.specs.declared.slots.EntryCount.TheVariants.{Missing, Once, Twice}
use Rattle.wf_task_parse.specs.Shape.{rule_of}

-- the slot with one more entry
abbrev pub with_entry : EntryCount → ℕ → EntryCount
with_entry Missing place = Once place
with_entry (Once k) place = Twice
with_entry Twice place = Twice

abbrev pub is_missing : EntryCount → Bool
is_missing Missing = true
is_missing (Once k) = false
is_missing Twice = false

abbrev pub is_twice : EntryCount → Bool
is_twice Missing = false
is_twice (Once k) = false
is_twice Twice = true

-- the slot before any entry was looked at
abbrev pub no_entry : Simplex → EntryCount
no_entry s = Missing

-- the entries for a simplex
abbrev pub entries_in : List Rule → Simplex → List Rule
entries_in rules s = filter (λ rule. same_simplex rule.input s) rules

-- what a slot says of the entries for a simplex
abbrev pub Means : EntryCount → List Rule → Simplex → Type 0
Means Missing rules s = entries_in rules s ≡ []
Means (Once k) rules s = (k < length rules) × (entries_in rules s ≡ slice_index_or rules k (rule_of [] []) ∷ [])
Means Twice rules s = 1 < length (entries_in rules s)

-- the slots of all simplices of a complex
pub record AreOf (slots : List EntryCount) (rules : List Rule) (inputs : List Simplex) : Type 0 where
  pub long : length slots ≡ length inputs
  pub each : (i : ℕ) → i < length inputs → Means (slice_index_or slots i Missing) rules (slice_index_or inputs i [])

-- a slot that names one of so many entries
abbrev pub IsOnceBelow : ℕ → EntryCount → Type 0
IsOnceBelow n Missing = ⊥
IsOnceBelow n (Once k) = k < n
IsOnceBelow n Twice = ⊥

-- the value lists of the entry that a slot names
abbrev pub lists_at : EntryCount → List Rule → List Tuple
lists_at Missing rules = []
lists_at (Once k) rules = (slice_index_or rules k (rule_of [] [])).tuples
lists_at Twice rules = []

-- the slot of a simplex with exactly one entry
abbrev pub IsOnly : EntryCount → List Rule → Simplex → Type 0
IsOnly Missing rules s = ⊥
IsOnly (Once k) rules s = Means (Once k) rules s
IsOnly Twice rules s = ⊥

-- each simplex of a complex has exactly one entry, and its slot names it
pub record AreOnly (slots : List EntryCount) (rules : List Rule) (inputs : List Simplex) : Type 0 where
  pub long : length slots ≡ length inputs
  pub each : (i : ℕ) → i < length inputs → IsOnly (slice_index_or slots i Missing) rules (slice_index_or inputs i [])
