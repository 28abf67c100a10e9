-- What the rules of set agreement and renaming allow.
use Rattle.std.proofs.Common.{◌≡◌, ◌≢◌, ℕ, zero, suc, ◌<◌, ◌≤◌, ◌↔◌, List, [], ◌∷◌, length, map, All, Contains, Result, Ok, Err, slice_index_or, inl, inr, refl, sym, subst, arith}
use Rattle.std.specs.List.{AllPairs}
use Rattle.std.specs.Ordering.{nat_cmp}
use Rattle.std.specs.Cmp.{nat_cmp_total}
use Rattle.wf_model.specs.Lists.{below, in_order}
use Rattle.wf_model.specs.Presets as model
use Rattle.wf_model.specs.Presets.{different, namings}
use Rattle.wf_model.specs.Simplex.{Simplex, values_of, complex_of}
use Rattle.wf_model.specs.Task.{Task, Rule, Tuple}
use Rattle.wf_simplex.specs.Order.{nat_cmp-Equal}
use Rattle.wf_simplex.proofs.Lemmas.{Has, has_at_place, has-in_order, in_order-has, sorted-in_order, has_of_all, all_of_has}
use Rattle.wf_task_parse.specs.declared.fault.TaskFault.{TaskFault}
use Rattle.wf_task_parse.specs.RawTask.{◌>>=◌}
use Rattle.wf_task.proofs.Lemmas.{Differ, length-among, has-map, contains-has}
use Rattle.wf_task_presets.specs.declared.preset.Inputs.{Inputs}
use Rattle.wf_task_presets.specs.Laws.{HasAtMost, IsAgreement, IsRenaming, Allows}
use Rattle.wf_task_presets.specs.Preset.{inputs_seen, within_limits, set_agreement_of, renaming_of}
use Rattle.wf_task_presets.proofs.AgreementOutputs.{agreed, has-agreed, agreeing-has}
use Rattle.wf_task_presets.proofs.RenamingOutputs.{has-namings, namings-has}

-- ---- set agreement

few-from : (k : ℕ) (xs : List ℕ) → different xs ≤ k → HasAtMost k xs
few-from k xs h =
    (in_order nat_cmp xs, h, all_of_has (Contains (in_order nat_cmp xs)) xs (λ x g. has_at_place x (in_order nat_cmp xs) (in_order-has nat_cmp nat_cmp_total nat_cmp-Equal x xs g)))

few-to : (k : ℕ) (xs : List ℕ) → HasAtMost k xs → different xs ≤ k
few-to k xs (ys, short, all) =
    let among = length-among nat_cmp nat_cmp_total (in_order nat_cmp xs) ys (sorted-in_order nat_cmp nat_cmp_total nat_cmp-Equal xs)
    (λ z h. contains-has z ys (has_of_all (Contains ys) z xs all (has-in_order nat_cmp nat_cmp_total nat_cmp-Equal z xs h))) in
    omega (arith, among, short)

is-agreement : (k : ℕ) (s : Simplex) (tuple : Tuple) → Has tuple (agreed k s) → IsAgreement k s tuple
is-agreement k s tuple h =
    let a = has-agreed k s tuple h in
    record { each = a.long; valid = all_of_has (Contains (values_of s)) tuple (λ x g. has_at_place x (values_of s) (a.values x g)); few = few-from k tuple a.few }

from-agreement : (k : ℕ) (s : Simplex) (tuple : Tuple) → IsAgreement k s tuple → Has tuple (agreed k s)
from-agreement k s tuple a =
    agreeing-has k (length s) (in_order nat_cmp (values_of s)) tuple a.each (few-to k tuple a.few)
    (λ x g. in_order-has nat_cmp nat_cmp_total nat_cmp-Equal x (values_of s) (contains-has x (values_of s) (has_of_all (Contains (values_of s)) x tuple a.valid g)))

-- ---- renaming

pairs-from : (xs : List ℕ) → Differ xs → AllPairs (λ x y. x ≢ y) xs
pairs-from [] h i j d later inside = absurd (let none : ⊥ = omega (arith, later, inside) in none)
pairs-from (x ∷ xs) h zero zero d later inside = absurd (let none : ⊥ = omega (arith, later) in none)
pairs-from (x ∷ xs) h zero (suc j) d later inside = λ same. h.0 (subst (λ y. Has y xs) (sym same) (at xs j d (omega (arith, inside))))
  where
    at : (ys : List ℕ) (k : ℕ) (d : ℕ) → k < length ys → Has (slice_index_or ys k d) ys
    at [] k d low = absurd (let none : ⊥ = omega (arith, low) in none)
    at (y ∷ ys) zero d low = inl refl
    at (y ∷ ys) (suc k) d low = inr (at ys k d (omega (arith, low)))
pairs-from (x ∷ xs) h (suc i) zero d later inside = absurd (let none : ⊥ = omega (arith, later) in none)
pairs-from (x ∷ xs) h (suc i) (suc j) d later inside = pairs-from xs h.1 i j d (omega (arith, later)) (omega (arith, inside))

pairs-to : (xs : List ℕ) → AllPairs (λ x y. x ≢ y) xs → Differ xs
pairs-to [] h = tt
pairs-to (x ∷ xs) h = (
  λ g. (let place = has_at_place x xs g in h zero (suc place.0) x (omega arith) (omega (arith, place.1)) (sym place.2)),
  pairs-to xs (λ i j d later inside. h (suc i) (suc j) d (omega (arith, later)) (omega (arith, inside))),
)

is-renaming : (names : ℕ) (s : Simplex) (tuple : Tuple) → Has tuple (namings names (length s)) → IsRenaming names s tuple
is-renaming names s tuple h =
    let a = has-namings names (length s) tuple h in
    record { each = a.0; small = all_of_has (λ name. name < names) tuple a.2; different = pairs-from tuple a.1 }

from-renaming : (names : ℕ) (s : Simplex) (tuple : Tuple) → IsRenaming names s tuple → Has tuple (namings names (length s))
from-renaming names s tuple a = namings-has names (length s) tuple a.each (pairs-to tuple a.different) (λ z g. has_of_all (λ name. name < names) z tuple a.small g)

-- ---- all rules

abbrev rule_by : (Simplex → List Tuple) → Simplex → Rule
rule_by tuples s = record { input = s; tuples = tuples s }

allows : (holds : Simplex → Tuple → Type 0) (tuples : Simplex → List Tuple) (complex : List Simplex) → ((s : Simplex) (tuple : Tuple) → Has tuple (tuples s) → holds s tuple)
    → ((s : Simplex) (tuple : Tuple) → holds s tuple → Has tuple (tuples s)) → All (λ (rule : Rule). (tuple : Tuple) → Contains rule.tuples tuple ↔ holds rule.input tuple) (map (rule_by tuples) complex)
allows holds tuples complex forth back =
    all_of_has (λ (rule : Rule). (tuple : Tuple) → Contains rule.tuples tuple ↔ holds rule.input tuple) (map (rule_by tuples) complex) (λ rule h.
    let s = has-map (rule_by tuples) rule complex h in
    subst (λ (r : Rule). (tuple : Tuple) → Contains r.tuples tuple ↔ holds r.input tuple) s.2
    (λ tuple. (λ c. forth s.0 tuple (contains-has tuple (tuples s.0) c), λ a. has_at_place tuple (tuples s.0) (back s.0 tuple a))))

-- what is left of a step that did not refuse
passed : (step : Result (Unit {0}) TaskFault) (rest : Result Task TaskFault) (t : Task) → (step >>= λ _. rest) ≡ Ok t → rest ≡ Ok t
passed (Ok x) rest t h = h
passed (Err e) rest t h = cc

within-is : (made t : Task) → within_limits made ≡ Ok t → made ≡ t
unfolding within_limits
within-is made t h = let is = passed _ (Ok made) t h in cc

pub agreement-allows : (n k : ℕ) (choice : Inputs) (t : Task) → set_agreement_of n k choice ≡ Ok t → Allows (IsAgreement k) t
unfolding set_agreement_of
agreement-allows n k choice t h =
    let made = model.set_agreement n k (inputs_seen choice) in
    let is = within-is made t (passed _ (within_limits made) t (passed _ _ t h)) in
    subst (Allows (IsAgreement k)) is (allows (IsAgreement k) (agreed k) (complex_of (model.input_facets n (inputs_seen choice))) (is-agreement k) (from-agreement k))

pub renaming-allows : (n names : ℕ) (t : Task) → renaming_of n names ≡ Ok t → Allows (IsRenaming names) t
unfolding renaming_of
renaming-allows n names t h =
    let made = model.renaming n names in
    let is = within-is made t (passed _ (within_limits made) t (passed _ _ t h)) in
    subst (Allows (IsRenaming names)) is
    (allows (IsRenaming names) (λ s. namings names (length s)) (complex_of (map (λ p. (p, 0)) (below n) ∷ [])) (is-renaming names) (from-renaming names))
