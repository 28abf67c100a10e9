-- A set with a task's values lists them.
use Rattle.std.proofs.Common.{◌≡◌, ℕ, Bool, true, false, List, flat_map, refl, sym, ◌∙◌}
use Rattle.std.specs.Ordering.{nat_cmp}
use Rattle.wf_model.specs.Lists.{has, in_order}
use Rattle.wf_model.specs.Simplex.{values_of}
use Rattle.wf_model.specs.Task.{Task, values}
use Rattle.wf_model.proofs.Lemmas.{ascends_from, has_in_order, in_order_ascends}
use Rattle.wf_base.specs.Set.Sets.{values_in}
use Rattle.wf_base.proofs.OfSet.Lemmas.{values_listed}
use Rattle.wf_task.specs.Mask.{IsMaskOf}
use Rattle.wf_task.proofs.DraftsWithoutFault.{has_from_order}

-- tests that are true together
same_tests : (b c : Bool) → (b ≡ true → c ≡ true) → (c ≡ true → b ≡ true) → b ≡ c
same_tests true c to from = sym (to refl)
same_tests false true to from = from refl
same_tests false false to from = refl

-- putting a list in order keeps what it has
pub mask_in_order : (set xs : List ℕ) → IsMaskOf set xs → IsMaskOf set (in_order nat_cmp xs)
mask_in_order set xs same v = same v ∙ same_tests (has xs v) (has (in_order nat_cmp xs) v) (has_in_order v xs) (has_from_order v xs)

pub mask_values : (t : Task) (set : List ℕ) → IsMaskOf set (values t) → values_in set ≡ values t
mask_values t set same = values_listed set (values t) (ascends_from (values t) (in_order_ascends (flat_map values_of t.outputs))) same
