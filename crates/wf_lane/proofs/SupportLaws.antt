-- Of a set, the values that a table does not support.
use Rattle.std.proofs.Common.{◌≡◌, ℕ, ◌<◌, List, [], Bool, true, not, sym, ◌∙◌, ap, inl, inr}
use Rattle.std.specs.Prelude.{slice_index_or, ◌↔◌}
use Rattle.std.specs.List.{filter}
use Rattle.std.proofs.lemmas.Bool.{cases_Bool}
use Rattle.std.proofs.lemmas.List.Elements.{filter_agree}
use Rattle.wf_model.specs.Lists.{has}
use Rattle.wf_model.specs.Box.{is_supported}
use Rattle.wf_base.specs.Set.Sets.{values_in}
use Rattle.wf_lane.specs.Table.{Table, HasSupported, sets_of}

-- two answers that are yes together are the same
same_answers : (a b : Bool) → (a ≡ true) ↔ (b ≡ true) → a ≡ b
same_answers a b both =
    elim (cases_Bool a) [
      | inl is ↦ is ∙ sym (both.0 is)
      | inr not_so ↦ elim (cases_Bool b) [
        | inl is ↦ both.1 is ∙ sym is
        | inr nor_so ↦ not_so ∙ sym nor_so
      ]
    ]

-- of a set, the values that are not among the supported ones
pub lacking_values : (masks : List (List ℕ)) (table : Table) (candidates : List (List ℕ)) (place : ℕ) (set : List ℕ) → HasSupported masks table candidates → place < table.width
    → filter (λ v. not (has (values_in (slice_index_or masks place [])) v)) (values_in set) ≡ filter (λ v. not (is_supported table.rows (sets_of table.width candidates) place v)) (values_in set)
lacking_values masks table candidates place set supported in_width =
    filter_agree (λ v. not (has (values_in (slice_index_or masks place [])) v)) (λ v. not (is_supported table.rows (sets_of table.width candidates) place v))
    (λ v. ap not (same_answers (has (values_in (slice_index_or masks place [])) v) (is_supported table.rows (sets_of table.width candidates) place v) (supported place v in_width))) (values_in set)
