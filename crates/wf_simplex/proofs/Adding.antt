-- Simplices that are added to others.
use Rattle.std.proofs.Common.{List, [], ◌++◌, inl, inr}
use Rattle.wf_model.specs.Simplex.{Simplex}
use Rattle.wf_simplex.specs.Adding.{AreAdded}
use Rattle.wf_simplex.proofs.Orders.{contains-has, has-append, has-append_left, has-append_right, has_at_place}

pub added-none : (old : List Simplex) → AreAdded old [] old
added-none old = record { kept = λ s h. h; more = λ s h. absurd (contains-has s [] h); only = λ s h. inl h }

-- some, and then some more
pub added-append : (old xs between ys new : List Simplex) → AreAdded old xs between → AreAdded between ys new → AreAdded old (xs ++ ys) new
added-append old xs between ys new first then = record {
  kept = λ s h. then.kept s (first.kept s h);
  more = λ s h. elim (has-append s xs ys (contains-has s (xs ++ ys) h)) [
    | inl here ↦ then.kept s (first.more s (has_at_place s xs here))
    | inr here ↦ then.more s (has_at_place s ys here)
  ];
  only = λ s h. elim (then.only s h) [
    | inl before ↦ elim (first.only s before) [
      | inl there ↦ inl there
      | inr here ↦ inr (has_at_place s (xs ++ ys) (has-append_left s xs ys (contains-has s xs here)))
    ]
    | inr here ↦ inr (has_at_place s (xs ++ ys) (has-append_right s xs ys (contains-has s ys here)))
  ];
}
