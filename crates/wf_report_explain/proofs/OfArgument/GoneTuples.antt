-- What is gone of a tuple.
use Rattle.std.proofs.Common.{◌≡◌, ◌≤◌, ℕ, List, [], ◌∷◌, length, None, drop, refl, sym, ap, ◌∙◌}
use Rattle.std.proofs.Math.ListN.{drop_of_length-le}
use Rattle.std.specs.Prelude.{Option}
use Rattle.wf_report_explain.specs.Argument.ArgumentState.{Gone, first_gone}
use Rattle.wf_report_explain.specs.declared.argument.reasons.Reason.{Reason}

no_values : (gone : Gone) (points : List ℕ) → first_gone gone points [] ≡ None
no_values gone [] = refl
no_values gone (v ∷ points) = refl

-- past the last value nothing is gone
pub none_gone : (gone : Gone) (points tuple : List ℕ) (n : ℕ) (whole : Option Reason) → length tuple ≤ n → first_gone gone (drop n points) (drop n tuple) ≡ whole → None ≡ whole
none_gone gone points tuple n whole past told = sym (no_values gone (drop n points)) ∙ ap (first_gone gone (drop n points)) (sym (drop_of_length-le tuple past)) ∙ told
