use Rattle.std.proofs.Common.{◌≡◌, ◌++◌, length, codes, string_bytes}
use Rattle.wf_base.specs.Set.Sets.{values_in}
use Rattle.wf_model.specs.Report.{line, numbers_text}
use Rattle.wf_sat_cnf.proofs.head.put_values.Given as goal

abbrev pub invariant-values : goal.invariant-values
invariant-values l =
    string_bytes l.text ++ numbers_text (values_in l.left) ≡ string_bytes l.fn.text ++ line (codes "c values") (values_in l.fn.values)

abbrev pub decreases-values : goal.decreases-values
decreases-values l = length (values_in l.left)
