use Rattle.std.proofs.Common.{◌≡◌, suc, length, ap, arith}
use Rattle.wf_sat_formula.specs.SolverText.{lines}
use Rattle.wf_sat_cnf.proofs.SolverLemmas.{few_lines}
use Rattle.wf_sat_cnf.proofs.solver.ModelReader.read.Goals as goal

pub overflow_add-line : goal.overflow_add-line
overflow_add-line c =
    let more : length (lines c.lines.left.now) ≡ suc (length (lines c.in-Some.others.now)) = ap length c.in-Some.ensures.0 in
    let few = few_lines c.args.text.now in
    omega (arith, more, few, c.requires.short, c.lines.invariant.1)
