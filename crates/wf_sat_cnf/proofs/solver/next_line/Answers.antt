use Rattle.wf_sat_cnf.proofs.SolverLemmas.{line_cut}
use Rattle.wf_sat_cnf.proofs.solver.next_line.Goals as goal

pub returns : goal.returns
returns c = line_cut c.cut.result c.args.text.now c.cut.ensures
