use Rattle.std.proofs.Common.{sym, ◌∙◌}
use Rattle.wf_sat_cnf.proofs.SolverLemmas.{is_numeral_of}
use Rattle.wf_sat_cnf.proofs.solver.is_numeral.Goals as goal

pub returns : goal.returns
returns c = c.are_digits.ensures ∙ is_numeral_of c.args.word.now (sym c.is_empty.ensures ∙ c.if-is_empty.false) c.if-word-eq48.false
