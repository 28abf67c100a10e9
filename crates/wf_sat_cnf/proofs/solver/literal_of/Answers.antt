use Rattle.std.proofs.Common.{sym, ◌∙◌, subst}
use Rattle.wf_sat_cnf.specs.Reading.{Gives, literal_seen}
use Rattle.wf_sat_cnf.proofs.SolverLemmas.{rest_of, with_minus, with_no_minus}
use Rattle.wf_sat_cnf.proofs.solver.literal_of.Goals as goal

pub returns-then-word-eq45-clause-literal : goal.returns-then-word-eq45-clause-literal
returns-then-word-eq45-clause-literal c =
    subst (Gives literal_seen c.literal_on.result)
    (with_minus c.args.variables c.args.line c.args.word.now _ (sym c.is_empty.ensures ∙ c.if-is_empty.false) c.if-word-eq45.true (rest_of 1 c.args.word.now))
    c.literal_on.ensures.literal

pub returns-clause-literal : goal.returns-clause-literal
returns-clause-literal c =
    subst (Gives literal_seen c.literal_on-2.result)
    (with_no_minus c.args.variables c.args.line c.args.word.now (sym c.is_empty.ensures ∙ c.if-is_empty.false) c.if-word-eq45.false)
    c.literal_on-2.ensures.literal
