use Rattle.wf_sat_check.proofs.OfRup.LiteralLemmas.{model_of_known}
use Rattle.wf_sat_check.proofs.rup.checker.Checker.new.Goals as goal

pub returns-clause-nothing : goal.returns-clause-nothing
returns-clause-nothing c = λ a. model_of_known _ a _ (c.in_ok-new.ensures.nothing a)
