use Rattle.wf_sat_cnf.proofs.PosingLemmas.{posed_on}
use Rattle.wf_sat_cnf.proofs.checkers.CheckerClauseSink.on_variables.Goals as goal

pub returns : goal.returns
returns c = posed_on c.new.result c.args.variables c.new.ensures.nothing c.new.ensures.empty c.new.ensures.variables
