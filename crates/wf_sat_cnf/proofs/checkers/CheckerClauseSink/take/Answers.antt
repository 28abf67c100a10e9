use Rattle.wf_sat_cnf.proofs.PosingLemmas.{adds_clause}
use Rattle.wf_sat_cnf.proofs.checkers.CheckerClauseSink.take.Goals as goal

pub returns : goal.returns
returns c = adds_clause c.add.result c.args.clause.now c.args.self.now c.add.new.self c.add.ensures.sound c.add.ensures.kept c.add.ensures.still c.add.ensures.alone
