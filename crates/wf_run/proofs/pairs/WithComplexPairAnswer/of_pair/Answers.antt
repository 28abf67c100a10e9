use Rattle.wf_run.specs.Run.{answered}
use Rattle.wf_run.proofs.RunsInPieces.{asked, unasked}
use Rattle.wf_run.proofs.pairs.WithComplexPairAnswer.of_pair.Goals as goal

pub returns-in_err-protocol : goal.returns-in_err-protocol
returns-in_err-protocol g c =
    unasked (g.B.ComplexAnswer.reads c.args.self.now.second.now) c.args.task.now c.args.self.now.rounds c.args.source.now c.in_err-protocol.field-0.0 c.from_residual.result c.in_err-protocol.ensures c.from_residual.ensures

pub returns : goal.returns
returns g c =
    asked (g.B.ComplexAnswer.reads c.args.self.now.second.now) c.args.task.now c.args.self.now.rounds c.in_ok-protocol.protocol c.in_ok-protocol.ensures c.args.source.now c.read_about.new.source (answered c.read_about.result) c.read_about.ensures
