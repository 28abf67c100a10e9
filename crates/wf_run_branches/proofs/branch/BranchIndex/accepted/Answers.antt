use Rattle.std.proofs.Common.{◌∙◌}
use Rattle.std.proofs.lemmas.Result.{IfOk-weaker}
use Rattle.wf_run_branches.proofs.AcceptedLines.{after_one, after_several}
use Rattle.wf_run_branches.proofs.branch.BranchIndex.accepted.Goals as goal

pub returns-then-rounds-eq1 : goal.returns-then-rounds-eq1
returns-then-rounds-eq1 c =
    IfOk-weaker c.format.result _ _ (λ text h. h ∙ after_one c.args.words.now c.args.self.number c.args.self.count c.args.rounds c.if-rounds-eq1.true) c.format.ensures.ok

pub returns-else-rounds-eq1 : goal.returns-else-rounds-eq1
returns-else-rounds-eq1 c =
    IfOk-weaker c.format-else-rounds-eq1.result _ _ (λ text h. h ∙ after_several c.args.words.now c.args.self.number c.args.self.count c.args.rounds c.if-rounds-eq1.false) c.format-else-rounds-eq1.ensures.ok
