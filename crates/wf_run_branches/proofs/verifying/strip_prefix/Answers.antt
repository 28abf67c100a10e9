use Rattle.wf_run_branches.proofs.AcceptedLines.{begins_otherwise}
use Rattle.wf_run_branches.proofs.verifying.strip_prefix.Goals as goal

pub returns-else-eq-clause-elsewhere : goal.returns-else-eq-clause-elsewhere
returns-else-eq-clause-elsewhere c = λ none rest is.
    begins_otherwise c.args.text.now c.args.head.now rest c.split_at.result.0.now c.split_at.ensures.front c.if-eq.ensures is
