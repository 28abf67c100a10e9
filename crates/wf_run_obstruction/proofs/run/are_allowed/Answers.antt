use Rattle.std.proofs.Common.{sym}
use Rattle.wf_run_obstruction.proofs.TriedNodes.{tried_seen}
use Rattle.wf_run_obstruction.proofs.run.are_allowed.Goals as goal

pub nodes-init : goal.nodes-init
nodes-init c = sym (tried_seen c.args.wanted c.args.nodes.now)
