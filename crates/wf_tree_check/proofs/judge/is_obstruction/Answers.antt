use Rattle.wf_model.specs.DecisionMap.{HasNoDecisionMap}
use Rattle.std.proofs.Common.{ℕ, ◌≡◌}
use Rattle.wf_tree_model.specs.Trees.{IsObstruction, Tree, nodes_of}
use Rattle.wf_tree_model.proofs.Lemmas.{obstruction_leaves_no_map}
use Rattle.wf_tree_text.specs.Seen.{nodes_seen}
use Rattle.wf_tree_check.specs.Judge.{fault_of}
use Rattle.wf_tree_check.proofs.Judged.{accepted}
use Rattle.wf_tree_check.proofs.Walking.{if_accepted}
use Rattle.wf_tree_check.proofs.judge.is_obstruction.Goals as goal

pub returns-clause-obstruction : goal.returns-clause-obstruction
returns-clause-obstruction c =
    let t = c.args.task.now in
    let ns = nodes_seen c.args.nodes.now in
    if_accepted c.judge_all.result (fault_of t ns) ((tree : Tree) × (nodes_of tree ≡ ns) × IsObstruction t tree) c.judge_all.ensures (accepted t ns)

pub returns-clause-no_map : goal.returns-clause-no_map
returns-clause-no_map c =
    let t = c.args.task.now in
    let ns = nodes_seen c.args.nodes.now in
    if_accepted c.judge_all.result (fault_of t ns) ((r : ℕ) → HasNoDecisionMap t r) c.judge_all.ensures
    (λ none r. let found = accepted t ns none in obstruction_leaves_no_map t found.0 c.processes.ensures.task found.2 r)
