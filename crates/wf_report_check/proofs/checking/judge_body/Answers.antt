use Rattle.std.proofs.Common.{subst}
use Rattle.wf_model.specs.Problem.{problem_of}
use Rattle.wf_base.specs.Set.Sets.{box_of}
use Rattle.wf_report_check.specs.Faults.{Judges}
use Rattle.wf_report.specs.Reports.{body_of}
use Rattle.wf_report_check.proofs.RootLemmas.{root_is, within_root}
use Rattle.wf_report_check.proofs.checking.judge_body.Goals as goal

pub returns-in_ok-sets-in-Nothing : goal.returns-in_ok-sets-in-Nothing
returns-in_ok-sets-in-Nothing g c =
    let t = c.args.task.now in
    let b = c.args.protocol.now in
    let sets = c.in_ok-sets-in-Nothing.sets.items in
    let root = root_is t b.rounds b c.values.result c.points.result sets c.requires.built c.values.ensures.values c.points.ensures.points c.in_ok-sets-in-Nothing.ensures in
    subst (Judges c.judge_within.result) (within_root (problem_of t b.rounds) (box_of sets) (body_of c.args.body.now) root) c.judge_within.ensures
