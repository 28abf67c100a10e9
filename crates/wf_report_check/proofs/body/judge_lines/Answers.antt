use Rattle.std.proofs.Common.{[], ◌∷◌, ◌∙◌, Result, ap, subst}
use Rattle.wf_model.specs.Problem.{problem_of}
use Rattle.wf_base.specs.Set.Sets.{box_of}
use Rattle.wf_report.specs.declared.fault.CertFault.{CertFault}
use Rattle.wf_report_check.specs.Faults.{Judges}
use Rattle.wf_report_check.specs.Left.{claimed, fault_of, lines_fault}
use Rattle.wf_report_check.proofs.ClaimLemmas.{claim_is}
use Rattle.wf_report_check.proofs.RootLemmas.{root_is}
use Rattle.wf_report_check.specs.Judged.{AreClaimed, AreJudged, part_of}
use Rattle.wf_report.proofs.Lemmas.{steps_unread, steps_weaker}
use Rattle.wf_report_check.proofs.body.judge_lines.Goals as goal

pub returns-in_err-sets-clause-read : goal.returns-in_err-sets-clause-read
returns-in_err-sets-clause-read g c =
    let j = c.args.judge.now in
    let p = problem_of j.task.now j.protocol.now.rounds in
    steps_unread {X = Result (Unit {0}) CertFault} (part_of c.args.claim) (AreClaimed p c.args.claim c.args.window.now.number) c.args.source.now c.args.window.now c.from_residual.result c.requires.can c.from_residual.ensures

pub returns-in_err-checker-clause-read : goal.returns-in_err-checker-clause-read
returns-in_err-checker-clause-read g c =
    let j = c.args.judge.now in
    let p = problem_of j.task.now j.protocol.now.rounds in
    steps_unread {X = Result (Unit {0}) CertFault} (part_of c.args.claim) (AreClaimed p c.args.claim c.args.window.now.number) c.args.source.now c.args.window.now c.from_residual-in_err-checker.result c.requires.can c.from_residual-in_err-checker.ensures

pub returns-clause-read : goal.returns-clause-read
returns-clause-read g c =
    let j = c.args.judge.now in
    let b = j.protocol.now in
    let p = problem_of j.task.now b.rounds in
    let claim = c.args.claim in
    let sets = c.in_ok-sets.sets.items in
    let box = root_is j.task.now b.rounds b c.values.result c.points.result sets c.requires.built c.values.ensures.values c.points.ensures.points c.in_ok-sets.ensures in
    steps_weaker {X = Result (Unit {0}) CertFault} (part_of claim) (AreJudged {X = Unit {0}} p claim c.of-lines.result) (AreClaimed {X = Unit {0}} p claim c.args.window.now.number) c.args.source.now c.judge_steps.new.source c.args.window.now c.judge_steps.new.window
    c.judge_steps.result c.judge_steps.ensures.read
    (λ steps x h.
    subst (Judges x)
    (ap (fault_of p (claimed claim) steps) c.of-lines.ensures
    ∙ claim_is p claim c.number.result steps (box_of sets ∷ [])
    ∙ (λ i. lines_fault p claim (c.number.ensures i) steps (box i ∷ [])))
    h)
