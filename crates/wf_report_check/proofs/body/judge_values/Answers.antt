use Rattle.std.proofs.Common.{◌+◌, ◌∙◌, length, take, ap, subst, Result}
use Rattle.wf_model.specs.Check.{map_fault}
use Rattle.wf_model.specs.Problem.{problem_of}
use Rattle.wf_report.specs.declared.fault.CertFault.{CertFault}
use Rattle.wf_report.specs.declared.reading.Section.TheVariants.{Values}
use Rattle.wf_report_check.specs.Faults.{Judges}
use Rattle.wf_report.specs.Parts.{AreAny}
use Rattle.wf_report_check.specs.Judged.{IsMapFault}
use Rattle.wf_report.proofs.Lemmas.{map_cut, map_done, map_unread}
use Rattle.wf_report_check.proofs.KeptValues.{judges_kept}
use Rattle.wf_report_check.proofs.body.judge_values.Goals as goal

pub returns-in_err-values-clause-read : goal.returns-in_err-values-clause-read
returns-in_err-values-clause-read g c =
    let j = c.args.judge.now in
    let p = problem_of j.task.now j.protocol.now.rounds in
    map_unread {X = Result (Unit {0}) CertFault} c.read_values.result Values (c.points-points.result + 1) (IsMapFault p) c.args.source.now c.read_values.new.source c.args.window.now c.read_values.new.window
    c.in_err-values.field-0.0 c.from_residual.result c.from_residual.ensures c.in_err-values.ensures.read

pub returns-in_err-skim_steps-clause-read : goal.returns-in_err-skim_steps-clause-read
returns-in_err-skim_steps-clause-read g c =
    let j = c.args.judge.now in
    let p = problem_of j.task.now j.protocol.now.rounds in
    map_cut {X = Result (Unit {0}) CertFault} Values (c.points-points.result + 1) (IsMapFault p) c.args.source.now c.read_values.new.source c.skim_steps.new.source c.args.window.now c.read_values.new.window c.skim_steps.new.window
    (AreAny {X = Unit {0}}) c.in_ok-values.values c.in_err-skim_steps.field-0.0 c.from_residual-in_err-skim_steps.result c.from_residual-in_err-skim_steps.ensures c.in_ok-values.ensures.read c.in_err-skim_steps.ensures.read

pub returns-clause-read : goal.returns-clause-read
returns-clause-read g c =
    let j = c.args.judge.now in
    let p = problem_of j.task.now j.protocol.now.rounds in
    let kept = c.in_ok-values.values in
    let points = c.points-points.ensures.points ∙ ap length c.requires.built.points_are in
    let judged = subst (λ m. Judges c.judge_map.result (map_fault p m)) c.deref.ensures.value c.judge_map.ensures in
    map_done {X = Result (Unit {0}) CertFault} Values (c.points-points.result + 1) (IsMapFault p) c.args.source.now c.read_values.new.source c.skim_steps.new.source c.args.window.now c.read_values.new.window c.skim_steps.new.window
    (AreAny {X = Unit {0}}) kept (tt {0}) c.judge_map.result c.in_ok-values.ensures.read c.in_ok-skim_steps.ensures.read
    (λ values steps same. judges_kept p kept.items values c.judge_map.result (same ∙ ap (λ n. take (n + 1) values) points) judged)
