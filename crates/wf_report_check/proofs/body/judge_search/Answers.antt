use Rattle.std.proofs.Common.{◌≡◌, ◌+◌, ◌∙◌, [], ◌∷◌, length, take, ap, subst, None, Err, Result}
use Rattle.wf_model.specs.Box.{root}
use Rattle.wf_model.specs.Check.{first_least_fault, map_fault}
use Rattle.wf_model.specs.Problem.{problem_of}
use Rattle.wf_report.specs.declared.fault.CertFault.{CertFault}
use Rattle.wf_report.specs.declared.reading.Section.TheVariants.{Search}
use Rattle.wf_report_check.specs.Faults.{Fails, Judges}
use Rattle.wf_report_check.specs.declared.judge.ReportClaim.TheVariants as claims
use Rattle.wf_report.specs.Parts.{AreAny}
use Rattle.wf_report_check.specs.Judged.{AreClaimed, IsLeastFault}
use Rattle.wf_report.proofs.Lemmas.{map_cut, map_done, map_parts, map_unread}
use Rattle.wf_report_check.proofs.KeptValues.{least_judged, least_refused}
use Rattle.wf_report_check.proofs.body.judge_search.Goals as goal

pub returns-in_err-values-clause-read : goal.returns-in_err-values-clause-read
returns-in_err-values-clause-read g c =
    let j = c.args.judge.now in
    let p = problem_of j.task.now j.protocol.now.rounds in
    map_unread {X = Result (Unit {0}) CertFault} c.read_values.result Search (c.points-points.result + 1) (IsLeastFault p) c.args.source.now c.read_values.new.source c.args.window.now c.read_values.new.window
    c.in_err-values.field-0.0 c.from_residual.result c.from_residual.ensures c.in_err-values.ensures.read

pub returns-in-Ok-clause-read : goal.returns-in-Ok-clause-read
returns-in-Ok-clause-read g c =
    let j = c.args.judge.now in
    let p = problem_of j.task.now j.protocol.now.rounds in
    let kept = c.in_ok-values.values in
    let points = c.points-points.ensures.points ∙ ap length c.requires.built.points_are in
    let k = c.read_values.new.window.number in
    let clear = subst (λ m. map_fault p m ≡ None) c.deref.ensures.value c.in-Ok.ensures in
    map_parts {X = Result (Unit {0}) CertFault} Search (c.points-points.result + 1) (IsLeastFault p) c.args.source.now c.read_values.new.source c.judge_lines.new.source c.args.window.now c.read_values.new.window c.judge_lines.new.window
    (AreClaimed p (claims.Least c.deref-in-Ok.result) k) kept c.judge_lines.result c.in_ok-values.ensures.read c.judge_lines.ensures.read
    (λ values steps x same numbers h.
    least_judged p kept.items values steps k x (same ∙ ap (λ n. take (n + 1) values) points) clear (numbers ∙ ap (λ n. n + length values) c.requires.number)
    (subst (λ m. Judges x (first_least_fault p m k steps (root p ∷ []))) c.deref-in-Ok.ensures.value h))

pub returns-in_err-skim_steps-in-Err-clause-read : goal.returns-in_err-skim_steps-in-Err-clause-read
returns-in_err-skim_steps-in-Err-clause-read g c =
    let j = c.args.judge.now in
    let p = problem_of j.task.now j.protocol.now.rounds in
    map_cut {X = Result (Unit {0}) CertFault} Search (c.points-points.result + 1) (IsLeastFault p) c.args.source.now c.read_values.new.source c.skim_steps.new.source c.args.window.now c.read_values.new.window c.skim_steps.new.window
    (AreAny {X = Unit {0}}) c.in_ok-values.values c.in_err-skim_steps-in-Err.field-0.0 c.from_residual-in_err-skim_steps-in-Err.result c.from_residual-in_err-skim_steps-in-Err.ensures c.in_ok-values.ensures.read c.in_err-skim_steps-in-Err.ensures.read

pub returns-clause-read : goal.returns-clause-read
returns-clause-read g c =
    let j = c.args.judge.now in
    let p = problem_of j.task.now j.protocol.now.rounds in
    let kept = c.in_ok-values.values in
    let points = c.points-points.ensures.points ∙ ap length c.requires.built.points_are in
    let fault = c.in-Err.fault in
    let fails = subst (λ m. Fails fault (map_fault p m)) c.deref.ensures.value c.in-Err.ensures in
    map_done {X = Result (Unit {0}) CertFault} Search (c.points-points.result + 1) (IsLeastFault p) c.args.source.now c.read_values.new.source c.skim_steps.new.source c.args.window.now c.read_values.new.window c.skim_steps.new.window
    (AreAny {X = Unit {0}}) kept (tt {0}) (Err fault) c.in_ok-values.ensures.read c.in_ok-skim_steps-in-Err.ensures.read
    (λ values steps same. least_refused p kept.items values steps fault (same ∙ ap (λ n. take (n + 1) values) points) fails)
