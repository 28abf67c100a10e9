use Rattle.std.proofs.Common.{[], ◌∷◌, refl, subst, sym, Result}
use Rattle.wf_model.specs.Box.{root}
use Rattle.wf_model.specs.Check.{first_fault}
use Rattle.wf_model.specs.Problem.{problem_of}
use Rattle.wf_report.specs.declared.fault.CertFault.{CertFault}
use Rattle.wf_report_check.specs.Faults.{Judges}
use Rattle.wf_report_check.specs.declared.judge.ReportClaim.TheVariants as claims
use Rattle.wf_report.specs.declared.front.AnswerKind.TheVariants.{Map, Nothing, Least}
use Rattle.wf_report_check.specs.Judged.{AreClaimed, IsBodyFault, IsLeastFault, IsMapFault}
use Rattle.wf_report.specs.Parts.{ReadsBody}
use Rattle.wf_report.proofs.Lemmas.{none_reads, search_read, values_read}
use Rattle.wf_report_check.proofs.body.judge_body.Goals as goal

pub returns-in-Nothing-clause-read : goal.returns-in-Nothing-clause-read
returns-in-Nothing-clause-read g c =
    let j = c.args.judge.now in
    let p = problem_of j.task.now j.protocol.now.rounds in
    subst (λ a. ReadsBody {X = Result (Unit {0}) CertFault} a (IsBodyFault {X = Unit {0}} p a) c.args.source.now c.judge_lines.new.source c.args.window.now c.judge_lines.new.window c.judge_lines.result) (sym c.in-Nothing.is)
    (none_reads {X = Result (Unit {0}) CertFault} c.args.source.now c.judge_lines.new.source c.args.window.now c.judge_lines.new.window c.judge_lines.result (IsBodyFault {X = Unit {0}} p Nothing) c.requires.number
    (AreClaimed {X = Unit {0}} p claims.Nothing c.args.window.now.number) c.judge_lines.ensures.read
    (λ steps x h. (subst (λ k. Judges x (first_fault p k steps (root p ∷ []))) c.requires.number h, refl)))

pub returns-in-Map-clause-read : goal.returns-in-Map-clause-read
returns-in-Map-clause-read g c =
    let j = c.args.judge.now in
    let p = problem_of j.task.now j.protocol.now.rounds in
    subst (λ a. ReadsBody {X = Result (Unit {0}) CertFault} a (IsBodyFault {X = Unit {0}} p a) c.args.source.now c.judge_values.new.source c.args.window.now c.judge_values.new.window c.judge_values.result) (sym c.in-Map.is)
    (values_read {X = Result (Unit {0}) CertFault} c.args.source.now c.judge_values.new.source c.args.window.now c.judge_values.new.window c.judge_values.result (IsBodyFault {X = Unit {0}} p Map) c.requires.number
    (IsMapFault {X = Unit {0}} p) c.judge_values.ensures.read (λ values steps x h. (h, refl)))

pub returns-in-Least-clause-read : goal.returns-in-Least-clause-read
returns-in-Least-clause-read g c =
    let j = c.args.judge.now in
    let p = problem_of j.task.now j.protocol.now.rounds in
    subst (λ a. ReadsBody {X = Result (Unit {0}) CertFault} a (IsBodyFault {X = Unit {0}} p a) c.args.source.now c.judge_search.new.source c.args.window.now c.judge_search.new.window c.judge_search.result) (sym c.in-Least.is)
    (search_read {X = Result (Unit {0}) CertFault} c.args.source.now c.judge_search.new.source c.args.window.now c.judge_search.new.window c.judge_search.result (IsBodyFault {X = Unit {0}} p Least) c.requires.number
    (IsLeastFault {X = Unit {0}} p) c.judge_search.ensures.read (λ values steps x h. (h, refl)))
