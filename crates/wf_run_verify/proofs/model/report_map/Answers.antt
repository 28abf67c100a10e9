use Rattle.std.proofs.Common.{subst}
use Rattle.wf_model.specs.Check.{report_fault}
use Rattle.wf_model.specs.Report.{a_map}
use Rattle.wf_report_check.specs.Faults.{Fails}
use Rattle.wf_run_verify.proofs.ModelsToReports.{map_refused}
use Rattle.wf_run_verify.proofs.model.report_map.Goals as goal

pub returns-in_err-check : goal.returns-in_err-check
returns-in_err-check g c =
    let t = c.args.task.now in
    let r = c.args.protocol.now.rounds in
    let e = c.in_err-check.field-0.0 in
    map_refused t r c.args.map.items e c.from_residual.result c.requires.complex (subst (λ report. Fails e (report_fault t r report)) (c.about-header.ensures (a_map c.args.map.items)) c.in_err-check.ensures.fault) c.from_residual.ensures
