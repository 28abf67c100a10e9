use Rattle.std.proofs.Common.{ap, subst, sym, ◌≡◌, ◌∙◌, None}
use Rattle.wf_sat_formula.specs.Branches.{branch_at}
use Rattle.wf_base.specs.Set.Sets.{box_of}
use Rattle.wf_report_check.specs.Within.{report_fault_within}
use Rattle.wf_report.specs.Reports.{body_of, report_seen}
use Rattle.wf_run_branches.specs.Verifying.{is_outside}
use Rattle.wf_run_branches.proofs.CheckedParts.{part_true}
use Rattle.wf_run_branches.proofs.verifying.check_part.Goals as goal

pub returns : goal.returns
returns g c =
    let t = c.args.judge.now.task.now in
    let r = c.args.judge.now.protocol.now.rounds in
    let branch = c.requires.branch in
    let i = c.args.branch.number in
    let report = report_seen c.args.report.now in
    let body = body_of c.args.report.now.body in
    let clear = subst (λ box. report_fault_within t r box report ≡ None) branch.sets c.in_ok-check_within.ensures in
    let same : c.is_map_outside-is_elsewhere.result ≡ is_outside body (branch_at t r i) =
    c.is_map_outside-is_elsewhere.ensures ∙ ap (λ sets. is_outside body (box_of sets)) c.deref.ensures.value ∙ ap (is_outside body) branch.sets in
    part_true t r i c.requires.protocol.task branch.there report clear (sym same ∙ c.if-is_elsewhere.false)
