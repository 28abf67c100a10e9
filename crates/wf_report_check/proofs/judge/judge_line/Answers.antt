use Rattle.std.proofs.Common.{◌∙◌, IfSome, length, suc, ap, sym, subst}
use Rattle.std.proofs.lemmas.Result.{err_from_is_err_and}
use Rattle.wf_model.specs.Check.{left}
use Rattle.wf_report_check.specs.Blocks.{box_now, boxes_later, boxes_left}
use Rattle.wf_report_check.specs.Left.{lines_fault}
use Rattle.wf_report_check.specs.Faults.{IsFault}
use Rattle.wf_report_check.specs.Rules.{IsInside, problem_in}
use Rattle.wf_report_check.proofs.ClaimLemmas.{branch_first, empty_first, fault_first, leaves_fault, left_first, line_seen, remove_first}
use Rattle.wf_report_check.proofs.judge.judge_line.Goals as goal

pub judge_removal-requires : goal.judge_removal-requires
judge_removal-requires c = subst (λ n. IfSome c.participant_of-there.result (IsInside n)) (sym c.requires.long) c.participant_of-there.ensures.inside

pub returns-in_err-judge_removal-in-Remove-clause-step : goal.returns-in_err-judge_removal-in-Remove-clause-step
returns-in_err-judge_removal-in-Remove-clause-step c =
    let p = problem_in c.args.rules.now in
    let box = box_now c.args.blocks.now in
    let boxes = boxes_later c.args.blocks.now in
    let line = c.in-Remove in
    let fault = c.in_err-judge_removal-in-Remove.field-0.0 in
    let e = err_from_is_err_and c.from_residual.result c.from_residual.ensures.1 in
    λ ls. leaves_fault c.from_residual.result e.0 fault _ _ e.1 e.2
    (fault_first fault _ _ (lines_fault p c.args.rules.now.claim (suc c.args.at) ls)
    (line_seen p c.args.rules.now.claim c.args.at c.args.line _ ls box boxes line.is ∙ remove_first p c.args.rules.now.claim c.args.at line.execution line.process line.value ls box boxes)
    (subst (IsFault fault) (sym (c.participant_of-there.ensures.verdict c.args.at line.value box boxes)) c.in_err-judge_removal-in-Remove.ensures.step))

pub returns-in_ok-judge_removal-in-Remove-clause-step : goal.returns-in_ok-judge_removal-in-Remove-clause-step
returns-in_ok-judge_removal-in-Remove-clause-step c =
    let p = problem_in c.args.rules.now in
    let box = box_now c.args.blocks.now in
    let boxes = boxes_later c.args.blocks.now in
    let line = c.in-Remove in
    λ ls. left_first _ _ (lines_fault p c.args.rules.now.claim (suc c.args.at) ls) _
    (line_seen p c.args.rules.now.claim c.args.at c.args.line _ ls box boxes line.is ∙ remove_first p c.args.rules.now.claim c.args.at line.execution line.process line.value ls box boxes)
    (c.participant_of-there.ensures.verdict c.args.at line.value box boxes ∙ c.in_ok-judge_removal-in-Remove.ensures.step)

pub returns-in_err-going-in-Empty-clause-step : goal.returns-in_err-going-in-Empty-clause-step
returns-in_err-going-in-Empty-clause-step c =
    let p = problem_in c.args.rules.now in
    let box = box_now c.args.blocks.now in
    let boxes = boxes_later c.args.blocks.now in
    let e = err_from_is_err_and c.from_residual-in_err-going-in-Empty.result c.from_residual-in_err-going-in-Empty.ensures.1 in
    λ ls. leaves_fault c.from_residual-in_err-going-in-Empty.result e.0 c.in_err-going-in-Empty.field-0.0 _ _ e.1 e.2
    (fault_first c.in_err-going-in-Empty.field-0.0 _ _ (lines_fault p c.args.rules.now.claim (suc c.args.at) ls)
    (line_seen p c.args.rules.now.claim c.args.at c.args.line _ ls box boxes c.in-Empty.is ∙ empty_first p c.args.rules.now.claim c.args.at c.in-Empty.point ls box boxes)
    (c.in_err-going-in-Empty.ensures.step p (sym (ap length c.requires.rules.protocol.points_are))))

pub returns-in_err-judge_branch-in-Branch-clause-step : goal.returns-in_err-judge_branch-in-Branch-clause-step
returns-in_err-judge_branch-in-Branch-clause-step c =
    let p = problem_in c.args.rules.now in
    let box = box_now c.args.blocks.now in
    let boxes = boxes_later c.args.blocks.now in
    let e = err_from_is_err_and c.from_residual-in_err-judge_branch-in-Branch.result c.from_residual-in_err-judge_branch-in-Branch.ensures.1 in
    λ ls. leaves_fault c.from_residual-in_err-judge_branch-in-Branch.result e.0 c.in_err-judge_branch-in-Branch.field-0.0 _ _ e.1 e.2
    (fault_first c.in_err-judge_branch-in-Branch.field-0.0 _ _ (lines_fault p c.args.rules.now.claim (suc c.args.at) ls)
    (line_seen p c.args.rules.now.claim c.args.at c.args.line _ ls box boxes c.in-Branch.is ∙ branch_first p c.args.rules.now.claim c.args.at c.in-Branch.point ls box boxes)
    (c.in_err-judge_branch-in-Branch.ensures.step p (sym (ap length c.requires.rules.protocol.points_are))))

pub returns-then-going-clause-step : goal.returns-then-going-clause-step
returns-then-going-clause-step c =
    let p = problem_in c.args.rules.now in
    let box = box_now c.args.blocks.now in
    let boxes = boxes_later c.args.blocks.now in
    λ ls. left_first _ _ (lines_fault p c.args.rules.now.claim (suc c.args.at) ls) _
    (line_seen p c.args.rules.now.claim c.args.at c.args.line _ ls box boxes c.in-Empty.is ∙ empty_first p c.args.rules.now.claim c.args.at c.in-Empty.point ls box boxes)
    (c.in_ok-going-in-Empty.ensures.step p (sym (ap length c.requires.rules.protocol.points_are)) ∙ ap (λ going. left (boxes_left going c.judge_empty.new.blocks)) c.if-going.true)

pub returns-else-going-clause-step : goal.returns-else-going-clause-step
returns-else-going-clause-step c =
    let p = problem_in c.args.rules.now in
    let box = box_now c.args.blocks.now in
    let boxes = boxes_later c.args.blocks.now in
    λ ls. left_first _ _ (lines_fault p c.args.rules.now.claim (suc c.args.at) ls) _
    (line_seen p c.args.rules.now.claim c.args.at c.args.line _ ls box boxes c.in-Empty.is ∙ empty_first p c.args.rules.now.claim c.args.at c.in-Empty.point ls box boxes)
    (c.in_ok-going-in-Empty.ensures.step p (sym (ap length c.requires.rules.protocol.points_are)) ∙ ap (λ going. left (boxes_left going c.judge_empty.new.blocks)) c.if-going.false)

pub returns-in_ok-judge_branch-in-Branch-clause-step : goal.returns-in_ok-judge_branch-in-Branch-clause-step
returns-in_ok-judge_branch-in-Branch-clause-step c =
    let p = problem_in c.args.rules.now in
    let box = box_now c.args.blocks.now in
    let boxes = boxes_later c.args.blocks.now in
    λ ls. left_first _ _ (lines_fault p c.args.rules.now.claim (suc c.args.at) ls) _
    (line_seen p c.args.rules.now.claim c.args.at c.args.line _ ls box boxes c.in-Branch.is ∙ branch_first p c.args.rules.now.claim c.args.at c.in-Branch.point ls box boxes)
    (c.in_ok-judge_branch-in-Branch.ensures.step p (sym (ap length c.requires.rules.protocol.points_are)))
