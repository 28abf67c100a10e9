use Rattle.std.proofs.Common.{rules, ◌∙◌, ap}
use Rattle.wf_report_check.specs.Blocks.{box_now, boxes_later}
use Rattle.wf_report_check.specs.Rules.{verdict_at}
use Rattle.wf_report_check.proofs.judge.judge_removal.Goals as goal

pub returns-then-is_supported-clause-step : goal.returns-then-is_supported-clause-step
returns-then-is_supported-clause-step c =
    ap (λ x. verdict_at x c.args.at c.args.value (box_now c.args.blocks.now) (boxes_later c.args.blocks.now)) c.in-Some.is ∙ search rules

pub returns-clause-step : goal.returns-clause-step
returns-clause-step c =
    ap (λ x. verdict_at x c.args.at c.args.value (box_now c.args.blocks.now) (boxes_later c.args.blocks.now)) c.in-Some.is ∙ search rules
