use Rattle.wf_report.specs.Parts.{AreAny, AreAnyValues}
use Rattle.wf_report.proofs.Bodies.{map_parts, map_unread}
use Rattle.wf_report.proofs.skim.skim_values.Goals as goal

pub returns-in_err-read_values-clause-read : goal.returns-in_err-read_values-clause-read
returns-in_err-read_values-clause-read g c =
    map_unread {X = Unit {0}} c.read_values.result c.args.part 0 (AreAnyValues {X = Unit {0}}) c.args.source.now c.read_values.new.source c.args.window.now c.read_values.new.window
    c.in_err-read_values.field-0.0 c.from_residual.result c.from_residual.ensures c.in_err-read_values.ensures.read

pub returns-clause-read : goal.returns-clause-read
returns-clause-read g c =
    map_parts {X = Unit {0}} c.args.part 0 (AreAnyValues {X = Unit {0}}) c.args.source.now c.read_values.new.source c.skim_steps.new.source c.args.window.now c.read_values.new.window c.skim_steps.new.window
    (AreAny {X = Unit {0}}) c.in_ok-read_values.field-0 c.skim_steps.result c.in_ok-read_values.ensures.read c.skim_steps.ensures.read (λ values steps x same numbers h. tt)
