use Rattle.std.proofs.Common.{subst, sym}
use Rattle.wf_report.specs.Parts.{AreAny, AreAnyValues, IsAnyBody}
use Rattle.wf_report.specs.Parts.{ReadsBody}
use Rattle.wf_report.proofs.Bodies.{none_reads, search_read, values_read}
use Rattle.wf_report.proofs.skim.skim_body.Goals as goal

pub returns-in-Nothing-clause-read : goal.returns-in-Nothing-clause-read
returns-in-Nothing-clause-read g c =
    subst (λ a. ReadsBody {X = Unit {0}} a (IsAnyBody {X = Unit {0}}) c.args.source.now c.skim_steps.new.source c.args.window.now c.skim_steps.new.window c.skim_steps.result) (sym c.in-Nothing.is)
    (none_reads {X = Unit {0}} c.args.source.now c.skim_steps.new.source c.args.window.now c.skim_steps.new.window c.skim_steps.result (IsAnyBody {X = Unit {0}}) c.requires.number (AreAny {X = Unit {0}}) c.skim_steps.ensures.read (λ steps x h. tt))

pub returns-in-Map-clause-read : goal.returns-in-Map-clause-read
returns-in-Map-clause-read g c =
    subst (λ a. ReadsBody {X = Unit {0}} a (IsAnyBody {X = Unit {0}}) c.args.source.now c.skim_values.new.source c.args.window.now c.skim_values.new.window c.skim_values.result) (sym c.in-Map.is)
    (values_read {X = Unit {0}} c.args.source.now c.skim_values.new.source c.args.window.now c.skim_values.new.window c.skim_values.result (IsAnyBody {X = Unit {0}}) c.requires.number (AreAnyValues {X = Unit {0}}) c.skim_values.ensures.read (λ values steps x h. tt))

pub returns-in-Least-clause-read : goal.returns-in-Least-clause-read
returns-in-Least-clause-read g c =
    subst (λ a. ReadsBody {X = Unit {0}} a (IsAnyBody {X = Unit {0}}) c.args.source.now c.skim_values-in-Least.new.source c.args.window.now c.skim_values-in-Least.new.window c.skim_values-in-Least.result) (sym c.in-Least.is)
    (search_read {X = Unit {0}} c.args.source.now c.skim_values-in-Least.new.source c.args.window.now c.skim_values-in-Least.new.window c.skim_values-in-Least.result (IsAnyBody {X = Unit {0}}) c.requires.number (AreAnyValues {X = Unit {0}}) c.skim_values-in-Least.ensures.read (λ values steps x h. tt))
