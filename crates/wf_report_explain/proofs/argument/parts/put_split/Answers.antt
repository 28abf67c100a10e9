use Rattle.wf_base.proofs.OfStreams.Lemmas.{failed, none_given}
use Rattle.wf_report_explain.proofs.argument.parts.put_split.Goals as goal

pub returns-in_err-list_values-clause-text : goal.returns-in_err-list_values-clause-text
returns-in_err-list_values-clause-text c = failed c.from_residual.result _ c.from_residual.ensures.0

pub returns-in_err-list_values-clause-state : goal.returns-in_err-list_values-clause-state
returns-in_err-list_values-clause-state c = none_given c.from_residual.result _ c.from_residual.ensures.0

pub returns-in_err-list_values-clause-number : goal.returns-in_err-list_values-clause-number
returns-in_err-list_values-clause-number c = failed c.from_residual.result _ c.from_residual.ensures.0

pub returns-in_err-put_choice-clause-text : goal.returns-in_err-put_choice-clause-text
returns-in_err-put_choice-clause-text c = failed c.from_residual-in_err-put_choice.result _ c.from_residual-in_err-put_choice.ensures.0

pub returns-in_err-put_choice-clause-state : goal.returns-in_err-put_choice-clause-state
returns-in_err-put_choice-clause-state c = none_given c.from_residual-in_err-put_choice.result _ c.from_residual-in_err-put_choice.ensures.0

pub returns-in_err-put_choice-clause-number : goal.returns-in_err-put_choice-clause-number
returns-in_err-put_choice-clause-number c = failed c.from_residual-in_err-put_choice.result _ c.from_residual-in_err-put_choice.ensures.0

pub returns-in_err-case-clause-text : goal.returns-in_err-case-clause-text
returns-in_err-case-clause-text c = failed c.from_residual-in_err-case.result _ c.from_residual-in_err-case.ensures.0

pub returns-in_err-case-clause-state : goal.returns-in_err-case-clause-state
returns-in_err-case-clause-state c = none_given c.from_residual-in_err-case.result _ c.from_residual-in_err-case.ensures.0

pub returns-in_err-case-clause-number : goal.returns-in_err-case-clause-number
returns-in_err-case-clause-number c = failed c.from_residual-in_err-case.result _ c.from_residual-in_err-case.ensures.0

pub returns-in_err-put_case-clause-text : goal.returns-in_err-put_case-clause-text
returns-in_err-put_case-clause-text c = failed c.from_residual-in_err-put_case.result _ c.from_residual-in_err-put_case.ensures.0

pub returns-in_err-put_case-clause-state : goal.returns-in_err-put_case-clause-state
returns-in_err-put_case-clause-state c = none_given c.from_residual-in_err-put_case.result _ c.from_residual-in_err-put_case.ensures.0

pub returns-in_err-put_case-clause-number : goal.returns-in_err-put_case-clause-number
returns-in_err-put_case-clause-number c = failed c.from_residual-in_err-put_case.result _ c.from_residual-in_err-put_case.ensures.0
