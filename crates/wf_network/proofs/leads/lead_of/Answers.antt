use Rattle.std.proofs.Common.{◌≡◌, ◌<◌, ◌∙◌, get_or, length, slice_index, subst, sym, ap}
use Rattle.std.proofs.lemmas.List.{get_or_default}
use Rattle.wf_network.specs.Problems.{IsLead, no_rule}
use Rattle.wf_network.specs.declared.problem.Rule.{Rule}
use Rattle.wf_network.proofs.leads.lead_of.Goals as goal

-- a rule before it has the same table
pub returns-in-Some : goal.returns-in-Some
returns-in-Some c =
    let rules = c.args.rules.now in
    let leads = c.args.leads.now in
    let rule = get_or rules c.args.number no_rule in
    let read = c.index-rules-number.result in
    let found = c.in-Some.ensures.lookup in
    let alike = c.requires.alike c.args.number no_rule c.requires.number in
    let here : read ≡ rule = c.index-rules-number.is ∙ sym (get_or_default rules c.args.number no_rule read c.requires.number) in
    let within : rule.like < length leads = subst (λ (r : Rule). r.like < length leads) (sym c.index-rules-number.is ∙ here) found.3.0 in
    let is : slice_index leads rule.like ≡ c.in-Some.lead.now = sym (found.3.1 0 ∙ ap (λ (r : Rule). slice_index leads r.like) (sym c.index-rules-number.is ∙ here)) in
    let lead = subst (IsLead rules c.args.executions.now (get_or rules rule.like no_rule)) is (c.requires.led rule.like within) in
    record { low = lead.low; same = λ inside. lead.same inside ∙ alike.same }

-- no rule before it has
pub returns-in-None : goal.returns-in-None
returns-in-None c = record {
  low = c.first_of.ensures.low;
  same = λ inside. ap (λ r. (get_or c.args.rules.now r no_rule).table) (c.first_of.ensures.same inside);
}
