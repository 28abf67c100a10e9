use Rattle.std.proofs.Common.{◌≡◌, ℕ, List, [], ◌∷◌, ◌++◌, length, get_or, length-append, subst, sym, ap, ◌∙◌, inl, inr, arith}
use Rattle.std.proofs.lemmas.List.{get_or_append_left, get_or_push}
use Rattle.std.proofs.lemmas.Bool.{cases_lt}
use Rattle.wf_complex.specs.declared.packed.PackedExecution.{PackedExecution}
use Rattle.wf_network.specs.Problems.{AreLeads, IsLead, no_rule}
use Rattle.wf_network.specs.declared.problem.Rule.{Rule}
use Rattle.wf_network.proofs.leads.leads.Goals as goal

-- one more rule has one
leads_more : (rules : List Rule) (es : List PackedExecution) (leads : List ℕ) (lead n : ℕ) → AreLeads rules es leads → length leads ≡ n → IsLead rules es (get_or rules n no_rule) lead → AreLeads rules es (leads ++ lead ∷ [])
leads_more rules es leads lead n before long here r within = elim (cases_lt r (length leads)) [
  | inl low ↦ subst (IsLead rules es (get_or rules r no_rule)) (sym (get_or_append_left leads (lead ∷ []) 0 r low)) (before r low)
  | inr past ↦
      let last : length leads ≡ r = omega (arith, past, within, length-append leads (lead ∷ [])) in
      subst (IsLead rules es (get_or rules r no_rule)) (sym (get_or_push leads lead 0 r last)) (subst (λ i. IsLead rules es (get_or rules i no_rule) lead) (sym long ∙ last) here)
]

pub lead_of-lead-requires-clause-long : goal.lead_of-lead-requires-clause-long
lead_of-lead-requires-clause-long c = ap length c.deref.ensures.value ∙ c.loop-number.invariant.long

pub lead_of-lead-requires-clause-led : goal.lead_of-lead-requires-clause-led
lead_of-lead-requires-clause-led c = subst (AreLeads c.args.rules.now c.args.executions.now) (sym c.deref.ensures.value) c.loop-number.invariant.leads

pub loop-number-preserved : goal.loop-number-preserved
loop-number-preserved c =
    let rules = c.args.rules.now in
    let es = c.args.executions.now in
    let old = c.loop-number.leads.items in
    let lead = c.lead_of-lead.result in
    let pushed = c.push_reserved.ensures.items in
    let before = c.loop-number.invariant in
    record {
      long = omega (arith, ap length pushed, length-append old (lead ∷ []), before.long);
      room = omega (arith, c.push_reserved.ensures.capacity, before.room);
      leads = subst (AreLeads rules es) (sym pushed) (leads_more rules es old lead c.loop-number.number before.leads before.long c.lead_of-lead.ensures);
    }
