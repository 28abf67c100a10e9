use Rattle.std.proofs.Common.{◌≡◌, ◌≤◌, length, vec_capacity}
use Rattle.wf_network.specs.Problems.{AreLeads}
use Rattle.wf_network.proofs.leads.leads.Given as goal

abbrev pub invariant-loop-number : goal.invariant-loop-number
invariant-loop-number l = record {
  long : length l.leads.items ≡ l.number;
  room : length l.rules ≤ vec_capacity l.leads;
  leads : AreLeads l.rules l.executions l.leads.items;
}
