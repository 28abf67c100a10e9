use Rattle.std.proofs.Common.{◌≡◌, ◌∙◌, ◌<◌, Vec, Global, All, get_or, ap, sym, subst, length, arith}
use Rattle.wf_model.specs.Problem.{IsWellFormed, problem_of}
use Rattle.wf_model.proofs.Lemmas.{task_well_formed}
use Rattle.wf_network.specs.Users.{AreTold, AreUsers}
use Rattle.wf_network.specs.Stands.{HasPoints}
use Rattle.wf_network.specs.Problems.{AreLeads, IsWithin, problem_seen}
use Rattle.wf_network.specs.declared.problem.Network.{Network}
use Rattle.wf_complex.specs.declared.packed.PackedExecution.{PackedExecution}
use Rattle.wf_network.proofs.JoinLemmas.{all_within, constraints_are}
use Rattle.wf_network.proofs.problem.Problem.join.Goals as goal

pub of_points-requires-clause-few : goal.of_points-requires-clause-few
of_points-requires-clause-few c =
    omega (arith, c.in_ok-executions.ensures.few, ap length c.deref-2.ensures.value, ap (λ (v : Vec PackedExecution Global). length v.items) c.deref.ensures)

pub of_points-requires-clause-within : goal.of_points-requires-clause-within
of_points-requires-clause-within c =
    let t = c.args.task.now in
    let b = c.args.protocol.now in
    let es = c.in_ok-executions.executions.value.items in
    let same : es ≡ c.deref-2.result.now = sym (c.deref-2.ensures.value ∙ ap (λ (v : Vec PackedExecution Global). v.items) c.deref.ensures) in
    subst (All (HasPoints c.points-points.result)) same
    (λ k d low.
    let within = all_within t b.rounds b c.in_ok-rules.rules.items es c.requires.built c.in_ok-rules.ensures.rules c.in_ok-executions.ensures.packed k d low in
    record { long = within.long; within = subst (λ n. All (λ v. v < n) (get_or es k d).points) (sym c.points-points.ensures.points) within.points_within })

pub invariant_of-result : goal.invariant_of-result
invariant_of-result c =
    let t = c.args.task.now in
    let b = c.args.protocol.now in
    let rules = c.in_ok-rules.rules.items in
    let es = c.in_ok-executions.executions.value.items in
    let network : Network = record { points = c.points-points.result; rules = c.in_ok-rules.rules; leads = c.in_ok-leads.leads; executions = c.in_ok-executions.executions; users = c.in_ok-users.users } in
    let same : problem_seen (record { values = c.values.result; network = network }) ≡ problem_of t b.rounds = λ i. record {
      points = (c.points-points.ensures.points ∙ ap length c.requires.built.points_are) i;
      values = c.values.ensures.values i;
      constraints = constraints_are t b.rounds b rules es c.requires.built c.in_ok-rules.ensures.rules c.in_ok-executions.ensures.packed i;
    } in
    let is : c.deref-2.result.now ≡ es = c.deref-2.ensures.value ∙ ap (λ (v : Vec PackedExecution Global). v.items) c.deref.ensures in
    let too : c.deref-5.result.now ≡ es = c.deref-5.ensures.value ∙ ap (λ (v : Vec PackedExecution Global). v.items) c.deref-4.ensures in
    let leads = c.in_ok-leads.leads.items in
    record {
      network = record {
        few_points = c.points-points.ensures.few;
        few_executions = c.in_ok-executions.ensures.few;
        wide = c.in_ok-rules.ensures.wide;
        processes = c.in_ok-rules.ensures.processes;
        alike = c.in_ok-rules.ensures.alike;
        as_many_leads = c.in_ok-leads.ensures.long ∙ ap length c.deref-3.ensures.value;
        leads = subst (λ xs. AreLeads rules xs leads) too (subst (λ rs. AreLeads rs c.deref-5.result.now leads) c.deref-3.ensures.value c.in_ok-leads.ensures.led);
        within = subst (λ n. All (IsWithin (length rules) n) es) (sym c.points-points.ensures.points) (all_within t b.rounds b rules es c.requires.built c.in_ok-rules.ensures.rules c.in_ok-executions.ensures.packed);
        users = subst (λ xs. AreUsers c.in_ok-users.users c.points-points.result (length xs)) is c.in_ok-users.ensures.users;
        told = subst (AreTold c.in_ok-users.users) is c.in_ok-users.ensures.told;
      };
      well_formed = subst IsWellFormed (sym same) (task_well_formed t b.rounds c.in_ok-rules.ensures.task);
    }

pub returns : goal.returns
returns c =
    let t = c.args.task.now in
    let b = c.args.protocol.now in
    λ i. record {
      points = (c.points-points.ensures.points ∙ ap length c.requires.built.points_are) i;
      values = c.values.ensures.values i;
      constraints = constraints_are t b.rounds b c.in_ok-rules.rules.items c.in_ok-executions.executions.value.items c.requires.built c.in_ok-rules.ensures.rules c.in_ok-executions.ensures.packed i;
    }
