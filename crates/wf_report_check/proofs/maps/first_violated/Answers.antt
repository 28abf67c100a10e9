use Rattle.std.proofs.Common.{◌≡◌, ◌<◌, ◌-◌, ◌^◌, ℕ, Bool, not, length, position, ap, ◌∙◌, arith}
use Rattle.std.specs.List.{range_with_len}
use Rattle.std.proofs.lemmas.List.{length-map}
use Rattle.rayon.specs.Numbers.{nat_range}
use Rattle.rayon.proofs.ToStd.{nat_range-All, first_true-position}
use Rattle.std.proofs.lemmas.List.FromFn.{length-range_with_len}
use Rattle.wf_model.specs.Problem.{problem_of, constraint_at}
use Rattle.wf_model.specs.Check.{satisfies}
use Rattle.wf_report_check.proofs.FirstLemmas.{few_found, first_by_number}
use Rattle.wf_report_check.proofs.maps.first_violated.Goals as goal

pub position_first-requires-clause-items : goal.position_first-requires-clause-items
position_first-requires-clause-items g c κs within =
    let ends = c.into_par_iter.ensures in
    let inside = nat_range-All (λ i. i < length c.args.protocol.now.scopes) 0 c.executions-count.result (λ i low high. omega (arith, high, c.executions-count.ensures.executions)) in
    rw (ends.0, ends.1) (λ k d lt. (inside k d lt, c.requires.built, c.requires.long))

pub returns-clause-first : goal.returns-clause-first
returns-clause-first g c =
    let ends = c.into_par_iter.ensures in
    let found = c.position_first.ensures in
    let n = c.executions-count.result in
    let p = problem_of c.args.task.now c.args.protocol.now.rounds in
    let test : ℕ → Bool = λ e. not (satisfies c.args.values.now (constraint_at p e)) in
    let whole : n - 0 ≡ n = omega arith in
    let places = found.2 ∙ (λ i. nat_range (ends.0 i) (ends.1 i)) ∙ ap (range_with_len 0) whole in
    found.4 ∙ first_true-position test found.0 found.1 found.3 (let small : n < 2 ^ 64 = omega (arith, c.executions-count.ensures.few) in omega (arith, ap length places, length-range_with_len 0 n)) ∙ ap (position test) places
    ∙ first_by_number p c.args.values.now n (c.executions-count.ensures.executions ∙ ap length c.requires.built.scopes_are ∙ length-map p.constraints (λ k. k.scope))

pub returns-clause-few : goal.returns-clause-few
returns-clause-few g c = few_found (problem_of c.args.task.now c.args.protocol.now.rounds) c.args.values.now c.position_first.result (returns-clause-first g c)
    (let p = problem_of c.args.task.now c.args.protocol.now.rounds in omega (arith, c.executions-count.ensures.few, c.executions-count.ensures.executions ∙ ap length c.requires.built.scopes_are ∙ length-map p.constraints (λ k. k.scope)))
