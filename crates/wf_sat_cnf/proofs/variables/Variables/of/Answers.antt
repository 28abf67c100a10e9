use Rattle.std.proofs.Common.{◌≡◌, ◌+◌, cond, true, false, map, length, ap, sym, ◌∙◌, arith}
use Rattle.std.proofs.lemmas.List.{length-map}
use Rattle.wf_model.specs.Lists.{below, has}
use Rattle.wf_model.proofs.Lemmas.{length-below}
use Rattle.wf_base.specs.Set.Sets.{values_in}
use Rattle.wf_sat_formula.specs.Encoding.{rank_in}
use Rattle.wf_sat_cnf.proofs.TextLemmas.{few_ranks, next_rank, rank_of_none, ranks_more, rank_there}
use Rattle.wf_sat_cnf.proofs.variables.Variables.of.Goals as goal
use Rattle.wf_sat_cnf.proofs.variables.Variables.of.Goals.{then-contains, else-contains}

pub loop-value-init : goal.loop-value-init
loop-value-init c = (c.new-ranks.ensures.items, rank_of_none c.args.values)

pub overflow_add-smaller : goal.overflow_add-smaller
overflow_add-smaller c = omega (arith, c.loop-value.invariant.1, few_ranks c.args.values c.loop-value.value)

pub loop-value-preserved : goal.loop-value-preserved
loop-value-preserved c =
    let v = c.loop-value.value in
    let values = values_in c.args.values in
    let next = next_rank c.args.values v in
    let told : c.contains.result ≡ has values v = c.contains.ensures in (
      ranks_more (rank_in values) v c.loop-value.ranks.items c.push.new.self.items c.loop-value.smaller c.in_ok-push.ensures.items c.loop-value.invariant.1 c.loop-value.invariant.0,
      elim c.if-contains.branch [
        | then-contains w ↦
            let yes' : has values v ≡ true = sym told ∙ w.if-contains.true in
            let step : rank_in values (v + 1) ≡ rank_in values v + 1 = next ∙ ap (λ b. rank_in values v + cond b 1 0) yes' in
            omega (arith, w.smaller-is, step, c.loop-value.invariant.1)
        | else-contains w ↦
            let no' : has values v ≡ false = sym told ∙ w.if-contains.false in
            let step : rank_in values (v + 1) ≡ rank_in values v + 0 = next ∙ ap (λ b. rank_in values v + cond b 1 0) no' in
            omega (arith, w.smaller-is, step, c.loop-value.invariant.1)
      ],
    )

pub returns-clause-numbered : goal.returns-clause-numbered
returns-clause-numbered c =
    let all : c.loop-value.value ≡ 256 = omega (arith, c.loop-value-test.false, c.loop-value.auto.value-end) in
    let ranks : c.loop-value.ranks.items ≡ map (rank_in (values_in c.args.values)) (below 256) = c.loop-value.invariant.0 ∙ ap (λ n. map (rank_in (values_in c.args.values)) (below n)) all in
    record {
      width = c.count-width.ensures;
      long = ap length ranks ∙ length-map (below 256) (rank_in (values_in c.args.values)) ∙ length-below 256;
      ranks = λ a low. rank_there (rank_in (values_in c.args.values)) 256 a c.loop-value.ranks.items ranks low;
    }
