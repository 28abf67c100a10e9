use Rattle.std.proofs.Common.{◌≡◌, ◌++◌, ◌-◌, suc, map, refl, ap, ◌∙◌, arith}
use Rattle.wf_tree_model.specs.Trees.{largest}
use Rattle.wf_tree_explain.specs.Calls.{calls_seen, splitting_of}
use Rattle.wf_tree_explain.specs.declared.split.Call as code_call
use Rattle.wf_tree_explain.proofs.Renaming.{call_more, column, inside_more, some_calls, wide}
use Rattle.wf_tree_explain.proofs.split.add_calls.Goals as goal

pub largest_at-requires : goal.largest_at-requires
largest_at-requires c = λ k d low. let there = wide c.args.renamed.now c.requires.renamed k d low in let inside = c.requires.place in omega (arith, there, inside)

pub names-preserved : goal.names-preserved
names-preserved c =
    let r = c.args.renamed.now in
    let number = c.names.number in
    let place = c.args.place in
    let call : code_call.Call = record { place = place; name = number } in
    let from = c.names.invariant.from in
    let low = c.names-test.true in
    record {
      calls = call_more c.names.calls.items c.push.new.self.items call (calls_seen c.args.calls.now.items) place r.new number from refl c.in_ok-push.ensures.items c.names.invariant.calls;
      inside = inside_more r c.names.calls.items c.push.new.self.items call c.names.invariant.inside c.requires.place c.in_ok-push.ensures.items;
      from = omega (arith, from);
      upto = omega (arith, from, low);
    }

pub returns-clause-calls : goal.returns-clause-calls
returns-clause-calls c =
    let r = c.args.renamed.now in
    let place = c.args.place in
    let high = c.names-test.false in
    let upto = c.names.invariant.upto in
    let most = c.largest_at.ensures ∙ ap largest (column r c.requires.renamed place c.requires.place) in
    let e : c.names.number - r.new ≡ suc (largest (map ((splitting_of r).name place) r.rows.now)) - r.new = omega (arith, high, upto, most) in
    c.names.invariant.calls ∙ ap (λ k. calls_seen c.args.calls.now.items ++ some_calls place r.new k) e
