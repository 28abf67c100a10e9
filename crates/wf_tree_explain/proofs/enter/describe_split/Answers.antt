use Rattle.std.proofs.Common.{◌≡◌, ◌++◌, All, length, map, string_bytes, OnOk, sym, subst, ap, ◌∙◌, arith, vec_items}
use Rattle.std.specs.Cmp.Lexicographic.{slice_cmp}
use Rattle.std.specs.Ordering.{nat_cmp}
use Rattle.wf_model.specs.Lists.{in_order}
use Rattle.wf_tree_model.specs.Counting.Rules.{rule_at}
use Rattle.wf_tree_model.specs.Trees.{new_name}
use Rattle.wf_tree_refine.specs.AtHand.{at_hand}
use Rattle.wf_tree_refine.specs.Names.{splitting}
use Rattle.wf_tree_refine.proofs.Lemmas.{rule_found}
use Rattle.wf_tree_explain.specs.Words.{split_text}
use Rattle.wf_tree_explain.proofs.Telling.{split_of_rule}
use Rattle.wf_tree_explain.proofs.enter.describe_split.Goals as goal

pub named_rows-requires-clause-few : goal.named_rows-requires-clause-few
named_rows-requires-clause-few c =
    let of = rule_found c.args.walk.now.task.now vec_items c.args.rows.now c.args.simplex c.simplices-simplices.result.now c.index-simplices-simplex.result c.index-rows-simplex.result c.requires.at_hand c.requires.simplex (c.simplices-simplices.ensures.simplices ∙ c.inputs.ensures.inputs) c.index-simplices-simplex.is c.index-rows-simplex.is in
    let same = ap length c.as_slice-tuples.ensures.value in
    let few = of.1.few in
    omega (arith, same, few)

pub named_rows-requires-clause-ascending : goal.named_rows-requires-clause-ascending
named_rows-requires-clause-ascending c =
    let of = rule_found c.args.walk.now.task.now vec_items c.args.rows.now c.args.simplex c.simplices-simplices.result.now c.index-simplices-simplex.result c.index-rows-simplex.result c.requires.at_hand c.requires.simplex (c.simplices-simplices.ensures.simplices ∙ c.inputs.ensures.inputs) c.index-simplices-simplex.is c.index-rows-simplex.is in
    subst (λ rows. in_order (slice_cmp nat_cmp) rows ≡ rows) (sym c.as_slice-tuples.ensures.value) of.1.ascending

pub named_rows-requires-clause-long : goal.named_rows-requires-clause-long
named_rows-requires-clause-long c =
    let of = rule_found c.args.walk.now.task.now vec_items c.args.rows.now c.args.simplex c.simplices-simplices.result.now c.index-simplices-simplex.result c.index-rows-simplex.result c.requires.at_hand c.requires.simplex (c.simplices-simplices.ensures.simplices ∙ c.inputs.ensures.inputs) c.index-simplices-simplex.is c.index-rows-simplex.is in
    subst (All (λ row. length row ≡ length c.index-simplices-simplex.result)) (sym c.as_slice-tuples.ensures.value) of.1.long

pub put_split-requires : goal.put_split-requires
put_split-requires c =
    let of = rule_found c.args.walk.now.task.now vec_items c.args.rows.now c.args.simplex c.simplices-simplices.result.now c.index-simplices-simplex.result c.index-rows-simplex.result c.requires.at_hand c.requires.simplex (c.simplices-simplices.ensures.simplices ∙ c.inputs.ensures.inputs) c.index-simplices-simplex.is c.index-rows-simplex.is in
    record {
      long = subst (All (λ row. length row ≡ length c.index-simplices-simplex.result)) (sym c.as_slice-tuples.ensures.value) of.1.long;
      named = c.as_slice.ensures.value ∙ c.in-Ok.ensures.named;
    }

pub returns-in-Ok : goal.returns-in-Ok
returns-in-Ok c =
    let t = at_hand c.args.walk.now.task.now (map vec_items c.args.rows.now) in
    let of = rule_found c.args.walk.now.task.now vec_items c.args.rows.now c.args.simplex c.simplices-simplices.result.now c.index-simplices-simplex.result c.index-rows-simplex.result c.requires.at_hand c.requires.simplex (c.simplices-simplices.ensures.simplices ∙ c.inputs.ensures.inputs) c.index-simplices-simplex.is c.index-rows-simplex.is in
    let same = split_of_rule t (rule_at t c.args.simplex) c.index-simplices-simplex.result c.index-rows-simplex.result.items c.as_slice-tuples.result.now c.new_name-new.result of.0 c.as_slice-tuples.ensures.value c.new_name-new.ensures.name in
    let t0 = string_bytes c.args.text.now in
    let t1 = string_bytes c.put_split.new.text in
    subst (λ s. OnOk c.put_split.result (t1 ≡ t0 ++ split_text c.args.depth s (new_name t))) same
    (subst (λ n. OnOk c.put_split.result (t1 ≡ t0 ++ split_text c.args.depth (splitting c.index-simplices-simplex.result c.as_slice-tuples.result.now c.new_name-new.result) n)) c.new_name-new.ensures.name c.put_split.ensures)
