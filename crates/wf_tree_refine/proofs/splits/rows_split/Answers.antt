use Rattle.std.proofs.Common.{◌≡◌, flat_map, length, sym, ap, ◌∙◌, subst}
use Rattle.std.proofs.lemmas.Bool.{cond-false}
use Rattle.std.proofs.lemmas.List.Elements.{recursion_from_All}
use Rattle.std.proofs.lemmas.Result.{IfErr-weaker, IfOk-weaker}
use Rattle.wf_model.specs.Simplex.{processes_of}
use Rattle.wf_tree_model.specs.Splits.{choices, tuples_on_face, tuples_split}
use Rattle.wf_tree_model.specs.Tuples.{choices_of, is_part}
use Rattle.wf_tree_refine.specs.Choices.{chosen_by}
use Rattle.wf_tree_refine.specs.Limits.{IsTooMany}
use Rattle.wf_tree_refine.specs.SplitSeen.{rule_of, split_seen}
use Rattle.wf_tree_refine.proofs.ChoiceSets.{choices_alike}
use Rattle.wf_tree_refine.proofs.splits.rows_split.Goals as goal

pub returns-else-is_part-clause-rows : goal.returns-else-is_part-clause-rows
returns-else-is_part-clause-rows c =
    let s = split_seen c.args.split.now in
    let simplex = c.args.simplex.now in
    let rows = c.args.rows.now in
    let ps = processes_of simplex in
    let other = sym c.is_part.ensures ∙ c.if-is_part.false in
    let all : flat_map (choices_of (chosen_by c.deref.result.now) ps) rows ≡ tuples_split s (rule_of simplex rows) =
    ap (λ sets. flat_map (choices_of (chosen_by sets) ps) rows) c.deref.ensures.value
    ∙ choices_alike (chosen_by c.args.split.now.sets.items) (choices s) 256 c.requires.split.sets.each ps rows (recursion_from_All _ ps c.colours.ensures.simplex.processes) c.requires.small
    ∙ sym (cond-false (is_part simplex s.rule.input) (tuples_on_face s (rule_of simplex rows)) (flat_map (choices_of (choices s) ps) rows) other) in
    IfOk-weaker c.choice_rows.result _ _ (λ found is. is ∙ all) c.choice_rows.ensures.rows

pub returns-else-is_part-clause-refused : goal.returns-else-is_part-clause-refused
returns-else-is_part-clause-refused c =
    let s = split_seen c.args.split.now in
    let simplex = c.args.simplex.now in
    let rows = c.args.rows.now in
    let ps = processes_of simplex in
    let other = sym c.is_part.ensures ∙ c.if-is_part.false in
    let all : flat_map (choices_of (chosen_by c.deref.result.now) ps) rows ≡ tuples_split s (rule_of simplex rows) =
    ap (λ sets. flat_map (choices_of (chosen_by sets) ps) rows) c.deref.ensures.value
    ∙ choices_alike (chosen_by c.args.split.now.sets.items) (choices s) 256 c.requires.split.sets.each ps rows (recursion_from_All _ ps c.colours.ensures.simplex.processes) c.requires.small
    ∙ sym (cond-false (is_part simplex s.rule.input) (tuples_on_face s (rule_of simplex rows)) (flat_map (choices_of (choices s) ps) rows) other) in
    IfErr-weaker c.choice_rows.result _ _ (λ fault h. subst (λ made. IsTooMany fault c.args.most (length made)) all h) c.choice_rows.ensures.refused
