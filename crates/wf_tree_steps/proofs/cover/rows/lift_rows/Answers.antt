use Rattle.std.proofs.Common.{true, false, cond, ◌≡◌, ◌+◌, ◌*◌, ◌∷◌, [], flat_map, length, sym, ap, ◌∙◌, subst, arith}
use Rattle.std.specs.List.{AllByRecursion}
use Rattle.std.proofs.lemmas.Bool.{cond-true, cond-false}
use Rattle.std.proofs.lemmas.List.{length-map}
use Rattle.std.proofs.lemmas.List.Elements.{recursion_from_All}
use Rattle.std.proofs.lemmas.Result.{IfErr-weaker, IfOk-weaker}
use Rattle.wf_model.specs.Simplex.{processes_of}
use Rattle.wf_simplex.specs.Order.{same_simplex, same_simplex-decides}
use Rattle.wf_tree_model.specs.Covers.{corner_vertex, is_corner, lifts_on_corner, lifts_on_face, sheets_of, tuples_covered}
use Rattle.wf_tree_model.specs.Tuples.{choices_of, is_part, value_at}
use Rattle.wf_tree_refine.specs.Choices.{chosen_by}
use Rattle.wf_tree_refine.specs.Limits.{IsTooMany}
use Rattle.wf_tree_refine.specs.SplitSeen.{rule_of}
use Rattle.wf_tree_refine.proofs.Lemmas.{choices_alike}
use Rattle.wf_tree_steps.specs.Cover.LiftSeen.{lift_seen}
use Rattle.wf_tree_steps.proofs.OfCover.LiftSteps.{corner_kept}
use Rattle.wf_tree_steps.proofs.cover.rows.lift_rows.Goals as goal

pub returns-then-eq-clause-rows : goal.returns-then-eq-clause-rows
returns-then-eq-clause-rows c =
    let s = lift_seen c.args.lift.now in
    let simplex = c.args.simplex.now in
    let rows = c.args.rows.now in
    let rule = rule_of simplex rows in
    let corner : is_corner s rule ≡ true = ap (same_simplex simplex) (sym c.requires.lift.corner) ∙ sym c.eq.ensures ∙ c.if-eq.true in
    let alone : length simplex ≡ 1 = ap length ((same_simplex-decides simplex (corner_vertex s ∷ [])).0 corner) in
    let elsewhere = flat_map (choices_of (sheets_of s) (processes_of simplex)) rows in
    let long = subst (λ n. AllByRecursion (λ row. length row ≡ n) rows) alone (recursion_from_All (λ row. length row ≡ length simplex) rows c.requires.long) in
    let all : rows ≡ tuples_covered s rule =
    corner_kept (λ v. s.name v 0) (λ v. let e : v + 0 * c.args.lift.now.new ≡ v = omega arith in e) rows long
    ∙ sym (cond-true (is_corner s rule) (lifts_on_corner s rule) (cond (is_part simplex s.rule.input) (lifts_on_face s rule) elsewhere) corner) in
    IfOk-weaker c.rows_within.result _ _ (λ found is. is ∙ all) c.rows_within.ensures.rows

pub returns-then-eq-clause-refused : goal.returns-then-eq-clause-refused
returns-then-eq-clause-refused c =
    let s = lift_seen c.args.lift.now in
    let simplex = c.args.simplex.now in
    let rows = c.args.rows.now in
    let rule = rule_of simplex rows in
    let corner : is_corner s rule ≡ true = ap (same_simplex simplex) (sym c.requires.lift.corner) ∙ sym c.eq.ensures ∙ c.if-eq.true in
    let elsewhere = flat_map (choices_of (sheets_of s) (processes_of simplex)) rows in
    let count : length rows ≡ length (tuples_covered s rule) =
    sym (ap length (cond-true (is_corner s rule) (lifts_on_corner s rule) (cond (is_part simplex s.rule.input) (lifts_on_face s rule) elsewhere) corner) ∙ length-map rows (λ tuple. s.name (value_at tuple 0) 0 ∷ [])) in
    IfErr-weaker c.rows_within.result _ _ (λ fault h. subst (IsTooMany fault c.args.most) count h) c.rows_within.ensures.refused

pub returns-else-is_part-clause-rows : goal.returns-else-is_part-clause-rows
returns-else-is_part-clause-rows c =
    let s = lift_seen c.args.lift.now in
    let simplex = c.args.simplex.now in
    let rows = c.args.rows.now in
    let rule = rule_of simplex rows in
    let ps = processes_of simplex in
    let apart : is_corner s rule ≡ false = ap (same_simplex simplex) (sym c.requires.lift.corner) ∙ sym c.eq.ensures ∙ c.if-eq.false in
    let other = sym c.is_part.ensures ∙ c.if-is_part.false in
    let elsewhere = flat_map (choices_of (sheets_of s) ps) rows in
    let all : flat_map (choices_of (chosen_by c.deref.result.now) ps) rows ≡ tuples_covered s rule =
    ap (λ sets. flat_map (choices_of (chosen_by sets) ps) rows) c.deref.ensures.value
    ∙ choices_alike (chosen_by c.args.lift.now.sets.items) (sheets_of s) c.args.lift.now.new c.requires.lift.sets.each ps rows (recursion_from_All _ ps c.colours.ensures.simplex.processes) c.requires.small
    ∙ sym (cond-false (is_part simplex s.rule.input) (lifts_on_face s rule) elsewhere other)
    ∙ sym (cond-false (is_corner s rule) (lifts_on_corner s rule) (cond (is_part simplex s.rule.input) (lifts_on_face s rule) elsewhere) apart) in
    IfOk-weaker c.choice_rows.result _ _ (λ found is. is ∙ all) c.choice_rows.ensures.rows

pub returns-else-is_part-clause-refused : goal.returns-else-is_part-clause-refused
returns-else-is_part-clause-refused c =
    let s = lift_seen c.args.lift.now in
    let simplex = c.args.simplex.now in
    let rows = c.args.rows.now in
    let rule = rule_of simplex rows in
    let ps = processes_of simplex in
    let apart : is_corner s rule ≡ false = ap (same_simplex simplex) (sym c.requires.lift.corner) ∙ sym c.eq.ensures ∙ c.if-eq.false in
    let other = sym c.is_part.ensures ∙ c.if-is_part.false in
    let elsewhere = flat_map (choices_of (sheets_of s) ps) rows in
    let all : flat_map (choices_of (chosen_by c.deref.result.now) ps) rows ≡ tuples_covered s rule =
    ap (λ sets. flat_map (choices_of (chosen_by sets) ps) rows) c.deref.ensures.value
    ∙ choices_alike (chosen_by c.args.lift.now.sets.items) (sheets_of s) c.args.lift.now.new c.requires.lift.sets.each ps rows (recursion_from_All _ ps c.colours.ensures.simplex.processes) c.requires.small
    ∙ sym (cond-false (is_part simplex s.rule.input) (lifts_on_face s rule) elsewhere other)
    ∙ sym (cond-false (is_corner s rule) (lifts_on_corner s rule) (cond (is_part simplex s.rule.input) (lifts_on_face s rule) elsewhere) apart) in
    IfErr-weaker c.choice_rows.result _ _ (λ fault h. subst (λ made. IsTooMany fault c.args.most (length made)) all h) c.choice_rows.ensures.refused
