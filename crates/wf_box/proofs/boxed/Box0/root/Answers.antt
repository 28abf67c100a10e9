use Rattle.std.proofs.Common.{map, length, ap, replicate, sym, subst, ◌∙◌}
use Rattle.std.proofs.lemmas.List.{length-replicate}
use Rattle.std.specs.List.{each_same}
use Rattle.wf_base.specs.Set.Sets.{values_in}
use Rattle.wf_network.specs.Revising.{AreKnown}
use Rattle.wf_box.proofs.CloseLemmas.{is_box}
use Rattle.wf_box.proofs.SeenLemmas.{known_none}
use Rattle.wf_box.proofs.boxed.Box0.root.Goals as goal
use Rattle.wf_base.proofs.OfSet.Lemmas.{same_sets}

pub returns-clause-root : goal.returns-clause-root
returns-clause-root c =
    ap (map values_in) (c.in_ok-new.ensures.words ∙ c.in_ok-words.ensures.items_if_clones_equal (λ y e. each_same c.values.result y e.whole))
    ∙ same_sets c.points.result c.values.result ∙ ap (replicate c.points.result) c.values.ensures ∙ ap (λ n. replicate n c.args.problem.now.values) c.points.ensures.points

pub returns-clause-is : goal.returns-clause-is
returns-clause-is c = record {
  is_box = is_box c.args.problem.now c.in_ok-new.field-0.words.items
      (ap length (c.in_ok-new.ensures.words ∙ c.in_ok-words.ensures.items_if_clones_equal (λ y e. each_same c.values.result y e.whole)) ∙ length-replicate c.points.result c.values.result ∙ c.points.ensures.points);
  closed = tt;
  known = subst (AreKnown c.args.problem.now.constraints) (sym c.new-3.ensures) (known_none c.args.problem.now.constraints);
}
