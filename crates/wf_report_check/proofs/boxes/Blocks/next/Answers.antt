use Rattle.std.proofs.Common.{◌≡◌, ◌∷◌, ◌++◌, [], eqb-true, length, map, reverse, ◌∙◌, sym, ap, subst, arith, true}
use Rattle.std.proofs.lemmas.List.{nil_from_length}
use Rattle.wf_model.specs.Box.{decided}
use Rattle.wf_base.specs.Set.Sets.{box_of, values_in}
use Rattle.wf_report_check.specs.Blocks.{later, later_from}
use Rattle.wf_report_check.proofs.BlockLemmas.{later_popped}
use Rattle.wf_report_check.specs.Settled.{are_settled, is_settled}
use Rattle.wf_report_check.proofs.SettledLemmas.{settled_set, way_popped}
use Rattle.wf_report_check.proofs.boxes.Blocks.next.Goals as goal

pub back-preserved : goal.back-preserved
back-preserved c =
    let words = c.back.self.sets.items in
    let rest = c.pop.new.self.items in
    let none_left : values_in c.in-Later.values ≡ [] = nil_from_length (values_in c.in-Later.values) (eqb-true (length (values_in c.in-Later.values)) 0 (sym c.is_empty.ensures ∙ c.if-not-is_empty.false)) in (
      sym (later_popped rest c.back.self.trail.items c.in-Some.entry words c.in-Some.ensures.items
          ∙ ap (λ e. later_from (e ∷ reverse rest) words) c.in-Later.is
          ∙ ap (λ vs. map (decided (box_of words) c.in-Later.point) vs ++ later rest words) none_left)
          ∙ c.back.invariant.0,
      c.back.invariant.1,
    )

pub invariant_of-self : goal.invariant_of-self
invariant_of-self c =
    let blocks = c.back.self in
    let trail = c.pop.new.self.items in record {
      settled = subst (λ sets. is_settled c.min-self.result sets ≡ true) (sym c.put_back.ensures)
          (settled_set blocks.low c.min-self.result c.in-Was.point blocks.sets.items c.in-Was.set (omega (arith, c.min-self.ensures)) (omega (arith, c.min-self.ensures)) blocks.settled);
      way_settled = subst (λ sets. are_settled (reverse trail) sets ≡ true) (sym c.put_back.ensures)
          (way_popped trail blocks.trail.items c.in-Some.entry _ blocks.sets.items c.in-Some.ensures.items c.in-Was.is blocks.way_settled);
    }
