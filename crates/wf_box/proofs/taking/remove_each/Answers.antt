use Rattle.std.proofs.Common.{◌≡◌, ◌+◌, ◌≤◌, [], length, get_or, refl, subst, arith}
use Rattle.std.specs.List.{slice_set}
use Rattle.std.proofs.lemmas.List.{nil_from_length}
use Rattle.wf_model.specs.Box.{count}
use Rattle.wf_base.specs.Set.Sets.{box_of, values_in}
use Rattle.wf_box.proofs.BulkLemmas.{IsLeft, bulk_fewer, bulk_is_named, bulk_none, bulk_step}
use Rattle.wf_box.proofs.TakingLemmas.{no_value, some_value}
use Rattle.wf_box.proofs.taking.remove_each.Given.{Over}
use Rattle.wf_box.proofs.taking.remove_each.Goals.{After-intersection-gone}
use Rattle.wf_box.proofs.taking.remove_each.Goals as goal

-- what is left of the point's set
left_is : (g : Over) (c : After-intersection-gone g) → IsLeft c.difference-left.result (g.V.ValueSet.wide c.args.values) (get_or c.args.sets.now c.args.at.point [])
left_is g c = subst (λ ws. IsLeft c.difference-left.result ws (get_or c.args.sets.now c.args.at.point [])) c.widened.ensures c.difference-left.ensures

-- a candidate less for each value that is gone
fewer : (g : Over) (c : After-intersection-gone g) → count (box_of (slice_set c.args.sets.now c.args.at.point c.difference-left.result)) + length (values_in (g.V.ValueSet.wide c.intersection-gone.result)) ≤ count (box_of c.args.sets.now)
fewer g c = bulk_fewer c.args.sets.now c.args.at.point c.difference-left.result (g.V.ValueSet.wide c.intersection-gone.result) (g.V.ValueSet.wide c.args.values) (get_or c.args.sets.now c.args.at.point []) c.requires.point refl (left_is g c) c.intersection-gone.ensures

pub push_lines-requires : goal.push_lines-requires
push_lines-requires g c = omega (arith, c.requires.room, fewer g (goal.at.push_lines-requires g c).After-intersection-gone)

pub returns-then-is_empty-2-clause-step : goal.returns-then-is_empty-2-clause-step
returns-then-is_empty-2-clause-step g c =
    bulk_none c.args.at c.args.lines.now.items c.args.sets.now (g.V.ValueSet.wide c.intersection-gone.result) (g.V.ValueSet.wide c.args.values) (get_or c.args.sets.now c.args.at.point []) c.requires.point refl c.intersection-gone.ensures
    (no_value (g.V.ValueSet.wide c.intersection-gone.result) c.if-is_empty-2.ensures)

pub returns-clause-step : goal.returns-clause-step
returns-clause-step g c =
    bulk_step c.args.at c.args.lines.now.items c.push_lines.new.lines.items c.args.sets.now c.difference-left.result (g.V.ValueSet.wide c.intersection-gone.result) (g.V.ValueSet.wide c.args.values) (get_or c.args.sets.now c.args.at.point []) c.requires.point refl
    (left_is g (goal.at.returns-clause-step g c).After-intersection-gone) c.intersection-gone.ensures (some_value c.difference-left.result c.if-is_empty.ensures) c.push_lines.ensures.lines

pub returns-clause-named : goal.returns-clause-named
returns-clause-named g c = λ p at.
    bulk_is_named p c.args.at c.args.lines.now.items c.push_lines.new.lines.items c.args.sets.now c.difference-left.result (g.V.ValueSet.wide c.intersection-gone.result) (g.V.ValueSet.wide c.args.values) (get_or c.args.sets.now c.args.at.point []) at c.requires.point refl
    (left_is g (goal.at.returns-clause-named g c).After-intersection-gone) c.intersection-gone.ensures c.push_lines.ensures.lines

pub returns-clause-fewer : goal.returns-clause-fewer
returns-clause-fewer g c = omega (arith, fewer g (goal.at.returns-clause-fewer g c).After-intersection-gone)

pub returns-clause-spent : goal.returns-clause-spent
returns-clause-spent g c = omega (arith, c.push_lines.ensures.len, fewer g (goal.at.returns-clause-spent g c).After-intersection-gone)

pub returns-clause-room : goal.returns-clause-room
returns-clause-room g c = omega (arith, c.requires.room, c.push_lines.ensures.len, c.push_lines.ensures.room, fewer g (goal.at.returns-clause-room g c).After-intersection-gone)

-- some value was there, and is not any more
pub returns-clause-same : goal.returns-clause-same
returns-clause-same g c = λ is.
    let gone = values_in (g.V.ValueSet.wide c.intersection-gone.result) in
    let none : length gone ≡ 0 = omega (arith, is, fewer g (goal.at.returns-clause-same g c).After-intersection-gone) in
    absurd (some_value (g.V.ValueSet.wide c.intersection-gone.result) c.if-is_empty-2.ensures (nil_from_length gone none))
