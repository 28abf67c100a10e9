use Rattle.std.proofs.Common.{◌++◌, ◌∷◌, [], Some, None, ◌∙◌, sym, ap, subst, arith, length-set}
use Rattle.std.specs.List.{slice_set}
use Rattle.std.proofs.lemmas.List.{length-map}
use Rattle.wf_base.specs.declared.lines.line.Line.TheVariants as line
use Rattle.wf_base.specs.Set.Sets.{values_in}
use Rattle.wf_box.specs.Steps.{IsNamed, reached}
use Rattle.wf_box.proofs.NameLemmas.{named_empty, named_lost, named_then}
use Rattle.wf_box.proofs.TakingLemmas.{no_value, one_less, set_there, some_value, set_without, taken_on, taken_last}
use Rattle.wf_box.proofs.taking.take_out.Goals as goal

pub put-requires-then-is_empty : goal.put-requires-then-is_empty
put-requires-then-is_empty c =
    let fewer = one_less c.args.sets.now c.args.at.point c.args.value c.without-set.result c.requires.point c.without-set.ensures c.requires.present in
    omega (arith, fewer, c.put.ensures.len, c.put.ensures.room, c.requires.room)

pub returns-then-is_empty-clause-step : goal.returns-then-is_empty-clause-step
returns-then-is_empty-clause-step c =
    ap (λ ls. reached ls (Some c.args.at.point) (slice_set c.args.sets.now c.args.at.point c.without-set.result))
    (c.put-then-is_empty.ensures.lines ∙ ap (λ ls. ls ++ line.Empty c.args.at.point ∷ []) c.put.ensures.lines)
    ∙ taken_last c.args.lines.now.items c.args.sets.now c.args.at.execution c.args.at.process c.args.at.point c.args.value c.without-set.result c.requires.point c.without-set.ensures
    (no_value c.without-set.result c.if-is_empty.ensures)

pub returns-then-is_empty-clause-emptied : goal.returns-then-is_empty-clause-emptied
returns-then-is_empty-clause-emptied c = (
  omega (arith, c.requires.point, length-map (slice_set c.args.sets.now c.args.at.point c.without-set.result) values_in, length-set c.args.sets.now c.args.at.point c.without-set.result),
  set_there c.args.sets.now c.args.at.point c.without-set.result c.requires.point ∙ no_value c.without-set.result c.if-is_empty.ensures,
  (c.put.new.lines.items, c.put-then-is_empty.ensures.lines),
)

-- the line of the value, and then that of the point
pub returns-then-is_empty-clause-named : goal.returns-then-is_empty-clause-named
returns-then-is_empty-clause-named c = λ p at.
    let gone = named_lost p c.args.lines.now.items c.args.sets.now c.args.at.execution c.args.at.process c.args.at.point c.args.value c.without-set.result at
    (set_without c.args.sets.now c.args.at.point c.args.value c.without-set.result c.requires.point c.without-set.ensures) in
    subst (λ ls. IsNamed p c.args.lines.now.items c.args.sets.now ls (slice_set c.args.sets.now c.args.at.point c.without-set.result))
    (ap (λ ls. ls ++ line.Empty c.args.at.point ∷ []) (sym c.put.ensures.lines) ∙ sym c.put-then-is_empty.ensures.lines)
    (named_then p _ _ _ _ _ _ gone (named_empty p _ _ c.args.at.point))

pub returns-clause-named : goal.returns-clause-named
returns-clause-named c = λ p at.
    subst (λ ls. IsNamed p c.args.lines.now.items c.args.sets.now ls (slice_set c.args.sets.now c.args.at.point c.without-set.result)) (sym c.put.ensures.lines)
    (named_lost p c.args.lines.now.items c.args.sets.now c.args.at.execution c.args.at.process c.args.at.point c.args.value c.without-set.result at
    (set_without c.args.sets.now c.args.at.point c.args.value c.without-set.result c.requires.point c.without-set.ensures))

pub returns-clause-step : goal.returns-clause-step
returns-clause-step c =
    ap (λ ls. reached ls None (slice_set c.args.sets.now c.args.at.point c.without-set.result)) c.put.ensures.lines
    ∙ taken_on c.args.lines.now.items c.args.sets.now c.args.at.execution c.args.at.process c.args.at.point c.args.value c.without-set.result c.requires.point c.without-set.ensures
    (some_value c.without-set.result c.if-is_empty.ensures)

pub returns-clause-room : goal.returns-clause-room
returns-clause-room c =
    let fewer = one_less c.args.sets.now c.args.at.point c.args.value c.without-set.result c.requires.point c.without-set.ensures c.requires.present in
    omega (arith, fewer, c.put.ensures.len, c.put.ensures.room, c.requires.room)

pub returns-clause-spent : goal.returns-clause-spent
returns-clause-spent c =
    let fewer = one_less c.args.sets.now c.args.at.point c.args.value c.without-set.result c.requires.point c.without-set.ensures c.requires.present in
    omega (arith, fewer, c.put.ensures.len)

pub returns-then-is_empty-clause-fewer : goal.returns-then-is_empty-clause-fewer
returns-then-is_empty-clause-fewer c = let fewer = one_less c.args.sets.now c.args.at.point c.args.value c.without-set.result c.requires.point c.without-set.ensures c.requires.present in omega (arith, fewer)

pub returns-then-is_empty-clause-same : goal.returns-then-is_empty-clause-same
returns-then-is_empty-clause-same c = λ is. let fewer = one_less c.args.sets.now c.args.at.point c.args.value c.without-set.result c.requires.point c.without-set.ensures c.requires.present in absurd (let none : ⊥ = omega (arith, fewer, is) in none)

pub returns-clause-fewer : goal.returns-clause-fewer
returns-clause-fewer c = let fewer = one_less c.args.sets.now c.args.at.point c.args.value c.without-set.result c.requires.point c.without-set.ensures c.requires.present in omega (arith, fewer)

pub returns-clause-same : goal.returns-clause-same
returns-clause-same c = λ is. let fewer = one_less c.args.sets.now c.args.at.point c.args.value c.without-set.result c.requires.point c.without-set.ensures c.requires.present in absurd (let none : ⊥ = omega (arith, fewer, is) in none)
