use Rattle.std.proofs.Common.{◌∙◌, ◌++◌, ◌≡◌, ap, map, inl, inr, arith}
use Rattle.wf_base.specs.Lines.Lines.{line_of}
use Rattle.wf_search.specs.Outline.{gaps_filled}
use Rattle.wf_search.proofs.OutlineLemmas.{fill_step, fill_end, none_of}
use Rattle.wf_search.proofs.outline.fill_gaps.Goals as goal

pub loop-gap-init : goal.loop-gap-init
loop-gap-init c = ap (λ ls. map line_of ls ++ gaps_filled c.into_iter-gap-iterator.result.a.rest.now c.into_iter-gap-iterator.result.b.rest.items) c.new-lines.ensures.items

pub loop-gap-preserved : goal.loop-gap-preserved
loop-gap-preserved c =
    fill_step c.loop-gap.gap-iterator.a.rest.now c.next.new.self.a.rest.now c.loop-gap.gap-iterator.b.rest.items c.next.new.self.b.rest.items c.in-Some.gap.now c.in-Some.list c.loop-gap.lines.items c.extend_from_slice.new.self.items
    c.extend_from_slice-in-loop-gap.new.self.items _ c.in-Some.ensures.steps.0 c.in-Some.ensures.steps.1.0
    (c.in_ok-extend_from_slice.ensures.items ∙ ap (λ ls. c.loop-gap.lines.items ++ ls) c.deref.ensures.value)
    (c.in_ok-extend_from_slice-2.ensures.items ∙ ap (λ ls. c.extend_from_slice.new.self.items ++ ls) c.deref-in-loop-gap.ensures.value) c.loop-gap.invariant

pub returns : goal.returns
returns c =
    let gaps : c.into_iter-gap-iterator.result.a.rest.now ≡ c.args.gaps.now = cc (c.zip-gap-items.ensures.first, c.iter.ensures.rest, c.into_iter-gap-iterator.ensures.into_iter_gives) in
    let lists : c.into_iter-gap-iterator.result.b.rest.items ≡ c.args.lists.items = cc (c.zip-gap-items.ensures.second.0, c.into_iter-gap-iterator.ensures.into_iter_gives) in
    fill_end c.loop-gap.gap-iterator.a.rest.now c.loop-gap.gap-iterator.b.rest.items (map line_of c.loop-gap.lines.items) _
    (elim c.in-None.ensures.steps [ inl h ↦ inl (none_of _ h.1.0) | inr h ↦ inr (none_of _ (let long = c.loop-gap.gap-iterator.b.rest.ok.0 in let none = h.1.0 in omega (arith, long, none))) ])
    c.loop-gap.invariant
    ∙ ap (λ ss. gaps_filled ss c.into_iter-gap-iterator.result.b.rest.items) gaps
    ∙ ap (λ ls. gaps_filled c.args.gaps.now ls) lists
