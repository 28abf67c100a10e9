use Rattle.std.proofs.Common.{◌∙◌, ◌++◌, ap, flat_map, length, arith}
use Rattle.wf_model.specs.Outline.{boxes_left_out}
use Rattle.wf_search.specs.Outline.{as_written, gap_seen}
use Rattle.wf_search.proofs.OutlineLemmas.{number_seen, fill_last}
use Rattle.wf_search.proofs.outline.Outline.fill.Goals as goal

pub returns : goal.returns
returns c =
    fill_last c.deref.result.now c.self.inside.after.items c.args.lists.items c.in_ok-lines.lines.items c.extend_from_slice.new.self.items c.deref-2.result.now c.args.self.now
    (omega (arith, c.requires, number_seen c.self.inside.gaps.items c.self.inside.after.items, ap (λ items. length (boxes_left_out items)) c.self.view_is, ap length c.deref.ensures.value))
    c.in_ok-lines.ensures c.in_ok-extend_from_slice.ensures.items c.deref-2.ensures.value (ap (λ gaps. flat_map gap_seen gaps ++ as_written c.self.inside.after.items) c.deref.ensures.value ∙ c.self.view_is)
