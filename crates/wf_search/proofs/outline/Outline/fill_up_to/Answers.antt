use Rattle.std.proofs.Common.{◌∙◌, ◌++◌, ap, flat_map, length, arith}
use Rattle.std.proofs.lemmas.Result.{IfOk-weaker}
use Rattle.wf_model.specs.Outline.{boxes_left_out}
use Rattle.wf_search.specs.Outline.{as_written, gap_seen}
use Rattle.wf_search.proofs.OutlineLemmas.{number_seen, fill_first}
use Rattle.wf_search.proofs.outline.Outline.fill_up_to.Goals as goal

pub returns : goal.returns
returns c =
    IfOk-weaker c.fill_gaps.result _ _
    (λ lines is. is ∙ fill_first c.deref.result.now c.self.inside.after.items c.args.lists.items c.args.self.now c.requires.some
    (omega (arith, c.requires.few, number_seen c.self.inside.gaps.items c.self.inside.after.items, ap (λ items. length (boxes_left_out items)) c.self.view_is, ap length c.deref.ensures.value))
    (ap (λ gaps. flat_map gap_seen gaps ++ as_written c.self.inside.after.items) c.deref.ensures.value ∙ c.self.view_is)) c.fill_gaps.ensures
