use Rattle.std.proofs.Common.{◌∙◌, ap, arith}
use Rattle.std.specs.List.{list_any}
use Rattle.wf_model.specs.Split.{is_open}
use Rattle.wf_search.specs.declared.outline.Gap.{Gap}
use Rattle.wf_search.proofs.OutlineLemmas.{few_enough, enough}
use Rattle.wf_search.proofs.outline.Outline.needs_cutting.Goals as goal

pub returns-then-len-lt-ENOUGH_BOXES : goal.returns-then-len-lt-ENOUGH_BOXES
returns-then-len-lt-ENOUGH_BOXES c =
    c.has_open.ensures
    ∙ ap (list_any (λ (s : Gap). is_open s.boxed.sets)) c.deref.ensures.value
    ∙ few_enough c.self.inside.gaps.items c.self.inside.after.items c.args.self.now c.len.result (omega (arith, c.len.ensures, c.self.inside.gaps.ok.0)) c.self.view_is c.if-len-lt-ENOUGH_BOXES.true

pub returns-else-len-lt-ENOUGH_BOXES : goal.returns-else-len-lt-ENOUGH_BOXES
returns-else-len-lt-ENOUGH_BOXES c = enough c.self.inside.gaps.items c.self.inside.after.items c.args.self.now c.len.result (omega (arith, c.len.ensures, c.self.inside.gaps.ok.0)) c.self.view_is c.if-len-lt-ENOUGH_BOXES.false
