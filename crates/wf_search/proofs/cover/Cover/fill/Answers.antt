use Rattle.std.proofs.Common.{◌∙◌, ap, sym, subst}
use Rattle.std.proofs.lemmas.Result.{IfOk-weaker}
use Rattle.wf_model.specs.Box.{root}
use Rattle.wf_model.specs.Laws.{HasCanonicalLines, IsRefutedBy}
use Rattle.wf_model.specs.Outline.{filled}
use Rattle.wf_model.proofs.Lemmas.{filled_refutes, filled_canonical}
use Rattle.wf_search.specs.Cover.{each_seen}
use Rattle.wf_search.proofs.cover.Cover.fill.Goals as goal

pub returns-clause-refutes : goal.returns-clause-refutes
returns-clause-refutes c =
    IfOk-weaker c.fill.result _ _
    (λ lines is p same each.
    subst (IsRefutedBy p (root p)) (sym (is ∙ ap (λ items. filled items (each_seen c.args.lists.items)) (c.self.view_is ∙ same))) (filled_refutes p (each_seen c.args.lists.items) each)) c.fill.ensures

pub returns-clause-canonical : goal.returns-clause-canonical
returns-clause-canonical c =
    IfOk-weaker c.fill.result _ _
    (λ lines is p same each.
    subst (HasCanonicalLines p (root p)) (sym (is ∙ ap (λ items. filled items (each_seen c.args.lists.items)) (c.self.view_is ∙ same))) (filled_canonical p (each_seen c.args.lists.items) each)) c.fill.ensures
