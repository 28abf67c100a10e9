use Rattle.std.proofs.Common.{◌∙◌, ap, sym, subst}
use Rattle.std.proofs.lemmas.Result.{IfOk-weaker}
use Rattle.wf_model.specs.Box.{root}
use Rattle.wf_model.specs.Laws.{HasCanonicalMap}
use Rattle.wf_model.specs.Outline.{filled_up_to}
use Rattle.wf_model.proofs.Lemmas.{filled_leads}
use Rattle.wf_search.specs.Cover.{each_seen}
use Rattle.wf_search.proofs.cover.Cover.fill_least.Goals as goal

pub returns-clause-leads : goal.returns-clause-leads
returns-clause-leads c =
    IfOk-weaker c.fill_up_to.result _ _
    (λ lines is p m same lead.
    subst (HasCanonicalMap p m (root p)) (sym (is ∙ ap (λ items. filled_up_to items (each_seen c.args.lists.items)) (c.self.view_is ∙ same))) (filled_leads p m (each_seen c.args.lists.items) lead)) c.fill_up_to.ensures
