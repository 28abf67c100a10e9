use Rattle.std.proofs.Common.{◌<◌, All, subst, sym, ap, map, ◌∙◌}
use Rattle.wf_complex.specs.Views.{view_at}
use Rattle.wf_complex.proofs.Entries.{entry_count, entry_earlier, parts_read}
use Rattle.wf_complex.proofs.views.Views.parts.Goals as goal

pub parts-requires : goal.parts-requires
parts-requires c = entry_count c.args.id c.entry.result.now c.entry.ensures.entry

pub returns-clause-views : goal.returns-clause-views
returns-clause-views c = ap (map (view_at c.args.self.now)) c.parts.ensures ∙ parts_read c.args.self.now c.args.id c.entry.result.now c.entry.ensures.entry c.entry.ensures.view

pub returns-clause-earlier : goal.returns-clause-earlier
returns-clause-earlier c = subst (All (λ k. k < c.args.id)) (sym c.parts.ensures) (entry_earlier c.args.id c.entry.result.now c.entry.ensures.entry)
