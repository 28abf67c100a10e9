use Rattle.std.proofs.Common.{◌<◌, ◌∙◌, [], ap, arith, length, set}
use Rattle.std.proofs.lemmas.List.{length-map}
use Rattle.wf_sat_check.specs.Store.Laid.{clause_at}
use Rattle.wf_sat_check.proofs.OfStore.ClauseLemmas.{clauses_in-forget, laid-forget}
use Rattle.wf_sat_check.proofs.store.clauses.Clauses.forget.Goals as goal

pub invariant_of-self : goal.invariant_of-self
invariant_of-self c =
    let arena = c.self.inside.arena.items in
    let spans = c.self.inside.spans.items in
    let inside : c.args.number < length spans = omega (arith, c.requires, ap length c.self.view_is, length-map spans (clause_at arena)) in
    laid-forget arena spans c.args.number c.index.result.now.start c.index.result.now c.self.invariant inside (ap (λ s. s.start) c.index.ensures)

pub returns : goal.returns
returns c =
    let arena = c.self.inside.arena.items in
    let spans = c.self.inside.spans.items in
    let inside : c.args.number < length spans = omega (arith, c.requires, ap length c.self.view_is, length-map spans (clause_at arena)) in
    clauses_in-forget arena spans c.args.number c.index.result.now.start c.index.result.now c.self.invariant inside (ap (λ s. s.start) c.index.ensures)
    ∙ ap (λ xs. set xs c.args.number []) c.self.view_is
