use Rattle.std.proofs.Common.{◌≡◌, ◌∙◌, get_or, arith}
use Rattle.wf_sat_check.specs.Store.Laid.{head_word}
use Rattle.wf_sat_check.proofs.OfStore.ClauseLemmas.{begun-read, clauses_in-watch}
use Rattle.wf_sat_check.proofs.store.clauses.Clauses.watch_at.Goals as goal

pub returns : goal.returns
returns c =
    let arena = c.self.inside.arena.items in
    let spans = c.self.inside.spans.items in
    let begun : get_or arena c.args.place 0 ≡ head_word =
    begun-read arena c.args.place c.index.result.now (omega (arith, c.if-at-len.false, c.len.ensures, c.self.inside.arena.ok.0)) c.index.ensures c.if-index.false in
    clauses_in-watch arena spans c.args.place c.self.invariant begun c.args.first c.args.second c.if-first-eq-HEAD.false
    ∙ c.self.view_is
