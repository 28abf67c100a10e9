use Rattle.std.proofs.Common.{◌≡◌, ◌+◌, ◌<◌, ◌++◌, ◌∷◌, [], ◌∙◌, ap, arith, length, refl}
use Rattle.std.proofs.lemmas.Grind.{common_steps}
use Rattle.wf_sat_check.specs.Store.Laid.{HasNoHead, clauses_in, head_word}
use Rattle.wf_sat_check.proofs.OfStore.ClauseLemmas.{clauses_in-append, clauses_in-new, clauses_in-words, laid-new}
use Rattle.wf_sat_check.proofs.store.clauses.Clauses.push.Goals as goal

pub returns-in_err-extend_from_slice-2 : goal.returns-in_err-extend_from_slice-2
returns-in_err-extend_from_slice-2 c =
    let same : clauses_in c.extend_from_slice-2.new.self.items c.self.inside.spans.items ≡ c.args.self.now =
    rw (c.in_err-extend_from_slice-2.ensures.items, c.in_ok-extend_from_slice.ensures.items)
    (clauses_in-append _ _ _ c.self.invariant.within ∙ c.self.view_is) in
    grind (arith, common_steps, same)

pub returns-in_err-push : goal.returns-in_err-push
returns-in_err-push c =
    let arena = c.self.inside.arena.items in
    let more = c.args.literals.now in
    let heads : c.len-head.result ≡ length arena = omega (arith, c.self.inside.arena.ok.0) in
    let few : length arena + 4 + length more < head_word = omega (arith, heads, c.if-head.false, c.if-literals-head.false) in
    let none : HasNoHead more = c.has_head.ensures c.if-has_head.false in
    let same : clauses_in c.extend_from_slice-2.new.self.items c.push.new.self.items ≡ c.args.self.now =
    rw (c.in_ok-extend_from_slice-2.ensures.items, c.in_err-push.ensures.items, c.in_ok-extend_from_slice.ensures.items, heads)
    (clauses_in-words arena more c.self.inside.spans.items (length arena + 4 + length more) c.args.first c.args.second c.self.invariant refl few
    c.if-first-eq-HEAD.false c.if-second-eq-HEAD.false none ∙ c.self.view_is) in
    grind (arith, common_steps, same)

pub invariant_of-self-2 : goal.invariant_of-self-2
invariant_of-self-2 c =
    let arena = c.self.inside.arena.items in
    let more = c.args.literals.now in
    let heads : c.len-head.result ≡ length arena = omega (arith, c.self.inside.arena.ok.0) in
    let few : length arena + 4 + length more < head_word = omega (arith, heads, c.if-head.false, c.if-literals-head.false) in
    let none : HasNoHead more = c.has_head.ensures c.if-has_head.false in
    rw (c.in_ok-extend_from_slice-2.ensures.items, c.in_ok-push.ensures.items, c.in_ok-extend_from_slice.ensures.items, heads)
    (laid-new arena more c.self.inside.spans.items (length arena + 4 + length more) c.args.first c.args.second c.self.invariant refl few
    c.if-first-eq-HEAD.false c.if-second-eq-HEAD.false none)

pub returns : goal.returns
returns c =
    let arena = c.self.inside.arena.items in
    let more = c.args.literals.now in
    let heads : c.len-head.result ≡ length arena = omega (arith, c.self.inside.arena.ok.0) in
    let few : length arena + 4 + length more < head_word = omega (arith, heads, c.if-head.false, c.if-literals-head.false) in
    let none : HasNoHead more = c.has_head.ensures c.if-has_head.false in
    rw (c.in_ok-extend_from_slice-2.ensures.items, c.in_ok-push.ensures.items, c.in_ok-extend_from_slice.ensures.items, heads)
    (clauses_in-new arena more c.self.inside.spans.items (length arena + 4 + length more) c.args.first c.args.second c.self.invariant refl few
    c.if-first-eq-HEAD.false c.if-second-eq-HEAD.false none
    ∙ ap (λ xs. xs ++ more ∷ []) c.self.view_is)
