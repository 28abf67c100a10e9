use Rattle.std.proofs.Common.{◌≡◌, ◌==◌, ◌&&◌, ◌<◌, ◌≤◌, All, get_or, length, nat_lt, subst, take, ◌∙◌}
use Rattle.wf_complex.proofs.CollectedViews.{put_here, put_there}
use Rattle.wf_complex.proofs.views.put.Goals as goal

pub returns-then-stands_at : goal.returns-then-stands_at
returns-then-stands_at c =
    let p = c.place_of-place.result in
    put_here p c.args.among.now.items c.args.number c.stands_at.result
    (subst (λ xs. All (λ k. k < c.args.number) (take p xs)) c.deref.ensures.value c.place_of-place.ensures.lower)
    (subst (λ xs. c.stands_at.result ≡ (nat_lt p (length xs) && get_or xs p 0 == c.args.number)) c.deref-2.ensures.value c.stands_at.ensures)
    c.if-stands_at.true

pub returns : goal.returns
returns c =
    let p = c.place_of-place.result in
    c.in_ok-insert.ensures.items
    ∙ put_there p c.args.among.now.items c.args.number c.stands_at.result
    (subst (λ xs. All (λ k. k < c.args.number) (take p xs)) c.deref.ensures.value c.place_of-place.ensures.lower)
    (subst (λ xs. c.stands_at.result ≡ (nat_lt p (length xs) && get_or xs p 0 == c.args.number)) c.deref-2.ensures.value c.stands_at.ensures)
    c.if-stands_at.false
    (subst (λ xs. p ≤ length xs) c.deref.ensures.value c.place_of-place.ensures.within)
    (subst (λ xs. p < length xs → c.args.number ≤ get_or xs p 0) c.deref.ensures.value c.place_of-place.ensures.first)
