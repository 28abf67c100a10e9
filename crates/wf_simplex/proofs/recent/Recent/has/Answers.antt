use Rattle.std.proofs.Common.{All, Contains, sym, ◌∙◌, subst, arith}
use Rattle.wf_simplex.specs.Adding.{IsAmong}
use Rattle.wf_simplex.specs.Order.{same_simplex-decides}
use Rattle.wf_simplex.proofs.recent.Recent.has.Goals as goal

pub returns-in-Some : goal.returns-in-Some
returns-in-Some c = λ yes ss among.
    let there = subst (All (IsAmong ss)) (sym c.self.view_is) among c.slot.result _ (omega (arith, c.slot.ensures, c.len.ensures)) in
    subst (Contains ss) ((same_simplex-decides c.in-Some.known c.args.simplex).0 (sym c.eq.ensures ∙ yes))
    (subst (IsAmong ss) (sym c.index.ensures ∙ c.in-Some.is) there)
