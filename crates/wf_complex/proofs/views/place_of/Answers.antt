use Rattle.std.proofs.Common.{◌<◌, All, get_or, take, subst, sym, arith}
use Rattle.std.proofs.lemmas.List.{take_more}
use Rattle.std.proofs.lemmas.List.Elements.{All-push}
use Rattle.wf_complex.proofs.views.place_of.Goals as goal

pub loop-place-preserved : goal.loop-place-preserved
loop-place-preserved c =
    let numbers = c.args.numbers.now in
    let place = c.loop-place.place in
    let lower : get_or numbers place 0 < c.args.number = omega arith in
    subst (All (λ n. n < c.args.number)) (sym (take_more numbers place 0 c.loop-place-test.true))
    (All-push (λ n. n < c.args.number) (take place numbers) (get_or numbers place 0) c.loop-place.invariant lower)
