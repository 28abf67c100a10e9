use Rattle.std.proofs.Common.{◌≡◌, ◌+◌, ◌*◌, ◌/◌, ◌%◌, ◌<◌, map, ap, ◌∙◌, arith}
use Rattle.std.specs.Prelude.{filter}
use Rattle.wf_model.specs.Box.{has_at, is_supported}
use Rattle.wf_model.specs.Task.{Tuple}
use Rattle.wf_base.specs.Set.Sets.{values_in}
use Rattle.wf_report_check.proofs.GroupLemmas.{supported_in_group}
use Rattle.wf_report_check.proofs.tuples.TupleSupport.supports.Goals as goal

pub returns-then-at-len : goal.returns-then-at-len
returns-then-at-len c =
    let at = 4 * c.args.value + c.args.place % 4 in
    let tuples = c.self.inside.tuples.items in
    let small : c.args.place < 4 = c.if-place-lt-PLACES.true in
    let place_is : at % 4 ≡ c.args.place = omega (arith, small) in
    let value_is : at / 4 ≡ c.args.value = omega (arith, small) in
    let group = c.index.result.now in
    let sets = map values_in c.args.sets.now in
    let grouped : group ≡ filter (λ (t : Tuple). has_at t (at % 4) (at / 4)) tuples = c.self.invariant at group (omega (arith, c.if-at-len.true, c.len.ensures, c.self.inside.groups.ok.0)) c.index.ensures in
    c.supports.ensures
    ∙ supported_in_group tuples group sets c.args.place c.args.value
    (grouped ∙ ap (λ p. filter (λ (t : Tuple). has_at t p (at / 4)) tuples) place_is ∙ ap (λ v. filter (λ (t : Tuple). has_at t c.args.place v) tuples) value_is)
    ∙ ap (λ ts. is_supported ts sets c.args.place c.args.value) c.self.view_is
