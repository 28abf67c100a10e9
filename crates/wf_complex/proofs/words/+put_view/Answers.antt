use Rattle.std.proofs.Common.{string_bytes, arith}
use Rattle.wf_complex.specs.Views.{view_at}
use Rattle.wf_complex.proofs.ViewTexts.{view_told}
use Rattle.wf_complex.proofs.words.+put_view.Goals as goal

pub returns : goal.returns
returns t c =
    view_told c.args.ranks c.args.views.now c.parts-part-items.result.now (view_at c.args.views.now c.args.id) c.colour.result c.loop-place.place
    (string_bytes c.args.text.now) (string_bytes c.put_process.new.text) (string_bytes c.write-2.new.self) (string_bytes c.loop-place.text) (string_bytes c.write-3.new.self)
    c.in_default.ensures.value c.parts-part-items.ensures.views c.colour.ensures.process c.in_ok-put_process.ensures c.in_ok-write-2.ensures.bytes c.loop-place.invariant (omega (arith, c.loop-place-test.false)) c.in_ok-write-4.ensures.bytes
