use Rattle.std.proofs.Common.{◌≡◌, ◌<◌, length, ◌∙◌, arith}
use Rattle.std.proofs.lemmas.List.{length-map}
use Rattle.wf_model.specs.Simplex.{processes_of}
use Rattle.wf_complex.proofs.PlaceLemmas.{point_in-other}
use Rattle.wf_complex.proofs.protocol.point_among.Goals as goal

pub loop-place-preserved : goal.loop-place-preserved
loop-place-preserved c =
    let s = c.args.simplex.now in
    let long : length (processes_of c.args.simplex.now) ≡ length c.args.simplex.now = length-map s (λ v. v.0) in
    let low : c.loop-place.place < length (processes_of c.args.simplex.now) = omega (arith, c.loop-place-test.true, c.colours-place-end.ensures.count, long) in
    point_in-other c.args.process (processes_of s) c.args.points.now c.loop-place.place low (long ∙ c.requires) (λ same. c.if-colour-process.false (c.colour.ensures ∙ same)) ∙ c.loop-place.invariant
