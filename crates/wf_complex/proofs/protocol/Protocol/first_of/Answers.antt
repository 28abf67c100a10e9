use Rattle.std.proofs.Common.{◌<◌, ◌∙◌, length, slice_get, Some, option_map, sym, ap, arith}
use Rattle.std.proofs.lemmas.List.{length-map}
use Rattle.std.proofs.lemmas.Option.{slice_get-get_or, slice_get-map}
use Rattle.wf_complex.specs.Views.{view_at}
use Rattle.wf_complex.specs.declared.firsts.First.{First}
use Rattle.wf_complex.proofs.protocol.Protocol.first_of.Goals as goal

pub returns : goal.returns
returns c =
    let p = c.self.inside in
    let low : c.args.point < length c.self.inside.firsts.items = omega (arith, c.requires, ap (λ b. length b.points) c.self.view_is, length-map p.classes.items (view_at p.views), c.self.invariant.appearing) in
    let first = c.index-first.result.now in
    ap (λ b. slice_get b.firsts c.args.point) (sym c.self.view_is)
    ∙ slice_get-map (λ (f : First). (f.execution, f.process)) p.firsts.items c.args.point
    ∙ ap (option_map (λ (f : First). (f.execution, f.process))) (slice_get-get_or p.firsts.items c.args.point first low ∙ ap (λ f. Some f) (sym c.index-first.ensures))
