use Rattle.std.proofs.Common.{◌<◌, ◌∙◌, ℕ, zip, map, [], length, ap, sym, arith}
use Rattle.std.specs.List.{slice_index_or}
use Rattle.wf_model.specs.Simplex.{processes_of}
use Rattle.wf_complex.specs.Packed.{scope_in}
use Rattle.wf_complex.specs.Protocol.{point_in}
use Rattle.wf_complex.specs.ProtocolSeen.{executions_in}
use Rattle.wf_complex.proofs.PackedLemmas.{is_in, points_long_at, scope_at}
use Rattle.wf_complex.proofs.protocol.Protocol.point_at.Goals as goal

pub point_among-requires : goal.point_among-requires
point_among-requires c =
    let p = c.self.inside in
    let es = executions_in p in
    let e = c.index-at.result.now in
    let s = c.index-simplex.result.now in
    let low : c.args.execution < length (map (scope_in p.inputs.items) es) = omega (arith, c.requires, ap (λ b. length b.scopes) c.self.view_is) in
    let here = is_in p.inputs.items es c.deref.result.now.items c.args.execution e s c.self.invariant.packed low (ap (λ v. v.items) c.deref.ensures) c.index-at.ensures c.index-simplex.ensures in
    points_long_at p.inputs.items es c.args.execution e s here
    ∙ ap (λ b. length (map (λ (at : ℕ × ℕ). at.1) (slice_index_or b.scopes c.args.execution []))) c.self.view_is
    ∙ ap length (sym c.points_of.ensures)

pub returns : goal.returns
returns c =
    let p = c.self.inside in
    let es = executions_in p in
    let e = c.index-at.result.now in
    let s = c.index-simplex.result.now in
    let low : c.args.execution < length (map (scope_in p.inputs.items) es) = omega (arith, c.requires, ap (λ b. length b.scopes) c.self.view_is) in
    let here = is_in p.inputs.items es c.deref.result.now.items c.args.execution e s c.self.invariant.packed low (ap (λ v. v.items) c.deref.ensures) c.index-at.ensures c.index-simplex.ensures in
    c.point_among.ensures
    ∙ ap (λ ps. point_in c.args.process (zip (processes_of s) ps)) (c.points_of.ensures ∙ ap (λ b. map (λ (at : ℕ × ℕ). at.1) (slice_index_or b.scopes c.args.execution [])) (sym c.self.view_is))
    ∙ ap (point_in c.args.process) (scope_at p.inputs.items es c.args.execution e s here)
    ∙ ap (λ b. point_in c.args.process (slice_index_or b.scopes c.args.execution [])) c.self.view_is
