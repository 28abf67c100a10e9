use Rattle.std.proofs.Common.{◌≡◌, ◌/◌, length, sym, ap, ◌∙◌, arith}
use Rattle.wf_simplex.specs.Keys.{one_vertex, simplex_of}
use Rattle.wf_simplex.proofs.KeyLemmas.{size_of_key}
use Rattle.wf_simplex.proofs.BoundedFaces.{length-within}
use Rattle.wf_simplex.proofs.simplex.Simplex.colours.Goals as goal

pub overflow_cast-result : goal.overflow_cast-result
overflow_cast-result c =
    let key = c.self.inside.key in
    let size : key / one_vertex ≡ length (simplex_of key) = ap (λ k. k / one_vertex) (sym c.self.invariant.exact) ∙ size_of_key (simplex_of key) c.self.invariant.simplex in
    omega (arith, size, length-within 4 255 (simplex_of key) c.self.invariant.simplex)

pub returns-clause-count : goal.returns-clause-count
returns-clause-count c =
    let key = c.self.inside.key in
    ap (λ k. k / one_vertex) (sym c.self.invariant.exact) ∙ size_of_key (simplex_of key) c.self.invariant.simplex ∙ ap length c.self.view_is

pub returns-clause-few : goal.returns-clause-few
returns-clause-few c =
    let key = c.self.inside.key in
    let size : key / one_vertex ≡ length (simplex_of key) = ap (λ k. k / one_vertex) (sym c.self.invariant.exact) ∙ size_of_key (simplex_of key) c.self.invariant.simplex in
    omega (arith, size, length-within 4 255 (simplex_of key) c.self.invariant.simplex)
