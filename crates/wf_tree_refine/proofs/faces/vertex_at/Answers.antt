use Rattle.std.proofs.Common.{◌<◌, ◌≤◌, [], refl, subst, sym, ◌∙◌, arith}
use Rattle.std.proofs.lemmas.List.{length-map}
use Rattle.std.proofs.lemmas.List.Elements.{All-cons, All-nil}
use Rattle.wf_tree_refine.proofs.faces.vertex_at.Goals as goal

pub of_pairs-requires : goal.of_pairs-requires
of_pairs-requires c =
    let s = c.args.simplex.now in
    let count = length-map s (λ v. v.0) in
    let inside = c.requires in
    let process = c.colours.ensures.simplex.processes c.args.place 0 (omega (arith, inside, count)) in
    let is = c.from.ensures ∙ c.colour-process.ensures in
    let small = c.value_at-value.type_inv in
    let same = c.from-2.ensures in
    record {
      is_simplex = refl;
      processes = All-cons (λ p. p < 4) c.from.result [] (subst (λ p. p < 4) (sym is) process) (All-nil _);
      values = All-cons (λ x. x ≤ 255) _ [] (let e : c.from-2.result ≤ 255 = omega (arith, small, same) in e) (All-nil _);
    }
