use Rattle.std.proofs.Common.{◌≡◌, ◌+◌, ◌*◌, ap, ◌∙◌, arith}
use Rattle.std.specs.Prelude.{◌/◌, ◌%◌}
use Rattle.wf_tree_steps.specs.Cover.LiftSeen.{on_sheets}
use Rattle.wf_tree_steps.proofs.cover.rows.sheet_sets.Goals as goal

pub returns : goal.returns
returns c =
    let simplex = c.args.simplex.now in
    let sheets = c.args.sheets in
    let new = c.args.new in
    let count = c.places.invariant.count in
    let past = c.places-test.false in
    let end = c.places.auto.place-end in
    let few = c.requires.few in
    record {
      count = omega (arith, count, past, end);
      each = λ process value pp vv.
          let k = process * 256 + value in
          let quotient : k / 256 ≡ process = omega (arith, vv, few) in
          let rest : k % 256 ≡ value = omega (arith, vv, few) in
          c.places.invariant.made k (omega (arith, pp, vv, few, past)) (omega (arith, rest, vv))
          ∙ ap (λ p. on_sheets simplex sheets new p (k % 256)) quotient ∙ ap (on_sheets simplex sheets new process) rest;
    }
