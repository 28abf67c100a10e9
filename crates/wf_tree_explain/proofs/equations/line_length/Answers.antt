use Rattle.std.proofs.Common.{◌≡◌, length, sym, ap, ◌∙◌, arith}
use Rattle.wf_tree_explain.proofs.Runs.{line_length_is, run_ends, run_of, run_stops}
use Rattle.wf_tree_explain.proofs.equations.line_length.Goals as goal

pub returns-then-not-is_same_line-clause-first : goal.returns-then-not-is_same_line-clause-first
returns-then-not-is_same_line-clause-first c =
    let xs = c.args.entries.now in let n = c.loop-place.place in let x = c.first_of-first.result in
    let none = run_stops x xs n c.index-entries-place.result c.loop-place-test.true c.index-entries-place.is (sym c.is_same_line.ensures ∙ c.if-not-is_same_line.true) in
    let whole : n ≡ run_of x xs = omega (arith, none, c.loop-place.invariant) in
    (line_length_is xs n c.requires (whole ∙ ap (λ y. run_of y xs) c.first_of-first.ensures)).first

pub returns-clause-first : goal.returns-clause-first
returns-clause-first c =
    let xs = c.args.entries.now in let n = c.loop-place.place in let x = c.first_of-first.result in
    let none = run_ends x xs n (omega (arith, c.loop-place.auto.place-end, c.loop-place-test.false)) in
    let whole : length xs ≡ run_of x xs = omega (arith, none, c.loop-place.invariant, c.loop-place.auto.place-end, c.loop-place-test.false) in
    (line_length_is xs (length xs) c.requires (whole ∙ ap (λ y. run_of y xs) c.first_of-first.ensures)).first
