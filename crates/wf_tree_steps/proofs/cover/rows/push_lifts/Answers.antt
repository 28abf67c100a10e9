use Rattle.std.proofs.Common.{ℕ, List, ◌≡◌, ◌+◌, ◌++◌, length, map, ap, ◌∙◌, sym, arith, length-append}
use Rattle.std.proofs.lemmas.List.FromFn.{length-map-range_with_len}
use Rattle.std.proofs.lemmas.Result.{err_from_is_err_and}
use Rattle.wf_model.specs.Lists.{below}
use Rattle.wf_tree_model.specs.Counting.Signs.{keep}
use Rattle.wf_tree_model.specs.Covers.{lifted, lifts}
use Rattle.wf_tree_model.proofs.Lemmas.{map_twice}
use Rattle.wf_tree_refine.proofs.Lemmas.{too_many_more, keep_long}
use Rattle.wf_tree_steps.specs.Cover.LiftSeen.{lift_seen}
use Rattle.wf_tree_steps.proofs.OfCover.LiftSteps.{lift_pushed, lifted_long, lifts_long}
use Rattle.wf_tree_steps.proofs.cover.rows.push_lifts.Goals as goal

pub restricted_row-requires-clause-long : goal.restricted_row-requires-clause-long
restricted_row-requires-clause-long c =
    c.requires.each ∙ c.requires.long ∙ sym (ap length c.lifted.ensures ∙ lifted_long (lift_seen c.args.lift.now) c.args.row.now c.sheets.sheet)

pub restricted_row-requires-clause-some : goal.restricted_row-requires-clause-some
restricted_row-requires-clause-some c =
    let some = c.requires.some in
    let same = keep_long c.args.mask.now c.lifted.result c.args.row.now (ap length c.lifted.ensures ∙ lifted_long (lift_seen c.args.lift.now) c.args.row.now c.sheets.sheet ∙ sym c.requires.long) in
    omega (arith, some, same)

pub returns-in_err-push_limited-clause-refused : goal.returns-in_err-push_limited-clause-refused
returns-in_err-push_limited-clause-refused c =
    let s = lift_seen c.args.lift.now in
    let p = err_from_is_err_and c.from_residual.result c.from_residual.ensures.1 in
    let inside = c.sheets-test.true in
    let all = lifts_long s c.args.row.now in
    let f : ℕ → List ℕ = λ sheet. keep c.args.mask.now (lifted s c.args.row.now sheet) in
    let made = ap length c.sheets.invariant.made ∙ length-append c.args.found.now.items (map f (below c.sheets.sheet)) in
    let count = length-map-range_with_len f 0 c.sheets.sheet in
    rw (p.1, p.2)
    (too_many_more c.in_err-push_limited.field-0.0 c.args.most (length c.sheets.found.items + 1) (length c.args.found.now.items + length (lifts s c.args.row.now)) (omega (arith, inside, all, made, count)) c.in_err-push_limited.ensures.refused)

pub sheets-preserved : goal.sheets-preserved
sheets-preserved c =
    let s = lift_seen c.args.lift.now in
    record {
      within = c.in_ok-push_limited.ensures.within;
      made = lift_pushed (λ sheet. keep c.args.mask.now (lifted s c.args.row.now sheet)) c.args.found.now.items c.sheets.found.items c.push_limited.new.found.items c.sheets.sheet c.restricted_row.result
          (c.restricted_row.ensures ∙ ap (keep c.args.mask.now) c.lifted.ensures) c.in_ok-push_limited.ensures.pushed c.sheets.invariant.made;
    }

pub returns-clause-pushed : goal.returns-clause-pushed
returns-clause-pushed c =
    let s = lift_seen c.args.lift.now in
    let f : ℕ → List ℕ = λ sheet. keep c.args.mask.now (lifted s c.args.row.now sheet) in
    let past = c.sheets-test.false in
    let end = c.sheets.auto.sheet-end in
    let all : c.sheets.sheet ≡ s.sheets = omega (arith, past, end) in
    c.sheets.invariant.made ∙ ap (λ n. c.args.found.now.items ++ map f (below n)) all ∙ ap (λ xs. c.args.found.now.items ++ xs) (sym (map_twice (keep c.args.mask.now) (lifted s c.args.row.now) (below s.sheets)))
