use Rattle.std.proofs.Common.{◌∙◌, ◌+◌, [], ◌∷◌, drop, map, arith, subst, sym, ap}
use Rattle.std.proofs.lemmas.List.{drop_all}
use Rattle.std.proofs.lemmas.Result.{err_from_is_err_and}
use Rattle.wf_base.specs.Lines.Lines.{line_of}
use Rattle.wf_base.specs.declared.lines.line.Line.TheVariants as line
use Rattle.wf_base.specs.Set.Sets.{box_of}
use Rattle.wf_report_check.specs.Faults.{Fails, Judges}
use Rattle.wf_report_check.specs.Left.{LinesLeft, claimed, fault_of}
use Rattle.wf_report_check.specs.Rules.{problem_in}
use Rattle.wf_report_check.proofs.ClaimLemmas.{claim_is, judges_fault, next_line}
use Rattle.wf_report_check.proofs.judge.judge_lines.Goals as goal

pub loop-line-init : goal.loop-line-init
loop-line-init c =
    let p = problem_in c.args.rules.now in
    let claim = c.args.rules.now.claim in
    let ls = map line_of c.args.lines.now in
    let line = ap (λ (x : LinesLeft). x.line) c.of-checker.ensures in (
      ap (fault_of p (claimed claim) ls) c.of-checker.ensures ∙ claim_is p claim c.args.first ls (box_of c.args.sets.items ∷ []),
      ap (λ (x : LinesLeft). x.points) c.of-checker.ensures ∙ c.requires.long,
      omega (arith, line),
    )

pub take-requires-clause-long : goal.take-requires-clause-long
take-requires-clause-long c = c.loop-line.invariant.1

pub take-requires-clause-few : goal.take-requires-clause-few
take-requires-clause-few c =
    let at = c.loop-line.invariant.2 in
    let few = c.requires.few in
    let inside = c.loop-line-test.true in
    omega (arith, at, few, inside)

pub returns-in_err-take : goal.returns-in_err-take
returns-in_err-take c =
    let p = problem_in c.args.rules.now in
    let claim = c.args.rules.now.claim in
    let k = c.loop-line in
    let lines = c.args.lines.now in
    let e = err_from_is_err_and c.from_residual.result c.from_residual.ensures.1 in
    judges_fault c.from_residual.result e.0 c.in_err-take.field-0.0 _ e.1 e.2
    (subst (Fails c.in_err-take.field-0.0)
    (sym (ap (λ ls. fault_of p (claimed claim) ls k.checker) (next_line lines k.line-index (line.Remove 0 0 0) c.loop-line-test.true)) ∙ k.invariant.0)
    (c.in_err-take.ensures.judged (map line_of (drop (k.line-index + 1) lines))))

pub loop-line-preserved : goal.loop-line-preserved
loop-line-preserved c =
    let p = problem_in c.args.rules.now in
    let claim = c.args.rules.now.claim in
    let k = c.loop-line in
    let lines = c.args.lines.now in
    let at = k.invariant.2 in
    let next = c.in_ok-take.ensures.next in (
      sym (c.in_ok-take.ensures.judged (map line_of (drop (k.line-index + 1) lines)))
          ∙ sym (ap (λ ls. fault_of p (claimed claim) ls k.checker) (next_line lines k.line-index (line.Remove 0 0 0) c.loop-line-test.true))
          ∙ k.invariant.0,
      c.in_ok-take.ensures.points ∙ k.invariant.1,
      omega (arith, at, next),
    )

pub returns : goal.returns
returns c =
    let p = problem_in c.args.rules.now in
    let claim = c.args.rules.now.claim in
    let k = c.loop-line in
    let lines = c.args.lines.now in
    let over = c.loop-line-test.false in
    subst (Judges c.finish.result)
    (sym (ap (λ ls. fault_of p (claimed claim) (map line_of ls) k.checker) (drop_all k.line-index lines (omega (arith, over)))) ∙ k.invariant.0)
    (c.finish.ensures p)
