use Rattle.std.proofs.Common.{◌≡◌, ◌∙◌, ◌<◌, ◌≤◌, [], Ok, sym, ap, length, subst, arith}
use Rattle.wf_sat_formula.specs.Branches.{branches}
use Rattle.wf_report.specs.Reports.{body_of}
use Rattle.wf_run.specs.declared.fault.RunFault.TheVariants.{OutOfMemory}
use Rattle.wf_run_branches.specs.Joining.{TakesPart}
use Rattle.wf_run_branches.proofs.JoinSteps.{ended, finds_least, finds_map, forgotten, goes_on, longer, never_gathered, none_left, refuses, some_left, ungathered}
use Rattle.wf_run_branches.proofs.joining.check_parts.Goals as goal

pub returns-in_err-checker-clause-gathers : goal.returns-in_err-checker-clause-gathers
returns-in_err-checker-clause-gathers g c =
    let t = c.args.task.now in
    let r = c.args.protocol.now.rounds in
    let text = c.args.text.now in
    ungathered t r text OutOfMemory c.from_residual.result (never_gathered t r (length (branches t r)) 0 [] text) c.from_residual.ensures

pub returns-in_err-values-clause-gathers : goal.returns-in_err-values-clause-gathers
returns-in_err-values-clause-gathers g c =
    let t = c.args.task.now in
    let r = c.args.protocol.now.rounds in
    let text = c.args.text.now in
    let number = c.loop-number.number in
    let lists = c.loop-number.lists.items in
    let rest = c.loop-number.rest.now in
    let going = c.loop-number.invariant in
    let test = c.loop-number-test.true in
    let end = c.loop-number.auto.number-end in
    let count = c.branches-number-end.ensures.branches in
    let all = ap length c.requires.cover.branches_are in
    let low : number < length (branches t r) = omega (arith, test, end, count, all) in
    let part = c.next_part.result.0.now in
    let is_part = c.next_part.ensures.part in
    let e = c.in_err-values.field-0.0 in
    ungathered t r text e c.from_residual-in_err-values.result (refuses t r text number lists rest going low part is_part e c.in_err-values.ensures) c.from_residual-in_err-values.ensures

pub returns-in-Map-clause-gathers : goal.returns-in-Map-clause-gathers
returns-in-Map-clause-gathers g c =
    let t = c.args.task.now in
    let r = c.args.protocol.now.rounds in
    let text = c.args.text.now in
    let number = c.loop-number.number in
    let lists = c.loop-number.lists.items in
    let rest = c.loop-number.rest.now in
    let going = c.loop-number.invariant in
    let test = c.loop-number-test.true in
    let end = c.loop-number.auto.number-end in
    let count = c.branches-number-end.ensures.branches in
    let all = ap length c.requires.cover.branches_are in
    let low : number < length (branches t r) = omega (arith, test, end, count, all) in
    let part = c.next_part.result.0.now in
    let is_part = c.next_part.ensures.part in
    let takes = subst (λ body. TakesPart number t r part (Ok (body_of body))) c.in-Map.is c.in_ok-values.ensures in
    finds_map t r text number lists rest going low part is_part c.in-Map.values.items takes

pub returns-in_err-append_lines-in-Nothing-clause-gathers : goal.returns-in_err-append_lines-in-Nothing-clause-gathers
returns-in_err-append_lines-in-Nothing-clause-gathers g c =
    let t = c.args.task.now in
    let r = c.args.protocol.now.rounds in
    let text = c.args.text.now in
    let number = c.loop-number.number in
    let lists = c.loop-number.lists.items in
    let rest = c.loop-number.rest.now in
    let going = c.loop-number.invariant in
    let test = c.loop-number-test.true in
    let end = c.loop-number.auto.number-end in
    let count = c.branches-number-end.ensures.branches in
    let all = ap length c.requires.cover.branches_are in
    let low : number < length (branches t r) = omega (arith, test, end, count, all) in
    let within : number ≤ length (branches t r) = omega (arith, low) in
    ungathered t r text OutOfMemory c.from_residual-in_err-append_lines-in-Nothing.result (forgotten t r text number lists rest going within) c.from_residual-in_err-append_lines-in-Nothing.ensures

pub returns-in_err-append_lines-in-Least-clause-gathers : goal.returns-in_err-append_lines-in-Least-clause-gathers
returns-in_err-append_lines-in-Least-clause-gathers g c =
    let t = c.args.task.now in
    let r = c.args.protocol.now.rounds in
    let text = c.args.text.now in
    let number = c.loop-number.number in
    let lists = c.loop-number.lists.items in
    let rest = c.loop-number.rest.now in
    let going = c.loop-number.invariant in
    let test = c.loop-number-test.true in
    let end = c.loop-number.auto.number-end in
    let count = c.branches-number-end.ensures.branches in
    let all = ap length c.requires.cover.branches_are in
    let low : number < length (branches t r) = omega (arith, test, end, count, all) in
    let within : number ≤ length (branches t r) = omega (arith, low) in
    ungathered t r text OutOfMemory c.from_residual-in_err-append_lines-in-Least.result (forgotten t r text number lists rest going within) c.from_residual-in_err-append_lines-in-Least.ensures

pub returns-in-Least-clause-gathers : goal.returns-in-Least-clause-gathers
returns-in-Least-clause-gathers g c =
    let t = c.args.task.now in
    let r = c.args.protocol.now.rounds in
    let text = c.args.text.now in
    let number = c.loop-number.number in
    let lists = c.loop-number.lists.items in
    let rest = c.loop-number.rest.now in
    let going = c.loop-number.invariant in
    let test = c.loop-number-test.true in
    let end = c.loop-number.auto.number-end in
    let count = c.branches-number-end.ensures.branches in
    let all = ap length c.requires.cover.branches_are in
    let low : number < length (branches t r) = omega (arith, test, end, count, all) in
    let part = c.next_part.result.0.now in
    let is_part = c.next_part.ensures.part in
    let takes = subst (λ body. TakesPart number t r part (Ok (body_of body))) c.in-Least.is c.in_ok-values.ensures in
    finds_least t r text number lists rest going low part is_part c.in-Least.lines c.append_lines-in-Least.new.lists.items c.in_ok-append_lines-in-Least.ensures c.in-Least.values.items takes

pub loop-number-preserved : goal.loop-number-preserved
loop-number-preserved g c =
    let t = c.args.task.now in
    let r = c.args.protocol.now.rounds in
    let text = c.args.text.now in
    let number = c.loop-number.number in
    let lists = c.loop-number.lists.items in
    let rest = c.loop-number.rest.now in
    let going = c.loop-number.invariant in
    let test = c.loop-number-test.true in
    let end = c.loop-number.auto.number-end in
    let count = c.branches-number-end.ensures.branches in
    let all = ap length c.requires.cover.branches_are in
    let low : number < length (branches t r) = omega (arith, test, end, count, all) in
    let part = c.next_part.result.0.now in
    let is_part = c.next_part.ensures.part in
    let takes = subst (λ body. TakesPart number t r part (Ok (body_of body))) c.in-Nothing.is c.in_ok-values.ensures in
    goes_on t r text number lists rest going low part is_part c.in-Nothing.lines c.append_lines.new.lists.items c.in_ok-append_lines-in-Nothing.ensures c.next_part.result.1.now c.next_part.ensures.rest takes

pub returns-then-not-is_empty-clause-gathers : goal.returns-then-not-is_empty-clause-gathers
returns-then-not-is_empty-clause-gathers g c =
    let t = c.args.task.now in
    let r = c.args.protocol.now.rounds in
    let number = c.loop-number.number in
    let rest = c.loop-number.rest.now in
    let test = c.loop-number-test.false in
    let end = c.loop-number.auto.number-end in
    let count = c.branches-number-end.ensures.branches in
    let all = ap length c.requires.cover.branches_are in
    let through : length (branches t r) ≡ number = omega (arith, test, end, count, all) in
    longer t r c.args.text.now number c.loop-number.lists.items rest c.loop-number.invariant c.branches.result (c.branches.ensures.branches ∙ all) through (some_left rest (sym c.is_empty.ensures ∙ c.if-not-is_empty.true))

pub returns-clause-gathers : goal.returns-clause-gathers
returns-clause-gathers g c =
    let t = c.args.task.now in
    let r = c.args.protocol.now.rounds in
    let number = c.loop-number.number in
    let rest = c.loop-number.rest.now in
    let test = c.loop-number-test.false in
    let end = c.loop-number.auto.number-end in
    let count = c.branches-number-end.ensures.branches in
    let all = ap length c.requires.cover.branches_are in
    let through : length (branches t r) ≡ number = omega (arith, test, end, count, all) in
    ended t r c.args.text.now number c.loop-number.lists.items rest c.loop-number.invariant through (none_left rest (sym c.is_empty.ensures ∙ c.if-not-is_empty.false))
