use Rattle.std.proofs.Common.{◌≡◌, ℕ, suc, ◌+◌, ◌++◌, List, codes, string_bytes, take, refl, ap, ◌∙◌, arith}
use Rattle.wf_base.specs.Set.Sets.{values_in}
use Rattle.wf_report_explain.specs.Argument.Seats.{point_at}
use Rattle.wf_report_explain.specs.Argument.ArgumentState.{ArgumentState, left_at}
use Rattle.wf_report_explain.specs.Words.Subject.{executions_in, problem_in}
use Rattle.wf_report_explain.specs.Words.Text.{execution_at, indented, rest_text}
use Rattle.wf_report_explain.specs.Argument.Text.{claim_text, grounds_text, left_there}
use Rattle.wf_report_explain.specs.Argument.Trail.{state_of}
use Rattle.wf_report_explain.proofs.OfArgument.Places.{told_found}
use Rattle.wf_report_explain.proofs.OfArgument.PartSteps.{is_step, state_step, told_step}
use Rattle.wf_report_explain.proofs.argument.steps.put_next.Goals as goal

pub put_step-requires-clause-execution : goal.put_step-requires-clause-execution
put_step-requires-clause-execution c = c.requires.seat.execution

pub returns-clause-text : goal.returns-clause-text
returns-clause-text c =
    let x = c.args.subject.now in let seat = c.args.taking.now.seat in
    let p = problem_in x in let es = executions_in x in let s = state_of c.args.state.now in
    let e = seat.execution in let v = point_at seat in let count = c.in_ok-count.count in
    let values = take count c.args.taking.now.values.now in let took = c.in_ok-count.ensures in
    let after = c.choose_step.new.state in
    let noted = c.choose_step.new.self.needed.items in let why = c.choose_step.new.self.reasons.items in
    let line : ArgumentState → List ℕ → List ℕ = λ s all. string_bytes c.args.text.now ++ indented s.depth (claim_text s.number v values e ++ (execution_at es e ++ (codes ", " ++ (grounds_text seat.points.now noted why ++ rest_text v (left_there seat.tuples.now seat.place (left_at all s.gone v)))))) in
    let same = ap values_in took.values ∙ c.requires.values in
    let one : after.number + 1 ≡ suc after.number = omega arith in
    let next : ArgumentState → ArgumentState = λ s. record s { number = suc s.number } in
    let with_number : ℕ → ArgumentState = λ n. record (state_of after) { number = n } in
    told_step p s (with_number (after.number + 1)) e count (seat.place, v) c.args.taking.now.values.now es (string_bytes c.args.text.now) (string_bytes c.put_step.new.text)
    (is_step p s (with_number (after.number + 1)) e count (seat.place, v) c.args.taking.now.values.now seat.place v seat.points.now seat.tuples.now refl c.requires.seat.points c.requires.seat.tuples took.steps
    (ap with_number one ∙ ap next took.state))
    (c.in_ok-put_step.ensures
    ∙ (λ i. line (took.state i) (same i))
    ∙ ap (λ xs. string_bytes c.args.text.now ++ xs) (told_found p es s e seat.place v values seat.points.now seat.tuples.now noted why _ c.requires.seat.points c.requires.seat.tuples took.needed took.reasons refl))

pub returns-clause-state : goal.returns-clause-state
returns-clause-state c =
    let x = c.args.subject.now in let seat = c.args.taking.now.seat in
    let p = problem_in x in let s = state_of c.args.state.now in
    let e = seat.execution in let v = point_at seat in let count = c.in_ok-count.count in
    let took = c.in_ok-count.ensures in
    let after = c.choose_step.new.state in
    let one : after.number + 1 ≡ suc after.number = omega arith in
    let next : ArgumentState → ArgumentState = λ s. record s { number = suc s.number } in
    let with_number : ℕ → ArgumentState = λ n. record (state_of after) { number = n } in
    state_step p s (with_number (after.number + 1)) e count (seat.place, v) c.args.taking.now.values.now
    (is_step p s (with_number (after.number + 1)) e count (seat.place, v) c.args.taking.now.values.now seat.place v seat.points.now seat.tuples.now refl c.requires.seat.points c.requires.seat.tuples took.steps
    (ap with_number one ∙ ap next took.state))
