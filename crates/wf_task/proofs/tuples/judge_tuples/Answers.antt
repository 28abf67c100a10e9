use Rattle.std.proofs.Common.{sym, arith}
use Rattle.wf_task_parse.specs.DraftSeen.{draft_seen}
use Rattle.wf_task.specs.Judge.{wrong_length, no_output}
use Rattle.wf_task.proofs.Bounds.{answers, wrong_place, stray_place}
use Rattle.wf_task.proofs.tuples.judge_tuples.Goals as goal

pub overflow_cast-result : goal.overflow_cast-result
overflow_cast-result c =
    let found = answers (wrong_length (draft_seen c.args.draft.now)) 0 c.args.inputs.now c.in-Some.number c.in-Some.place (sym c.in-Some.ensures) in
    omega (arith, found.below, c.requires.few_inputs)

pub overflow_cast-result-in-Some : goal.overflow_cast-result-in-Some
overflow_cast-result-in-Some c =
    let listed = draft_seen c.args.draft.now in
    let found = answers (wrong_length listed) 0 c.args.inputs.now c.in-Some.number c.in-Some.place (sym c.in-Some.ensures) in
    let below = wrong_place listed found.simplex c.in-Some.place found.answer in
    omega (arith, below, c.requires.few_tuples)

pub overflow_cast-result-in-Some-first_no_output : goal.overflow_cast-result-in-Some-first_no_output
overflow_cast-result-in-Some-first_no_output c =
    let found = answers (no_output (draft_seen c.args.draft.now)) 0 c.args.inputs.now c.in-Some-first_no_output.number c.in-Some-first_no_output.place (sym c.in-Some-first_no_output.ensures) in
    omega (arith, found.below, c.requires.few_inputs)

pub overflow_cast-result-in-Some-first_no_output-2 : goal.overflow_cast-result-in-Some-first_no_output-2
overflow_cast-result-in-Some-first_no_output-2 c =
    let listed = draft_seen c.args.draft.now in
    let found = answers (no_output listed) 0 c.args.inputs.now c.in-Some-first_no_output.number c.in-Some-first_no_output.place (sym c.in-Some-first_no_output.ensures) in
    let below = stray_place listed found.simplex c.in-Some-first_no_output.place found.answer in
    omega (arith, below, c.requires.few_tuples)
