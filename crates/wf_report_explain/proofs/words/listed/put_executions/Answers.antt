use Rattle.std.proofs.Common.{ℕ, List, ◌+◌, ◌<◌, ◌≤◌, flat_map, length, sym, subst, arith}
use Rattle.wf_base.proofs.OfStreams.Lemmas.{IsPut, begun, went_on, stopped, all_put, can_go_on}
use Rattle.wf_model.specs.Execution.{executions}
use Rattle.wf_model.specs.Problem.{problem_of}
use Rattle.wf_report_explain.specs.Words.Listing.{execution_line, executions_text}
use Rattle.wf_report_explain.proofs.OfWords.ExecutionPlaces.{as_many}
use Rattle.wf_report_explain.proofs.OfWords.Pieces.{all_numbers, next_number, no_number, numbers_left}
use Rattle.wf_report_explain.proofs.words.listed.put_executions.Goals as goal
use Rattle.wf_complex.proofs.Lemmas.{as_many_executions}

pub loop-execution-init : goal.loop-execution-init
loop-execution-init g c =
    let t = c.args.subject.now.task.now in
    let r = c.args.subject.now.protocol.now.rounds in
    let f : ℕ → List ℕ = execution_line (problem_of t r) (executions t r) in
    subst (λ ns. IsPut c.args.sink.now c.args.page.now c.args.sink.now c.args.page.now (executions_text t r) (flat_map f ns)) (sym (all_numbers (length (executions t r)))) (begun c.args.sink.now c.args.page.now (executions_text t r))

pub put_execution-requires-clause-open : goal.put_execution-requires-clause-open
put_execution-requires-clause-open g c = can_go_on _ _ _ _ _ _ c.requires.open c.loop-execution.invariant

pub put_execution-requires-clause-execution : goal.put_execution-requires-clause-execution
put_execution-requires-clause-execution g c =
    omega (arith, c.loop-execution-test.true, c.executions-execution-end.ensures.executions, as_many c.args.subject.now.task.now c.args.subject.now.protocol.now.rounds c.args.subject.now.protocol.now c.requires.subject.protocol)

pub returns-in_err-put_execution : goal.returns-in_err-put_execution
returns-in_err-put_execution g c =
    let t = c.args.subject.now.task.now in
    let r = c.args.subject.now.protocol.now.rounds in
    let f : ℕ → List ℕ = execution_line (problem_of t r) (executions t r) in
    let e = c.loop-execution.execution in
    let n = length (executions t r) in
    let low : e < n = omega (arith, c.loop-execution-test.true, c.executions-execution-end.ensures.executions, as_many_executions t r c.args.subject.now.protocol.now c.requires.subject.protocol) in
    stopped _ _ _ _ _ _ _ (f e) (flat_map f (numbers_left e n)) (flat_map f (numbers_left (e + 1) n)) c.from_residual.result c.from_residual.ensures.0 c.loop-execution.invariant c.in_err-put_execution.ensures (next_number f e n low)

pub loop-execution-preserved : goal.loop-execution-preserved
loop-execution-preserved g c =
    let t = c.args.subject.now.task.now in
    let r = c.args.subject.now.protocol.now.rounds in
    let f : ℕ → List ℕ = execution_line (problem_of t r) (executions t r) in
    let e = c.loop-execution.execution in
    let n = length (executions t r) in
    let low : e < n = omega (arith, c.loop-execution-test.true, c.executions-execution-end.ensures.executions, as_many_executions t r c.args.subject.now.protocol.now c.requires.subject.protocol) in
    went_on _ _ _ _ _ _ _ (f e) (flat_map f (numbers_left e n)) (flat_map f (numbers_left (e + 1) n)) c.loop-execution.invariant c.in_ok-put_execution.ensures (next_number f e n low)

pub returns : goal.returns
returns g c =
    let t = c.args.subject.now.task.now in
    let r = c.args.subject.now.protocol.now.rounds in
    let f : ℕ → List ℕ = execution_line (problem_of t r) (executions t r) in
    let e = c.loop-execution.execution in
    let n = length (executions t r) in
    let high : n ≤ e = omega (arith, c.loop-execution-test.false, c.executions-execution-end.ensures.executions, as_many_executions t r c.args.subject.now.protocol.now c.requires.subject.protocol) in
    all_put _ _ _ _ _ _ c.loop-execution.invariant (no_number f e n high)
