use Rattle.std.proofs.Common.{ℕ, Ok}
use Rattle.wf_report.specs.declared.report.Header.{Header}
use Rattle.wf_report.specs.Parts.{executions_then, header_then, points_then, processes_then, rounds_then}
use Rattle.wf_report.specs.Reads.{Parse}
use Rattle.wf_report.proofs.Chains.{stopped, then_reads, then_stops}
use Rattle.wf_report.proofs.front.read_header.Goals as goal

abbrev made : (Header → Parse) → ℕ → ℕ → ℕ → ℕ → Parse
made next n r p e = next (record { processes = n; rounds = r; points = p; executions = e })

pub returns-in_err-read_fixed-clause-header : goal.returns-in_err-read_fixed-clause-header
returns-in_err-read_fixed-clause-header g c = λ next.
    stopped (header_then next) (λ (done : Unit {0}). processes_then next) next c.args.source.now c.read_fixed.new.source c.args.window.now c.read_fixed.new.window c.in_err-read_fixed.field-0.0 c.from_residual.result c.from_residual.ensures
    (c.in_err-read_fixed.ensures.fixed (processes_then next))

pub returns-in_err-processes-clause-header : goal.returns-in_err-processes-clause-header
returns-in_err-processes-clause-header g c = λ next.
    then_stops (header_then next) (λ (done : Unit {0}). processes_then next) (rounds_then next) next c.args.source.now c.read_fixed.new.source c.read_number.new.source c.args.window.now c.read_fixed.new.window c.read_number.new.window tt c.in_err-processes.field-0.0 c.from_residual-in_err-processes.result c.from_residual-in_err-processes.ensures
    (c.in_ok-read_fixed.ensures.fixed (processes_then next))
    (c.in_err-processes.ensures.read (rounds_then next))

pub returns-in_err-rounds-clause-header : goal.returns-in_err-rounds-clause-header
returns-in_err-rounds-clause-header g c = λ next.
    then_stops (header_then next) (rounds_then next) (points_then next c.in_ok-processes.processes) next c.args.source.now c.read_number.new.source c.read_number-2.new.source c.args.window.now c.read_number.new.window c.read_number-2.new.window c.in_ok-processes.processes c.in_err-rounds.field-0.0 c.from_residual-in_err-rounds.result c.from_residual-in_err-rounds.ensures
    (then_reads (header_then next) (λ (done : Unit {0}). processes_then next) (rounds_then next) c.args.source.now c.read_fixed.new.source c.read_number.new.source c.args.window.now c.read_fixed.new.window c.read_number.new.window tt (Ok c.in_ok-processes.processes)
    (c.in_ok-read_fixed.ensures.fixed (processes_then next))
    (c.in_ok-processes.ensures.read (rounds_then next)))
    (c.in_err-rounds.ensures.read (points_then next c.in_ok-processes.processes))

pub returns-in_err-points-clause-header : goal.returns-in_err-points-clause-header
returns-in_err-points-clause-header g c = λ next.
    then_stops (header_then next) (points_then next c.in_ok-processes.processes) (executions_then next c.in_ok-processes.processes c.in_ok-rounds.rounds) next c.args.source.now c.read_number-2.new.source c.read_number-3.new.source c.args.window.now c.read_number-2.new.window c.read_number-3.new.window c.in_ok-rounds.rounds c.in_err-points.field-0.0 c.from_residual-in_err-points.result c.from_residual-in_err-points.ensures
    (then_reads (header_then next) (rounds_then next) (points_then next c.in_ok-processes.processes) c.args.source.now c.read_number.new.source c.read_number-2.new.source c.args.window.now c.read_number.new.window c.read_number-2.new.window c.in_ok-processes.processes (Ok c.in_ok-rounds.rounds)
    (then_reads (header_then next) (λ (done : Unit {0}). processes_then next) (rounds_then next) c.args.source.now c.read_fixed.new.source c.read_number.new.source c.args.window.now c.read_fixed.new.window c.read_number.new.window tt (Ok c.in_ok-processes.processes)
    (c.in_ok-read_fixed.ensures.fixed (processes_then next))
    (c.in_ok-processes.ensures.read (rounds_then next)))
    (c.in_ok-rounds.ensures.read (points_then next c.in_ok-processes.processes)))
    (c.in_err-points.ensures.read (executions_then next c.in_ok-processes.processes c.in_ok-rounds.rounds))

pub returns-in_err-executions-clause-header : goal.returns-in_err-executions-clause-header
returns-in_err-executions-clause-header g c = λ next.
    then_stops (header_then next) (executions_then next c.in_ok-processes.processes c.in_ok-rounds.rounds) (made next c.in_ok-processes.processes c.in_ok-rounds.rounds c.in_ok-points.points) next c.args.source.now c.read_number-3.new.source c.read_number-4.new.source c.args.window.now c.read_number-3.new.window c.read_number-4.new.window c.in_ok-points.points c.in_err-executions.field-0.0 c.from_residual-in_err-executions.result c.from_residual-in_err-executions.ensures
    (then_reads (header_then next) (points_then next c.in_ok-processes.processes) (executions_then next c.in_ok-processes.processes c.in_ok-rounds.rounds) c.args.source.now c.read_number-2.new.source c.read_number-3.new.source c.args.window.now c.read_number-2.new.window c.read_number-3.new.window c.in_ok-rounds.rounds (Ok c.in_ok-points.points)
    (then_reads (header_then next) (rounds_then next) (points_then next c.in_ok-processes.processes) c.args.source.now c.read_number.new.source c.read_number-2.new.source c.args.window.now c.read_number.new.window c.read_number-2.new.window c.in_ok-processes.processes (Ok c.in_ok-rounds.rounds)
    (then_reads (header_then next) (λ (done : Unit {0}). processes_then next) (rounds_then next) c.args.source.now c.read_fixed.new.source c.read_number.new.source c.args.window.now c.read_fixed.new.window c.read_number.new.window tt (Ok c.in_ok-processes.processes)
    (c.in_ok-read_fixed.ensures.fixed (processes_then next))
    (c.in_ok-processes.ensures.read (rounds_then next)))
    (c.in_ok-rounds.ensures.read (points_then next c.in_ok-processes.processes)))
    (c.in_ok-points.ensures.read (executions_then next c.in_ok-processes.processes c.in_ok-rounds.rounds)))
    (c.in_err-executions.ensures.read (made next c.in_ok-processes.processes c.in_ok-rounds.rounds c.in_ok-points.points))

pub returns-clause-header : goal.returns-clause-header
returns-clause-header g c = λ next.
    then_reads (header_then next) (executions_then next c.in_ok-processes.processes c.in_ok-rounds.rounds) (made next c.in_ok-processes.processes c.in_ok-rounds.rounds c.in_ok-points.points) c.args.source.now c.read_number-3.new.source c.read_number-4.new.source c.args.window.now c.read_number-3.new.window c.read_number-4.new.window c.in_ok-points.points (Ok c.in_ok-executions.executions)
    (then_reads (header_then next) (points_then next c.in_ok-processes.processes) (executions_then next c.in_ok-processes.processes c.in_ok-rounds.rounds) c.args.source.now c.read_number-2.new.source c.read_number-3.new.source c.args.window.now c.read_number-2.new.window c.read_number-3.new.window c.in_ok-rounds.rounds (Ok c.in_ok-points.points)
    (then_reads (header_then next) (rounds_then next) (points_then next c.in_ok-processes.processes) c.args.source.now c.read_number.new.source c.read_number-2.new.source c.args.window.now c.read_number.new.window c.read_number-2.new.window c.in_ok-processes.processes (Ok c.in_ok-rounds.rounds)
    (then_reads (header_then next) (λ (done : Unit {0}). processes_then next) (rounds_then next) c.args.source.now c.read_fixed.new.source c.read_number.new.source c.args.window.now c.read_fixed.new.window c.read_number.new.window tt (Ok c.in_ok-processes.processes)
    (c.in_ok-read_fixed.ensures.fixed (processes_then next))
    (c.in_ok-processes.ensures.read (rounds_then next)))
    (c.in_ok-rounds.ensures.read (points_then next c.in_ok-processes.processes)))
    (c.in_ok-points.ensures.read (executions_then next c.in_ok-processes.processes c.in_ok-rounds.rounds)))
    (c.in_ok-executions.ensures.read (made next c.in_ok-processes.processes c.in_ok-rounds.rounds c.in_ok-points.points))
