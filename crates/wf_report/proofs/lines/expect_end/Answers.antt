use Rattle.wf_report.specs.Parts.{end_then}
use Rattle.wf_report.specs.declared.window.AtFront.TheVariants as found
use Rattle.std.proofs.Common.{◌+◌, [], ℕ, Ok, subst}
use Rattle.wf_report.specs.Windows.{Finds}
use Rattle.wf_report.proofs.Chains.{stopped}
use Rattle.wf_report.proofs.Fronts.{end_fails, end_follows, end_there, find_stops, found_front, found_reads, line_at, read_failing, read_staying}
use Rattle.wf_report.proofs.lines.expect_end.Goals as goal

pub returns-in_err-found-clause-end : goal.returns-in_err-found-clause-end
returns-in_err-found-clause-end g c = λ next.
    let f = end_then c.args.at next in
    stopped f (λ (size : ℕ). f) (λ (done : Unit {0}) ls. next []) c.args.source.now c.find.new.source c.args.window.now c.find.new.self c.in_err-found.field-0.0 c.from_residual.result c.from_residual.ensures
    (find_stops c.args.source.now c.find.new.source c.args.window.now c.find.new.self f (λ (size : ℕ). f) c.in_err-found.field-0.0 c.in_err-found.ensures.found)

pub returns-in-End-clause-end : goal.returns-in-End-clause-end
returns-in-End-clause-end g c = λ next.
    let f = end_then c.args.at next in
    read_staying f (λ (done : Unit {0}) ls. next []) c.args.source.now c.find.new.source c.args.window.now c.find.new.self (tt {0})
    (found_reads c.args.source.now c.find.new.source c.args.window.now c.find.new.self f (tt {0}) found.End (subst (λ at. Finds c.args.source.now c.find.new.source c.args.window.now c.find.new.self (Ok at)) c.in-End.is c.in_ok-found.ensures.found))
    (tt {0}) (end_there c.args.at next c.find.new.self (found_front c.args.source.now c.find.new.source c.args.window.now c.find.new.self found.End (subst (λ at. Finds c.args.source.now c.find.new.source c.args.window.now c.find.new.self (Ok at)) c.in-End.is c.in_ok-found.ensures.found)))

pub returns-in-End-clause-ended : goal.returns-in-End-clause-ended
returns-in-End-clause-ended g c = (found_front c.args.source.now c.find.new.source c.args.window.now c.find.new.self found.End (subst (λ at. Finds c.args.source.now c.find.new.source c.args.window.now c.find.new.self (Ok at)) c.in-End.is c.in_ok-found.ensures.found)).0

pub returns-in-Bad-clause-end : goal.returns-in-Bad-clause-end
returns-in-Bad-clause-end g c = λ next.
    let f = end_then c.args.at next in
    read_failing f (λ (done : Unit {0}) ls. next []) c.args.source.now c.find.new.source c.args.window.now c.find.new.self (tt {0})
    (found_reads c.args.source.now c.find.new.source c.args.window.now c.find.new.self f (tt {0}) found.Bad (subst (λ at. Finds c.args.source.now c.find.new.source c.args.window.now c.find.new.self (Ok at)) c.in-Bad.is c.in_ok-found.ensures.found))
    (c.args.at + 1) (end_fails c.args.at next c.find.new.self (found_front c.args.source.now c.find.new.source c.args.window.now c.find.new.self found.Bad (subst (λ at. Finds c.args.source.now c.find.new.source c.args.window.now c.find.new.self (Ok at)) c.in-Bad.is c.in_ok-found.ensures.found)))

pub returns-in-Line-clause-end : goal.returns-in-Line-clause-end
returns-in-Line-clause-end g c = λ next.
    let f = end_then c.args.at next in
    let size = c.in-Line.field-0 in
    read_failing f (λ (done : Unit {0}) ls. next []) c.args.source.now c.find.new.source c.args.window.now c.find.new.self (tt {0})
    (found_reads c.args.source.now c.find.new.source c.args.window.now c.find.new.self f (tt {0}) (found.Line size) (subst (λ at. Finds c.args.source.now c.find.new.source c.args.window.now c.find.new.self (Ok at)) c.in-Line.is c.in_ok-found.ensures.found))
    (c.args.at + 1) (end_follows c.args.at next c.find.new.self size (line_at c.args.source.now c.find.new.source c.args.window.now c.find.new.self size (subst (λ at. Finds c.args.source.now c.find.new.source c.args.window.now c.find.new.self (Ok at)) c.in-Line.is c.in_ok-found.ensures.found)).line)
