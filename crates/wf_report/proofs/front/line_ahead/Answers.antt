use Rattle.std.proofs.Common.{ℕ, Ok, subst}
use Rattle.wf_report.specs.Windows.{Finds}
use Rattle.wf_report.proofs.Chains.{stopped}
use Rattle.wf_report.proofs.Fronts.{bad_continues, end_continues, find_stops, found_front, found_number, found_reads, line_at, read_failing}
use Rattle.wf_report.specs.declared.window.AtFront.TheVariants as found
use Rattle.wf_report.proofs.front.line_ahead.Goals as goal

pub returns-in_err-found-clause-line : goal.returns-in_err-found-clause-line
returns-in_err-found-clause-line g c = λ parse fails.
    stopped parse (λ (size : ℕ). parse) (λ (size : ℕ). parse) c.args.source.now c.find.new.source c.args.window.now c.find.new.self c.in_err-found.field-0.0 c.from_residual.result c.from_residual.ensures
    (find_stops c.args.source.now c.find.new.source c.args.window.now c.find.new.self parse (λ (size : ℕ). parse) c.in_err-found.field-0.0 c.in_err-found.ensures.found)

pub returns-in-Line-clause-line : goal.returns-in-Line-clause-line
returns-in-Line-clause-line g c = λ parse fails.
    found_reads c.args.source.now c.find.new.source c.args.window.now c.find.new.self parse c.in-Line.size (found.Line c.in-Line.size) (subst (λ at. Finds c.args.source.now c.find.new.source c.args.window.now c.find.new.self (Ok at)) c.in-Line.is c.in_ok-found.ensures.found)

pub returns-in-Line-clause-front : goal.returns-in-Line-clause-front
returns-in-Line-clause-front g c = line_at c.args.source.now c.find.new.source c.args.window.now c.find.new.self c.in-Line.size (subst (λ at. Finds c.args.source.now c.find.new.source c.args.window.now c.find.new.self (Ok at)) c.in-Line.is c.in_ok-found.ensures.found)

pub returns-in-Line-clause-number : goal.returns-in-Line-clause-number
returns-in-Line-clause-number g c = found_number c.args.source.now c.find.new.source c.args.window.now c.find.new.self (found.Line c.in-Line.size) (subst (λ at. Finds c.args.source.now c.find.new.source c.args.window.now c.find.new.self (Ok at)) c.in-Line.is c.in_ok-found.ensures.found)

pub returns-in-Bad-clause-line : goal.returns-in-Bad-clause-line
returns-in-Bad-clause-line g c = λ parse fails.
    read_failing parse (λ (size : ℕ). parse) c.args.source.now c.find.new.source c.args.window.now c.find.new.self (tt {0})
    (found_reads c.args.source.now c.find.new.source c.args.window.now c.find.new.self parse (tt {0}) found.Bad (subst (λ at. Finds c.args.source.now c.find.new.source c.args.window.now c.find.new.self (Ok at)) c.in-Bad.is c.in_ok-found.ensures.found))
    c.args.at
    (bad_continues c.args.at parse fails c.find.new.self (found_front c.args.source.now c.find.new.source c.args.window.now c.find.new.self found.Bad (subst (λ at. Finds c.args.source.now c.find.new.source c.args.window.now c.find.new.self (Ok at)) c.in-Bad.is c.in_ok-found.ensures.found)))

pub returns-in-End-clause-line : goal.returns-in-End-clause-line
returns-in-End-clause-line g c = λ parse fails.
    read_failing parse (λ (size : ℕ). parse) c.args.source.now c.find.new.source c.args.window.now c.find.new.self (tt {0})
    (found_reads c.args.source.now c.find.new.source c.args.window.now c.find.new.self parse (tt {0}) found.End (subst (λ at. Finds c.args.source.now c.find.new.source c.args.window.now c.find.new.self (Ok at)) c.in-End.is c.in_ok-found.ensures.found))
    c.args.at
    (end_continues c.args.at parse fails c.find.new.self (found_front c.args.source.now c.find.new.source c.args.window.now c.find.new.self found.End (subst (λ at. Finds c.args.source.now c.find.new.source c.args.window.now c.find.new.self (Ok at)) c.in-End.is c.in_ok-found.ensures.found)))
