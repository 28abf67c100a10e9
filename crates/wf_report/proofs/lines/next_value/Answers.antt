use Rattle.std.proofs.Common.{◌≡◌, ◌++◌, ◌∙◌, [], ◌∷◌, take, ap, arith, subst, sym, Ok, Some, None, ℕ}
use Rattle.wf_model.specs.Report.{value_of_line}
use Rattle.wf_report.specs.Parts.{value_then, values_then}
use Rattle.wf_report.specs.Reads.{Reads}
use Rattle.wf_report.specs.Windows.{Finds, Ahead, CanGive}
use Rattle.wf_report.specs.declared.window.AtFront.TheVariants as found
use Rattle.wf_report.proofs.Chains.{stopped}
use Rattle.wf_report.proofs.Fronts.{can_passed, find_stops, found_front, found_number, found_reads, line_at, no_value_ahead, nothing_ahead, other_ahead, read_passing, read_staying, values_at}
use Rattle.wf_report.proofs.lines.next_value.Goals as goal

pub returns-in_err-found-clause-value : goal.returns-in_err-found-clause-value
returns-in_err-found-clause-value g c = λ next.
    let f = values_then next in
    stopped f (λ (size : ℕ). f) (value_then next) c.args.source.now c.find.new.source c.args.window.now c.find.new.self c.in_err-found.field-0.0 c.from_residual.result c.from_residual.ensures
    (find_stops c.args.source.now c.find.new.source c.args.window.now c.find.new.self f (λ (size : ℕ). f) c.in_err-found.field-0.0 c.in_err-found.ensures.found)

pub returns-in-Bad-clause-value : goal.returns-in-Bad-clause-value
returns-in-Bad-clause-value g c = λ next.
    let f = values_then next in
    read_staying f (value_then next) c.args.source.now c.find.new.source c.args.window.now c.find.new.self (tt {0})
    (found_reads c.args.source.now c.find.new.source c.args.window.now c.find.new.self f (tt {0}) found.Bad (subst (λ at. Finds c.args.source.now c.find.new.source c.args.window.now c.find.new.self (Ok at)) c.in-Bad.is c.in_ok-found.ensures.found))
    None (no_value_ahead c.find.new.self next (found_front c.args.source.now c.find.new.source c.args.window.now c.find.new.self found.Bad (subst (λ at. Finds c.args.source.now c.find.new.source c.args.window.now c.find.new.self (Ok at)) c.in-Bad.is c.in_ok-found.ensures.found)))

pub returns-in-Bad-clause-passes : goal.returns-in-Bad-clause-passes
returns-in-Bad-clause-passes g c = found_number c.args.source.now c.find.new.source c.args.window.now c.find.new.self found.Bad (subst (λ at. Finds c.args.source.now c.find.new.source c.args.window.now c.find.new.self (Ok at)) c.in-Bad.is c.in_ok-found.ensures.found)

pub returns-in-End-clause-value : goal.returns-in-End-clause-value
returns-in-End-clause-value g c = λ next.
    let f = values_then next in
    read_staying f (value_then next) c.args.source.now c.find.new.source c.args.window.now c.find.new.self (tt {0})
    (found_reads c.args.source.now c.find.new.source c.args.window.now c.find.new.self f (tt {0}) found.End (subst (λ at. Finds c.args.source.now c.find.new.source c.args.window.now c.find.new.self (Ok at)) c.in-End.is c.in_ok-found.ensures.found))
    None (nothing_ahead c.find.new.self next (found_front c.args.source.now c.find.new.source c.args.window.now c.find.new.self found.End (subst (λ at. Finds c.args.source.now c.find.new.source c.args.window.now c.find.new.self (Ok at)) c.in-End.is c.in_ok-found.ensures.found)))

pub returns-in-End-clause-passes : goal.returns-in-End-clause-passes
returns-in-End-clause-passes g c = found_number c.args.source.now c.find.new.source c.args.window.now c.find.new.self found.End (subst (λ at. Finds c.args.source.now c.find.new.source c.args.window.now c.find.new.self (Ok at)) c.in-End.is c.in_ok-found.ensures.found)

pub line-requires : goal.line-requires
line-requires g c =
    let at = line_at c.args.source.now c.find.new.source c.args.window.now c.find.new.self c.in-Line.size (subst (λ at. Finds c.args.source.now c.find.new.source c.args.window.now c.find.new.self (Ok at)) c.in-Line.is c.in_ok-found.ensures.found) in
    let inside = at.line.inside in
    omega (arith, inside)

pub pass-requires : goal.pass-requires
pass-requires g c = line_at c.args.source.now c.find.new.source c.args.window.now c.find.new.self c.in-Line.size (subst (λ at. Finds c.args.source.now c.find.new.source c.args.window.now c.find.new.self (Ok at)) c.in-Line.is c.in_ok-found.ensures.found)

pub returns-in_default-clause-value : goal.returns-in_default-clause-value
returns-in_default-clause-value g c = λ next.
    let f = values_then next in
    let size = c.in-Line.size in
    let at = line_at c.args.source.now c.find.new.source c.args.window.now c.find.new.self size (subst (λ at. Finds c.args.source.now c.find.new.source c.args.window.now c.find.new.self (Ok at)) c.in-Line.is c.in_ok-found.ensures.found) in
    let none : value_of_line (take size c.find.new.self.pending ++ 10 ∷ []) ≡ None = ap (λ l. value_of_line (l ++ 10 ∷ [])) (sym c.line.ensures) ∙ sym c.value_of.ensures ∙ c.in_default.is in
    read_staying f (value_then next) c.args.source.now c.find.new.source c.args.window.now c.find.new.self size
    (found_reads c.args.source.now c.find.new.source c.args.window.now c.find.new.self f size (found.Line size) (subst (λ at. Finds c.args.source.now c.find.new.source c.args.window.now c.find.new.self (Ok at)) c.in-Line.is c.in_ok-found.ensures.found))
    None (other_ahead c.find.new.self size at.line next none)

pub returns-in_default-clause-passes : goal.returns-in_default-clause-passes
returns-in_default-clause-passes g c = found_number c.args.source.now c.find.new.source c.args.window.now c.find.new.self (found.Line c.in-Line.size) (subst (λ at. Finds c.args.source.now c.find.new.source c.args.window.now c.find.new.self (Ok at)) c.in-Line.is c.in_ok-found.ensures.found)

pub returns-clause-value : goal.returns-clause-value
returns-clause-value g c = λ next.
    let f = values_then next in
    let size = c.in-Line.size in
    let n = c.in-Some.value in
    let at = line_at c.args.source.now c.find.new.source c.args.window.now c.find.new.self size (subst (λ at. Finds c.args.source.now c.find.new.source c.args.window.now c.find.new.self (Ok at)) c.in-Line.is c.in_ok-found.ensures.found) in
    let some : value_of_line (take size c.find.new.self.pending ++ 10 ∷ []) ≡ Some n = ap (λ l. value_of_line (l ++ 10 ∷ [])) (sym c.line.ensures) ∙ sym c.value_of.ensures ∙ c.in-Some.is in
    subst (λ w. Reads f (value_then next) c.args.source.now c.find.new.source c.args.window.now w (Ok (Some n))) (sym c.pass.ensures)
    (read_passing f (value_then next) c.args.source.now c.find.new.source c.args.window.now c.find.new.self size
    (found_reads c.args.source.now c.find.new.source c.args.window.now c.find.new.self f size (found.Line size) (subst (λ at. Finds c.args.source.now c.find.new.source c.args.window.now c.find.new.self (Ok at)) c.in-Line.is c.in_ok-found.ensures.found))
    size (Some n) at.line (λ ls. values_at next (take size c.find.new.self.pending ++ 10 ∷ []) ls (Some n) some))

pub returns-clause-passes : goal.returns-clause-passes
returns-clause-passes g c =
    let at = line_at c.args.source.now c.find.new.source c.args.window.now c.find.new.self c.in-Line.size (subst (λ at. Finds c.args.source.now c.find.new.source c.args.window.now c.find.new.self (Ok at)) c.in-Line.is c.in_ok-found.ensures.found) in
    let same = found_number c.args.source.now c.find.new.source c.args.window.now c.find.new.self (found.Line c.in-Line.size) (subst (λ at. Finds c.args.source.now c.find.new.source c.args.window.now c.find.new.self (Ok at)) c.in-Line.is c.in_ok-found.ensures.found) in
    let next = ap (λ (w : Ahead). w.number) c.pass.ensures in
    (omega (arith, next, same), omega (arith, at.numbered, same))

pub returns-clause-can : goal.returns-clause-can
returns-clause-can g c = subst (CanGive c.find.new.source) (sym c.pass.ensures) (can_passed c.find.new.source c.find.new.self c.in-Line.size c.in_ok-found.ensures.can)
