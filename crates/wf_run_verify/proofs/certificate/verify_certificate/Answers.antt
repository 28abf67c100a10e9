use Rattle.std.proofs.Common.{ap, arith, sym, subst, ◌∙◌}
use Rattle.std.proofs.lemmas.Result.{err_from_is_err_and}
use Rattle.wf_report.specs.Windows.{with_most}
use Rattle.wf_run.specs.Run.{answered}
use Rattle.wf_run_verify.specs.Certificates.{ChecksObstruction, ChecksSource}
use Rattle.wf_run_verify.specs.Verify.{most_of}
use Rattle.wf_run_verify.proofs.AheadTexts.{can_begin}
use Rattle.wf_run_verify.proofs.Peeked.{begun_by, can_peeked, first_peeked, least_most, most_most, no_window, obstruction_read, peek_cut, report_read, rest_unread}
use Rattle.wf_run_verify.proofs.certificate.verify_certificate.Goals as goal

pub returns-in_err-window : goal.returns-in_err-window
returns-in_err-window g c =
    no_window (most_of c.args.is_long) c.args.asked.now.rounds c.args.asked.now.task.now c.args.source.now c.from_residual.result c.from_residual.ensures

pub begins_as_obstruction-requires : goal.begins_as_obstruction-requires
begins_as_obstruction-requires g c = can_begin c.args.source.now c.in_ok-window.window c.in_ok-window.ensures c.requires

pub returns-in_err-is_one : goal.returns-in_err-is_one
returns-in_err-is_one g c =
    let q = c.args.asked.now in
    let p = err_from_is_err_and c.from_residual-in_err-is_one.result c.from_residual-in_err-is_one.ensures.1 in
    rw (p.1, p.2) (peek_cut (most_of c.args.is_long) q.rounds q.task.now c.args.source.now c.in_ok-window.window c.in_ok-window.ensures (least_most c.args.is_long)
    c.begins_as_obstruction.new.source c.begins_as_obstruction.new.window c.in_err-is_one.field-0.0 c.in_err-is_one.ensures.told)

pub returns-in_err-text : goal.returns-in_err-text
returns-in_err-text g c =
    let q = c.args.asked.now in
    let most = most_of c.args.is_long in
    let least = least_most c.args.is_long in
    let old = c.args.source.now in
    let mid = c.begins_as_obstruction.new.source in
    let w1 = c.begins_as_obstruction.new.window in
    let begun = begun_by most q.rounds q.task.now old c.in_ok-window.window c.in_ok-window.ensures least mid w1 c.in_ok-is_one.is_one c.in_ok-is_one.ensures.told in
    let p = err_from_is_err_and c.from_residual-in_err-text.result c.from_residual-in_err-text.ensures.1 in
    rw (p.1, p.2) (rest_unread most q.rounds q.task.now old c.in_ok-window.window c.in_ok-window.ensures least mid c.read_rest.new.source w1 c.read_rest.new.self c.in_ok-is_one.is_one c.if-is_one.true begun
    c.in_err-text.field-0.0 c.in_err-text.ensures)

pub returns-then-is_one : goal.returns-then-is_one
returns-then-is_one g c =
    let q = c.args.asked.now in
    let most = most_of c.args.is_long in
    let least = least_most c.args.is_long in
    let old = c.args.source.now in
    let mid = c.begins_as_obstruction.new.source in
    let w1 = c.begins_as_obstruction.new.window in
    let begun = begun_by most q.rounds q.task.now old c.in_ok-window.window c.in_ok-window.ensures least mid w1 c.in_ok-is_one.is_one c.in_ok-is_one.ensures.told in
    obstruction_read most q.rounds q.task.now old c.in_ok-window.window c.in_ok-window.ensures least mid c.read_rest.new.source w1 c.read_rest.new.self c.in_ok-is_one.is_one c.if-is_one.true begun
    c.in_ok-text.text.items (answered c.verify_obstruction.result) c.in_ok-text.ensures
    (subst (λ text. ChecksObstruction q.rounds q.task.now text (answered c.verify_obstruction.result)) c.deref.ensures.value c.verify_obstruction.ensures)

pub verify_in_window-requires-clause-can : goal.verify_in_window-requires-clause-can
verify_in_window-requires-clause-can g c κs within =
    let q = c.args.asked.now in
    let most = most_of c.args.is_long in
    let least = least_most c.args.is_long in
    let begun = begun_by most q.rounds q.task.now c.args.source.now c.in_ok-window.window c.in_ok-window.ensures least c.begins_as_obstruction.new.source c.begins_as_obstruction.new.window c.in_ok-is_one.is_one c.in_ok-is_one.ensures.told in
    let same = begun.most_is in
    can_peeked c.begins_as_obstruction.new.source c.begins_as_obstruction.new.window c.allow.new.self (most_of c.args.is_long) (c.allow.ensures ∙ ap (λ m. with_most m c.begins_as_obstruction.new.window) c.report_byte_limit.ensures)
    c.in_ok-is_one.ensures.can (omega (arith, same, least)) (most_most c.args.is_long)

pub verify_in_window-requires-clause-first : goal.verify_in_window-requires-clause-first
verify_in_window-requires-clause-first g c κs within =
    let q = c.args.asked.now in
    let most = most_of c.args.is_long in
    let least = least_most c.args.is_long in
    let begun = begun_by most q.rounds q.task.now c.args.source.now c.in_ok-window.window c.in_ok-window.ensures least c.begins_as_obstruction.new.source c.begins_as_obstruction.new.window c.in_ok-is_one.is_one c.in_ok-is_one.ensures.told in
    first_peeked c.begins_as_obstruction.new.window c.allow.new.self most (c.allow.ensures ∙ ap (λ m. with_most m c.begins_as_obstruction.new.window) c.report_byte_limit.ensures) begun.first

pub returns : goal.returns
returns g c =
    let q = c.args.asked.now in
    let most = most_of c.args.is_long in
    let least = least_most c.args.is_long in
    let old = c.args.source.now in
    let mid = c.begins_as_obstruction.new.source in
    let w1 = c.begins_as_obstruction.new.window in
    let begun = begun_by most q.rounds q.task.now old c.in_ok-window.window c.in_ok-window.ensures least mid w1 c.in_ok-is_one.is_one c.in_ok-is_one.ensures.told in
    subst (ChecksSource most q.rounds q.task.now old c.verify_in_window.new.source) (sym c.as_verified.ensures)
    (report_read most q.rounds q.task.now old c.in_ok-window.window c.in_ok-window.ensures least mid c.verify_in_window.new.source w1 c.allow.new.self c.in_ok-is_one.is_one c.if-is_one.false begun
    (c.allow.ensures ∙ ap (λ m. with_most m w1) c.report_byte_limit.ensures) (answered c.verify_in_window.result) c.verify_in_window.ensures)
