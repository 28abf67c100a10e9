use Rattle.std.proofs.Common.{sym, subst}
use Rattle.wf_run_solve.specs.Texts.{Finds}
use Rattle.wf_run_solve.proofs.RunsWithoutAccount.{solving_finds}
use Rattle.wf_run_solve.proofs.find.run_search.Goals as goal

pub returns-then-is_some : goal.returns-then-is_some
returns-then-is_some g c =
    let ran = c.run_counted_search in
    let wanted = c.args.search.now.wanted in
    subst (Finds wanted.rounds wanted.form c.args.source.now ran.new.source c.args.sink.now ran.new.sink) (sym c.without_account.ensures)
    (solving_finds wanted.rounds wanted.form c.args.source.now ran.new.source c.args.sink.now ran.new.sink ran.result ran.ensures.solves)
