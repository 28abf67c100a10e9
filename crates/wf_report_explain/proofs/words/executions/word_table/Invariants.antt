use Rattle.std.proofs.Common.{◌≡◌, map, vec_items}
use Rattle.wf_report_explain.specs.Words.Table.{words_up_to}
use Rattle.wf_report_explain.proofs.words.executions.word_table.Given as goal

abbrev pub invariant-loop-others : goal.invariant-loop-others
invariant-loop-others l = map vec_items l.table.items ≡ words_up_to l.first_block l.others
