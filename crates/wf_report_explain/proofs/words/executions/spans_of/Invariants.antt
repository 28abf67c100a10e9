use Rattle.std.proofs.Common.{◌≡◌, ◌+◌, ◌++◌, drop}
use Rattle.wf_complex.specs.Layout.{execution_total}
use Rattle.wf_report_explain.specs.Words.Table.{spans_of}
use Rattle.wf_report_explain.proofs.words.executions.spans_of.Given as goal

abbrev pub invariant-loop-simplex : goal.invariant-loop-simplex
invariant-loop-simplex l = record {
  counted : l.first + execution_total l.first_block l.rounds (drop l.simplex-index l.inputs) ≡ execution_total l.first_block l.rounds l.inputs;
  listed : l.spans.items ++ spans_of l.first_block l.rounds l.first (drop l.simplex-index l.inputs) ≡ spans_of l.first_block l.rounds 0 l.inputs;
}
