use Rattle.std.proofs.Common.{◌≡◌, ◌+◌, ◌++◌, drop}
use Rattle.wf_complex.specs.Layout.{execution_total}
use Rattle.wf_report_trim.specs.Stretches.{stretches}
use Rattle.wf_report_trim.proofs.stretch.stretches_of.Given as goal

abbrev pub invariant-loop-simplex : goal.invariant-loop-simplex
invariant-loop-simplex l = record {
  before : l.before + execution_total l.first_block l.rounds (drop l.simplex-index l.inputs) ≡ execution_total l.first_block l.rounds l.inputs;
  after : l.after + execution_total l.first_block (l.rounds + l.more) (drop l.simplex-index l.inputs) ≡ execution_total l.first_block (l.rounds + l.more) l.inputs;
  listed : l.list.items ++ stretches l.first_block l.rounds l.more l.before l.after (drop l.simplex-index l.inputs) ≡ stretches l.first_block l.rounds l.more 0 0 l.inputs;
}
