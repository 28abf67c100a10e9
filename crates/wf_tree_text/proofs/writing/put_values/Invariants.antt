use Rattle.std.proofs.Common.{◌≡◌, ◌++◌, drop, string_bytes}
use Rattle.wf_model.specs.Report.{numbers_text}
use Rattle.wf_tree_text.proofs.writing.put_values.Given as goal

abbrev pub invariant-loop-value : goal.invariant-loop-value
invariant-loop-value l = string_bytes l.text ++ numbers_text (drop l.value-index l.values) ≡ string_bytes l.initial.text ++ numbers_text l.values
