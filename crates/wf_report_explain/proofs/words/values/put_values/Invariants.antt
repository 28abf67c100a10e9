use Rattle.std.proofs.Common.{◌++◌, string_bytes}
use Rattle.wf_report_explain.specs.Words.Text.{values_text}
use Rattle.wf_report_explain.proofs.OfWords.ValuesInWords.{AreTold}
use Rattle.wf_report_explain.proofs.words.values.put_values.Given as goal

abbrev pub invariant-loop-place : goal.invariant-loop-place
invariant-loop-place l = AreTold l.values l.place l.told (string_bytes l.text) (string_bytes l.initial.text ++ values_text l.values)
