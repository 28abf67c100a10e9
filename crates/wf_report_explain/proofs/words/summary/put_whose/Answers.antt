use Rattle.std.proofs.Common.{◌++◌, string_bytes, ap, ◌∙◌}
use Rattle.wf_report_explain.specs.declared.words.summary.SizeCount.{SizeCount}
use Rattle.wf_report_explain.proofs.OfWords.Sizes.{at_most}
use Rattle.wf_report_explain.proofs.words.summary.put_whose.Goals as goal

abbrev none : SizeCount
none = record { size = 0; count = 0 }

pub returns : goal.returns
returns c =
    c.in_ok-write.ensures.bytes
    ∙ ap (λ xs. string_bytes c.args.text.now ++ xs) (at_most c.args.ranks c.args.processes.now c.processes_in_words-most.result.now c.args.sizes.now none c.if-not-ranks.false c.requires c.processes_in_words-most.ensures)
