use Rattle.std.proofs.Common.{drop, get_or, length-drop, arith}
use Rattle.wf_report_explain.proofs.OfWords.ValuesInWords.{few_follow}
use Rattle.wf_report_explain.proofs.words.values.first_item.Goals as goal

pub returns-clause-within : goal.returns-clause-within
returns-clause-within c =
    let values = c.args.values.now in
    omega (arith, c.last_in_turn-last.ensures.last, few_follow (get_or values 0 0) (drop 1 values), length-drop 1 values, c.requires)
