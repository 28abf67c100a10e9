use Rattle.std.proofs.Common.{Some, option_map, option_and_then, sym, ap, ◌∙◌}
use Rattle.wf_task_parse.specs.Shape.{simplex_of, tuples_of}
use Rattle.wf_task_parse.proofs.Lists.{entry_found, numbers_seen, members_count}
use Rattle.wf_task_parse.proofs.shape.DeltaEntryShape.shape.Goals as goal

pub returns : goal.returns
returns c =
    let input = ap (option_and_then simplex_of) (sym c.get.ensures) ∙ sym c.in_ok-input.ensures ∙ ap (option_map _) c.in-Some-2.is in
    let tuples = ap (option_and_then tuples_of) (sym c.get-2.ensures) ∙ sym c.in_ok-tuples.ensures ∙ ap (option_map _) c.in-Some-3.is ∙ ap Some (numbers_seen c.in-Some-3.tuples.items) in
    sym (entry_found _ _ _ _ (sym c.in-Some.ensures) input tuples (members_count _ ∙ sym c.len.ensures.len ∙ c.if-len-ne-ENTRY_KEYS.false))
