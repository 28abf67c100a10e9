use Rattle.std.proofs.Common.{IfSome, sym, subst}
use Rattle.wf_task_parse.specs.Shape.{whole_of, pair_of}
use Rattle.wf_task_parse.specs.Plain.{Takes}
use Rattle.wf_task_parse.proofs.TokensOfValues.{takes-pair}
use Rattle.wf_task_parse.proofs.plain.pair_by_tokens.Goals as goal

pub returns : goal.returns
returns c =
    let inner = c.take_begin_array.new.self in
    let begun = c.take_begin_array.ensures c.if-not-take_begin_array.false in
    let one = subst (λ o. IfSome o (λ x. Takes whole_of 0 inner x c.plain.new.cursor)) c.in-Some.is c.in_ok-first.ensures in
    let two = subst (λ o. IfSome o (λ x. Takes whole_of 0 c.plain.new.cursor x c.plain-2.new.cursor)) c.in-Some-2.is c.in_ok-second.ensures in
    let end = c.take_end_array.ensures.taken c.if-not-take_end_array.false in
    subst (λ ts. Takes pair_of 1 ts (c.in-Some.first, c.in-Some-2.second) c.take_end_array.new.self) (sym begun)
    (takes-pair inner c.plain.new.cursor c.plain-2.new.cursor c.take_end_array.new.self c.in-Some.first c.in-Some-2.second one two end)
