use Rattle.wf_base.proofs.OfSet.SetLaws.{least_in_first, least_in_second, least_in_third, least_in_fourth, least_nowhere}
use Rattle.wf_base.proofs.set.split_first.Goals as goal

pub returns-in-Some-split_first : goal.returns-in-Some-split_first
returns-in-Some-split_first c = least_in_second c.args.set c.in-Some-split_first.value c.in-Some-split_first.rest (c.in_default.ensures.split) (c.in-Some-split_first.ensures.split)

pub returns-in-Some-split_first-2 : goal.returns-in-Some-split_first-2
returns-in-Some-split_first-2 c = least_in_third c.args.set c.in-Some-split_first-2.value c.in-Some-split_first-2.rest c.in_default.ensures.split c.in_default-split_first.ensures.split c.in-Some-split_first-2.ensures.split

pub returns-in-Some-split_first-3 : goal.returns-in-Some-split_first-3
returns-in-Some-split_first-3 c = least_in_fourth c.args.set c.in-Some-split_first-3.value c.in-Some-split_first-3.rest c.in_default.ensures.split c.in_default-split_first.ensures.split c.in_default-split_first-2.ensures.split c.in-Some-split_first-3.ensures.split

pub returns-in-None : goal.returns-in-None
returns-in-None c = least_nowhere c.args.set c.in_default.ensures.split c.in_default-split_first.ensures.split c.in_default-split_first-2.ensures.split c.in-None.ensures.split

pub returns-in-Some : goal.returns-in-Some
returns-in-Some c = least_in_first c.args.set c.in-Some.value c.in-Some.rest c.in-Some.ensures.split
