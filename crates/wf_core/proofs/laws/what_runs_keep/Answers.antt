use Rattle.wf_core.proofs.StepInvariants.{least_is_posted, seen_was_posted, cut_lies_above}
use Rattle.wf_core.proofs.laws.what_runs_keep.Goals as goal

pub returns : goal.returns
returns c = record { least = least_is_posted; seen = seen_was_posted; cut = cut_lies_above }
