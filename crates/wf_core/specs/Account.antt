-- What a pool did, as its state tells it.
use Rattle.std.specs.Prelude.{Bool, true, false, length}
use Rattle.std.specs.List.{count_by}
use Rattle.wf_core.specs.declared.event.Status.{Status}
use Rattle.wf_core.specs.declared.event.Status.TheVariants as status
use Rattle.wf_core.specs.declared.event.Account.{Account}
use Rattle.wf_core.specs.Core.{State}

-- the branch was searched, and a map was found in it or none
abbrev pub was_searched : Status → Bool
was_searched status.Free = false
was_searched (status.Held _) = false
was_searched status.Refuted = true
was_searched status.Posted = true
was_searched status.Cut = false

abbrev pub was_cut : Status → Bool
was_cut status.Free = false
was_cut (status.Held _) = false
was_cut status.Refuted = false
was_cut status.Posted = false
was_cut status.Cut = true

abbrev pub account_of : State → Account
account_of s =
    record { branches = length s.branches; least = s.least; searched = count_by was_searched s.branches; cut = count_by was_cut s.branches }
