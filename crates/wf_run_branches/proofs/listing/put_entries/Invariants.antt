use Rattle.std.proofs.Common.{◌≡◌, ◌++◌, drop, string_bytes}
use Rattle.std.specs.List.{enumerate_from}
use Rattle.wf_model.specs.Outline.{boxes_left_out}
use Rattle.wf_run_branches.specs.Listing.{entries_text}
use Rattle.wf_run_branches.proofs.listing.put_entries.Given as goal

abbrev pub invariant-loop-number : goal.invariant-loop-number
invariant-loop-number l =
    string_bytes l.text ++ entries_text (enumerate_from l.number (drop l.number (boxes_left_out l.cover)))
    ≡ string_bytes l.initial.text ++ entries_text (enumerate_from 0 (boxes_left_out l.cover))
