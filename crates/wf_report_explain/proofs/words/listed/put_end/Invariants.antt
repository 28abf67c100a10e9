use Rattle.std.proofs.Common.{◌++◌, codes, drop, flat_map}
use Rattle.wf_base.proofs.OfStreams.Lemmas.{IsPut}
use Rattle.wf_report_explain.specs.Words.Listing.{spaced}
use Rattle.wf_report_explain.proofs.words.listed.put_end.Given as goal

abbrev pub invariant-loop-point : goal.invariant-loop-point
invariant-loop-point g l =
    IsPut l.fn.sink l.fn.page l.sink l.page (codes " :" ++ (flat_map spaced l.points ++ codes "\n")) (flat_map spaced (drop l.point-index l.points) ++ codes "\n")
