use Rattle.std.proofs.Common.{◌-◌, ◌≤◌, drop, length}
use Rattle.wf_sat_check.specs.Rup.Rat.{KeepsSatisfiable}
use Rattle.wf_sat_text.specs.Drat.Text.{text_of}
use Rattle.wf_sat_check.proofs.OfRup.FedLemmas.{IsUpTo}
use Rattle.wf_sat_check.proofs.rup.proof.Proof.feed.Given as goal

abbrev pub invariant-bytes : goal.invariant-bytes
invariant-bytes l =
    KeepsSatisfiable l.initial.checker l.checker × IsUpTo (text_of l.initial.self l.piece) l.self (drop l.at l.piece) l.initial.checker l.checker × (l.at ≤ length l.piece)

abbrev pub decreases-bytes : goal.decreases-bytes
decreases-bytes l = length l.piece - l.at
