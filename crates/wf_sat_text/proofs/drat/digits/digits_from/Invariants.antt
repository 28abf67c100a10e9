use Rattle.wf_sat_text.specs.Drat.Moves.{AreDigits}
use Rattle.wf_sat_text.proofs.drat.digits.digits_from.Given as goal

abbrev pub invariant-bytes : goal.invariant-bytes
invariant-bytes l = AreDigits l.piece l.from (record { end = l.at; value = l.value })
