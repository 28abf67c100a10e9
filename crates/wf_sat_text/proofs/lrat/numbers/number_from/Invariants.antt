use Rattle.wf_sat_text.specs.Lrat.Moves.{AreDigits}
use Rattle.wf_sat_text.proofs.lrat.numbers.number_from.Given as goal

abbrev pub invariant-bytes : goal.invariant-bytes
invariant-bytes l = AreDigits l.piece l.from (record { end = l.at; value = l.value })
