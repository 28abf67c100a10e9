use Rattle.std.proofs.Common.{◌≡◌, ◌-◌, length, drop, slice_index}
use Rattle.wf_complex.specs.Rounds.{places_seen}
use Rattle.wf_complex.proofs.rounds.places_seen.Given as goal

abbrev pub invariant-loop-later : goal.invariant-loop-later
invariant-loop-later l = l.places ≡ places_seen (slice_index l.word l.i) (drop (length l.word - l.later) l.word)
