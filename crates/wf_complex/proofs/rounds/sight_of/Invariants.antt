use Rattle.std.proofs.Common.{◌≡◌, length, take, map}
use Rattle.wf_complex.specs.Rounds.{places_seen}
use Rattle.wf_complex.proofs.rounds.sight_of.Given as goal

abbrev pub invariant-loop-i : goal.invariant-loop-i
invariant-loop-i l = (length l.seen ≡ 4)
    × (take l.i l.seen ≡ map (λ block. places_seen block l.word) (take l.i l.word))
