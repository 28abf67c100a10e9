use Rattle.std.proofs.Common.{◌≡◌, ◌≤◌, ◌++◌, take, drop}
use Rattle.wf_complex.specs.Rounds.{picked}
use Rattle.wf_complex.proofs.rounds.picked.Given as goal

abbrev pub invariant-loop-j : goal.invariant-loop-j
invariant-loop-j l = (l.seen.count ≤ l.j)
    × (take l.seen.count l.seen.ids ++ picked l.rest (drop l.j l.current) ≡ picked l.places l.current)
