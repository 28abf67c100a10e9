use Rattle.std.proofs.Common.{◌≡◌, vec_len, take}
use Rattle.wf_sat_check.specs.Store.Literals.{IsMarked}
use Rattle.wf_sat_check.proofs.store.trail.Trail.undo.Given as goal

abbrev pub invariant-pops : goal.invariant-pops
invariant-pops l = record {
  front : take l.count l.self-inside.literals.items ≡ take l.count l.initial.self-inside.literals.items;
  marked : IsMarked l.self-inside.marks.items l.self-inside.literals.items;
}

abbrev pub decreases-pops : goal.decreases-pops
decreases-pops l = vec_len l.self-inside.literals
