use Rattle.std.proofs.Common.{◌≡◌, drop}
use Rattle.wf_model.specs.Simplex.{processes_of}
use Rattle.wf_simplex.specs.Entries.{place_in}
use Rattle.wf_simplex.proofs.simplex.Simplex.place.Given as goal

abbrev pub invariant-loop-place : goal.invariant-loop-place
invariant-loop-place l = place_in l.place l.process (drop l.place (processes_of l.self)) ≡ place_in 0 l.process (processes_of l.self)
