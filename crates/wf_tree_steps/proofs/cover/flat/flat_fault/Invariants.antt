use Rattle.std.proofs.Common.{◌≡◌, drop}
use Rattle.wf_tree_model.specs.Covers.{Covering}
use Rattle.wf_tree_steps.specs.Cover.Faults.{flat_fault}
use Rattle.wf_tree_steps.specs.Cover.Turns.{IsGoing}
use Rattle.wf_tree_steps.proofs.cover.flat.flat_fault.Given as goal

-- the tuples that are left have the fault of all
abbrev pub invariant-tuples : goal.invariant-tuples
invariant-tuples l = (c : Covering) → IsGoing c l.round.cover.now l.tuples → flat_fault c l.place (drop l.place l.tuples) ≡ flat_fault c 0 l.tuples
