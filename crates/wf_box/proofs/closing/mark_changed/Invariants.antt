use Rattle.std.proofs.Common.{◌≡◌, ℕ, ◌<◌, ◌≤◌, length, get_or, []}
use Rattle.std.specs.Bool.{OnTrue}
use Rattle.wf_base.specs.Set.Sets.{values_in}
use Rattle.wf_network.specs.Marks.{bit_of}
use Rattle.wf_network.specs.Users.{IsUser}
use Rattle.wf_box.specs.declared.tracked.Change.{Change}
use Rattle.wf_box.proofs.closing.mark_changed.Given as goal

abbrev pub invariant-loop-number : goal.invariant-loop-number
invariant-loop-number l = (length l.marks.words.items ≡ length l.initial.marks.words.items)
    × ((k : ℕ) (d : Change) → l.changes ≤ k → k < l.number → (e : ℕ) → IsUser l.network.users (get_or l.tracked.trail.items k d).point e → bit_of l.marks.words.items e ≡ 1)
    × OnTrue l.full ((k : ℕ) (d : Change) → l.changes ≤ k → k < l.number → values_in (get_or l.tracked.words.items (get_or l.tracked.trail.items k d).point []) ≡ [] → ⊥)
