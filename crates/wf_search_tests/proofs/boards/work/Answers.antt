use Rattle.std.proofs.Common.{rules, ◌≡◌, ◌≢◌, ℕ, ◌+◌, ◌*◌, ◌%◌, ◌<◌, List, length, set, get_or, arith, sym, ◌∙◌, subst, length-set}
use Rattle.std.proofs.lemmas.List.{get_or-set_same, get_or-set_other}
use mathlib.Core.Logic.{dite}
use native.Mathlib.Decide.{ℕ_discrete}
use Rattle.wf_core.specs.declared.event.Status.{Status}
use Rattle.wf_core.specs.declared.event.Status.TheVariants.{Free}
use Rattle.wf_core.specs.Count.{times}
use Rattle.wf_board.specs.Desk.{Desk, settled}
use Rattle.wf_search_tests.proofs.boards.work.Goals as goal

-- the branch that was settled is free no more
fresh_after : (statuses : List Status) (b : ℕ) (r : Status) (old new : Desk) → b < length statuses → ¬ (r ≡ Free)
    → ((x : ℕ) → x < 64 → get_or statuses x Free ≡ Free → times x (settled old) ≡ 0)
    → ((x : ℕ) → ¬ (x ≡ b) → times x (settled new) ≡ times x (settled old))
    → (x : ℕ) → x < 64 → get_or (set statuses b r) x Free ≡ Free → times x (settled new) ≡ 0
fresh_after statuses b r old new inside settled_now fresh others x lt free = dite (ℕ_discrete x b)
    (λ (e : x ≡ b). absurd (settled_now (sym (get_or-set_same statuses b r Free inside) ∙ subst (λ (k : ℕ). get_or (set statuses b r) k Free ≡ Free) e free)))
    (λ (ne : x ≢ b). others x ne ∙ fresh x lt (sym (get_or-set_other statuses b x r Free ne) ∙ free))

pub settle-requires-clause-branch : goal.settle-requires-clause-branch
settle-requires-clause-branch c =
    let inside : (5 * c.loop-turn.turn + 3) % 16 * 4 + c.args.job.worker < 64 = omega arith in
    (search rules, c.loop-turn.invariant.fresh _ inside (search rules))

pub loop-turn-preserved : goal.loop-turn-preserved
loop-turn-preserved c =
    let h = c.loop-turn.invariant in
    let b = (5 * c.loop-turn.turn + 3) % 16 * 4 + c.args.job.worker in
    let size = h.size in
    let inside : b < length c.loop-turn.statuses = omega arith in
    let e = c.settle.ensures in
    record {
      size = length-set c.loop-turn.statuses b c.settle.result ∙ h.size;
      table = e.seat.0 ∙ h.table;
      branches = e.seat.1 ∙ h.branches;
      fresh = fresh_after c.loop-turn.statuses b c.settle.result c.loop-turn.seat c.settle.new.seat inside e.status h.fresh e.settled;
    }
