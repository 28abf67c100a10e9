use Rattle.std.proofs.Common.{◌≡◌, ℕ, ◌<◌, ◌≤◌, ◌+◌, get_or, length, [], arith, ap, sym, ◌∙◌, subst, ⊎_elim}
use Rattle.std.specs.Bool.{OnTrue}
use Rattle.std.proofs.lemmas.Bool.{cases_lt}
use Rattle.std.proofs.lemmas.List.{get_or_default, get_or_read}
use Rattle.wf_base.specs.Set.Sets.{values_in}
use Rattle.wf_network.specs.Users.{IsUser}
use Rattle.wf_box.specs.declared.tracked.Change.{Change}
use Rattle.wf_box.proofs.TakingLemmas.{some_value}
use Rattle.wf_box.proofs.QuietLemmas.{on_true, stays_marked, unchanged, user_marked}
use Rattle.wf_box.proofs.closing.mark_changed.Goals.{then-is_empty, else-is_empty}
use Rattle.wf_box.proofs.closing.mark_changed.Goals as goal

pub returns-clause-untouched : goal.returns-clause-untouched
returns-clause-untouched c = λ e none v user.
    unchanged c.args.changes c.args.tracked.now.trail.items c.args.tracked.now.words.items v c.requires.changes
    (λ k d after before same. absurd (let bad : ⊥ = omega (arith, none, c.loop-number.invariant.1 k d after (omega (arith, before, c.loop-number-test.false, c.len-number-end.ensures, c.args.tracked.now.trail.ok.0)) e (subst (λ u. IsUser c.args.network.now.users u e) (sym same) user)) in bad))

pub returns-clause-full : goal.returns-clause-full
returns-clause-full c =
    on_true c.loop-number.full _ _
    (λ some v none.
    ap values_in (unchanged c.args.changes c.args.tracked.now.trail.items c.args.tracked.now.words.items v c.requires.changes
    (λ k d after before same. some k d after (omega (arith, before, c.loop-number-test.false, c.len-number-end.ensures, c.args.tracked.now.trail.ok.0)) (ap (λ u. values_in (get_or c.args.tracked.now.words.items u [])) same ∙ none))) ∙ none)
    c.loop-number.invariant.2

full_on : (c : goal.Joined-is_empty) → ((d : Change) → get_or c.args.tracked.now.trail.items c.loop-number.number d ≡ c.index.result.now)
    → OnTrue c.if-is_empty.full ((k : ℕ) (d : Change) → c.args.changes ≤ k → k < c.loop-number.number + 1 → values_in (get_or c.args.tracked.now.words.items (get_or c.args.tracked.now.trail.items k d).point []) ≡ [] → ⊥)
full_on c here =
    elim c.if-is_empty.branch [
      | then-is_empty w ↦ rw w.full-is tt
      | else-is_empty w ↦
          rw w.full-is (on_true c.loop-number.full _ _
          (λ some k d after before none. ⊎_elim
          (λ (earlier : k < c.loop-number.number). some k d after earlier none)
          (λ (last : c.loop-number.number ≤ k).
          let same : k ≡ c.loop-number.number = omega (arith, last, before) in
          let point : get_or c.args.tracked.now.trail.items k d ≡ c.index.result.now = ap (λ n. get_or c.args.tracked.now.trail.items n d) same ∙ here d in
          let within : c.index.result.now.point < length c.args.tracked.now.words.items = subst (λ (x : Change). x.point < length c.args.tracked.now.words.items) (here d) (c.requires.kept.within c.loop-number.number d (omega (arith, c.loop-number-test.true, c.len-number-end.ensures, c.args.tracked.now.trail.ok.0))) in
          let read = get_or_read c.args.tracked.now.words.items c.index.result.now.point c.index-in-loop-number.result.now within c.index-in-loop-number.ensures [] in
          let gone : values_in c.index-in-loop-number.result.now ≡ [] = ap values_in (read ∙ ap (λ (x : Change). get_or c.args.tracked.now.words.items x.point []) (sym point)) ∙ none in
          some_value c.index-in-loop-number.result.now (w.if-is_empty.ensures) gone)
          (cases_lt k c.loop-number.number)) c.loop-number.invariant.2)
    ]

pub loop-number-preserved : goal.loop-number-preserved
loop-number-preserved c =
    let here : (d : Change) → get_or c.args.tracked.now.trail.items c.loop-number.number d ≡ c.index.result.now = λ d. get_or_default c.args.tracked.now.trail.items c.loop-number.number d c.index.result.now (omega (arith, c.loop-number-test.true, c.len-number-end.ensures, c.args.tracked.now.trail.ok.0)) ∙ sym c.index.ensures in (
      c.mark_each.ensures.long ∙ c.loop-number.invariant.0,
      λ k d after before e user. ⊎_elim
          (λ (earlier : k < c.loop-number.number). stays_marked c.loop-number.marks.words.items c.mark_each.new.self.words.items e c.mark_each.ensures.kept (c.loop-number.invariant.1 k d after earlier e user))
          (λ (last : c.loop-number.number ≤ k).
          let same : k ≡ c.loop-number.number = omega (arith, last, before) in
          user_marked c.args.network.now.users c.index.result.now.point e c.executions_of.result.now c.mark_each.new.self.words.items c.executions_of.ensures.users c.mark_each.ensures.marked
          (subst (λ (x : Change). IsUser c.args.network.now.users x.point e) (ap (λ n. get_or c.args.tracked.now.trail.items n d) same ∙ here d) user)) (cases_lt k c.loop-number.number),
      full_on c here,
    )
