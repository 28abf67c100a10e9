-- The field that names a worker's branch, after each write.
use Rattle.std.proofs.Common.{◌≡◌, ◌≢◌, ℕ, List, set, sym, ap, ◌∙◌, subst, ⊎_elim}
use Rattle.std.specs.Prelude.{Some, None, slice_get}
use Rattle.std.specs.Option.{option_and_then}
use Rattle.std.proofs.lemmas.Option.{none-some, same_Some}
use mathlib.Core.Logic.{dite}
use native.Mathlib.Decide.{ℕ_discrete}
use Rattle.wf_core.specs.declared.event.Status.{Status}
use Rattle.wf_core.specs.declared.event.Status.TheVariants.{Free, Held}
use Rattle.wf_core.specs.declared.machine.WorkerState.{WorkerState}
use Rattle.wf_core.specs.Fields.{holding, IsTied}
use Rattle.wf_core.proofs.Lists.{set_at, set_else, at_set}

held_same : (v w : ℕ) → Held v ≡ Held w → v ≡ w
held_same v w e = cc

holding_here : (ws : List WorkerState) (w : ℕ) (k k' : WorkerState) → slice_get ws w ≡ Some k → holding (set ws w k') w ≡ k'.holds
holding_here ws w k k' at = ap (option_and_then (λ x. x.holds)) (set_at ws w k k' at)

holding_else : (ws : List WorkerState) (w v : ℕ) (k' : WorkerState) → v ≢ w → holding (set ws w k') v ≡ holding ws v
holding_else ws w v k' ne = ap (option_and_then (λ x. x.holds)) (set_else ws w v k' ne)

-- a worker that holds nothing takes a free branch
pub take_ties : (bs : List Status) (ws : List WorkerState) (w i : ℕ) (k k' : WorkerState) → IsTied bs ws → slice_get ws w ≡ Some k → k'.holds ≡ Some i
    → ((j : ℕ) → ¬ (slice_get bs j ≡ Some (Held w))) → slice_get bs i ≡ Some Free → IsTied (set bs i (Held w)) (set ws w k')
take_ties bs ws w i k k' t at names idle free = record {
  held = λ v j h. ⊎_elim
      (λ (e : (j ≡ i) × (Held w ≡ Held v)).
      subst (λ (x : ℕ). holding (set ws w k') x ≡ Some j) (held_same w v e.1) (holding_here ws w k k' at ∙ (names ∙ ap Some (sym e.0))))
      (λ (e : (j ≢ i) × (slice_get bs j ≡ Some (Held v))).
      holding_else ws w v k' (λ same. idle j (subst (λ (x : ℕ). slice_get bs j ≡ Some (Held x)) same e.1)) ∙ t.held v j e.1)
      (at_set bs i j (Held w) (Held v) h);
  named = λ v j h. dite (ℕ_discrete v w)
      (λ (e : v ≡ w).
      let h' : holding (set ws w k') w ≡ Some j = subst (λ (x : ℕ). holding (set ws w k') x ≡ Some j) e h in
      let same : i ≡ j = same_Some i j (sym names ∙ (sym (holding_here ws w k k' at) ∙ h')) in
      subst (λ (x : ℕ). slice_get (set bs i (Held w)) x ≡ Some (Held v)) same (set_at bs i Free (Held w) free ∙ ap (λ (x : ℕ). Some (Held x)) (sym e)))
      (λ (ne : v ≢ w).
      let there = t.named v j (sym (holding_else ws w v k' ne) ∙ h) in
      let apart : j ≢ i = λ e. free_not_held v (same_Some Free (Held v) (sym free ∙ subst (λ (x : ℕ). slice_get bs x ≡ Some (Held v)) e there)) in
      set_else bs i j (Held w) apart ∙ there);
} where
  free_not_held : (v : ℕ) → ¬ (Free ≡ Held v)
  free_not_held v e = cc

-- a worker settles the branch that it holds
pub settle_ties : (bs : List Status) (ws : List WorkerState) (w i : ℕ) (k k' : WorkerState) (now : Status) → IsTied bs ws → slice_get ws w ≡ Some k → k'.holds ≡ None
    → slice_get bs i ≡ Some (Held w) → ((v : ℕ) → ¬ (now ≡ Held v)) → IsTied (set bs i now) (set ws w k')
settle_ties bs ws w i k k' now t at none mine settled = record {
  held = λ v j h. ⊎_elim
      (λ (e : (j ≡ i) × (now ≡ Held v)). absurd (settled v e.1))
      (λ (e : (j ≢ i) × (slice_get bs j ≡ Some (Held v))).
      let apart : v ≢ w = λ same. e.0 (same_Some j i (sym (t.held v j e.1) ∙ (ap (holding ws) same ∙ t.held w i mine))) in
      holding_else ws w v k' apart ∙ t.held v j e.1)
      (at_set bs i j now (Held v) h);
  named = λ v j h. dite (ℕ_discrete v w)
      (λ (e : v ≡ w). absurd (none-some j (sym none ∙ (sym (holding_here ws w k k' at) ∙ subst (λ (x : ℕ). holding (set ws w k') x ≡ Some j) e h))))
      (λ (ne : v ≢ w).
      let there = t.named v j (sym (holding_else ws w v k' ne) ∙ h) in
      let apart : j ≢ i = λ e. ne (held_same v w (same_Some (Held v) (Held w) (sym there ∙ (ap (slice_get bs) e ∙ mine)))) in
      set_else bs i j now apart ∙ there);
}

-- a worker goes on holding what it holds
pub same_ties : (bs : List Status) (ws : List WorkerState) (w : ℕ) (k k' : WorkerState) → IsTied bs ws → slice_get ws w ≡ Some k → k'.holds ≡ k.holds → IsTied bs (set ws w k')
same_ties bs ws w k k' t at same = record {
  held = λ v j h. same_at v ∙ t.held v j h;
  named = λ v j h. t.named v j (sym (same_at v) ∙ h);
} where
  same_at : (v : ℕ) → holding (set ws w k') v ≡ holding ws v
  same_at v = dite (ℕ_discrete v w)
      (λ (e : v ≡ w). ap (holding (set ws w k')) e ∙ (holding_here ws w k k' at ∙ (same ∙ sym (ap (holding ws) e ∙ ap (option_and_then (λ x. x.holds)) at))))
      (λ (ne : v ≢ w). holding_else ws w v k' ne)
