-- Who holds a branch, by the events and by the statuses.
use Rattle.std.proofs.Common.{◌≡◌, ◌≢◌, ◌⊎◌, ℕ, List, [], ◌∷◌, set, sym, ap, ◌∙◌, subst, ⊎_elim, inl, inr}
use Rattle.std.specs.Prelude.{All, Some, slice_get}
use Rattle.std.proofs.lemmas.Option.{same_Some}
use Rattle.std.proofs.lemmas.List.Elements.{All-nil, All-cons, All-head, All-tail}
use Rattle.wf_core.specs.declared.event.Status.{Status}
use Rattle.wf_core.specs.declared.event.Status.TheVariants as status
use Rattle.wf_core.specs.declared.event.Event.{Event}
use Rattle.wf_core.specs.declared.event.Event.TheVariants.{Take, Look, Post, Searched, Cut, End}
use Rattle.wf_core.specs.Core.{State, Is, HoldsNothing, Step, Run, start}
use Rattle.wf_core.specs.Laws.{Settles, Holds, HeldIsHeld, OneWorker, OneBranch}
use Rattle.wf_core.proofs.Lists.{set_at, set_else, at_set, at_replicate}
use Rattle.wf_core.proofs.Runs.{run_split}

held_same : (v w : ℕ) → status.Held v ≡ status.Held w → v ≡ w
held_same v w e = cc

-- a branch that is held stays held where another becomes something else
held_else : (bs : List Status) (w i j : ℕ) (now : Status) → j ≢ i → slice_get bs i ≡ Some (status.Held w) → slice_get (set bs j now) i ≡ Some (status.Held w)
held_else bs w i j now ne h = set_else bs j i now (λ e. ne (sym e)) ∙ h

-- and so does it where the worker that settles a branch is not the one that
-- holds it, or the branch is another
held_past : (bs : List Status) (v w i j : ℕ) (now : Status) → slice_get bs j ≡ Some (status.Held v) → slice_get bs i ≡ Some (status.Held w) → ¬ ((v ≡ w) × (j ≡ i))
    → slice_get (set bs j now) i ≡ Some (status.Held w)
held_past bs v w i j now there here apart =
    held_else bs w i j now
    (λ e. apart (held_same v w (same_Some (status.Held v) (status.Held w) (sym there ∙ (ap (slice_get bs) e ∙ here))), e)) here

held_on : (s : State) (e : Event) (t : State) (w i : ℕ) → Step s e t → Is s i (status.Held w) → ¬ (Settles e w i) → Is t i (status.Held w)
held_on s (Take v j) t w i step h settles = ap (λ (x : State). slice_get x.branches i) step.1
    ∙ held_else s.branches w i j (status.Held v) (λ e. free_not_held (same_Some status.Free (status.Held w) (sym step.0.2 ∙ (ap (slice_get s.branches) e ∙ h)))) h where
      free_not_held : ¬ (status.Free ≡ status.Held w)
      free_not_held e = cc
held_on s (Look v) t w i step h settles = ap (λ (x : State). slice_get x.branches i) step.1 ∙ h
held_on s (Post v j) t w i step h settles = ap (λ (x : State). slice_get x.branches i) step.1
    ∙ held_past s.branches v w i j status.Posted step.0.1 h (λ e. settles (inl (λ k. Post (e.0 k) (e.1 k))))
held_on s (Searched v j) t w i step h settles = ap (λ (x : State). slice_get x.branches i) step.1
    ∙ held_past s.branches v w i j status.Refuted step.0.1 h (λ e. settles (inr (inl (λ k. Searched (e.0 k) (e.1 k)))))
held_on s (Cut v j) t w i step h settles = ap (λ (x : State). slice_get x.branches i) step.1
    ∙ held_past s.branches v w i j status.Cut step.0.1 h (λ e. settles (inr (inr (λ k. Cut (e.0 k) (e.1 k)))))
held_on s (End v) t w i step h settles = ap (λ (x : State). slice_get x.branches i) step.1 ∙ h

held_along : (s : State) (es : List Event) (t : State) (w i : ℕ) → Run s es t → Is s i (status.Held w) → All (λ e. ¬ (Settles e w i)) es → Is t i (status.Held w)
held_along s [] t w i r h all = ap (λ (x : State). slice_get x.branches i) r ∙ h
held_along s (e ∷ es) t w i r h all =
    held_along r.0 es t w i r.2 (held_on s e r.0 w i r.1 h (All-head (λ x. ¬ (Settles x w i)) e es all)) (All-tail (λ x. ¬ (Settles x w i)) e es all)

held_after : (s : State) (es : List Event) (t : State) (w i : ℕ) → Run s es t → Holds es w i → Is t i (status.Held w)
held_after s es t w i r h =
    let parts = run_split s t h.0 (Take w i ∷ h.1) (subst (λ (l : List Event). Run s l t) h.2 r) in
    let step = parts.2.1 in
    let now = ap (λ (x : State). slice_get x.branches i) step.1 ∙ set_at parts.0.branches i status.Free (status.Held w) step.0.2 in
    held_along parts.2.0 h.1 t w i parts.2.2 now h.3

not_settled : (e : Event) (w i : ℕ) → ¬ (e ≡ Post w i) → ¬ (e ≡ Searched w i) → ¬ (e ≡ Cut w i) → ¬ (Settles e w i)
not_settled e w i a b c h = ⊎_elim a (λ (k : (e ≡ Searched w i) ⊎ (e ≡ Cut w i)). ⊎_elim b c k) h

-- a branch that a step leaves held was taken by it, or was held before
held_before : (s : State) (e : Event) (t : State) (w i : ℕ) → Step s e t → Is t i (status.Held w) → (e ≡ Take w i) ⊎ (Is s i (status.Held w) × ¬ (Settles e w i))
held_before s (Take v j) t w i step h =
    let at = sym (ap (λ (x : State). slice_get x.branches i) step.1) ∙ h in
    ⊎_elim
    (λ (k : (i ≡ j) × (status.Held v ≡ status.Held w)). inl (let e = held_same v w k.1 in λ x. Take (e x) (sym k.0 x)))
    (λ (k : (i ≢ j) × Is s i (status.Held w)). inr (k.1, not_settled (Take v j) w i (λ e. cc) (λ e. cc) (λ e. cc)))
    (at_set s.branches j i (status.Held v) (status.Held w) at)
held_before s (Look v) t w i step h =
    inr (sym (ap (λ (x : State). slice_get x.branches i) step.1) ∙ h, not_settled (Look v) w i (λ e. cc) (λ e. cc) (λ e. cc))
held_before s (Post v j) t w i step h =
    let at = sym (ap (λ (x : State). slice_get x.branches i) step.1) ∙ h in
    ⊎_elim
    (λ (k : (i ≡ j) × (status.Posted ≡ status.Held w)). absurd (let e = k.1 in cc))
    (λ (k : (i ≢ j) × Is s i (status.Held w)). inr (k.1, not_settled (Post v j) w i (λ e. k.0 (sym (post_branch v j w i e))) (λ e. cc) (λ e. cc)))
    (at_set s.branches j i status.Posted (status.Held w) at) where
      post_branch : (v j w i : ℕ) → Post v j ≡ Post w i → j ≡ i
      post_branch v j w i e = cc
held_before s (Searched v j) t w i step h =
    let at = sym (ap (λ (x : State). slice_get x.branches i) step.1) ∙ h in
    ⊎_elim
    (λ (k : (i ≡ j) × (status.Refuted ≡ status.Held w)). absurd (let e = k.1 in cc))
    (λ (k : (i ≢ j) × Is s i (status.Held w)). inr (k.1, not_settled (Searched v j) w i (λ e. cc) (λ e. k.0 (sym (searched_branch v j w i e))) (λ e. cc)))
    (at_set s.branches j i status.Refuted (status.Held w) at) where
      searched_branch : (v j w i : ℕ) → Searched v j ≡ Searched w i → j ≡ i
      searched_branch v j w i e = cc
held_before s (Cut v j) t w i step h =
    let at = sym (ap (λ (x : State). slice_get x.branches i) step.1) ∙ h in
    ⊎_elim
    (λ (k : (i ≡ j) × (status.Cut ≡ status.Held w)). absurd (let e = k.1 in cc))
    (λ (k : (i ≢ j) × Is s i (status.Held w)). inr (k.1, not_settled (Cut v j) w i (λ e. cc) (λ e. cc) (λ e. k.0 (sym (cut_branch v j w i e)))))
    (at_set s.branches j i status.Cut (status.Held w) at) where
      cut_branch : (v j w i : ℕ) → Cut v j ≡ Cut w i → j ≡ i
      cut_branch v j w i e = cc
held_before s (End v) t w i step h =
    inr (sym (ap (λ (x : State). slice_get x.branches i) step.1) ∙ h, not_settled (End v) w i (λ e. cc) (λ e. cc) (λ e. cc))

held_since : (s : State) (es : List Event) (t : State) (w i : ℕ) → Run s es t → Is t i (status.Held w) → Holds es w i ⊎ (Is s i (status.Held w) × All (λ e. ¬ (Settles e w i)) es)
held_since s [] t w i r h = inr (sym (ap (λ (x : State). slice_get x.branches i) r) ∙ h, All-nil (λ e. ¬ (Settles e w i)))
held_since s (e ∷ es) t w i r h = ⊎_elim
    (λ (k : Holds es w i). inl (e ∷ k.0, k.1, ap (λ (l : List Event). e ∷ l) k.2, k.3))
    (λ (k : Is r.0 i (status.Held w) × All (λ x. ¬ (Settles x w i)) es). ⊎_elim
    (λ (is : e ≡ Take w i). inl ([], es, ap (λ (x : Event). x ∷ es) is, k.1))
    (λ (b : Is s i (status.Held w) × ¬ (Settles e w i)). inr (b.0, All-cons (λ x. ¬ (Settles x w i)) e es b.1 k.1))
    (held_before s e r.0 w i r.1 k.0))
    (held_since r.0 es t w i r.2 h)

free_at_start : (b n w i : ℕ) → ¬ (Is (start b n) i (status.Held w))
free_at_start b n w i h = let e = at_replicate b status.Free (status.Held w) i h in cc

pub held_is_held : HeldIsHeld
held_is_held b n es s r w i = (
  held_after (start b n) es s w i r,
  (λ h. ⊎_elim
      (λ (k : Holds es w i). k)
      (λ (k : Is (start b n) i (status.Held w) × All (λ e. ¬ (Settles e w i)) es). absurd (free_at_start b n w i k.0))
      (held_since (start b n) es s w i r h)),
)

pub one_worker : OneWorker
one_worker b n es s r v w i one other =
    let a = held_after (start b n) es s v i r one in
    let c = held_after (start b n) es s w i r other in
    held_same v w (same_Some (status.Held v) (status.Held w) (sym a ∙ c))

-- no worker holds two branches
abbrev HoldsOne : State → Type 0
HoldsOne s = (w i j : ℕ) → Is s i (status.Held w) → Is s j (status.Held w) → i ≡ j

one_step : (s : State) (e : Event) (t : State) → HoldsOne s → Step s e t → HoldsOne t
one_step s e t one step w i j hi hj = ⊎_elim
    (λ (a : e ≡ Take w i). ⊎_elim
    (λ (b : e ≡ Take w j). same_branch (sym a ∙ b))
    (λ (b : Is s j (status.Held w) × ¬ (Settles e w j)). absurd (idle i a j b.0))
    (held_before s e t w j step hj))
    (λ (a : Is s i (status.Held w) × ¬ (Settles e w i)). ⊎_elim
    (λ (b : e ≡ Take w j). absurd (idle j b i a.0))
    (λ (b : Is s j (status.Held w) × ¬ (Settles e w j)). one w i j a.0 b.0)
    (held_before s e t w j step hj))
    (held_before s e t w i step hi) where
      idle : (k : ℕ) → e ≡ Take w k → HoldsNothing s w
      idle k q = (subst (λ (x : Event). Step s x t) q step).0.1

      same_branch : Take w i ≡ Take w j → i ≡ j
      same_branch q = cc

one_run : (s : State) (es : List Event) (t : State) → HoldsOne s → Run s es t → HoldsOne t
one_run s [] t one r = subst HoldsOne (sym r) one
one_run s (e ∷ es) t one r = one_run r.0 es t (one_step s e r.0 one r.1) r.2

pub one_branch : OneBranch
one_branch b n es s r w i j hi hj =
    one_run (start b n) es s (λ v k l h _. absurd (free_at_start b n v k h)) r w i j
    (held_after (start b n) es s w i r hi) (held_after (start b n) es s w j r hj)
