-- Runs of joined lists, and of a list's beginning.
use Rattle.std.proofs.Common.{◌≡◌, ◌⊎◌, ⊎_elim, inl, inr, ℕ, zero, suc, ◌+◌, ◌<◌, List, [], ◌∷◌, ◌++◌, length, take, get_or, refl, sym, ap, ◌∙◌, subst, arith, min, length-set}
use Rattle.std.specs.Prelude.{◌↔◌, Option, Some, None, slice_get}
use Rattle.std.proofs.lemmas.Option.{same_Some, none-some, slice_get-get_or}
use Rattle.wf_core.specs.declared.event.Status.TheVariants.{Held, Refuted, Posted, Cut as WasCut}
use Rattle.wf_core.specs.declared.event.Event.{Event}
use Rattle.wf_core.specs.declared.event.Event.TheVariants.{Take, Look, Post, Searched, Cut, End}
use Rattle.wf_core.specs.declared.event.Illegal.{Illegal}
use Rattle.wf_core.specs.Core.{State, Step, Run, after, refusal, IsFirstIllegal}
use Rattle.wf_core.proofs.Lists.{take_next}
use Rattle.wf_core.proofs.EventNeeds.{needed, allowed}

pub run-append : (s t u : State) (xs ys : List Event) → Run s xs t → Run t ys u → Run s (xs ++ ys) u
run-append s t u [] ys r q = subst (λ (x : State). Run x ys u) r q
run-append s t u (e ∷ xs) ys r q = (r.0, r.1, run-append r.0 t u xs ys r.2 q)

pub run_more : (s t u : State) (es : List Event) (i : ℕ) (e : Event) → Run s (take i es) t → slice_get es i ≡ Some e → Step t e u → Run s (take (i + 1) es) u
run_more s t u es i e r at step =
    let next : i + 1 ≡ suc i = omega arith in
    subst (λ (n : ℕ). Run s (take n es) u) (sym next)
    (subst (λ (l : List Event). Run s l u) (sym (take_next es i e at)) (run-append s t u (take i es) (e ∷ []) r (u, step, refl)))

pub run_at : (s t u : State) (es : List Event) (i : ℕ) (d : Event) → Run s (take i es) t → i < length es → Step t (get_or es i d) u → Run s (take (i + 1) es) u
run_at s t u es i d r inside step = run_more s t u es i (get_or es i d) r (slice_get-get_or es i d inside) step

pub run_split : (s u : State) (xs ys : List Event) → Run s (xs ++ ys) u → (t : State) × Run s xs t × Run t ys u
run_split s u [] ys r = (s, refl, r)
run_split s u (e ∷ xs) ys r = let m = run_split r.0 u xs ys r.2 in (m.0, (r.0, r.1, m.1), m.2)

pub step_one : (s t u : State) (e : Event) → Step s e t → Step s e u → t ≡ u
step_one s t u e a b = a.1 ∙ sym b.1

pub run_one : (s t u : State) (es : List Event) → Run s es t → Run s es u → t ≡ u
run_one s t u [] r q = r ∙ sym q
run_one s t u (e ∷ es) r q = run_one r.0 t u es r.2 (subst (λ (m : State). Run m es u) (step_one s q.0 r.0 e q.1 r.1) q.2)

pub legal_event : (s : State) (e : Event) → (refusal s e ≡ None) ↔ ((t : State) × Step s e t)
legal_event s e = ((λ h. (after s e, (needed s e h, refl))), (λ h. allowed s e h.1.0))

abbrev RunsOrStops : State → List Event → Type 0
RunsOrStops s es = ((t : State) × Run s es t) ⊎ ((at : ℕ) × (why : Illegal) × IsFirstIllegal s es at why)

after_first : (s : State) (e : Event) (es : List Event) (o : Option Illegal) → refusal s e ≡ o → RunsOrStops (after s e) es → RunsOrStops s (e ∷ es)
after_first s e es None h rest = ⊎_elim
    (λ (r : (t : State) × Run (after s e) es t). inl (r.0, (after s e, (needed s e h, refl), r.1)))
    (λ (f : (at : ℕ) × (why : Illegal) × IsFirstIllegal (after s e) es at why).
    let lt = f.2.0 in let g = f.2.1 in
    inr (suc f.0, f.1, (omega arith, (g.0, g.1, (after s e, (needed s e h, refl), g.2), g.3, g.4))))
    rest
after_first s e es (Some why) h rest = inr (0, why, (omega arith, (s, e, refl, refl, h)))

-- a list runs to its end, or stops at an illegal event
pub runs_or_stops : (s : State) (es : List Event) → ((t : State) × Run s es t) ⊎ ((at : ℕ) × (why : Illegal) × IsFirstIllegal s es at why)
runs_or_stops s [] = inl (s, refl)
runs_or_stops s (e ∷ es) = after_first s e es (refusal s e) refl (runs_or_stops (after s e) es)

legal_or_refused : (s t : State) (e : Event) (why : Illegal) → Step s e t → ¬ (refusal s e ≡ Some why)
legal_or_refused s t e why step h = none-some why (sym (allowed s e step.0) ∙ h)

pub runs_not_both : (s t : State) (es : List Event) (at : ℕ) (why : Illegal) → Run s es t → ¬ (IsFirstIllegal s es at why)
runs_not_both s t [] at why r h = none-some h.1.1 h.1.3
runs_not_both s t (e ∷ es) zero why r h =
    legal_or_refused s r.0 e why r.1 (ap (λ (x : State). refusal x e) (sym h.1.2) ∙ (ap (refusal h.1.0) (same_Some e h.1.1 h.1.3) ∙ h.1.4))
runs_not_both s t (e ∷ es) (suc at) why r h =
    let first = h.1.2 in
    let lt = h.0 in
    runs_not_both r.0 t es at why r.2
    (omega arith, (h.1.0, h.1.1, subst (λ (m : State). Run m (take at es) h.1.0) (step_one s first.0 r.0 e first.1 r.1) first.2, h.1.3, h.1.4))

pub one_place : (s : State) (es : List Event) (i j : ℕ) (why because : Illegal) → IsFirstIllegal s es i why → IsFirstIllegal s es j because → (i ≡ j) × (why ≡ because)
one_place s [] i j why because a b = absurd (none-some a.1.1 a.1.3)
one_place s (e ∷ es) zero zero why because a b =
    let refused : refusal s e ≡ Some why = ap (λ (x : State). refusal x e) (sym a.1.2) ∙ (ap (refusal a.1.0) (same_Some e a.1.1 a.1.3) ∙ a.1.4) in
    let other : refusal s e ≡ Some because = ap (λ (x : State). refusal x e) (sym b.1.2) ∙ (ap (refusal b.1.0) (same_Some e b.1.1 b.1.3) ∙ b.1.4) in
    (refl, same_Some why because (sym refused ∙ other))
one_place s (e ∷ es) zero (suc j) why because a b = absurd (legal_or_refused s b.1.2.0 e why b.1.2.1
    (ap (λ (x : State). refusal x e) (sym a.1.2) ∙ (ap (refusal a.1.0) (same_Some e a.1.1 a.1.3) ∙ a.1.4)))
one_place s (e ∷ es) (suc i) zero why because a b = absurd (legal_or_refused s a.1.2.0 e because a.1.2.1
    (ap (λ (x : State). refusal x e) (sym b.1.2) ∙ (ap (refusal b.1.0) (same_Some e b.1.1 b.1.3) ∙ b.1.4)))
one_place s (e ∷ es) (suc i) (suc j) why because a b =
    let m = a.1.2.0 in
    let n = b.1.2 in
    let la = a.0 in
    let lb = b.0 in
    let rest = one_place m es i j why because
    (omega arith, (a.1.0, a.1.1, a.1.2.2, a.1.3, a.1.4))
    (omega arith, (b.1.0, b.1.1, subst (λ (x : State). Run x (take j es) b.1.0) (step_one s n.0 m e n.1 a.1.2.1) n.2, b.1.3, b.1.4)) in
    (ap suc rest.0, rest.1)

-- a step leaves as many branches and workers
pub record SameSizes (s t : State) : Type 0 where
  pub branches : length t.branches ≡ length s.branches
  pub seen : length t.seen ≡ length s.seen

pub sizes_step : (s : State) (e : Event) → SameSizes s (after s e)
sizes_step s (Take w i) = record { branches = length-set s.branches i (Held w); seen = refl }
sizes_step s (Look w) = record { branches = refl; seen = length-set s.seen w s.least }
sizes_step s (Post w i) = record { branches = length-set s.branches i Posted; seen = length-set s.seen w (min s.least i) }
sizes_step s (Searched w i) = record { branches = length-set s.branches i Refuted; seen = refl }
sizes_step s (Cut w i) = record { branches = length-set s.branches i WasCut; seen = refl }
sizes_step s (End w) = record { branches = refl; seen = refl }

pub sizes_run : (s t : State) (es : List Event) → Run s es t → SameSizes s t
sizes_run s t [] r = subst (SameSizes s) (sym r) (record { branches = refl; seen = refl })
sizes_run s t (e ∷ es) r =
    let one = subst (SameSizes s) (sym r.1.1) (sizes_step s e) in
    let rest = sizes_run r.0 t es r.2 in
    record { branches = rest.branches ∙ one.branches; seen = rest.seen ∙ one.seen }
