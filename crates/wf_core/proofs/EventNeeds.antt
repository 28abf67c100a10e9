-- The tests of `refusal` say what the events need.
use Rattle.std.proofs.Common.{◌≡◌, ℕ, zero, suc, ◌<◌, Bool, true, false, not, List, [], ◌∷◌, ◌++◌, length, refl, sym, ap, ◌∙◌, ⊎_elim}
use Rattle.std.specs.Prelude.{Option, Some, None, slice_get, nat_lt}
use Rattle.std.specs.List.{list_any}
use Rattle.std.specs.Option.{option_map_or}
use Rattle.std.proofs.lemmas.Option.{none-some, same_Some, slice_get_within}
use Rattle.std.proofs.lemmas.Bool.{false≢true, lt-ltb, ltb-true, eq-eqb, eqb-true, not-true, not_from_false, false_from_ne_true, or_cases, or_left, or_right}
use Rattle.wf_core.specs.declared.event.Status.{Status}
use Rattle.wf_core.specs.declared.event.Status.TheVariants as status
use Rattle.wf_core.specs.declared.event.Event.{Event}
use Rattle.wf_core.specs.declared.event.Event.TheVariants.{Take, Look, Post, Searched, Cut, End}
use Rattle.wf_core.specs.declared.event.Illegal.{Illegal}
use Rattle.wf_core.specs.Core.{State, Is, Saw, IsActive, HoldsNothing, Needs, has_worker, has_branch, is_active, is_held_by, is_taken, is_idle, is_free, holds, has_seen_below, first_failing, tests, refusal}

-- a test of what stands at a place
pub map_or_true : {A : Type 0} (f : A → Bool) (o : Option A) → option_map_or f o false ≡ true → (a : A) × (o ≡ Some a) × (f a ≡ true)
map_or_true f None e = absurd (false≢true e)
map_or_true f (Some a) e = (a, refl, e)

pub map_or_from : {A : Type 0} (f : A → Bool) (o : Option A) (a : A) → o ≡ Some a → f a ≡ true → option_map_or f o false ≡ true
map_or_from f o a e t = ap (λ (x : Option _). option_map_or f x false) e ∙ t

pub held_true : (w : ℕ) (x : Status) → is_held_by w x ≡ true → x ≡ status.Held w
held_true w status.Free e = absurd (false≢true e)
held_true w (status.Held v) e = ap status.Held (eqb-true v w e)
held_true w status.Refuted e = absurd (false≢true e)
held_true w status.Posted e = absurd (false≢true e)
held_true w status.Cut e = absurd (false≢true e)

pub held_here : (w : ℕ) → is_held_by w (status.Held w) ≡ true
held_here w = eq-eqb w w refl

free_true : (x : Status) → not (is_taken x) ≡ true → x ≡ status.Free
free_true status.Free e = refl
free_true (status.Held v) e = absurd (false≢true e)
free_true status.Refuted e = absurd (false≢true e)
free_true status.Posted e = absurd (false≢true e)
free_true status.Cut e = absurd (false≢true e)

pub any_at : (f : Status → Bool) (l : List Status) (i : ℕ) (x : Status) → slice_get l i ≡ Some x → f x ≡ true → list_any f l ≡ true
any_at f [] i x e t = absurd (none-some x e)
any_at f (y ∷ ys) zero x e t = or_left (f y) (list_any f ys) (ap f (same_Some y x e) ∙ t)
any_at f (y ∷ ys) (suc i) x e t = or_right (f y) (list_any f ys) (any_at f ys i x e t)

at_any : (f : Status → Bool) (l : List Status) → list_any f l ≡ true → (i : ℕ) × (x : Status) × (slice_get l i ≡ Some x) × (f x ≡ true)
at_any f [] e = absurd (false≢true e)
at_any f (y ∷ ys) e = ⊎_elim
    (λ (h : f y ≡ true). (0, y, refl, h))
    (λ (h : list_any f ys ≡ true). let r = at_any f ys h in (suc r.0, r.1, r.2, r.3))
    (or_cases (f y) (list_any f ys) e)

pub active_fact : (s : State) (w : ℕ) → is_active s w ≡ true → IsActive s w
active_fact s w e =
    let r = map_or_true not (slice_get s.ended w) e in
    r.1 ∙ ap Some (not-true r.0 r.2)

pub idle_fact : (s : State) (w : ℕ) → is_idle s w ≡ true → HoldsNothing s w
idle_fact s w e i h = false≢true (sym (not-true _ e) ∙ any_at (is_held_by w) s.branches i (status.Held w) h (held_here w))

pub free_fact : (s : State) (i : ℕ) → is_free s i ≡ true → Is s i status.Free
free_fact s i e =
    let r = map_or_true (λ x. not (is_taken x)) (slice_get s.branches i) e in
    r.1 ∙ ap Some (free_true r.0 r.2)

pub holds_fact : (s : State) (w i : ℕ) → holds s w i ≡ true → Is s i (status.Held w)
holds_fact s w i e =
    let r = map_or_true (is_held_by w) (slice_get s.branches i) e in
    r.1 ∙ ap Some (held_true w r.0 r.2)

pub below_fact : (s : State) (w i : ℕ) → has_seen_below s w i ≡ true → (n : ℕ) × Saw s w n × (n < i)
below_fact s w i e =
    let r = map_or_true (λ n. nat_lt n i) (slice_get s.seen w) e in
    (r.0, r.1, ltb-true r.0 i r.2)

pub worker_there : (s : State) (w : ℕ) → IsActive s w → has_worker s w ≡ true
worker_there s w h = lt-ltb w (length s.ended) (slice_get_within s.ended w false h)

pub branch_there : (s : State) (i : ℕ) (x : Status) → Is s i x → has_branch s i ≡ true
branch_there s i x h = lt-ltb i (length s.branches) (slice_get_within s.branches i x h)

pub active_true : (s : State) (w : ℕ) → IsActive s w → is_active s w ≡ true
active_true s w h = map_or_from not (slice_get s.ended w) false h refl

pub idle_true : (s : State) (w : ℕ) → HoldsNothing s w → is_idle s w ≡ true
idle_true s w h = not_from_false _ (false_from_ne_true _ (λ t.
    let r = at_any (is_held_by w) s.branches t in
    h r.0 (r.2 ∙ ap Some (held_true w r.1 r.3))))

pub free_is : (s : State) (i : ℕ) → Is s i status.Free → is_free s i ≡ true
free_is s i h = map_or_from (λ x. not (is_taken x)) (slice_get s.branches i) status.Free h refl

pub holds_true : (s : State) (w i : ℕ) → Is s i (status.Held w) → holds s w i ≡ true
holds_true s w i h = map_or_from (is_held_by w) (slice_get s.branches i) (status.Held w) h (held_here w)

pub below_true : (s : State) (w i n : ℕ) → Saw s w n → n < i → has_seen_below s w i ≡ true
below_true s w i n h lt = map_or_from (λ n. nat_lt n i) (slice_get s.seen w) n h (lt-ltb n i lt)

-- all tests hold
abbrev pub Pass : List (Bool × Illegal) → Type 0
Pass [] = Unit {0}
Pass ((b, _) ∷ rest) = (b ≡ true) × Pass rest

pub pass_from : (ts : List (Bool × Illegal)) → first_failing ts ≡ None → Pass ts
pass_from [] e = tt
pass_from ((true, _) ∷ rest) e = (refl, pass_from rest e)
pass_from ((false, why) ∷ rest) e = absurd (none-some why (sym e))

pub none_fails : (ts : List (Bool × Illegal)) → Pass ts → first_failing ts ≡ None
none_fails [] p = refl
none_fails ((true, _) ∷ rest) p = none_fails rest p.1
none_fails ((false, _) ∷ rest) p = absurd (false≢true p.0)

-- the test after those that hold fails
pub fails_after : (ts : List (Bool × Illegal)) (b : Bool) (why : Illegal) (rest : List (Bool × Illegal)) → Pass ts → b ≡ false → first_failing (ts ++ (b, why) ∷ rest) ≡ Some why
fails_after [] b why rest p e = ap (λ (x : Bool). first_failing ((x, why) ∷ rest)) e
fails_after ((true, _) ∷ ts) b why rest p e = fails_after ts b why rest p.1 e
fails_after ((false, _) ∷ ts) b why rest p e = absurd (false≢true p.0)

pub needed : (s : State) (e : Event) → refusal s e ≡ None → Needs s e
needed s (Take w i) h =
    let p = pass_from (tests s (Take w i)) h in
    (active_fact s w p.1.1.0, idle_fact s w p.1.1.1.0, free_fact s i p.1.1.1.1.0)
needed s (Look w) h = active_fact s w (pass_from (tests s (Look w)) h).1.0
needed s (Post w i) h =
    let p = pass_from (tests s (Post w i)) h in
    (active_fact s w p.1.1.0, holds_fact s w i p.1.1.1.0)
needed s (Searched w i) h =
    let p = pass_from (tests s (Searched w i)) h in
    (active_fact s w p.1.1.0, holds_fact s w i p.1.1.1.0)
needed s (Cut w i) h =
    let p = pass_from (tests s (Cut w i)) h in
    (active_fact s w p.1.1.0, holds_fact s w i p.1.1.1.0, below_fact s w i p.1.1.1.1.0)
needed s (End w) h =
    let p = pass_from (tests s (End w)) h in
    (active_fact s w p.1.0, idle_fact s w p.1.1.0)

pub allowed : (s : State) (e : Event) → Needs s e → refusal s e ≡ None
allowed s (Take w i) n =
    none_fails (tests s (Take w i)) (worker_there s w n.0, (branch_there s i _ n.2, (active_true s w n.0, (idle_true s w n.1, (free_is s i n.2, tt)))))
allowed s (Look w) n = none_fails (tests s (Look w)) (worker_there s w n, (active_true s w n, tt))
allowed s (Post w i) n =
    none_fails (tests s (Post w i)) (worker_there s w n.0, (branch_there s i _ n.1, (active_true s w n.0, (holds_true s w i n.1, tt))))
allowed s (Searched w i) n =
    none_fails (tests s (Searched w i)) (worker_there s w n.0, (branch_there s i _ n.1, (active_true s w n.0, (holds_true s w i n.1, tt))))
allowed s (Cut w i) n =
    none_fails (tests s (Cut w i))
    (worker_there s w n.0, (branch_there s i _ n.1, (active_true s w n.0, (holds_true s w i n.1, (below_true s w i n.2.0 n.2.1 n.2.2, tt)))))
allowed s (End w) n = none_fails (tests s (End w)) (worker_there s w n.0, (active_true s w n.0, (idle_true s w n.1, tt)))
