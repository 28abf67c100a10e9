-- Each step of the board is an event of the pool.
use Rattle.std.proofs.Common.{◌≡◌, ◌≢◌, ◌⊎◌, ℕ, zero, suc, ◌+◌, min, List, [], ◌∷◌, ◌++◌, set, replicate, slice_index, slice_set, refl, sym, ap, ◌∙◌, subst, ⊎_elim, arith, inl, inr}
use Rattle.std.specs.Prelude.{Contains, Some, slice_get}
use Rattle.std.proofs.lemmas.List.Elements.{Contains-push, Contains-push_cases, Contains-append_left}
use Rattle.std.proofs.lemmas.Option.{same_Some}
use mathlib.Core.Option.{some, some-ne-none, some-injective}
use mathlib.Core.Logic.{dite}
use native.Mathlib.Decide.{ℕ_discrete}
use lib.ListN.{get_elem?}
use Rattle.atomic_table.specs.Table.{State}
use Rattle.atomic_table.proofs.Lists.{at_set as view_set}
use Rattle.wf_core.specs.declared.event.Status.{Status}
use Rattle.wf_core.specs.declared.event.Status.TheVariants as status
use Rattle.wf_core.specs.declared.event.Event.TheVariants.{Take, Look, Post, Searched, Cut, End}
use Rattle.wf_core.specs.Core.{State as Core, Is, Saw, after, start}
use Rattle.wf_core.specs.Count.{times, times_in}
use Rattle.wf_core.proofs.Lemmas.{set_at, set_else, at_set, at_replicate, put_at, times-append, times_same, times_other, total_set}
use Rattle.wf_board.specs.declared.table.SeatView.{SeatView}
use Rattle.wf_board.specs.Desk.{BoardId, fresh_desk, known, looked, posted, searched, is_cut}
use Rattle.wf_board.specs.Rule.{Stands}
use Rattle.wf_board.specs.Shows.{Agree, Shows, StartIsShown, LookIsEvent, PostIsEvent, SearchedIsEvent, CutIsEvent, TakeIsShown, EndIsShown}
use Rattle.wf_board.proofs.Views.{stands_kept, stands_before, stands_not}

-- a list that the step leaves alone, and a status that the event does not touch
same_list : (f : SeatView → List ℕ) (views : List SeatView) (w : ℕ) (v u : SeatView) (c d : Core) (x : Status) → get_elem? views w ≡ some v → f u ≡ f v
    → ((i : ℕ) → Is c i x → Is d i x) → ((i : ℕ) → Is d i x → Is c i x) → Agree f views c x → Agree f (set views w u) d x
same_list f views w v u c d x at e there back a = record {
  listed = λ i p. there i (⊎_elim
      (λ (q : Stands f views i). a.listed i q)
      (λ (q : Contains (f u) i). a.listed i (w, v, at, subst (λ (l : List ℕ). Contains l i) e q))
      (stands_before f views w u i p));
  stands = λ i p. stands_kept f views w v u at (λ y q. subst (λ (l : List ℕ). Contains l y) (sym e) q) i (a.stands i (back i p));
  once = λ i.
      let was = a.once i in
      let sum = total_set (λ x. times i (f x)) views w v u at in
      let same = ap (times i) e in
      omega arith;
}

-- the list that gets the branch, and the status that the branch gets
more_list : (f : SeatView → List ℕ) (views : List SeatView) (w : ℕ) (v u : SeatView) (c d : Core) (x : Status) (b : ℕ) → get_elem? views w ≡ some v → f u ≡ f v ++ b ∷ []
    → ((i : ℕ) → Is c i x → Is d i x) → Is d b x → ((i : ℕ) → Is d i x → (i ≡ b) ⊎ Is c i x) → ¬ (Is c b x) → Agree f views c x → Agree f (set views w u) d x
more_list f views w v u c d x b at e there new back absent a = record {
  listed = λ i p. ⊎_elim
      (λ (q : Stands f views i). there i (a.listed i q))
      (λ (q : Contains (f u) i). ⊎_elim
      (λ (r : Contains (f v) i). there i (a.listed i (w, v, at, r)))
      (λ (r : b ≡ i). subst (λ (y : ℕ). Is d y x) r new)
      (Contains-push_cases (f v) b i (subst (λ (l : List ℕ). Contains l i) e q)))
      (stands_before f views w u i p);
  stands = λ i p. ⊎_elim
      (λ (r : i ≡ b). (w, u, put_at views w v u at, subst (λ (y : ℕ). Contains (f u) y) (sym r) (subst (λ (l : List ℕ). Contains l b) (sym e) (Contains-push (f v) b))))
      (λ (q : Is c i x). stands_kept f views w v u at (λ y r. subst (λ (l : List ℕ). Contains l y) (sym e) (Contains-append_left (f v) (b ∷ []) y r)) i (a.stands i q))
      (back i p);
  once = λ i.
      let was = a.once i in
      let sum = total_set (λ y. times i (f y)) views w v u at in
      let more = ap (times i) e ∙ times-append i (f v) (b ∷ []) in
      dite (ℕ_discrete i b)
      (λ (k : i ≡ b).
      let none : times_in f i views ≡ 0 = stands_not f views i (λ q. absent (subst (λ (y : ℕ). Is c y x) k (a.listed i q))) in
      let one = times_same i b [] k in
      omega arith)
      (λ (ne : i ≢ b). let other = times_other i b [] ne in omega arith);
}

-- a branch of one status gets another
module _ (c : Core) (was : Status) (b : ℕ) (now : Status) (l : ℕ) (seen : List ℕ) (at : Is c b was) where
  abbrev d : Core
  d = record c { branches = set c.branches b now; least = l; seen = seen }

  there : (x : Status) → ¬ (was ≡ x) → (i : ℕ) → Is c i x → Is d i x
  there x ne i p = set_else c.branches b i now
      (λ e. ne (same_Some was x (sym at ∙ subst (λ (y : ℕ). slice_get c.branches y ≡ Some x) e p))) ∙ p

  back : (x : Status) → ¬ (now ≡ x) → (i : ℕ) → Is d i x → Is c i x
  back x ne i p = ⊎_elim (λ (t : (i ≡ b) × (now ≡ x)). absurd (ne t.1)) (λ (t : (i ≢ b) × Is c i x). t.1) (at_set c.branches b i now x p)

  new : Is d b now
  new = set_at c.branches b was now at

  -- it did not have it before
  not_before : ¬ (was ≡ now) → ¬ (Is c b now)
  not_before ne p = ne (same_Some was now (sym at ∙ p))

  back_new : (i : ℕ) → Is d i now → (i ≡ b) ⊎ Is c i now
  back_new i p = ⊎_elim (λ (t : (i ≡ b) × (now ≡ now)). inl t.0) (λ (t : (i ≢ b) × Is c i now). inr t.1) (at_set c.branches b i now now p)

abbrev Sees : List SeatView → List ℕ → Type 0
Sees views seen = (w : ℕ) (v : SeatView) → get_elem? views w ≡ some v → (n : ℕ) × (v.seen ≡ n ∷ []) × (slice_get seen w ≡ Some n)

-- a seat sees a number, or leaves what it has seen
sees : (views : List SeatView) (w : ℕ) (v u : SeatView) (seen : List ℕ) (n l : ℕ) → get_elem? views w ≡ some v → slice_get seen w ≡ Some n → u.seen ≡ l ∷ [] → Sees views seen → Sees (set views w u) (set seen w l)
sees views w v u seen n l at was is old k y e = ⊎_elim
    (λ (t : (k ≡ w) × (u ≡ y)). (l, ap (λ (x : SeatView). x.seen) (sym t.1) ∙ is, subst (λ (x : ℕ). slice_get (set seen w l) x ≡ Some l) (sym t.0) (set_at seen w n l was)))
    (λ (t : (k ≢ w) × (get_elem? views k ≡ some y)). let o = old k y t.1 in (o.0, o.1, set_else seen w k l t.0 ∙ o.2))
    (view_set views w k u y e)

sees_same : (views : List SeatView) (w : ℕ) (v u : SeatView) (seen : List ℕ) → get_elem? views w ≡ some v → u.seen ≡ v.seen → Sees views seen → Sees (set views w u) seen
sees_same views w v u seen at is old k y e = ⊎_elim
    (λ (t : (k ≡ w) × (u ≡ y)). let o = old w v at in (o.0, ap (λ (x : SeatView). x.seen) (sym t.1) ∙ (is ∙ o.1), subst (λ (x : ℕ). slice_get seen x ≡ Some o.0) (sym t.0) o.2))
    (λ (t : (k ≢ w) × (get_elem? views k ≡ some y)). old k y t.1)
    (view_set views w k u y e)

word_set : (ws : List ℕ) (a r c x : ℕ) → ws ≡ a ∷ r ∷ c ∷ [] → slice_index (slice_set ws 0 x) 0 ≡ x
word_set ws a r c x e = ap (λ (l : List ℕ). slice_index (slice_set l 0 x) 0) e

word_kept : (ws : List ℕ) (a r c i x : ℕ) → ws ≡ a ∷ r ∷ c ∷ [] → slice_index (slice_set ws (suc i) x) 0 ≡ slice_index ws 0
word_kept ws a r c i x e = ap (λ (l : List ℕ). slice_index (slice_set l (suc i) x) 0) e ∙ sym (ap (λ (l : List ℕ). slice_index l 0) e)

pub look_is_event : LookIsEvent
look_is_event ledger s c w d seat =
    let k = seat.shows in
    let h = seat.rule in
    let at = seat.knows in
    let o = k.seen w (known d) at in
    let low = slice_index s.words 0 in
    let u = known (looked d low) in
    let same : (x : Status) (i : ℕ) → Is c i x → Is c i x = λ x i p. p in (
      after c (Look w),
      (seat.active, refl),
      record {
        least = word_set s.words h.least h.refuted h.cut low h.words ∙ k.least;
        seen = sees s.views w (known d) u c.seen o.0 c.least at o.2 (ap (λ (n : ℕ). n ∷ []) k.least) k.seen;
        posted = same_list (λ x. x.posted) s.views w (known d) u c (after c (Look w)) status.Posted at refl (same status.Posted) (same status.Posted) k.posted;
        refuted = same_list (λ x. x.refuted) s.views w (known d) u c (after c (Look w)) status.Refuted at refl (same status.Refuted) (same status.Refuted) k.refuted;
        cut = same_list (λ x. x.cut) s.views w (known d) u c (after c (Look w)) status.Cut at refl (same status.Cut) (same status.Cut) k.cut;
      },
    )

pub post_is_event : PostIsEvent
post_is_event ledger s c w d i seat held =
    let k = seat.shows in
    let h = seat.rule in
    let at = seat.knows in
    let o = k.seen w (known d) at in
    let low = slice_index s.words 0 in
    let l = min c.least i in
    let seen = set c.seen w l in
    let u = known (posted d i (min low i)) in
    let e = after c (Post w i) in (
      e,
      ((seat.active, held), refl),
      record {
        least = word_set s.words h.least h.refuted h.cut (min low i) h.words ∙ ap (λ (n : ℕ). min n i) k.least;
        seen = sees s.views w (known d) u c.seen o.0 l at o.2 (ap (λ (n : ℕ). min n i ∷ []) k.least) k.seen;
        posted = more_list (λ x. x.posted) s.views w (known d) u c e status.Posted i at refl (there c (status.Held w) i status.Posted l seen held status.Posted (λ q. cc)) (new c (status.Held w) i status.Posted l seen held) (back_new c (status.Held w) i status.Posted l seen held) (not_before c (status.Held w) i status.Posted l seen held (λ q. cc)) k.posted;
        refuted = same_list (λ x. x.refuted) s.views w (known d) u c e status.Refuted at refl (there c (status.Held w) i status.Posted l seen held status.Refuted (λ q. cc)) (back c (status.Held w) i status.Posted l seen held status.Refuted (λ q. cc)) k.refuted;
        cut = same_list (λ x. x.cut) s.views w (known d) u c e status.Cut at refl (there c (status.Held w) i status.Posted l seen held status.Cut (λ q. cc)) (back c (status.Held w) i status.Posted l seen held status.Cut (λ q. cc)) k.cut;
      },
    )

pub searched_is_event : SearchedIsEvent
searched_is_event ledger s c w d i seat held =
    let k = seat.shows in
    let h = seat.rule in
    let at = seat.knows in
    let u = known (searched d i) in
    let l = c.least in
    let e = after c (Searched w i) in (
      e,
      ((seat.active, held), refl),
      record {
        least = word_kept s.words h.least h.refuted h.cut 0 _ h.words ∙ k.least;
        seen = sees_same s.views w (known d) u c.seen at refl k.seen;
        posted = same_list (λ x. x.posted) s.views w (known d) u c e status.Posted at refl (there c (status.Held w) i status.Refuted l c.seen held status.Posted (λ q. cc)) (back c (status.Held w) i status.Refuted l c.seen held status.Posted (λ q. cc)) k.posted;
        refuted = more_list (λ x. x.refuted) s.views w (known d) u c e status.Refuted i at refl (there c (status.Held w) i status.Refuted l c.seen held status.Refuted (λ q. cc)) (new c (status.Held w) i status.Refuted l c.seen held) (back_new c (status.Held w) i status.Refuted l c.seen held) (not_before c (status.Held w) i status.Refuted l c.seen held (λ q. cc)) k.refuted;
        cut = same_list (λ x. x.cut) s.views w (known d) u c e status.Cut at refl (there c (status.Held w) i status.Refuted l c.seen held status.Cut (λ q. cc)) (back c (status.Held w) i status.Refuted l c.seen held status.Cut (λ q. cc)) k.cut;
      },
    )

pub cut_is_event : CutIsEvent
cut_is_event ledger s c w d i seat held below =
    let k = seat.shows in
    let h = seat.rule in
    let at = seat.knows in
    let o = k.seen w (known d) at in
    let u = known (is_cut d i) in
    let l = c.least in
    let e = after c (Cut w i) in
    let same : o.0 ≡ d.seen = ap (λ (xs : List ℕ). slice_index xs 0) (sym o.1) in (
      e,
      ((seat.active, held, (d.seen, subst (λ (x : ℕ). Saw c w x) same o.2, below)), refl),
      record {
        least = word_kept s.words h.least h.refuted h.cut 1 _ h.words ∙ k.least;
        seen = sees_same s.views w (known d) u c.seen at refl k.seen;
        posted = same_list (λ x. x.posted) s.views w (known d) u c e status.Posted at refl (there c (status.Held w) i status.Cut l c.seen held status.Posted (λ q. cc)) (back c (status.Held w) i status.Cut l c.seen held status.Posted (λ q. cc)) k.posted;
        refuted = same_list (λ x. x.refuted) s.views w (known d) u c e status.Refuted at refl (there c (status.Held w) i status.Cut l c.seen held status.Refuted (λ q. cc)) (back c (status.Held w) i status.Cut l c.seen held status.Refuted (λ q. cc)) k.refuted;
        cut = more_list (λ x. x.cut) s.views w (known d) u c e status.Cut i at refl (there c (status.Held w) i status.Cut l c.seen held status.Cut (λ q. cc)) (new c (status.Held w) i status.Cut l c.seen held) (back_new c (status.Held w) i status.Cut l c.seen held) (not_before c (status.Held w) i status.Cut l c.seen held (λ q. cc)) k.cut;
      },
    )

-- the same views, each of which has seen the number of branches and settled nothing

view_replicate : (n : ℕ) (a v : SeatView) (i : ℕ) → get_elem? (replicate n a) i ≡ some v → (a ≡ v) × ((m : ℕ) → slice_get (replicate n m) i ≡ Some m)
view_replicate zero a v i e = absurd (some-ne-none v (sym e))
view_replicate (suc n) a v zero e = (some-injective a v e, (λ m. refl))
view_replicate (suc n) a v (suc i) e = view_replicate n a v i e

none_free : (x : Status) (n i : ℕ) → ¬ (status.Free ≡ x) → ¬ (slice_get (replicate n status.Free) i ≡ Some x)
none_free x n i apart e = apart (at_replicate n status.Free x i e)

agree_start : (f : SeatView → List ℕ) (s : State (Unit {0}) SeatView) (p : BoardId) (x : Status) → s.views ≡ replicate p.workers (known (fresh_desk p)) → f (known (fresh_desk p)) ≡ [] → ¬ (status.Free ≡ x)
    → Agree f s.views (start p.branches p.workers) x
agree_start f s p x views empty apart = record {
  listed = λ i q.
      let same = view_replicate p.workers (known (fresh_desk p)) q.1 q.0 (subst (λ (vs : List SeatView). get_elem? vs q.0 ≡ some q.1) views q.2) in
      let none : Contains [] i = subst (λ (l : List ℕ). Contains l i) empty (subst (λ (v : SeatView). Contains (f v) i) (sym same.0) q.3) in
      absurd (let lt = none.1 in omega arith);
  stands = λ i q. absurd (none_free x p.branches i apart q);
  once = λ i. let none = none_listed p.workers i in let same = ap (times_in f i) views in omega arith;
} where
  none_listed : (n i : ℕ) → times_in f i (replicate n (known (fresh_desk p))) ≡ 0
  none_listed zero i = refl
  none_listed (suc n) i = let rest = none_listed n i in let here = ap (times i) empty in omega arith

pub start_is_shown : StartIsShown
start_is_shown s p words views = record {
  least = ap (λ (ws : List ℕ). slice_index ws 0) words;
  seen = λ w v e.
      let same = view_replicate p.workers (known (fresh_desk p)) v w (subst (λ (vs : List SeatView). get_elem? vs w ≡ some v) views e) in
      (p.branches, ap (λ (x : SeatView). x.seen) (sym same.0), same.1 p.branches);
  posted = agree_start (λ v. v.posted) s p status.Posted views refl (λ e. cc);
  refuted = agree_start (λ v. v.refuted) s p status.Refuted views refl (λ e. cc);
  cut = agree_start (λ v. v.cut) s p status.Cut views refl (λ e. cc);
}

-- a list is that of a status whose branches are the same after the event
same_branches : (f : SeatView → List ℕ) (views : List SeatView) (c d : Core) (x : Status) → ((i : ℕ) → Is c i x → Is d i x) → ((i : ℕ) → Is d i x → Is c i x) → Agree f views c x → Agree f views d x
same_branches f views c d x there back a =
    record { listed = λ i p. there i (a.listed i p); stands = λ i p. a.stands i (back i p); once = a.once }

pub take_is_shown : TakeIsShown
take_is_shown s c d w i k step =
    let l = c.least in
    let e = after c (Take w i) in
    let now = status.Held w in
    let free = step.0.2 in
    subst (Shows s) (sym step.1) (record {
      least = k.least;
      seen = k.seen;
      posted = same_branches (λ x. x.posted) s.views c e status.Posted (there c status.Free i now l c.seen free status.Posted (λ q. cc)) (back c status.Free i now l c.seen free status.Posted (λ q. cc)) k.posted;
      refuted = same_branches (λ x. x.refuted) s.views c e status.Refuted (there c status.Free i now l c.seen free status.Refuted (λ q. cc)) (back c status.Free i now l c.seen free status.Refuted (λ q. cc)) k.refuted;
      cut = same_branches (λ x. x.cut) s.views c e status.Cut (there c status.Free i now l c.seen free status.Cut (λ q. cc)) (back c status.Free i now l c.seen free status.Cut (λ q. cc)) k.cut;
    })

pub end_is_shown : EndIsShown
end_is_shown s c d w k step =
    let e = after c (End w) in
    let same : (x : Status) (i : ℕ) → Is c i x → Is c i x = λ x i p. p in
    subst (Shows s) (sym step.1) (record {
      least = k.least;
      seen = k.seen;
      posted = same_branches (λ x. x.posted) s.views c e status.Posted (same status.Posted) (same status.Posted) k.posted;
      refuted = same_branches (λ x. x.refuted) s.views c e status.Refuted (same status.Refuted) (same status.Refuted) k.refuted;
      cut = same_branches (λ x. x.cut) s.views c e status.Cut (same status.Cut) (same status.Cut) k.cut;
    })
