-- What every step keeps: the least number, the numbers that were seen, and where cut branches lie.
use Rattle.std.proofs.Common.{◌≡◌, ◌≢◌, ◌⊎◌, ℕ, ◌<◌, ◌≤◌, min, Bool, true, List, [], ◌∷◌, length, set, refl, sym, ◌∙◌, subst, ⊎_elim, inl, inr, arith, le_refl, le_trans, length-set, lt_of_not-le, le_of_lt}
use Rattle.std.specs.Prelude.{Some, slice_get}
use Rattle.std.proofs.Math.Nat.{min-le_left, min-le_right, min-eq_left, min-eq_right}
use Rattle.std.proofs.lemmas.List.{length-replicate}
use Rattle.std.proofs.lemmas.Option.{same_Some, slice_get_within}
use mathlib.Core.Logic.{dite}
use native.Mathlib.Decide.{dec_le}
use Rattle.wf_core.specs.declared.event.Status.{Status}
use Rattle.wf_core.specs.declared.event.Status.TheVariants as status
use Rattle.wf_core.specs.declared.event.Event.{Event}
use Rattle.wf_core.specs.declared.event.Event.TheVariants.{Take, Look, Post, Searched, Cut, End}
use Rattle.wf_core.specs.Core.{State, Is, Saw, Step, Run, start}
use Rattle.wf_core.specs.Laws.{IsLeastPosted, LeastIsPosted, SeenWasPosted, CutLiesAbove, FirstTruePlace}
use Rattle.wf_core.proofs.Lists.{set_at, set_else, at_set, at_replicate}

pub min_cases : (a b : ℕ) → (min a b ≡ a) ⊎ (min a b ≡ b)
min_cases a b = dite (dec_le a b) (λ e. inl (min-eq_left e)) (λ ne. inr (min-eq_right (le_of_lt (lt_of_not-le ne))))

pub record Kept (b : ℕ) (s : State) : Type 0 where
  pub size : length s.branches ≡ b
  pub least : IsLeastPosted b s s.least
  pub seen : (w n : ℕ) → Saw s w n → (s.least ≤ n) × ((n ≡ b) ⊎ Is s n status.Posted)
  pub cut : (i : ℕ) → Is s i status.Cut → (j : ℕ) × Is s j status.Posted × (j < i)

held_not_posted : (w : ℕ) → ¬ (status.Held w ≡ status.Posted)
held_not_posted w e = cc

-- branch i is not posted, and becomes something else
module _ (b : ℕ) (s : State) (i : ℕ) (was now : Status) (kept : Kept b s) (at : Is s i was) (apart : ¬ (was ≡ status.Posted)) where
  still : (j : ℕ) → Is s j status.Posted → slice_get (set s.branches i now) j ≡ Some status.Posted
  still j p = set_else s.branches i j now
      (λ e. apart (same_Some was status.Posted (sym at ∙ subst (λ (x : ℕ). slice_get s.branches x ≡ Some status.Posted) e p))) ∙ p

  pub still_or : (n : ℕ) → (n ≡ b) ⊎ Is s n status.Posted → (n ≡ b) ⊎ (slice_get (set s.branches i now) n ≡ Some status.Posted)
  still_or n h = ⊎_elim (λ (e : n ≡ b). inl e) (λ (p : Is s n status.Posted). inr (still n p)) h

  -- and the least number falls or stays
  pub changed : (l : ℕ) (seen : List ℕ) → l ≤ s.least
      → ((l ≡ b) ⊎ (slice_get (set s.branches i now) l ≡ Some status.Posted))
      → (now ≡ status.Posted → l ≤ i)
      → (now ≡ status.Cut → (j : ℕ) × Is s j status.Posted × (j < i))
      → ((w n : ℕ) → slice_get seen w ≡ Some n → (l ≤ n) × ((n ≡ b) ⊎ (slice_get (set s.branches i now) n ≡ Some status.Posted)))
      → Kept b (record s { branches = set s.branches i now; least = l; seen = seen })
  changed l seen down reached posts cuts sees = record {
    size = length-set s.branches i now ∙ kept.size;
    least = record {
      bound = le_trans down kept.least.bound;
      below = λ j p. ⊎_elim
          (λ (t : (j ≡ i) × (now ≡ status.Posted)). let a = posts t.1 in let e = t.0 in omega arith)
          (λ (t : (j ≢ i) × Is s j status.Posted). le_trans down (kept.least.below j t.1))
          (at_set s.branches i j now status.Posted p);
      reached = reached;
    };
    seen = sees;
    cut = λ j p. ⊎_elim
        (λ (t : (j ≡ i) × (now ≡ status.Cut)). let x = cuts t.1 in (x.0, still x.0 x.1, (let a = x.2 in let e = t.0 in omega arith)))
        (λ (t : (j ≢ i) × Is s j status.Cut). let x = kept.cut j t.1 in (x.0, still x.0 x.1, x.2))
        (at_set s.branches i j now status.Cut p);
  }

  -- the least number and what was seen stay
  pub changed_status : ¬ (now ≡ status.Posted) → (now ≡ status.Cut → (j : ℕ) × Is s j status.Posted × (j < i)) → Kept b (record s { branches = set s.branches i now })
  changed_status posts cuts = changed s.least s.seen (le_refl s.least) (still_or s.least kept.least.reached) (λ e. absurd (posts e)) cuts
      (λ w n p. let x = kept.seen w n p in (x.0, still_or n x.1))

-- a step that leaves the branches and the least number
same_least : (b : ℕ) (s : State) (seen : List ℕ) (ended : List Bool) → IsLeastPosted b s s.least → IsLeastPosted b (record s { seen = seen; ended = ended }) s.least
same_least b s seen ended k = record { bound = k.bound; below = k.below; reached = k.reached }

kept_step : (b : ℕ) (s : State) (e : Event) (t : State) → Kept b s → Step s e t → Kept b t
kept_step b s (Take w i) t k step = subst (Kept b) (sym step.1)
    (changed_status b s i status.Free (status.Held w) k step.0.2 (λ e. cc) (held_not_posted w) (λ e. cc))
kept_step b s (Look w) t k step = subst (Kept b) (sym step.1) (record {
  size = k.size;
  least = same_least b s (set s.seen w s.least) s.ended k.least;
  cut = k.cut;
  seen = λ v n p. ⊎_elim
      (λ (h : (v ≡ w) × (s.least ≡ n)). subst (λ (x : ℕ). (s.least ≤ x) × ((x ≡ b) ⊎ Is s x status.Posted)) h.1 (le_refl s.least, k.least.reached))
      (λ (h : (v ≢ w) × Saw s v n). k.seen v n h.1)
      (at_set s.seen w v s.least n p);
})
kept_step b s (Post w i) t k step =
    let l = min s.least i in
    let held = step.0.1 in
    let here = set_at s.branches i (status.Held w) status.Posted held in
    let After : ℕ → Type 0 = λ x. (x ≡ b) ⊎ (slice_get (set s.branches i status.Posted) x ≡ Some status.Posted) in
    let stays = still_or b s i (status.Held w) status.Posted k held (held_not_posted w) in
    let reached : After l = ⊎_elim
    (λ (e : l ≡ s.least). subst After (sym e) (stays s.least k.least.reached))
    (λ (e : l ≡ i). inr (subst (λ (x : ℕ). slice_get (set s.branches i status.Posted) x ≡ Some status.Posted) (sym e) here))
    (min_cases s.least i) in
    subst (Kept b) (sym step.1)
    (changed b s i (status.Held w) status.Posted k held (held_not_posted w) l (set s.seen w l) (min-le_left s.least i) reached (λ _. min-le_right s.least i) (λ e. cc)
    (λ v n p. ⊎_elim
    (λ (h : (v ≡ w) × (l ≡ n)). subst (λ (x : ℕ). (l ≤ x) × After x) h.1 (le_refl l, reached))
    (λ (h : (v ≢ w) × Saw s v n). let x = k.seen v n h.1 in (le_trans (min-le_left s.least i) x.0, stays n x.1))
    (at_set s.seen w v l n p)))
kept_step b s (Searched w i) t k step = subst (Kept b) (sym step.1)
    (changed_status b s i (status.Held w) status.Refuted k step.0.1 (held_not_posted w) (λ e. cc) (λ e. cc))
kept_step b s (Cut w i) t k step = subst (Kept b) (sym step.1)
    (changed_status b s i (status.Held w) status.Cut k step.0.1 (held_not_posted w) (λ e. cc) (λ _.
    let seen = step.0.2 in
    let inside = slice_get_within s.branches i (status.Held w) step.0.1 in
    ⊎_elim
    (λ (e : seen.0 ≡ b). absurd (let low = seen.2 in let size = k.size in omega arith))
    (λ (p : Is s seen.0 status.Posted). (seen.0, p, seen.2))
    (k.seen w seen.0 seen.1).1))
kept_step b s (End w) t k step = subst (Kept b) (sym step.1) (record { size = k.size; least = same_least b s s.seen (set s.ended w true) k.least; seen = k.seen; cut = k.cut })

pub kept_run : (b : ℕ) (s : State) (es : List Event) (t : State) → Kept b s → Run s es t → Kept b t
kept_run b s [] t k r = subst (Kept b) (sym r) k
kept_run b s (e ∷ es) t k r = kept_run b r.0 es t (kept_step b s e r.0 k r.1) r.2

free_not_posted : ¬ (status.Free ≡ status.Posted)
free_not_posted e = cc

free_not_cut : ¬ (status.Free ≡ status.Cut)
free_not_cut e = cc

pub kept_start : (b w : ℕ) → Kept b (start b w)
kept_start b w = record {
  size = length-replicate b status.Free;
  least = record {
    bound = le_refl b;
    below = λ i p. absurd (free_not_posted (at_replicate b status.Free status.Posted i p));
    reached = inl refl;
  };
  seen = λ v n p. let e = at_replicate w b n v p in (omega arith, inl (sym e));
  cut = λ i p. absurd (free_not_cut (at_replicate b status.Free status.Cut i p));
}

pub least_is_posted : LeastIsPosted
least_is_posted b w es s r = (kept_run b (start b w) es s (kept_start b w) r).least

pub seen_was_posted : SeenWasPosted
seen_was_posted b w es s r = (kept_run b (start b w) es s (kept_start b w) r).seen

pub cut_lies_above : CutLiesAbove
cut_lies_above b w es s r = (kept_run b (start b w) es s (kept_start b w) r).cut

pub first_place : FirstTruePlace
first_place b w es s maps r posted refuted settled =
    let k = kept_run b (start b w) es s (kept_start b w) r in record {
      bound = k.least.bound;
      before = λ i lt. ⊎_elim
          (λ (p : Is s i status.Posted). absurd (let a = k.least.below i p in omega arith))
          (λ (h : Is s i status.Refuted ⊎ Is s i status.Cut). ⊎_elim
          (λ (p : Is s i status.Refuted). refuted i p)
          (λ (p : Is s i status.Cut). let x = k.cut i p in absurd (let a = k.least.below x.0 x.1 in let d = x.2 in omega arith))
          h)
          (settled i (let a = k.least.bound in omega arith));
      here = λ lt. ⊎_elim (λ (e : s.least ≡ b). absurd (omega arith)) (λ (p : Is s s.least status.Posted). posted s.least p) k.least.reached;
    }
