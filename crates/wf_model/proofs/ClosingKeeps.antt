-- What closing keeps: every solution of the box, and the box's shape.
use Rattle.std.proofs.Common.{◌≡◌, ℕ, zero, suc, ◌+◌, ◌<◌, ◌==◌, false, not, List, [], ◌∷◌, length, slice_get, slice_set, Option, Some, None, sym, refl, ◌∙◌, subst, arith, length-set}
use Rattle.std.specs.List.{AllByRecursion}
use Rattle.wf_model.specs.Problem.{Problem, Constraint, IsSolution, InRange}
use Rattle.wf_model.specs.Box.{Box, LiesIn, candidates, without, count, first_empty}
use Rattle.wf_model.specs.Refutation.{Line}
use Rattle.wf_model.specs.Closing.{Step, Loss, taken_out, take_out, take_out_each, lost, sweep_from, sweep, unless_none, sweeps, closing_at, closing}
use Rattle.wf_model.proofs.TreesAreSound.{kept, lies_without, named}
use Rattle.wf_model.proofs.CanonicalSteps.{Leaves, leaves_weaker}
use Rattle.wf_model.proofs.CanonicalRefutations.{IsWithin, within_itself, without_within, lost_in_smaller, has_filtered, IsLoss, lost_is_lost}
use Rattle.wf_model.proofs.LastSweep.{continued_all}
use Rattle.wf_model.proofs.Ascending.{Ascends, ascends_filter}
use Rattle.wf_model.proofs.Order.{position_none}

-- ---- what each loss keeps, closing keeps

module _ (p : Problem) (K : Box → Type 0)
    (loss_keeps : (box : Box) (e : ℕ) (x : Loss) → IsLoss p box e x → 0 < length (candidates (without box x.point x.value) x.point) → K box → K (without box x.point x.value)) where
  each_keeps : (e : ℕ) (xs : List Loss) (old box : Box) → IsWithin box old → AllByRecursion (IsLoss p old e) xs → K box → Leaves K (take_out_each e xs box).left
  each_keeps e [] old box w h k = k
  each_keeps e (x ∷ xs) old box w h k =
      let smaller : IsLoss p box e x = (lost_in_smaller p box old e x.process x.value x.point w h.0.0, subst (λ n. x.point < n) (sym w.long) h.0.1) in
      continued_all p K (take_out e x box).lines (take_out e x box).left (take_out_each e xs)
      (after_one (candidates (without box x.point x.value) x.point) refl smaller (each_keeps e xs old (without box x.point x.value) (without_within box old x.point x.value w) h.1))
    where
      after_one : (set : List ℕ) → candidates (without box x.point x.value) x.point ≡ set → IsLoss p box e x → (K (without box x.point x.value) → Leaves K (take_out_each e xs (without box x.point x.value)).left) →
          Leaves (λ b. Leaves K (take_out_each e xs b).left) (taken_out e x (without box x.point x.value) set).left
      after_one [] is loss next = tt
      after_one (a ∷ set) is loss next = next (loss_keeps box e x loss (subst (λ (s : List ℕ). 0 < length s) (sym is) (omega arith)) k)

  sweep_keeps : (e : ℕ) (ks : List Constraint) (box : Box) → ((i : ℕ) → slice_get p.constraints (e + i) ≡ slice_get ks i) → K box → Leaves K (sweep_from e ks box).left
  sweep_keeps e [] box h k = k
  sweep_keeps e (c ∷ ks) box h k =
      let here : slice_get p.constraints e ≡ Some c = (let z : e + 0 ≡ e = omega arith in subst (λ n. slice_get p.constraints n ≡ Some c) z (h 0)) in
      continued_all p K (take_out_each e (lost box c) box).lines (take_out_each e (lost box c) box).left (sweep_from (suc e) ks)
      (leaves_weaker K (λ b. Leaves K (sweep_from (suc e) ks b).left)
      (λ b q. sweep_keeps (suc e) ks b (λ i. let z : suc e + i ≡ e + suc i = omega arith in rw z (h (suc i))) q)
      (take_out_each e (lost box c) box).left (each_keeps e (lost box c) box box (within_itself box) (lost_is_lost p box e c here) k))

  unless_none_keeps : (ls : List Line) (s : Step) (next : Box → Step) → Leaves K s.left → ((b : Box) → K b → Leaves K (next b).left) → Leaves K (unless_none ls s next).left
  unless_none_keeps [] s next h k = h
  unless_none_keeps (l ∷ ls) s next h k = continued_all p K s.lines s.left next (leaves_weaker K (λ b. Leaves K (next b).left) k s.left h)

  sweeps_keep : (n : ℕ) (box : Box) → K box → Leaves K (sweeps n p box).left
  sweeps_keep zero box k = k
  sweeps_keep (suc n) box k =
      unless_none_keeps (sweep p box).lines (sweep p box) (sweeps n p)
      (sweep_keeps 0 p.constraints box (λ i. let z : 0 + i ≡ i = omega arith in rw z refl) k) (sweeps_keep n)

  pub closing_keeps : (box : Box) → (first_empty box ≡ None → K box) → Leaves K (closing p box).left
  closing_keeps box k = by_empty (first_empty box) k
    where
      by_empty : (o : Option ℕ) → (o ≡ None → K box) → Leaves K (closing_at o p box).left
      by_empty None k = sweeps_keep (suc (count box)) box (k refl)
      by_empty (Some v) k = tt

-- ---- solutions

pub closing_keeps_solution : (p : Problem) → InRange p → (m : List ℕ) → IsSolution p m → (box : Box) → LiesIn m box → Leaves (LiesIn m) (closing p box).left
closing_keeps_solution p in_range m solves box lies =
    closing_keeps p (LiesIn m)
    (λ b e x loss some here. lies_without p in_range m solves b x.point x.value here (named p in_range m solves e x.process x.value x.point b loss.0) (kept p in_range m solves b e x.process x.value x.point here loss.0))
    box (λ none. lies)

-- ---- the shape

-- each point has a candidate
abbrev pub Full : Box → Type 0
Full box = AllByRecursion (λ set. 0 < length set) box

full_after : (box : Box) (v : ℕ) (set : List ℕ) → 0 < length (candidates (slice_set box v set) v) → Full box → Full (slice_set box v set)
full_after [] v set h k = tt
full_after (s ∷ box) zero set h k = (h, k.1)
full_after (s ∷ box) (suc v) set h k = (k.0, full_after box v set h k.1)

-- the candidates of each point ascend
abbrev pub Ascending : Box → Type 0
Ascending box = AllByRecursion Ascends box

pub candidates_ascend : (box : Box) (v : ℕ) → Ascending box → Ascends (candidates box v)
candidates_ascend [] v h = tt
candidates_ascend (s ∷ box) zero h = h.0
candidates_ascend (s ∷ box) (suc v) h = candidates_ascend box v h.1

pub ascending_after : (box : Box) (v : ℕ) (set : List ℕ) → Ascends set → Ascending box → Ascending (slice_set box v set)
ascending_after [] v set h k = tt
ascending_after (s ∷ box) zero set h k = (h, k.1)
ascending_after (s ∷ box) (suc v) set h k = (k.0, ascending_after box v set h k.1)

-- a map lies in a box where it lies in one with a candidate taken out
pub lies_with : (m : List ℕ) (box : Box) (v a : ℕ) → LiesIn m (without box v a) → LiesIn m box
lies_with m [] v a lies = lies
lies_with [] (s ∷ box) zero a lies = absurd lies
lies_with (x ∷ m) (s ∷ box) zero a lies = (has_filtered (λ b. not (b == a)) s x lies.0, lies.1)
lies_with [] (s ∷ box) (suc v) a lies = absurd lies
lies_with (x ∷ m) (s ∷ box) (suc v) a lies = (lies.0, lies_with m box v a lies.1)

-- a box with a candidate at each point, as long as the first, ascending like
-- it, and with no further maps
pub record IsInside (box b : Box) : Type 0 where
  pub long : length b ≡ length box
  pub ascending : Ascending box → Ascending b
  pub full : Full b
  pub smaller : (m : List ℕ) → LiesIn m b → LiesIn m box

pub fully : (xs : Box) → AllByRecursion (λ (set : List ℕ). (length set == 0) ≡ false) xs → Full xs
fully [] h = tt
fully (s ∷ xs) h = (some s h.0, fully xs h.1)
  where
    some : (s : List ℕ) → (length s == 0) ≡ false → 0 < length s
    some [] h = absurd (let none : ⊥ = cc in none)
    some (a ∷ s) h = omega arith

-- what closing leaves is inside the box
pub closing_inside : (p : Problem) (box : Box) → Leaves (IsInside box) (closing p box).left
closing_inside p box =
    closing_keeps p (IsInside box)
    (λ b e x loss some in'. record {
      long = length-set b x.point _ ∙ in'.long;
      ascending = λ up. ascending_after b x.point _ (ascends_filter _ (candidates b x.point) (candidates_ascend b x.point (in'.ascending up))) (in'.ascending up);
      full = full_after b x.point _ some in'.full;
      smaller = λ m lies. in'.smaller m (lies_with m b x.point x.value lies);
    })
    box (λ none. record { long = refl; ascending = λ up. up; full = fully box (position_none (λ (set : List ℕ). length set == 0) box none); smaller = λ m lies. lies })
