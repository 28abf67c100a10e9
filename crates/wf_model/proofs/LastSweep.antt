-- Closing ends with a sweep that loses nothing.
use Rattle.std.proofs.Common.{◌≡◌, ℕ, zero, suc, ◌<◌, ◌≤◌, ◌==◌, ◌⊎◌, true, not, List, [], ◌∷◌, ◌++◌, filter, flat_map, length, Option, Some, None, sym, refl, ◌∙◌, subst, arith, inl, inr, eq-eqb}
use Rattle.std.specs.List.{AllByRecursion}
use Rattle.std.proofs.lemmas.Bool.{cases_Bool, or_cases, or_left, or_right, false≢true}
use Rattle.wf_model.specs.Lists.{has}
use Rattle.wf_model.specs.Problem.{Problem, Constraint}
use Rattle.wf_model.specs.Box.{Box, candidates, without, count, first_empty, is_supported_in}
use Rattle.wf_model.specs.Refutation.{Line}
use Rattle.wf_model.specs.Closing.{Step, Loss, same_candidate, continued, and_then, taken_out, take_out, take_out_each, places, lost_at, lost, sweep_from, sweep, unless_none, sweeps, closing_at, closing}
use Rattle.wf_model.proofs.MapsAreSolutions.{weaker}
use Rattle.wf_model.proofs.Headline.{each_flat, each_map, each_filter, each_distinct, always}
use Rattle.wf_model.proofs.CanonicalSteps.{Leaves, leaves_weaker, take_out_each_leaves, sweep_leaves, count_set, count_set_less, length_filter}

pub filter_less : (set : List ℕ) (a : ℕ) → has set a ≡ true → length (filter (λ b. not (b == a)) set) < length set
filter_less [] a h = absurd (false≢true h)
filter_less (b ∷ set) a h =
    elim (cases_Bool (b == a)) [
      | inl here ↦ rw here (let shorter : length (filter (λ x. not (x == a)) set) ≤ length set = length_filter (λ x. not (x == a)) set in omega (arith, shorter))
      | inr there ↦ rw there (elim (or_cases (b == a) (has set a) h) [
        | inl e ↦ absurd (false≢true (sym there ∙ e))
        | inr later ↦ omega (arith, filter_less set a later)
      ])
    ]

pub each_has : (set : List ℕ) → AllByRecursion (λ a. has set a ≡ true) set
each_has [] = tt
each_has (a ∷ set) = (or_left (a == a) (has set a) (eq-eqb a a refl), weaker (λ x. has set x ≡ true) (λ x. has (a ∷ set) x ≡ true) (λ x h. or_right (a == x) (has set x) h) set (each_has set))

-- what is lost was a candidate
pub lost_present : (box : Box) (k : Constraint) → AllByRecursion (λ x. has (candidates box x.point) x.value ≡ true) (lost box k)
lost_present box k =
    each_distinct (λ (x : Loss). has (candidates box x.point) x.value ≡ true) same_candidate (flat_map (lost_at box k) (places k.scope))
    (each_flat (λ (x : Loss). has (candidates box x.point) x.value ≡ true) (lost_at box k) (places k.scope)
    (always (λ q. AllByRecursion (λ (x : Loss). has (candidates box x.point) x.value ≡ true) (lost_at box k q))
    (λ q. each_map (λ (x : Loss). has (candidates box x.point) x.value ≡ true) (λ a. record { process = q.1; value = a; point = q.2 }) (filter (λ a. not (is_supported_in k box q.0 a)) (candidates box q.2))
    (each_filter (λ a. has (candidates box q.2) a ≡ true) (λ a. not (is_supported_in k box q.0 a)) (candidates box q.2) (each_has (candidates box q.2))))
    (places k.scope)))

abbrev pub HasLine : List Line → Type 0
HasLine [] = ⊥
HasLine (l ∷ ls) = Unit {0}

-- a step changes nothing, or writes a line and leaves fewer candidates
abbrev pub Progress : Box → Step → Type 0
Progress box s = ((s.lines ≡ []) × (s.left ≡ Some box)) ⊎ (HasLine s.lines × Leaves (λ b. count b < count box) s.left)

pub line_taken : (e : ℕ) (x : Loss) (box : Box) (set : List ℕ) → HasLine (taken_out e x box set).lines
line_taken e x box [] = tt
line_taken e x box (a ∷ set) = tt

line_first : (ls ms : List Line) → HasLine ls → HasLine (ls ++ ms)
line_first [] ms h = absurd h
line_first (l ∷ ls) ms h = tt

pub line_continued : (ls : List Line) (left : Option Box) (next : Box → Step) → HasLine ls → HasLine (continued ls left next).lines
line_continued ls None next h = h
line_continued ls (Some b) next h = line_first ls (next b).lines h

less_then_fewer : (old b : Box) (o : Option Box) → count b < count old → Leaves (λ c. count c ≤ count b) o → Leaves (λ c. count c < count old) o
less_then_fewer old b None h k = tt
less_then_fewer old b (Some c) h k = omega (arith, h, k)

continued_less : (old : Box) (ls : List Line) (left : Option Box) (next : Box → Step) → Leaves (λ b. count b < count old) left → ((b : Box) → Leaves (λ c. count c ≤ count b) (next b).left) →
    Leaves (λ b. count b < count old) (continued ls left next).left
continued_less old ls None next h k = h
continued_less old ls (Some b) next h k = less_then_fewer old b (next b).left h (k b)

taken_less : (e : ℕ) (x : Loss) (old box : Box) (set : List ℕ) → count box < count old → Leaves (λ b. count b < count old) (taken_out e x box set).left
taken_less e x old box [] h = tt
taken_less e x old box (a ∷ set) h = h

module _ (p : Problem) where
  removal_fewer : (b : Box) (v a : ℕ) → count (without b v a) ≤ count b
  removal_fewer b v a = count_set b v _ (length_filter _ (candidates b v))

  each_fewer : (e : ℕ) (xs : List Loss) (box : Box) → Leaves (λ b. count b ≤ count box) (take_out_each e xs box).left
  each_fewer = take_out_each_leaves p (λ a b. count b ≤ count a) (λ b. omega arith) (λ a b c h k. omega (arith, h, k)) removal_fewer

  sweep_fewer : (e : ℕ) (ks : List Constraint) (box : Box) → Leaves (λ b. count b ≤ count box) (sweep_from e ks box).left
  sweep_fewer = sweep_leaves p (λ a b. count b ≤ count a) (λ b. omega arith) (λ a b c h k. omega (arith, h, k)) removal_fewer

  each_progress : (e : ℕ) (xs : List Loss) (box : Box) → AllByRecursion (λ (x : Loss). has (candidates box x.point) x.value ≡ true) xs → Progress box (take_out_each e xs box)
  each_progress e [] box h = inl (refl, refl)
  each_progress e (x ∷ xs) box h =
      inr (
        line_continued (take_out e x box).lines (take_out e x box).left (take_out_each e xs) (line_taken e x (without box x.point x.value) (candidates (without box x.point x.value) x.point)),
        continued_less box (take_out e x box).lines (take_out e x box).left (take_out_each e xs)
            (taken_less e x box (without box x.point x.value) (candidates (without box x.point x.value) x.point)
            (count_set_less box x.point (filter (λ b. not (b == x.value)) (candidates box x.point)) (filter_less (candidates box x.point) x.value h.0)))
            (each_fewer e xs),
      )

  continued_progress : (box : Box) (s : Step) (next : Box → Step) → Progress box s → Progress box (next box) → ((b : Box) → Leaves (λ c. count c ≤ count b) (next b).left) → Progress box (and_then s next)
  continued_progress box s next (inl same) h k =
      subst (λ (q : List Line × Option Box). Progress box (continued q.0 q.1 next)) (λ i. (sym same.0 i, sym same.1 i)) h
  continued_progress box s next (inr less) h k = inr (line_continued s.lines s.left next less.0, continued_less box s.lines s.left next less.1 k)

  pub sweep_progress : (e : ℕ) (ks : List Constraint) (box : Box) → Progress box (sweep_from e ks box)
  sweep_progress e [] box = inl (refl, refl)
  sweep_progress e (k ∷ ks) box = continued_progress box (take_out_each e (lost box k) box) (sweep_from (suc e) ks) (each_progress e (lost box k) box (lost_present box k)) (sweep_progress (suc e) ks box) (sweep_fewer (suc e) ks)

  pub continued_all : (P : Box → Type 0) (ls : List Line) (left : Option Box) (next : Box → Step) → Leaves (λ b. Leaves P (next b).left) left → Leaves P (continued ls left next).left
  continued_all P ls None next h = h
  continued_all P ls (Some b) next h = h

  -- a sweep without lines leaves the box, and one with lines fewer candidates
  ends_stable : (box : Box) → (sweep p box).lines ≡ [] → Progress box (sweep p box) → Leaves (λ b. (sweep p b).lines ≡ []) (sweep p box).left
  ends_stable box is (inl same) = subst (Leaves (λ b. (sweep p b).lines ≡ [])) (sym same.1) is
  ends_stable box is (inr less) = absurd (subst HasLine is less.0)

  goes_on : (box : Box) (l : Line) (ls : List Line) → (sweep p box).lines ≡ l ∷ ls → Progress box (sweep p box) → Leaves (λ b. count b < count box) (sweep p box).left
  goes_on box l ls is (inl same) = absurd (subst HasLine (sym is ∙ same.0) tt)
  goes_on box l ls is (inr less) = less.1

  sweeps_stable : (n : ℕ) (box : Box) → count box < n → Leaves (λ b. (sweep p b).lines ≡ []) (sweeps n p box).left
  sweeps_stable zero box h = absurd (let none : ⊥ = omega (arith, h) in none)
  sweeps_stable (suc n) box h = by_lines (sweep p box).lines refl (λ b less. sweeps_stable n b (omega (arith, less, h)))
    where
      by_lines : (ls : List Line) → (sweep p box).lines ≡ ls → ((b : Box) → count b < count box → Leaves (λ c. (sweep p c).lines ≡ []) (sweeps n p b).left) →
          Leaves (λ b. (sweep p b).lines ≡ []) (unless_none ls (sweep p box) (sweeps n p)).left
      by_lines [] is k = ends_stable box is (sweep_progress 0 p.constraints box)
      by_lines (l ∷ ls) is k =
          continued_all (λ b. (sweep p b).lines ≡ []) (sweep p box).lines (sweep p box).left (sweeps n p)
          (leaves_weaker (λ b. count b < count box) (λ b. Leaves (λ c. (sweep p c).lines ≡ []) (sweeps n p b).left) k (sweep p box).left (goes_on box l ls is (sweep_progress 0 p.constraints box)))

  -- what closing leaves loses nothing in a further sweep
  pub closing_stable : (box : Box) → Leaves (λ b. (sweep p b).lines ≡ []) (closing p box).left
  closing_stable box = by_empty (first_empty box)
    where
      by_empty : (o : Option ℕ) → Leaves (λ b. (sweep p b).lines ≡ []) (closing_at o p box).left
      by_empty None = sweeps_stable (suc (count box)) box (omega arith)
      by_empty (Some v) = tt
