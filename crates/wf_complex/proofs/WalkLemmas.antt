-- Rounds after rounds, one word further.
use Rattle.std.proofs.Common.{◌≡◌, ◌<◌, ◌≤◌, ℕ, zero, suc, ◌+◌, ◌-◌, ◌*◌, List, [], ◌∷◌, ◌++◌, flat_map, length, take, get_or, slice_get, Some, Bool, true, false, IsTrue, sym, refl, ap, ◌∙◌, subst, arith, append_assoc, append-nil}
use Rattle.std.specs.List.{AllByRecursion}
use Rattle.std.proofs.Math.Nat.{mul-le-mul_right}
use Rattle.std.proofs.lemmas.List.{take_more}
use Rattle.std.proofs.lemmas.Option.{slice_get_within, get_or_from_slice_get}
use Rattle.wf_model.specs.View.{View, round}
use Rattle.wf_model.specs.Word.{Word, words}
use Rattle.wf_model.proofs.Lemmas.{words_long}
use Rattle.wf_complex.specs.declared.rounds.ImmediateSnapshot.{ImmediateSnapshot}
use Rattle.wf_complex.specs.Rounds.{views_at, words_in, Extends, leaves, cost}
use Rattle.wf_complex.proofs.RoundLemmas.{views_kept, length-views, length-round}

there : (P : Word → Type 0) (ws : List Word) (k : ℕ) (w : Word) → AllByRecursion P ws → slice_get ws k ≡ Some w → P w
there P [] k w h e = absurd (let none : ⊥ = cc in none)
there P (v ∷ ws) zero w h e = let is : v ≡ w = cc in subst P is h.0
there P (v ∷ ws) (suc k) w h e = there P ws k w h.1 e

pub length_first : (m n : ℕ) (w : Word) → slice_get (words m n) 0 ≡ Some w → length w ≡ n
length_first m n w h = there (λ v. length v ≡ n) (words m n) 0 w (words_long m n) h

pub cost_more : (count n rounds : ℕ) → 0 < rounds → cost count n rounds ≡ count * (n + cost count n (rounds - 1))
cost_more count n zero h = absurd (let none : ⊥ = omega (arith, h) in none)
cost_more count n (suc k) h = let e : suc k - 1 ≡ k = omega arith in rw e refl

pub leaves_more : (ws : List Word) (rounds : ℕ) (vs : List View) → 0 < rounds → leaves ws rounds vs ≡ flat_map (λ w. leaves ws (rounds - 1) (round vs w)) ws
leaves_more ws zero vs h = absurd (let none : ⊥ = omega (arith, h) in none)
leaves_more ws (suc k) vs h = let e : suc k - 1 ≡ k = omega arith in rw e refl

-- one of m turns is left
pub turn_left : (turn m x : ℕ) → turn < m → turn * x + x ≤ m * x
turn_left turn m x h = let e : (turn + 1) * x ≡ turn * x + x = grind arith in subst (λ y. y ≤ m * x) e (mul-le-mul_right x (let k : turn + 1 ≤ m = omega (arith, h) in k))

flat_map-take_more : (f : Word → List View) (ws : List Word) (n : ℕ) (w : Word) → slice_get ws n ≡ Some w → flat_map f (take (n + 1) ws) ≡ flat_map f (take n ws) ++ f w
flat_map-take_more f [] n w h = absurd (let none : ⊥ = cc in none)
flat_map-take_more f (y ∷ ws) zero w h = let is : y ≡ w = cc in append-nil (f y) ∙ ap f is
flat_map-take_more f (y ∷ ws) (suc n) w h =
    let e : suc n + 1 ≡ suc (n + 1) = omega arith in
    rw e (ap (λ ys. f y ++ ys) (flat_map-take_more f ws n w h) ∙ sym (append_assoc (f y) (flat_map f (take n ws)) (f w)))

-- what one more word adds
module _ (start : List View) (lasts : List ℕ) (f : Word → List View) (ws : List Word) (turn : ℕ) (w : Word) (at : slice_get ws turn ≡ Some w) where
  pub made_more : (table mid new : List View) (so_far more : List ℕ) → AllByRecursion (λ k. k < length table) so_far → Extends table mid →
      views_at table so_far ≡ views_at start lasts ++ flat_map f (take turn ws) → views_at new more ≡ views_at mid so_far ++ f w →
      views_at new more ≡ views_at start lasts ++ flat_map f (take (turn + 1) ws)
  made_more table mid new so_far more within grown made added =
      added
      ∙ ap (λ vs. vs ++ f w) (views_kept table mid so_far grown within ∙ made)
      ∙ append_assoc (views_at start lasts) (flat_map f (take turn ws)) (f w)
      ∙ ap (λ vs. views_at start lasts ++ vs) (sym (flat_map-take_more f ws turn w at))

-- the numbers of a round's views are as many as before it
pub taken_length : (old new : List View) (cur next : List ℕ) (w : Word) → length w ≡ length cur → views_at new (take (length cur) next) ≡ round (views_at old cur) w → length (take (length cur) next) ≡ length cur
taken_length old new cur next w long e =
    sym (length-views new (take (length cur) next)) ∙ ap length e ∙ length-round (views_at old cur) w (length-views old cur ∙ sym long) ∙ length-views old cur

-- the word after this one, where there is one
pub next_at : (ws us : List Word) → ws ≡ us → (n : ℕ) (w v : Word) (more : Bool) → slice_get ws n ≡ Some w →
    (slice_get us n ≡ Some w → IsTrue more → slice_get us (n + 1) ≡ Some v) → (slice_get us n ≡ Some w → more ≡ false → n + 1 ≡ length us) → n + 1 < length ws → slice_get ws (n + 1) ≡ Some v
next_at ws us e n w v true at next last below = subst (λ xs. slice_get xs (n + 1) ≡ Some v) (sym e) (next (subst (λ xs. slice_get xs n ≡ Some w) e at) refl)
next_at ws us e n w v false at next last below = absurd (let none : ⊥ = omega (arith, below, ap length e, last (subst (λ xs. slice_get xs n ≡ Some w) e at) refl) in none)

-- ---- sights

pub word_there : (ss : List ImmediateSnapshot) (i : ℕ) (s d : ImmediateSnapshot) → i < length ss → s ≡ get_or ss i d → slice_get (words_in ss) i ≡ Some s.word
word_there [] i s d h is = absurd (let none : ⊥ = omega (arith, h) in none)
word_there (x ∷ ss) zero s d h is = λ k. Some ((sym is k).word)
word_there (x ∷ ss) (suc i) s d h is = word_there ss i s d (omega (arith, h)) is

pub take_word : (ws : List Word) (i : ℕ) (w : Word) → slice_get ws i ≡ Some w → take (i + 1) ws ≡ take i ws ++ w ∷ []
take_word ws i w at = take_more ws i [] (slice_get_within ws i w at) ∙ ap (λ v. take i ws ++ v ∷ []) (get_or_from_slice_get ws i w [] at)
