-- Each step of a deque's two passes keeps its rule.
use Rattle.std.proofs.Common.{◌≡◌, ◌≢◌, ℕ, zero, suc, ◌+◌, ◌-◌, ◌<◌, ◌≤◌, List, [], ◌∷◌, ◌++◌, length, set, refl, sym, ap, ◌∙◌, subst, ⊎_elim, arith, length-append, cond, eqb}
use Rattle.std.specs.Prelude.{Option, Some, None, MatchOption, Result, Ok, Err, OnErr}
use mathlib.Core.Option.{some, some-ne-none, some-injective}
use lib.ListN.{get_elem?}
use Rattle.crossbeam_deque.specs.Steals.{MatchSteal}
use Rattle.crossbeam_deque.specs.declared.steal.Steal.{Steal}
use Rattle.crossbeam_deque.specs.declared.steal.Steal.TheVariants.{Empty, Success, Retry}
use Rattle.crossbeam_deque.specs.Tasks.{Pushes, Takes as Leaves, Forks, Merges, Finds, FindsFew}
use Rattle.atomic_table.proofs.Lists.{at_set, at_snoc, set_else}
use Rattle.wf_core.specs.Count.{times, total}
use Rattle.wf_core.proofs.Lemmas.{total-append, total_set, total_one}
use Rattle.wf_handout.specs.declared.deque.Pile.{Pile}
use Rattle.wf_handout.specs.Piles.{pile, Knows, Held, Takes, AllTaken}
use Rattle.wf_handout.specs.Parts.{DequeId, Part, part, grown, IsFair}

zeros : (f : Pile → ℕ) (views : List Pile) → ((j : ℕ) (v : Pile) → get_elem? views j ≡ some v → f v ≡ 0) → total f views ≡ 0
zeros f [] each = refl
zeros f (x ∷ xs) each = let h = each 0 x refl in let r = zeros f xs (λ j v e. each (suc j) v e) in omega arith

abbrev spent : Pile
spent = pile 0 [] []

spent_knows : (all : List ℕ) → Knows all spent
spent_knows all = ((λ k. absurd (omega arith)), (λ _. refl))

others : (now : List ℕ) (views : List Pile) (id : ℕ) (w : Pile) → ((j : ℕ) (u : Pile) → j ≢ id → get_elem? views j ≡ some u → Knows now u) → Knows now w → (j : ℕ) (u : Pile) → get_elem? (set views id w) j ≡ some u → Knows now u
others now views id w old mine j u e =
    ⊎_elim
    (λ (t : (j ≡ id) × (w ≡ u)). subst (Knows now) t.1 mine)
    (λ (t : (j ≢ id) × (get_elem? views j ≡ some u)). old j u t.0 t.1)
    (at_set views id j w u e)

pub begins : Held [] (pile 2 [] [] ∷ [])
begins = ([], refl, (λ h. omega arith), one)
  where
    one : (port : ℕ) (v : Pile) → get_elem? (pile 2 [] [] ∷ []) port ≡ some v → Knows [] v
    one zero v e = subst (Knows []) (some-injective _ _ e) ((λ _. refl), (λ k. absurd (omega arith)))
    one (suc port) v e = absurd (some-ne-none v (sym e))

-- the pass with both parts is the only one with any
alone : (views : List Pile) (id : ℕ) (v : Pile) → get_elem? views id ≡ some v → v.parts ≡ 2 → total (λ u. u.parts) views ≡ 2 → (j : ℕ) (u : Pile) → j ≢ id → get_elem? views j ≡ some u → u.parts ≡ 0
alone views id v at two all j u ne e =
    let t = total_set (λ y. y.parts) views id v spent at in
    let o = total_one (λ y. y.parts) (set views id spent) j u (set_else views id j spent ne ∙ e) in
    omega arith

pub pushes : (port : ℕ) (v : Pile) (xs : List ℕ) → v.parts ≡ 2 → Pushes Held port v xs (λ w. w ≡ pile v.parts (v.dealt ++ xs) v.taken)
pushes port v xs two items views h at =
    let w = pile v.parts (v.dealt ++ xs) v.taken in
    let same : v.dealt ≡ h.0 = (h.3 port v at).0 (omega arith) in
    let t0 = total_set (λ u. u.parts) views port v w at in (
      w,
      (
        h.0 ++ xs,
        (let a = h.1 in omega arith),
        (λ k. let t = total_set (λ u. total k u.taken) views port v w at in let a = h.2 k in let b = total-append k h.0 xs in let c = total-append k items xs in omega arith),
        others (h.0 ++ xs) views port w
            (λ j u ne e. let z = alone views port v at two h.1 j u ne e in ((λ p. absurd (omega arith)), (λ _. (h.3 j u e).1 z)))
            ((λ _. ap (λ l. l ++ xs) same), (λ z. absurd (omega arith))),
      ),
      refl,
    )

pub takes : (port : ℕ) (v : Pile) → 0 < v.parts → Leaves Held port v 1 (Takes v)
takes port v some_part xs items views _ _ h at =
    let w = pile v.parts v.dealt (v.taken ++ xs) in
    let same : v.dealt ≡ h.0 = (h.3 port v at).0 some_part in
    let vs = set views port w in
    let t0 = total_set (λ u. u.parts) views port v w at in
    let balance : (k : ℕ → ℕ) → total k h.0 ≡ total (λ u. total k u.taken) vs + total k items = λ k.
    (let t = total_set (λ u. total k u.taken) views port v w at in let a = h.2 k in let b = total-append k v.taken xs in let c = total-append k xs items in omega arith) in (
      w,
      (
        h.0,
        (let a = h.1 in omega arith),
        balance,
        others h.0 views port w (λ j u ne e. h.3 j u e) ((λ _. same), (λ z. absurd (omega arith))),
      ),
      (refl, (λ k. let a = balance k in let t = total_set (λ u. total k u.taken) views port v w at in let b = total_one (λ u. total k u.taken) views port v at in let s = ap (total k) same in omega arith)),
    )

pub forks : (port : ℕ) (v : Pile) → v.parts ≡ 2 → Forks Held port v (pile 1 v.dealt v.taken) (pile 1 v.dealt [])
forks port v two items views h at =
    let l = pile 1 v.dealt v.taken in
    let r = pile 1 v.dealt [] in
    let mid = set views port l in
    let same : v.dealt ≡ h.0 = (h.3 port v at).0 (omega arith) in
    let both : (f : Pile → ℕ) → total f (mid ++ r ∷ []) + f v ≡ total f views + (f l + f r) = λ f. (let a = total_set f views port v l at in let c = total-append f mid (r ∷ []) in omega arith) in (
      h.0,
      (let a = both (λ u. u.parts) in let b = h.1 in omega arith),
      (λ k. let a = both (λ u. total k u.taken) in let b = h.2 k in omega arith),
      λ j u e. ⊎_elim
          (λ (was : get_elem? mid j ≡ some u). others h.0 views port l (λ i y ne e'. h.3 i y e') ((λ _. same), (λ z. absurd (omega arith))) j u was)
          (λ (is : r ≡ u). subst (Knows h.0) is ((λ _. same), (λ z. absurd (omega arith))))
          (at_snoc mid r u j e),
    )

pub merges : (port : ℕ) (v : Pile) (other : ℕ) (w : Pile) → 0 < v.parts → Merges Held port v other w (pile (v.parts + w.parts) v.dealt (v.taken ++ w.taken)) (pile 0 [] [])
merges port v other w some_part items views h at apart there =
    let all = pile (v.parts + w.parts) v.dealt (v.taken ++ w.taken) in
    let mid = set views port all in
    let vs = set mid other spent in
    let same : v.dealt ≡ h.0 = (h.3 port v at).0 some_part in
    let both : (f : Pile → ℕ) → total f vs + (f v + f w) ≡ total f views + (f all + f spent) = λ f. (let a = total_set f views port v all at in let c = total_set f mid other w spent there in omega arith) in (
      h.0,
      (let a = both (λ u. u.parts) in let b = h.1 in omega arith),
      (λ k. let a = both (λ u. total k u.taken) in let b = h.2 k in let c = total-append k v.taken w.taken in omega arith),
      others h.0 mid other spent (λ j u ne e. others h.0 views port all (λ i y n e'. h.3 i y e') ((λ _. same), (λ z. absurd (omega arith))) j u e) (spent_knows h.0),
    )

pub finds : (port : ℕ) (v : Pile) → Finds Held port v (AllTaken v)
finds port v views h at two k =
    let same : v.dealt ≡ h.0 = (h.3 port v at).0 (omega arith) in
    let t = total_set (λ u. total k u.taken) views port v spent at in
    let rest = set views port spent in
    let z : total (λ u. total k u.taken) rest ≡ 0 = zeros (λ u. total k u.taken) rest (λ j u e.
    ⊎_elim
    (λ (s : (j ≡ port) × (spent ≡ u)). ap (λ (y : Pile). total k y.taken) (sym s.1))
    (λ (s : (j ≢ port) × (get_elem? views j ≡ some u)). ap (total k) ((h.3 j u s.1).1 (alone views port v at two h.1 j u s.0 s.1)))
    (at_set views port j spent u e)) in
    let a = h.2 k in
    let s = ap (total k) same in
    omega arith

pub finds_few : (port : ℕ) (v : Pile) → FindsFew Held 0 port v (AllTaken v)
finds_few port v [] views few h at = finds port v views h at
finds_few port v (x ∷ items) views few h at = absurd (omega arith)

pub total_ones : (xs : List ℕ) → total (λ _. 1) xs ≡ length xs
total_ones [] = refl
total_ones (x ∷ xs) = let e = total_ones xs in omega arith

pub total_times : (x : ℕ) (xs : List ℕ) → total (λ y. cond (eqb x y) 1 0) xs ≡ times x xs
total_times x [] = refl
total_times x (y ∷ ys) = let e = total_times x ys in omega arith

-- no more was taken than was dealt
pub fair : (d t : List ℕ) → ((h : ℕ → ℕ) → total h t ≤ total h d) → (x : ℕ) → times x t ≤ times x d
fair d t h x =
    let a = h (λ y. cond (eqb x y) 1 0) in
    let b = total_times x d in
    let c = total_times x t in
    omega arith

-- one more was taken, and no more than was dealt
pub nearer : (d t : List ℕ) (x : ℕ) → ((h : ℕ → ℕ) → total h (t ++ x ∷ []) ≤ total h d) → length d - length (t ++ x ∷ []) < length d - length t
nearer d t x h =
    let a = h (λ _. 1) in
    let b = total_ones d in
    let c = total_ones (t ++ x ∷ []) in
    let l = length-append t (x ∷ []) in
    omega arith

-- what a pop tells of the owner's end, and a steal of the thief's
pub gains : (r : Option ℕ) (p : Part) (before after : DequeId) (v w : Pile) → part before v.dealt v.taken ≡ p → after ≡ before
    → MatchOption r (w ≡ v) (λ i. Takes v (i ∷ []) w)
    → MatchOption r (part after w.dealt w.taken ≡ p) (λ i. (part after w.dealt w.taken ≡ grown p i) × IsFair (part after w.dealt w.taken))
gains None p before after v w is same h = (λ k. part (same k) (h k).dealt (h k).taken) ∙ is
gains (Some i) p before after v w is same h = (
  (λ k. part (same k) (h.0 k).dealt (h.0 k).taken) ∙ ap (λ (q : Part). grown q i) is,
  fair w.dealt w.taken h.1,
)

pub stolen : (t : Steal ℕ) (r : Option ℕ) (v w : Pile) (more : Type 0) → MatchSteal t (r ≡ None) (r ≡ None) (λ x. r ≡ Some x)
    → MatchSteal t ((w ≡ v) × AllTaken v) ((w ≡ v) × more) (λ i. Takes v (i ∷ []) w)
    → MatchOption r (w ≡ v) (λ i. Takes v (i ∷ []) w)
stolen Empty r v w more is h = rw is h.0
stolen (Success i) r v w more is h = rw is h
stolen Retry r v w more is h = rw is h.0

pub popped : (r : Option ℕ) (p : Part) (before after : DequeId) (v w : Pile) → part before v.dealt v.taken ≡ p → after ≡ before
    → MatchOption r ((w ≡ v) × AllTaken v) (λ i. Takes v (i ∷ []) w)
    → MatchOption r (part after w.dealt w.taken ≡ p) (λ i. (part after w.dealt w.taken ≡ grown p i) × IsFair (part after w.dealt w.taken))
popped None p before after v w is same h = gains None p before after v w is same h.0
popped (Some i) p before after v w is same h = gains (Some i) p before after v w is same h

pub on_err : {A B : Type 0} {P : Type 0} (r : Result A B) → P → OnErr r P
on_err (Ok a) p = tt
on_err (Err e) p = p
