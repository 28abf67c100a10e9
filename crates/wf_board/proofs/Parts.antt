-- Splitting and joining seats keep the rule, and the seat with every number knows the whole.
use Rattle.std.proofs.Common.{◌≡◌, ◌≢◌, ◌⊎◌, ℕ, ◌+◌, ◌*◌, ◌<◌, ◌≤◌, List, [], ◌∷◌, ◌++◌, length, take, drop, set, refl, sym, ap, ◌∙◌, subst, ⊎_elim, arith, inl, inr, length-append}
use Rattle.std.specs.Prelude.{All, Contains}
use Rattle.std.proofs.lemmas.List.Elements.{All-nil, All-append, All-take, All-drop, All-weaker, Contains-append_left, Contains-append_right}
use Rattle.std.proofs.Math.Nat.{mul-add, mul-zero}
use mathlib.Core.Option.{some, some-injective}
use mathlib.Core.Logic.{dite}
use native.Mathlib.Decide.{ℕ_discrete}
use lib.ListN.{get_elem?}
use Rattle.atomic_table.specs.Table.{State, Splits, Joins}
use Rattle.atomic_table.proofs.Lists.{at_set, at_snoc, at_longer, set_else}
use Rattle.wf_board.specs.declared.table.SeatView.{SeatView}
use Rattle.wf_board.specs.declared.table.Ledger.{Ledger}
use Rattle.wf_core.specs.Count.{total}
use Rattle.wf_core.proofs.Lemmas.{put_at, total_set, total_bound, total_one, total-append}
use Rattle.wf_board.specs.Desk.{knows, joined, nothing, IsLeast}
use Rattle.wf_board.specs.Rule.{Posted, AtMost, Below, Fits, Shown}
use Rattle.wf_board.proofs.Views.{stands_kept}

moved : (b l : ℕ) (views vs : List SeatView) (u : SeatView) → ((x : ℕ) → Posted views x → Posted vs x) → Fits b l views u → Fits b l vs u
moved b l views vs u still f = record {
  room = f.room;
  posts = f.posts;
  sees = All-weaker (λ x. (l ≤ x) × ((x ≡ b) ⊎ Posted views x)) (λ x. (l ≤ x) × ((x ≡ b) ⊎ Posted vs x))
      (λ x h. (h.0, ⊎_elim (λ (s : x ≡ b). inl s) (λ (p : Posted views x). inr (still x p)) h.1)) u.seen f.sees;
  after_posts = f.after_posts;
  above_cuts = f.above_cuts;
}

some_of : (l : ℕ) (b : ℕ) (views vs : List SeatView) → ((x : ℕ) → Posted views x → Posted vs x) → (l ≡ b) ⊎ Posted views l → (l ≡ b) ⊎ Posted vs l
some_of l b views vs still h = ⊎_elim (λ (s : l ≡ b). inl s) (λ (p : Posted views l). inr (still l p)) h

-- a seat with nothing settled gives one number to a new seat
pub splits : (ledger : Ledger) (id : ℕ) (seen : List ℕ) → 0 < length seen → Splits (Shown ledger) id (knows seen [] [] []) (knows (drop 1 seen) [] [] []) (knows (take 1 seen) [] [] [])
splits ledger id seen some_seen s h at =
    let b = ledger.branches in
    let l = h.least in
    let v = knows seen [] [] [] in
    let left = knows (drop 1 seen) [] [] [] in
    let right = knows (take 1 seen) [] [] [] in
    let mid = set s.views id left in
    let vs = mid ++ right ∷ [] in
    let f = h.fits id v at in
    let still : (x : ℕ) → Posted s.views x → Posted vs x = λ x p. let q = stands_kept (λ y. y.posted) s.views id v left at (λ y c. c) x p in (q.0, q.1, at_longer mid (right ∷ []) q.0 q.1 q.2, q.3) in
    let part : (ys : List ℕ) → All (λ x. (l ≤ x) × ((x ≡ b) ⊎ Posted s.views x)) ys → Fits b l vs (knows ys [] [] []) = λ ys k. moved b l s.views vs (knows ys [] [] []) still (record { room = omega arith; posts = All-nil _; sees = k; after_posts = All-nil _; above_cuts = All-nil _ }) in
    let P : ℕ → Type 0 = λ x. (l ≤ x) × ((x ≡ b) ⊎ Posted s.views x) in
    let sum : length (drop 1 seen) + length (take 1 seen) ≡ length seen = halves seen in
    let t0 = total_set (λ u. length u.seen) s.views id v left at in
    let t1 = total_set (λ u. length u.refuted) s.views id v left at in
    let t2 = total_set (λ u. length u.cut) s.views id v left at in
    let u0 = total-append (λ u. length u.seen) mid (right ∷ []) in
    let u1 = total-append (λ u. length u.refuted) mid (right ∷ []) in
    let u2 = total-append (λ u. length u.cut) mid (right ∷ []) in
    record {
      least = l;
      refuted = h.refuted;
      cut = h.cut;
      words = h.words;
      workers = (let a = h.workers in omega arith);
      refuted_is = (let a = h.refuted_is in omega arith);
      cut_is = (let a = h.cut_is in omega arith);
      least_is = (h.least_is.0, some_of l b s.views vs still h.least_is.1);
      fits = λ j u e. ⊎_elim
          (λ (was : get_elem? mid j ≡ some u). ⊎_elim
          (λ (t : (j ≡ id) × (left ≡ u)). subst (Fits b l vs) t.1 (part (drop 1 seen) (All-drop P 1 seen f.sees)))
          (λ (t : (j ≢ id) × (get_elem? s.views j ≡ some u)). moved b l s.views vs u still (h.fits j u t.1))
          (at_set s.views id j left u was))
          (λ (is : right ≡ u). subst (Fits b l vs) is (part (take 1 seen) (All-take P 1 seen f.sees)))
          (at_snoc mid right u j e);
    }
  where
    halves : (xs : List ℕ) → length (drop 1 xs) + length (take 1 xs) ≡ length xs
    halves [] = refl
    halves (x ∷ xs) = omega arith

pub joins : (ledger : Ledger) (id : ℕ) (v : SeatView) (other : ℕ) (w : SeatView) → Joins (Shown ledger) id v other w (joined v w) nothing
joins ledger id v other w s h at apart there =
    let b = ledger.branches in
    let l = h.least in
    let all = joined v w in
    let mid = set s.views id all in
    let vs = set mid other nothing in
    let was : get_elem? s.views other ≡ some w = sym (set_else s.views id other all apart) ∙ there in
    let f = h.fits id v at in
    let g = h.fits other w was in
    let whole : get_elem? vs id ≡ some all = set_else mid other id nothing (λ e. apart (sym e)) ∙ put_at s.views id v all at in
    let still : (x : ℕ) → Posted s.views x → Posted vs x = λ x p.
    dite (ℕ_discrete p.0 id)
    (λ (e : p.0 ≡ id). let same : p.1 ≡ v = some-injective p.1 v (sym p.2 ∙ subst (λ (k : ℕ). get_elem? s.views k ≡ some v) (sym e) at) in
    (id, all, whole, Contains-append_left v.posted w.posted x (subst (λ (u : SeatView). Contains u.posted x) same p.3)))
    (λ (ne : p.0 ≢ id). dite (ℕ_discrete p.0 other)
    (λ (e : p.0 ≡ other). let same : p.1 ≡ w = some-injective p.1 w (sym p.2 ∙ subst (λ (k : ℕ). get_elem? s.views k ≡ some w) (sym e) was) in
    (id, all, whole, Contains-append_right v.posted w.posted x (subst (λ (u : SeatView). Contains u.posted x) same p.3)))
    (λ (no : p.0 ≢ other). (p.0, p.1, set_else mid other p.0 nothing no ∙ set_else s.views id p.0 all ne ∙ p.2, p.3))) in
    let P : ℕ → Type 0 = λ x. (l ≤ x) × ((x ≡ b) ⊎ Posted s.views x) in
    let a0 = length-append v.seen w.seen in
    let a1 = length-append v.posted w.posted in
    let a2 = length-append v.refuted w.refuted in
    let a3 = length-append v.cut w.cut in
    let mine : Fits b l vs all = moved b l s.views vs all still (record {
      room = (let m : b * length (v.seen ++ w.seen) ≡ b * length v.seen + b * length w.seen = ap (λ n. b * n) a0 ∙ mul-add b (length v.seen) (length w.seen) in let p = f.room in let q = g.room in omega arith);
      posts = All-append (λ x. l ≤ x) v.posted w.posted f.posts g.posts;
      sees = All-append P v.seen w.seen f.sees g.sees;
      after_posts = All-append (AtMost (v.seen ++ w.seen)) v.posted w.posted
          (All-weaker (AtMost v.seen) (AtMost (v.seen ++ w.seen)) (λ x k. (k.0, Contains-append_left v.seen w.seen k.0 k.1, k.2)) v.posted f.after_posts)
          (All-weaker (AtMost w.seen) (AtMost (v.seen ++ w.seen)) (λ x k. (k.0, Contains-append_right v.seen w.seen k.0 k.1, k.2)) w.posted g.after_posts);
      above_cuts = All-append (Below (v.seen ++ w.seen)) v.cut w.cut
          (All-weaker (Below v.seen) (Below (v.seen ++ w.seen)) (λ x k. (k.0, Contains-append_left v.seen w.seen k.0 k.1, k.2)) v.cut f.above_cuts)
          (All-weaker (Below w.seen) (Below (v.seen ++ w.seen)) (λ x k. (k.0, Contains-append_right v.seen w.seen k.0 k.1, k.2)) w.cut g.above_cuts);
    }) in
    let t0 = total_set (λ u. length u.seen) s.views id v all at in
    let t1 = total_set (λ u. length u.refuted) s.views id v all at in
    let t2 = total_set (λ u. length u.cut) s.views id v all at in
    let u0 = total_set (λ u. length u.seen) mid other w nothing there in
    let u1 = total_set (λ u. length u.refuted) mid other w nothing there in
    let u2 = total_set (λ u. length u.cut) mid other w nothing there in
    record {
      least = l;
      refuted = h.refuted;
      cut = h.cut;
      words = h.words;
      workers = (let a = h.workers in omega arith);
      refuted_is = (let a = h.refuted_is in omega arith);
      cut_is = (let a = h.cut_is in omega arith);
      least_is = (h.least_is.0, some_of l b s.views vs still h.least_is.1);
      fits = λ j u e. ⊎_elim
          (λ (t : (j ≡ other) × (nothing ≡ u)). subst (Fits b l vs) t.1 (record { room = omega arith; posts = All-nil _; sees = All-nil _; after_posts = All-nil _; above_cuts = All-nil _ }))
          (λ (t : (j ≢ other) × (get_elem? mid j ≡ some u)). ⊎_elim
          (λ (k : (j ≡ id) × (all ≡ u)). subst (Fits b l vs) k.1 mine)
          (λ (k : (j ≢ id) × (get_elem? s.views j ≡ some u)). moved b l s.views vs u still (h.fits j u k.1))
          (at_set s.views id j all u t.1))
          (at_set mid other j nothing u e);
    }

-- the seat that has every worker's number
module _ (ledger : Ledger) (s : State (Unit {0}) SeatView) (id : ℕ) (v : SeatView) (h : Shown ledger s) (at : get_elem? s.views id ≡ some v) (every : length v.seen ≡ ledger.workers) where
  abbrev b : ℕ
  b = ledger.branches

  abbrev others : List SeatView
  others = set s.views id nothing

  silent : total (λ u. length u.seen) others ≡ 0
  silent = let t = total_set (λ u. length u.seen) s.views id v nothing at in let a = h.workers in let e = every in omega arith

  -- any other view has settled nothing
  idle : (j : ℕ) (u : SeatView) → j ≢ id → get_elem? s.views j ≡ some u → length u.posted + (length u.refuted + length u.cut) ≡ 0
  idle j u ne e =
      let r = (h.fits j u e).room in
      let z = total_one (λ y. length y.seen) others j u (set_else s.views id j nothing ne ∙ e) in
      let q = silent in
      let none_seen : length u.seen ≡ 0 = omega arith in
      let m : b * length u.seen ≡ 0 = ap (λ n. b * n) none_seen ∙ mul-zero b in
      omega arith

  alone : (f : SeatView → ℕ) → ((u : SeatView) → f u ≤ length u.posted + (length u.refuted + length u.cut)) → f nothing ≡ 0 → total f s.views ≡ f v
  alone f part empty =
      let t = total_set f s.views id v nothing at in
      let z : total f others ≤ 0 * total f others = total_bound f f 0 others (λ j u e.
      ⊎_elim
      (λ (k : (j ≡ id) × (nothing ≡ u)). let w : f u ≡ 0 = ap f (sym k.1) ∙ empty in omega arith)
      (λ (k : (j ≢ id) × (get_elem? s.views j ≡ some u)). let i = idle j u k.0 k.1 in let p = part u in omega arith)
      (at_set s.views id j nothing u e)) in
      omega arith

  mine_alone : (x : ℕ) → Posted s.views x → Contains v.posted x
  mine_alone x p =
      dite (ℕ_discrete p.0 id)
      (λ (e : p.0 ≡ id). let same : p.1 ≡ v = some-injective p.1 v (sym p.2 ∙ subst (λ (k : ℕ). get_elem? s.views k ≡ some v) (sym e) at) in subst (λ (u : SeatView). Contains u.posted x) same p.3)
      (λ (ne : p.0 ≢ id). let i = idle p.0 p.1 ne p.2 in let c = p.3 in let lt = c.1 in absurd (omega arith))

  pub known_least : IsLeast b v.posted h.least
  known_least = record {
    bound = h.least_is.0;
    below = (h.fits id v at).posts;
    reached = ⊎_elim (λ (e : h.least ≡ b). inl e) (λ (p : Posted s.views h.least). inr (mine_alone h.least p)) h.least_is.1;
  }

  pub known_refuted : h.refuted ≡ length v.refuted
  known_refuted = h.refuted_is ∙ alone (λ u. length u.refuted) (λ u. omega arith) refl

  pub known_cut : h.cut ≡ length v.cut
  known_cut = h.cut_is ∙ alone (λ u. length u.cut) (λ u. omega arith) refl

  pub known_seen : All (λ x. (x ≡ b) ⊎ Contains v.posted x) v.seen
  known_seen = All-weaker (λ x. (h.least ≤ x) × ((x ≡ b) ⊎ Posted s.views x)) (λ x. (x ≡ b) ⊎ Contains v.posted x)
      (λ x k. ⊎_elim (λ (e : x ≡ b). inl e) (λ (p : Posted s.views x). inr (mine_alone x p)) k.1) v.seen (h.fits id v at).sees
