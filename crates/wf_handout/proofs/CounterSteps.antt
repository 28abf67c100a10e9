-- Each step of one share keeps the rule of the counter.
use Rattle.std.proofs.Common.{◌≡◌, ◌≢◌, ℕ, ◌+◌, ◌-◌, ◌%◌, ◌^◌, ◌<◌, ◌≤◌, min, List, [], ◌∷◌, ◌++◌, length, set, refl, sym, ap, ◌∙◌, subst, ⊎_elim, arith, length-append, slice_index}
use Rattle.std.proofs.Math.Nat.{min-eq_left, min-eq_right, mod-eq_of_lt}
use mathlib.Core.Option.{Option, some, none}
use mathlib.Core.Logic.{dite}
use native.Mathlib.Decide.{dec_lt}
use lib.ListN.{get_elem?}
use Rattle.atomic_table.specs.Table.{State, Act, keeps, Allows, Splits, Joins, Valid, carried_after, stepped, step}
use Rattle.atomic_table.proofs.Lists.{at_set, at_snoc, set_else}
use Rattle.wf_core.specs.Count.{times, once_below, total}
use Rattle.wf_core.proofs.Lemmas.{times-append, once_out, once_next, total-append, total_set, total_one, total_le}
use Rattle.wf_handout.specs.declared.table.ShareView.{ShareView}
use Rattle.wf_handout.specs.declared.table.CounterSize.{CounterSize}
use Rattle.wf_handout.specs.Rule.{knows, nothing, joined, Fits, Counted, Seated, takes}

-- the first branch that nobody had
once_more : (x n b : ℕ) → n < b → once_below x (min (n + 1) b) ≡ once_below x (min n b) + times x (n ∷ [])
once_more x n b lt =
    let l : min (n + 1) b ≡ n + 1 = min-eq_left (omega arith) in
    let r : min n b ≡ n = min-eq_left (omega arith) in
    let a = ap (once_below x) l in
    let c = ap (once_below x) r in
    let d = once_next x n in
    omega arith

abbrev at_words : (size : CounterSize) (homes : List (Option (Unit {0}))) (views : List ShareView) (id : ℕ) (m : Seated) (f : ℕ → ℕ) (then : ℕ → Seated → Type 0) → List ℕ → Type 0
at_words size homes views id m f then ws = (w : ShareView) × (a : Act (Unit {0})) × Valid homes m.1 a
    × Counted size (stepped (record { words = ws; homes = homes; views = views }) 0 (f (slice_index ws 0)) id m.1 w a) × then (slice_index ws 0) (w, carried_after m.1 a)

others : (b n n' : ℕ) (views : List ShareView) (id : ℕ) (w : ShareView) → n ≤ n' → ((j : ℕ) (u : ShareView) → get_elem? views j ≡ some u → Fits b n u) → Fits b n' w → (j : ℕ) (u : ShareView) → get_elem? (set views id w) j ≡ some u → Fits b n' u
others b n n' views id w up old mine j u e =
    ⊎_elim
    (λ (t : (j ≡ id) × (w ≡ u)). subst (Fits b n') t.1 mine)
    (λ (t : (j ≢ id) × (get_elem? views j ≡ some u)). let f = old j u t.1 in record { nones = f.nones; idle = f.idle; ended = λ h. (let k = f.ended h in omega arith) })
    (at_set views id j w u e)

pub draws : (size : CounterSize) (slots id : ℕ) (m : Seated) → size.branches + size.workers < 2 ^ 34 → m.0.parts ≡ 1 → m.0.nones ≡ 0
    → Allows (Counted size) slots id m 0 (λ n. (n + 1) % 2 ^ 64) (takes size.branches (step slots 0 1 0 none) m)
draws size slots id m small one fresh s h _ at _ =
    let b = size.branches in
    let v = m.0 in
    let n = h.next in
    let then = takes b (step slots 0 1 0 none) m in
    let nones_le : total (λ u. u.nones) s.views ≤ total (λ u. u.parts) s.views = total_le (λ u. u.nones) (λ u. u.parts) s.views (λ j u e. (h.fits j u e).nones) in
    let low : n + 1 < 2 ^ 64 = (let a = h.number in let c = h.few in let d = h.parts in omega arith) in
    let next : (n + 1) % 2 ^ 64 ≡ n + 1 = mod-eq_of_lt low in
    let f = h.fits id v at in
    dite (dec_lt n b)
    (λ (lt : n < b).
    let w = knows (v.taken ++ n ∷ []) v.parts v.nones in
    let vs = set s.views id w in
    let t0 = total_set (λ u. u.parts) s.views id v w at in
    let t1 = total_set (λ u. length u.taken) s.views id v w at in
    let t2 = total_set (λ u. u.nones) s.views id v w at in
    let l = length-append v.taken (n ∷ []) in
    let shown : Counted size (record { words = (n + 1) % 2 ^ 64 ∷ []; homes = s.homes; views = vs }) = record {
      next = (n + 1) % 2 ^ 64;
      words = refl;
      parts = (let a = h.parts in omega arith);
      number = (let a = h.number in next ∙ omega arith);
      few = (let a = h.number in let c = h.few in omega arith);
      taken = λ x. (let t = total_set (λ u. times x u.taken) s.views id v w at in let a = h.taken x in let o = once_more x n b lt in let p = times-append x v.taken (n ∷ []) in let q = ap (λ k. once_below x (min k b)) next in omega arith);
      fits = others b n ((n + 1) % 2 ^ 64) s.views id w (omega arith) h.fits (record { nones = f.nones; idle = λ e. absurd (omega arith); ended = λ e. absurd (omega arith) });
    } in
    let none_had : times n v.taken ≡ 0 = (let a = total_one (λ u. times n u.taken) s.views id v at in let c = h.taken n in let d : min n b ≡ n = min-eq_left (omega arith) in let e = ap (once_below n) d in let o = once_out n n (omega arith) in omega arith) in
    subst (at_words size s.homes s.views id m (λ k. (k + 1) % 2 ^ 64) then) (sym h.words) (w, keeps, tt, shown, ((λ k. (none_had, refl)), (λ k. absurd (omega arith)))))
    (λ (ge : ¬ (n < b)).
    let w = knows v.taken v.parts (v.nones + 1) in
    let vs = set s.views id w in
    let t0 = total_set (λ u. u.parts) s.views id v w at in
    let t1 = total_set (λ u. length u.taken) s.views id v w at in
    let t2 = total_set (λ u. u.nones) s.views id v w at in
    let lo : min (n + 1) b ≡ b = min-eq_right (omega arith) in
    let hi : min n b ≡ b = min-eq_right (omega arith) in
    let shown : Counted size (record { words = (n + 1) % 2 ^ 64 ∷ []; homes = s.homes; views = vs }) = record {
      next = (n + 1) % 2 ^ 64;
      words = refl;
      parts = (let a = h.parts in omega arith);
      number = (let a = h.number in next ∙ omega arith);
      few = (let c = h.few in omega arith);
      taken = λ x. (let t = total_set (λ u. times x u.taken) s.views id v w at in let a = h.taken x in let p = ap (once_below x) (lo ∙ sym hi) in let q = ap (λ k. once_below x (min k b)) next in omega arith);
      fits = others b n ((n + 1) % 2 ^ 64) s.views id w (omega arith) h.fits (record { nones = (let a = fresh in let c = one in omega arith); idle = f.idle; ended = λ e. omega arith });
    } in
    subst (at_words size s.homes s.views id m (λ k. (k + 1) % 2 ^ 64) then) (sym h.words) (w, keeps, tt, shown, ((λ k. absurd (omega arith)), (λ k. refl))))

pub deals : (size : CounterSize) (id left : ℕ) → 0 < left → Splits (Counted size) id (knows [] left 0) (knows [] (left - 1) 0) (knows [] 1 0)
deals size id left some_left s h at =
    let v = knows [] left 0 in
    let l = knows [] (left - 1) 0 in
    let r = knows [] 1 0 in
    let mid = set s.views id l in
    let f = h.fits id v at in
    let both : (g : ShareView → ℕ) → total g (mid ++ r ∷ []) + g v ≡ total g s.views + (g l + g r) = λ g. (let a = total_set g s.views id v l at in let c = total-append g mid (r ∷ []) in omega arith) in
    let t0 = both (λ u. u.parts) in
    let t1 = both (λ u. length u.taken) in
    let t2 = both (λ u. u.nones) in
    record {
      next = h.next;
      words = h.words;
      parts = (let a = h.parts in omega arith);
      number = (let a = h.number in omega arith);
      few = (let a = h.few in omega arith);
      taken = λ x. (let t = both (λ u. times x u.taken) in let a = h.taken x in omega arith);
      fits = λ j u e. ⊎_elim
          (λ (was : get_elem? mid j ≡ some u). others size.branches h.next h.next s.views id l (omega arith) h.fits (record { nones = omega arith; idle = λ _. refl; ended = λ k. absurd (omega arith) }) j u was)
          (λ (is : r ≡ u). subst (Fits size.branches h.next) is (record { nones = omega arith; idle = λ _. refl; ended = λ k. absurd (omega arith) }))
          (at_snoc mid r u j e);
    }

pub joins : (size : CounterSize) (id : ℕ) (v : ShareView) (other : ℕ) (w : ShareView) → Joins (Counted size) id v other w (joined v w) nothing
joins size id v other w s h at apart there =
    let all = joined v w in
    let mid = set s.views id all in
    let vs = set mid other nothing in
    let was : get_elem? s.views other ≡ some w = sym (set_else s.views id other all apart) ∙ there in
    let f = h.fits id v at in
    let g = h.fits other w was in
    let both : (k : ShareView → ℕ) → total k vs + (k v + k w) ≡ total k s.views + (k all + k nothing) = λ k. (let a = total_set k s.views id v all at in let c = total_set k mid other w nothing there in omega arith) in
    let t0 = both (λ u. u.parts) in
    let t1 = both (λ u. length u.taken) in
    let t2 = both (λ u. u.nones) in
    let l = length-append v.taken w.taken in
    record {
      next = h.next;
      words = h.words;
      parts = (let a = h.parts in omega arith);
      number = (let a = h.number in omega arith);
      few = (let a = h.few in omega arith);
      taken = λ x. (let t = both (λ u. times x u.taken) in let a = h.taken x in let p = times-append x v.taken w.taken in omega arith);
      fits = others size.branches h.next h.next mid other nothing (omega arith)
          (others size.branches h.next h.next s.views id all (omega arith) h.fits (record {
            nones = (let a = f.nones in let c = g.nones in omega arith);
            idle = λ e. (λ i. f.idle (omega arith) i ++ g.idle (omega arith) i);
            ended = λ e. dite (dec_lt 0 v.nones) (λ (y : 0 < v.nones). f.ended y) (λ (z : ¬ (0 < v.nones)). g.ended (omega arith));
          }))
          (record { nones = omega arith; idle = λ _. refl; ended = λ k. absurd (omega arith) });
    }

-- the share with every part has taken all that was taken
pub ends : (size : CounterSize) (s : State (Unit {0}) ShareView) (id : ℕ) (v : ShareView) (n : ℕ) (h : Counted size s) → get_elem? s.views id ≡ some v → v.parts ≡ size.workers → n ≡ h.next
    → ((x : ℕ) → times x v.taken ≡ once_below x (min n size.branches)) × (0 < v.nones → size.branches ≤ n)
ends size s id v n h at every e =
    let rest = set s.views id nothing in
    let silent : total (λ u. u.parts) rest ≡ 0 = (let t = total_set (λ u. u.parts) s.views id v nothing at in let a = h.parts in omega arith) in (
      (λ x.
          let t = total_set (λ u. times x u.taken) s.views id v nothing at in
          let z : total (λ u. times x u.taken) rest ≤ total (λ u. 0) rest = total_le (λ u. times x u.taken) (λ u. 0) rest (λ j u k.
          let none_left = total_one (λ y. y.parts) rest j u k in
          let f = others size.branches h.next h.next s.views id nothing (omega arith) h.fits (record { nones = omega arith; idle = λ _. refl; ended = λ y. absurd (omega arith) }) j u k in
          let empty : u.taken ≡ [] = f.idle (omega arith) in
          let q = ap (times x) empty in omega arith) in
          let zero_is : total (λ u. 0) rest ≡ 0 = zeros rest in
          let a = h.taken x in
          let q = ap (λ k. once_below x (min k size.branches)) e in
          omega arith),
      (λ y. (let k = (h.fits id v at).ended y in omega arith)),
    )
  where
    zeros : (views : List ShareView) → total (λ u. 0) views ≡ 0
    zeros [] = refl
    zeros (x ∷ xs) = let r = zeros xs in omega arith
