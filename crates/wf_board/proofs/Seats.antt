-- A worker's seat after each of its steps.
use Rattle.std.proofs.Common.{◌≡◌, ◌≢◌, ℕ, ◌+◌, ◌<◌, ◌≤◌, List, [], ◌∷◌, ◌++◌, length, sym, ap, subst, arith, length-append}
use mathlib.Core.Logic.{dite}
use native.Mathlib.Decide.{ℕ_discrete}
use Rattle.atomic_table.specs.Seated.{TableId}
use Rattle.wf_core.specs.Count.{times}
use Rattle.wf_core.proofs.Lemmas.{times-append, times_same, times_other, once_in, length-le_below, times_more}
use Rattle.wf_board.specs.Rule.{Seated, Sits}
use Rattle.wf_board.specs.Desk.{Desk, desk, knows, known, settled, posted, searched, is_cut}

-- what the seat has settled
abbrev all : Seated → List ℕ
all m = m.0.posted ++ (m.0.refuted ++ m.0.cut)

counted_all : (x : ℕ) (m : Seated) → times x m.0.posted + (times x m.0.refuted + times x m.0.cut) ≡ times x (all m)
counted_all x m = let a = times-append x m.0.posted (m.0.refuted ++ m.0.cut) in let b = times-append x m.0.refuted m.0.cut in omega arith

-- a branch more has room
pub sits_room : (seen posts b : ℕ) (m : Seated) (i : ℕ) → Sits seen posts b m → i < b → times i (all m) ≡ 0 → (length m.0.posted + 1) + (length m.0.refuted + length m.0.cut) ≤ b
sits_room seen posts b m i s inside fresh =
    let more : List ℕ = i ∷ all m in
    let short = length-le_below b more (λ x.
    let a = s.once x in
    let c = counted_all x m in
    dite (ℕ_discrete x i)
    (λ (is : x ≡ i).
    let t = times_same x i (all m) is in
    let z : times x (all m) ≡ 0 = subst (λ k. times k (all m) ≡ 0) (sym is) fresh in
    let o = once_in x b (omega arith) in omega arith)
    (λ (no : x ≢ i). let t = times_other x i (all m) no in omega arith)) in
    let l = length-append m.0.posted (m.0.refuted ++ m.0.cut) in
    let r = length-append m.0.refuted m.0.cut in
    omega arith

-- what a contract sees of a seat
abbrev pub desk_at : TableId → ℕ → ℕ → Seated → Desk
desk_at t b seen m = desk t b seen m.0.posted m.0.refuted m.0.cut

-- the seat knows what its desk says
pub sits_known : (t : TableId) (seen posts b : ℕ) (m : Seated) → Sits seen posts b m → m.0 ≡ known (desk_at t b seen m)
sits_known t seen posts b m s = ap (λ (x : Seated). x.0) s.is

pub one_seen : (seen posts b : ℕ) (m : Seated) → Sits seen posts b m → length m.0.seen ≡ 1
one_seen seen posts b m s = ap (λ (x : Seated). length x.0.seen) s.is

-- the desk of a seat, from what the seat knows
pub desk_is : (t : TableId) (m : Seated) (d : Desk) (slots : List (ℕ × Unit {0})) → t ≡ d.table → m ≡ (known d, slots) → desk_at t d.branches d.seen m ≡ d
desk_is t m d slots e f = λ k. desk (e k) d.branches d.seen (f k).0.posted (f k).0.refuted (f k).0.cut

-- the slots of a seat are none, and stay so
no_slots : (seen posts b : ℕ) (m : Seated) → Sits seen posts b m → m.1 ≡ []
no_slots seen posts b m s = ap (λ (x : Seated). x.1) s.is

pub sits_looked : (seen posts b l : ℕ) (m n : Seated) → Sits seen posts b m → n ≡ (knows (l ∷ []) m.0.posted m.0.refuted m.0.cut, m.1) → Sits l posts b n
sits_looked seen posts b l m n s e = subst (Sits l posts b) (sym e) (record {
  is = λ k. (knows (l ∷ []) m.0.posted m.0.refuted m.0.cut, no_slots seen posts b m s k);
  counted = s.counted;
  once = s.once;
})

pub sits_posted : (seen posts b l : ℕ) (m n : Seated) (i : ℕ) → Sits seen posts b m → i < b → times i (all m) ≡ 0
    → n ≡ (knows (l ∷ []) (m.0.posted ++ i ∷ []) m.0.refuted m.0.cut, m.1) → Sits l (posts + 1) b n
sits_posted seen posts b l m n i s inside fresh e = subst (Sits l (posts + 1) b) (sym e) (record {
  is = λ k. (knows (l ∷ []) (m.0.posted ++ i ∷ []) m.0.refuted m.0.cut, no_slots seen posts b m s k);
  counted = (let a = length-append m.0.posted (i ∷ []) in let p = s.counted in omega arith);
  once = λ x. (let o = times_more b i x _ (all m) inside (counted_all x m) (s.once x) fresh in let a = times-append x m.0.posted (i ∷ []) in omega arith);
})

pub sits_refuted : (seen posts b : ℕ) (m n : Seated) (i : ℕ) → Sits seen posts b m → i < b → times i (all m) ≡ 0
    → n ≡ (knows (seen ∷ []) m.0.posted (m.0.refuted ++ i ∷ []) m.0.cut, m.1) → Sits seen posts b n
sits_refuted seen posts b m n i s inside fresh e = subst (Sits seen posts b) (sym e) (record {
  is = λ k. (knows (seen ∷ []) m.0.posted (m.0.refuted ++ i ∷ []) m.0.cut, no_slots seen posts b m s k);
  counted = s.counted;
  once = λ x. (let o = times_more b i x _ (all m) inside (counted_all x m) (s.once x) fresh in let a = times-append x m.0.refuted (i ∷ []) in omega arith);
})

pub sits_cut : (seen posts b : ℕ) (m n : Seated) (i : ℕ) → Sits seen posts b m → i < b → times i (all m) ≡ 0
    → n ≡ (knows (seen ∷ []) m.0.posted m.0.refuted (m.0.cut ++ i ∷ []), m.1) → Sits seen posts b n
sits_cut seen posts b m n i s inside fresh e = subst (Sits seen posts b) (sym e) (record {
  is = λ k. (knows (seen ∷ []) m.0.posted m.0.refuted (m.0.cut ++ i ∷ []), no_slots seen posts b m s k);
  counted = s.counted;
  once = λ x. (let o = times_more b i x _ (all m) inside (counted_all x m) (s.once x) fresh in let a = times-append x m.0.cut (i ∷ []) in omega arith);
})

-- a seat's own posts
pub few_posts : (seen posts b : ℕ) (m : Seated) → Sits seen posts b m → posts ≤ b
few_posts seen posts b m s = let e = s.counted in let l = length-le_below b m.0.posted (λ x. let k = s.once x in omega arith) in omega arith

pub inside_of : (i a b : ℕ) → i < b → a ≡ b → i < a
inside_of i a b h e = omega arith

pub fresh_of : (i : ℕ) (v d : Desk) → v ≡ d → times i (settled d) ≡ 0 → times i (settled v) ≡ 0
fresh_of i v d e h = subst (λ (x : Desk). times i (settled x) ≡ 0) (sym e) h

-- How often a branch stands in what a seat has settled, after a call

settled_parts : (x : ℕ) (d : Desk) → times x (settled d) ≡ times x d.posted + (times x d.refuted + times x d.cut)
settled_parts x d = let a = times-append x d.posted (d.refuted ++ d.cut) in let b = times-append x d.refuted d.cut in omega arith

pub settled-posted : (x i l : ℕ) (d : Desk) → times x (settled (posted d i l)) ≡ times x (settled d) + times x (i ∷ [])
settled-posted x i l d = let a = settled_parts x d in let b = settled_parts x (posted d i l) in let e = times-append x d.posted (i ∷ []) in omega arith

pub settled-searched : (x i : ℕ) (d : Desk) → times x (settled (searched d i)) ≡ times x (settled d) + times x (i ∷ [])
settled-searched x i d = let a = settled_parts x d in let b = settled_parts x (searched d i) in let e = times-append x d.refuted (i ∷ []) in omega arith

pub settled-is_cut : (x i : ℕ) (d : Desk) → times x (settled (is_cut d i)) ≡ times x (settled d) + times x (i ∷ [])
settled-is_cut x i d = let a = settled_parts x d in let b = settled_parts x (is_cut d i) in let e = times-append x d.cut (i ∷ []) in omega arith
