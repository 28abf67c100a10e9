-- Each step of one seat keeps the rule.
use Rattle.std.proofs.Common.{◌≡◌, ◌≢◌, ◌⊎◌, ℕ, ◌+◌, ◌*◌, ◌%◌, ◌^◌, ◌<◌, ◌≤◌, min, List, [], ◌∷◌, ◌++◌, length, set, refl, sym, ap, ◌∙◌, subst, ⊎_elim, arith, inl, inr, length-append, slice_index, le_refl, le_trans}
use Rattle.std.specs.Prelude.{All, Contains}
use Rattle.std.proofs.lemmas.List.Elements.{All-nil, All-cons, All-push, All-head, All-weaker, All-contains, Contains-push, Contains-append_left}
use Rattle.std.proofs.Math.Nat.{min-le_left, min-le_right}
use Rattle.std.proofs.Math.Nat.{mod-eq_of_lt, mul-one}
use mathlib.Core.Option.{none}
use Rattle.atomic_table.specs.Table.{step}
use mathlib.Core.Option.{some}
use lib.ListN.{get_elem?}
use Rattle.atomic_table.specs.Table.{State, Step, Act, keeps, Allows, Valid, carried_after, stepped}
use Rattle.atomic_table.proofs.Lists.{at_set}
use Rattle.wf_board.specs.declared.table.SeatView.{SeatView}
use Rattle.wf_board.specs.declared.table.Ledger.{Ledger}
use Rattle.wf_core.specs.Count.{total}
use Rattle.wf_core.proofs.Lemmas.{put_at, total_set, total_bound, min_cases}
use Rattle.wf_board.specs.Desk.{Desk, knows, known}
use Rattle.wf_board.specs.Rule.{Posted, AtMost, Below, Fits, Shown, Seated, looks, posts, refutes, cuts}
use Rattle.wf_board.proofs.Views.{stands_kept}

here : (y : ℕ) → Contains (y ∷ []) y
here y = (0, omega arith, refl)

-- what holds of all that a worker's seat has seen holds of its number
seen_head : (P : ℕ → Type 0) (v : SeatView) (d : Desk) → v ≡ known d → All P v.seen → P d.seen
seen_head P v d e all = All-head P d.seen [] (subst (λ (u : SeatView). All P u.seen) e all)

-- the views but one are as they were
pub others : (b l l' : ℕ) (views : List SeatView) (id : ℕ) (v w : SeatView) → get_elem? views id ≡ some v → l' ≤ l → ((x : ℕ) → Contains v.posted x → Contains w.posted x)
    → ((j : ℕ) (u : SeatView) → get_elem? views j ≡ some u → Fits b l views u) → Fits b l' (set views id w) w
    → (j : ℕ) (u : SeatView) → get_elem? (set views id w) j ≡ some u → Fits b l' (set views id w) u
others b l l' views id v w at down grows old mine j u e =
    ⊎_elim
    (λ (t : (j ≡ id) × (w ≡ u)). subst (λ (y : SeatView). Fits b l' (set views id w) y) t.1 mine)
    (λ (t : (j ≢ id) × (get_elem? views j ≡ some u)).
    let f = old j u t.1 in
    record {
      room = f.room;
      posts = All-weaker (λ x. l ≤ x) (λ x. l' ≤ x) (λ x h. le_trans down h) u.posted f.posts;
      sees = All-weaker (λ x. (l ≤ x) × ((x ≡ b) ⊎ Posted views x)) (λ x. (l' ≤ x) × ((x ≡ b) ⊎ Posted (set views id w) x))
          (λ x h. (le_trans down h.0, ⊎_elim (λ (s : x ≡ b). inl s) (λ (p : Posted views x). inr (stands_kept (λ y. y.posted) views id v w at grows x p)) h.1)) u.seen f.sees;
      after_posts = f.after_posts;
      above_cuts = f.above_cuts;
    })
    (at_set views id j w u e)

-- a number that is at most all that was seen stands in its place
seen_below : (b l : ℕ) (views : List SeatView) (v : SeatView) (l' : ℕ) → l' ≤ l → Fits b l views v → (x : ℕ) → Below v.seen x → Below (l' ∷ []) x
seen_below b l views v l' down f x h =
    let low = All-contains (λ x. (l ≤ x) × ((x ≡ b) ⊎ Posted views x)) v.seen h.0 f.sees h.1 in
    let a : l ≤ h.0 = low.0 in
    let c : h.0 < x = h.2 in
    (l', here l', omega arith)

abbrev at_words : (ledger : Ledger) (homes : List (mathlib.Core.Option.Option (Unit {0}))) (views : List SeatView) (st : Step (Unit {0})) (id : ℕ) (m : Seated) (f : ℕ → ℕ) (i : ℕ) (then : ℕ → Seated → Type 0) → List ℕ → Type 0
at_words ledger homes views st id m f i then ws = (w : SeatView) × (a : Act (Unit {0})) × Valid homes m.1 a
    × Shown ledger (stepped (record { words = ws; homes = homes; views = views }) i (f (slice_index ws i)) id m.1 w a) × then (slice_index ws i) (w, carried_after m.1 a)

pub sees_least : (ledger : Ledger) (slots id : ℕ) (m : Seated) → length m.0.seen ≡ 1 → Allows (Shown ledger) slots id m 0 (λ n. n) (looks (step slots 0 0 0 none) m)
sees_least ledger slots id m one s h _ at _ =
    let st = step slots 0 0 0 none in
    let v = m.0 in
    let b = ledger.branches in
    let l = h.least in
    let w = knows (l ∷ []) v.posted v.refuted v.cut in
    let vs = set s.views id w in
    let f = h.fits id v at in
    let still : (x : ℕ) → Posted s.views x → Posted vs x = stands_kept (λ y. y.posted) s.views id v w at (λ x c. c) in
    let mine : Fits b l vs w = record {
      room = subst (λ n. length v.posted + (length v.refuted + length v.cut) ≤ b * n) one f.room;
      posts = f.posts;
      sees = All-cons (λ x. (l ≤ x) × ((x ≡ b) ⊎ Posted vs x)) l [] (le_refl l, ⊎_elim (λ (e : l ≡ b). inl e) (λ (p : Posted s.views l). inr (still l p)) h.least_is.1) (All-nil _);
      after_posts = All-weaker (λ x. l ≤ x) (AtMost (l ∷ [])) (λ x k. (l, here l, k)) v.posted f.posts;
      above_cuts = All-weaker (Below v.seen) (Below (l ∷ [])) (λ x k. seen_below b l s.views v l (le_refl l) f x k) v.cut f.above_cuts;
    } in
    let t0 = total_set (λ u. length u.seen) s.views id v w at in
    let t1 = total_set (λ u. length u.refuted) s.views id v w at in
    let t2 = total_set (λ u. length u.cut) s.views id v w at in
    let shown : Shown ledger (record { words = l ∷ h.refuted ∷ h.cut ∷ []; homes = s.homes; views = vs }) = record {
      least = l;
      refuted = h.refuted;
      cut = h.cut;
      words = refl;
      workers = (let a = h.workers in omega arith);
      refuted_is = (let a = h.refuted_is in omega arith);
      cut_is = (let a = h.cut_is in omega arith);
      least_is = (h.least_is.0, ⊎_elim (λ (e : l ≡ b). inl e) (λ (p : Posted s.views l). inr (still l p)) h.least_is.1);
      fits = others b l l s.views id v w at (le_refl l) (λ x c. c) h.fits mine;
    } in
    subst (at_words ledger s.homes s.views st id m (λ n. n) 0 (looks st m)) (sym h.words) (
      w,
      keeps,
      tt,
      shown,
      (λ d e. (
        (seen_head (λ x. l ≤ x) v d e (All-weaker (λ x. (l ≤ x) × ((x ≡ b) ⊎ Posted s.views x)) (λ x. l ≤ x) (λ x k. k.0) v.seen f.sees), subst (λ (u : SeatView). All (λ x. l ≤ x) u.posted) e f.posts),
        (λ k. (knows (l ∷ []) (e k).posted (e k).refuted (e k).cut, m.1)),
      )),
    )

pub posts_number : (ledger : Ledger) (slots id : ℕ) (m : Seated) (i : ℕ) → length m.0.seen ≡ 1 → i < ledger.branches → (length m.0.posted + 1) + (length m.0.refuted + length m.0.cut) ≤ ledger.branches
    → Allows (Shown ledger) slots id m 0 (λ n. min n i) (posts (step slots 0 i 0 none) m)
posts_number ledger slots id m i one inside room s h _ at _ =
    let st = step slots 0 i 0 none in
    let v = m.0 in
    let b = ledger.branches in
    let l = min h.least i in
    let down : l ≤ h.least = min-le_left h.least i in
    let w = knows (l ∷ []) (v.posted ++ i ∷ []) v.refuted v.cut in
    let vs = set s.views id w in
    let f = h.fits id v at in
    let grows : (x : ℕ) → Contains v.posted x → Contains w.posted x = λ x c. Contains-append_left v.posted (i ∷ []) x c in
    let still : (x : ℕ) → Posted s.views x → Posted vs x = stands_kept (λ y. y.posted) s.views id v w at grows in
    let longer : length (v.posted ++ i ∷ []) ≡ length v.posted + 1 = length-append v.posted (i ∷ []) in
    let is : (l ≡ b) ⊎ Posted vs l =
    ⊎_elim
    (λ (e : l ≡ h.least). ⊎_elim (λ (t : h.least ≡ b). inl (e ∙ t)) (λ (p : Posted s.views h.least). inr (subst (Posted vs) (sym e) (still h.least p))) h.least_is.1)
    (λ (e : l ≡ i). inr (id, w, put_at s.views id v w at, subst (Contains (v.posted ++ i ∷ [])) (sym e) (Contains-push v.posted i)))
    (min_cases h.least i) in
    let posted_up : All (λ x. l ≤ x) (v.posted ++ i ∷ []) = All-push (λ x. l ≤ x) v.posted i (All-weaker (λ x. h.least ≤ x) (λ x. l ≤ x) (λ x k. le_trans down k) v.posted f.posts) (min-le_right h.least i) in
    let mine : Fits b l vs w = record {
      room = (let e : b * 1 ≡ b = mul-one b in omega arith);
      posts = posted_up;
      sees = All-cons (λ x. (l ≤ x) × ((x ≡ b) ⊎ Posted vs x)) l [] (le_refl l, is) (All-nil _);
      after_posts = All-weaker (λ x. l ≤ x) (AtMost (l ∷ [])) (λ x k. (l, here l, k)) (v.posted ++ i ∷ []) posted_up;
      above_cuts = All-weaker (Below v.seen) (Below (l ∷ [])) (λ x k. seen_below b h.least s.views v l down f x k) v.cut f.above_cuts;
    } in
    let t0 = total_set (λ u. length u.seen) s.views id v w at in
    let t1 = total_set (λ u. length u.refuted) s.views id v w at in
    let t2 = total_set (λ u. length u.cut) s.views id v w at in
    let shown : Shown ledger (record { words = l ∷ h.refuted ∷ h.cut ∷ []; homes = s.homes; views = vs }) = record {
      least = l;
      refuted = h.refuted;
      cut = h.cut;
      words = refl;
      workers = (let a = h.workers in omega arith);
      refuted_is = (let a = h.refuted_is in omega arith);
      cut_is = (let a = h.cut_is in omega arith);
      least_is = (le_trans down h.least_is.0, is);
      fits = others b h.least l s.views id v w at down grows h.fits mine;
    } in
    subst (at_words ledger s.homes s.views st id m (λ n. min n i) 0 (posts st m)) (sym h.words) (
      w,
      keeps,
      tt,
      shown,
      (λ d e. (
        (seen_head (λ x. l ≤ x) v d e (All-weaker (λ x. (h.least ≤ x) × ((x ≡ b) ⊎ Posted s.views x)) (λ x. l ≤ x) (λ x k. le_trans down k.0) v.seen f.sees), subst (λ (u : SeatView). All (λ x. l ≤ x) u.posted) e (All-weaker (λ x. h.least ≤ x) (λ x. l ≤ x) (λ x k. le_trans down k) v.posted f.posts)),
        (λ k. (knows (l ∷ []) ((e k).posted ++ i ∷ []) (e k).refuted (e k).cut, m.1)),
      )),
    )

-- the counts fit their words
count_fits : (ledger : Ledger) (s : State (Unit {0}) SeatView) (count : SeatView → ℕ) → ((v : SeatView) → count v ≤ length v.posted + (length v.refuted + length v.cut)) → ledger.branches * ledger.workers < 2 ^ 32 → Shown ledger s → total count s.views < 2 ^ 32
count_fits ledger s count part small h =
    let b = ledger.branches in
    let bound : total count s.views ≤ b * total (λ v. length v.seen) s.views = total_bound count (λ v. length v.seen) b s.views (λ j v e. le_trans (part v) ((h.fits j v e).room)) in
    let same : b * total (λ v. length v.seen) s.views ≡ b * ledger.workers = ap (λ n. b * n) h.workers in
    omega arith

pub refutes_number : (ledger : Ledger) (slots id : ℕ) (m : Seated) (i : ℕ) → ledger.branches * ledger.workers < 2 ^ 32 → length m.0.seen ≡ 1
    → (length m.0.posted + 1) + (length m.0.refuted + length m.0.cut) ≤ ledger.branches
    → Allows (Shown ledger) slots id m 1 (λ n. (n + 1) % 2 ^ 64) (refutes i (step slots 1 1 0 none) m)
refutes_number ledger slots id m i small one room s h _ at _ =
    let st = step slots 1 1 0 none in
    let v = m.0 in
    let b = ledger.branches in
    let l = h.least in
    let w = knows v.seen v.posted (v.refuted ++ i ∷ []) v.cut in
    let vs = set s.views id w in
    let f = h.fits id v at in
    let still : (x : ℕ) → Posted s.views x → Posted vs x = stands_kept (λ y. y.posted) s.views id v w at (λ x c. c) in
    let longer : length (v.refuted ++ i ∷ []) ≡ length v.refuted + 1 = length-append v.refuted (i ∷ []) in
    let mine : Fits b l vs w = record {
      room = (let e : b * length v.seen ≡ b = ap (λ n. b * n) one ∙ mul-one b in omega arith);
      posts = f.posts;
      sees = All-weaker (λ x. (l ≤ x) × ((x ≡ b) ⊎ Posted s.views x)) (λ x. (l ≤ x) × ((x ≡ b) ⊎ Posted vs x)) (λ x k. (k.0, ⊎_elim (λ (e : x ≡ b). inl e) (λ (p : Posted s.views x). inr (still x p)) k.1)) v.seen f.sees;
      after_posts = f.after_posts;
      above_cuts = f.above_cuts;
    } in
    let t0 = total_set (λ u. length u.seen) s.views id v w at in
    let t1 = total_set (λ u. length u.refuted) s.views id v w at in
    let t2 = total_set (λ u. length u.cut) s.views id v w at in
    let fits_word : h.refuted < 2 ^ 32 = subst (λ n. n < 2 ^ 32) (sym h.refuted_is) (count_fits ledger s (λ u. length u.refuted) (λ u. omega arith) small h) in
    let wraps_not : (h.refuted + 1) % 2 ^ 64 ≡ h.refuted + 1 = mod-eq_of_lt (omega arith) in
    let shown : Shown ledger (record { words = l ∷ (h.refuted + 1) % 2 ^ 64 ∷ h.cut ∷ []; homes = s.homes; views = vs }) = record {
      least = l;
      refuted = (h.refuted + 1) % 2 ^ 64;
      cut = h.cut;
      words = refl;
      workers = (let a = h.workers in omega arith);
      refuted_is = (let a = h.refuted_is in wraps_not ∙ omega arith);
      cut_is = (let a = h.cut_is in omega arith);
      least_is = (h.least_is.0, ⊎_elim (λ (e : l ≡ b). inl e) (λ (p : Posted s.views l). inr (still l p)) h.least_is.1);
      fits = others b l l s.views id v w at (le_refl l) (λ x c. c) h.fits mine;
    } in
    subst (at_words ledger s.homes s.views st id m (λ n. (n + 1) % 2 ^ 64) 1 (refutes i st m)) (sym h.words)
    (w, keeps, tt, shown, (λ d e k. (knows (e k).seen (e k).posted ((e k).refuted ++ i ∷ []) (e k).cut, m.1)))

pub cuts_number : (ledger : Ledger) (slots id : ℕ) (m : Seated) (i : ℕ) → ledger.branches * ledger.workers < 2 ^ 32 → length m.0.seen ≡ 1 → Below m.0.seen i
    → (length m.0.posted + 1) + (length m.0.refuted + length m.0.cut) ≤ ledger.branches
    → Allows (Shown ledger) slots id m 2 (λ n. (n + 1) % 2 ^ 64) (cuts i (step slots 2 1 0 none) m)
cuts_number ledger slots id m i small one below room s h _ at _ =
    let st = step slots 2 1 0 none in
    let v = m.0 in
    let b = ledger.branches in
    let l = h.least in
    let w = knows v.seen v.posted v.refuted (v.cut ++ i ∷ []) in
    let vs = set s.views id w in
    let f = h.fits id v at in
    let still : (x : ℕ) → Posted s.views x → Posted vs x = stands_kept (λ y. y.posted) s.views id v w at (λ x c. c) in
    let longer : length (v.cut ++ i ∷ []) ≡ length v.cut + 1 = length-append v.cut (i ∷ []) in
    let mine : Fits b l vs w = record {
      room = (let e : b * length v.seen ≡ b = ap (λ n. b * n) one ∙ mul-one b in omega arith);
      posts = f.posts;
      sees = All-weaker (λ x. (l ≤ x) × ((x ≡ b) ⊎ Posted s.views x)) (λ x. (l ≤ x) × ((x ≡ b) ⊎ Posted vs x)) (λ x k. (k.0, ⊎_elim (λ (e : x ≡ b). inl e) (λ (p : Posted s.views x). inr (still x p)) k.1)) v.seen f.sees;
      after_posts = f.after_posts;
      above_cuts = All-push (Below v.seen) v.cut i f.above_cuts below;
    } in
    let t0 = total_set (λ u. length u.seen) s.views id v w at in
    let t1 = total_set (λ u. length u.refuted) s.views id v w at in
    let t2 = total_set (λ u. length u.cut) s.views id v w at in
    let fits_word : h.cut < 2 ^ 32 = subst (λ n. n < 2 ^ 32) (sym h.cut_is) (count_fits ledger s (λ u. length u.cut) (λ u. omega arith) small h) in
    let wraps_not : (h.cut + 1) % 2 ^ 64 ≡ h.cut + 1 = mod-eq_of_lt (omega arith) in
    let shown : Shown ledger (record { words = l ∷ h.refuted ∷ (h.cut + 1) % 2 ^ 64 ∷ []; homes = s.homes; views = vs }) = record {
      least = l;
      refuted = h.refuted;
      cut = (h.cut + 1) % 2 ^ 64;
      words = refl;
      workers = (let a = h.workers in omega arith);
      refuted_is = (let a = h.refuted_is in omega arith);
      cut_is = (let a = h.cut_is in wraps_not ∙ omega arith);
      least_is = (h.least_is.0, ⊎_elim (λ (e : l ≡ b). inl e) (λ (p : Posted s.views l). inr (still l p)) h.least_is.1);
      fits = others b l l s.views id v w at (le_refl l) (λ x c. c) h.fits mine;
    } in
    subst (at_words ledger s.homes s.views st id m (λ n. (n + 1) % 2 ^ 64) 2 (cuts i st m)) (sym h.words)
    (w, keeps, tt, shown, (λ d e k. (knows (e k).seen (e k).posted (e k).refuted ((e k).cut ++ i ∷ []), m.1)))
