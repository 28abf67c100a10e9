-- The room of a window, and the bytes in it.
use Rattle.std.proofs.Common.{◌≡◌, ◌≤◌, ℕ, suc, ◌+◌, ◌-◌, min, ◌++◌, true, List, [], ◌∷◌, length, take, drop, refl, sym, ap, ◌∙◌, arith, append_assoc, length-append, length-drop, length-take}
use Rattle.std.specs.Prelude.{slice_range}
use Rattle.std.proofs.Math.Seq.{take-append-add}
use Rattle.std.proofs.lemmas.List.{drop-drop, drop-take, take-append-drop, take-append-le, take_all}
use Rattle.std.proofs.lemmas.Slice.{between_from_start}
use Rattle.wf_report.specs.Reading.{lacks}
use Rattle.wf_report.specs.Windows.{Ahead, IsCutAt, IsWindow}

-- ---- moves within the room

pub passed_is : (room : List ℕ) (first past size : ℕ) → first + (size + 1) ≤ past → slice_range room (first + (size + 1)) past ≡ drop (size + 1) (slice_range room first past)
passed_is room first past size inside =
    let split : past - first ≡ (size + 1) + (past - (first + (size + 1))) = omega (arith, inside) in
    sym
    (ap (λ n. drop (size + 1) (take n (drop first room))) split
    ∙ drop-take (size + 1) (past - (first + (size + 1))) (drop first room)
    ∙ ap (take (past - (first + (size + 1)))) (drop-drop (size + 1) first room))

pub pending_size : (room : List ℕ) (first past : ℕ) → IsWindow room first past → length (slice_range room first past) ≡ past - first
pending_size room first past is =
    let rest = length-drop first room in
    let part = length-take (past - first) (drop first room) in
    omega (arith, rest, part, is.long, is.ordered, is.within)

take_more : (m n : ℕ) (xs : List ℕ) → m ≤ length xs → take (m + n) xs ≡ take m xs ++ take n (drop m xs)
take_more m n xs few =
    let cut = length-take m xs in
    let size : m ≡ length (take m xs) = omega (arith, cut, few) in
    ap (take (m + n)) (sym (take-append-drop m xs)) ∙ ap (λ k. take (k + n) (take m xs ++ drop m xs)) size ∙ take-append-add (take m xs) (drop m xs) n

-- what was read stands behind what was kept
pub filled_is : (room moved now : List ℕ) (first past kept n : ℕ) → take kept moved ≡ slice_range room first past → take kept now ≡ take kept moved → kept ≤ length now
    → slice_range now 0 (kept + n) ≡ slice_range room first past ++ take n (drop kept now)
filled_is room moved now first past kept n front same few =
    between_from_start now (kept + n) ∙ take_more kept n now few ∙ ap (λ t. t ++ take n (drop kept now)) (same ∙ front)

-- what a room holds once a slice of it was written
pub room_is : (len : ℕ) (now old : List ℕ) → length now ≡ len → take len (now ++ drop (length now) old) ≡ now
room_is len now old same = take-append-le len now (drop (length now) old) (omega (arith, same)) ∙ take_all len now (omega (arith, same))

-- ---- the front

take_front : (front rest : List ℕ) → take (length front) (front ++ rest) ≡ front
take_front [] rest = refl
take_front (x ∷ front) rest = ap (λ xs. x ∷ xs) (take_front front rest)

drop_front : (front rest : List ℕ) (x : ℕ) → drop (length front + 1) (front ++ x ∷ rest) ≡ rest
drop_front [] rest x = refl
drop_front (y ∷ front) rest x =
    let e : suc (length front) + 1 ≡ suc (length front + 1) = omega arith in
    rw e (drop_front front rest x)

-- the bytes begin with a line
pub cut_at : (w : Ahead) (front rest : List ℕ) → w.pending ≡ front ++ 10 ∷ rest → lacks 10 front ≡ true → IsCutAt (length front) w
cut_at w front rest is whole =
    let first : take (length front) w.pending ≡ front = ap (take (length front)) is ∙ take_front front (10 ∷ rest) in
    let others : drop (length front + 1) w.pending ≡ rest = ap (drop (length front + 1)) is ∙ drop_front front rest 10 in
    let size = ap length is in
    let parts = length-append front (10 ∷ rest) in
    record {
      cut = is ∙ sym (λ i. first i ++ 10 ∷ others i);
      whole = ap (lacks 10) first ∙ whole;
      inside = omega (arith, size, parts);
    }

module _ (w : Ahead) (near : List ℕ) (k : ℕ) (least : k ≡ min (length w.pending) 22) (is : near ≡ take k w.pending) where
  pub near_line : (front rest : List ℕ) → near ≡ front ++ 10 ∷ rest → lacks 10 front ≡ true → IsCutAt (length front) w
  near_line front rest cut whole =
      cut_at w front (rest ++ drop k w.pending)
      (sym (take-append-drop k w.pending) ∙ ap (λ t. t ++ drop k w.pending) (sym is ∙ cut) ∙ append_assoc front (10 ∷ rest) (drop k w.pending))
      whole
