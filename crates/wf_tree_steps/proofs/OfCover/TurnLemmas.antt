-- Moves under keys are the first moves that say how sheets go over.
use Rattle.std.proofs.Common.{◌≡◌, ℕ, suc, ◌+◌, ◌*◌, ◌==◌, ◌&&◌, ◌<◌, ◌≤◌, Bool, true, false, List, [], ◌∷◌, cond, get_or, length, slice_index_or, Option, None, Some, refl, sym, ap, ap₂, ◌∙◌, subst, arith}
use Rattle.std.specs.List.{AllByRecursion}
use Rattle.std.proofs.lemmas.Bool.{and_from, and_parts, cond-false, eq-eqb, eqb-true, ne_eqb}
use Rattle.wf_model.proofs.Lemmas.{and_turned}
use Rattle.wf_model.specs.Task.{Tuple}
use Rattle.wf_tree_model.specs.Tuples.{value_at}
use Rattle.wf_tree_model.specs.Trees.{is_move, move_by, position}
use Rattle.wf_tree_steps.specs.declared.cover.cover.Move as code
use Rattle.wf_tree_steps.specs.Cover.Faults.{move_seen, moves_seen}
use Rattle.wf_tree_steps.specs.Cover.Turns.{AreTurns, HasBytes, moved_by, turn_in, turn_key}

-- ---- keys

same_test : (a b : Bool) → (a ≡ true → b ≡ true) → (b ≡ true → a ≡ true) → a ≡ b
same_test true b f g = sym (f refl)
same_test false true f g = g refl
same_test false false f g = refl

keys_alike : (i a j b p x q y : ℕ) → a ≤ 255 → j ≤ 255 → b ≤ 255 → x ≤ 255 → q ≤ 255 → y ≤ 255 → (((i == p) && (a == x)) && ((j == q) && (b == y))) ≡ (turn_key i a j b == turn_key p x q y)
keys_alike i a j b p x q y la lj lb lx lq ly =
    same_test (((i == p) && (a == x)) && ((j == q) && (b == y))) (turn_key i a j b == turn_key p x q y)
    (λ h.
    let both = and_parts ((i == p) && (a == x)) ((j == q) && (b == y)) h in
    let one = and_parts (i == p) (a == x) both.0 in
    let two = and_parts (j == q) (b == y) both.1 in
    let e1 = eqb-true i p one.0 in
    let e2 = eqb-true a x one.1 in
    let e3 = eqb-true j q two.0 in
    let e4 = eqb-true b y two.1 in
    eq-eqb _ _ (let e : turn_key i a j b ≡ turn_key p x q y = omega (arith, e1, e2, e3, e4) in e))
    (λ h.
    let e : ((i * 256 + a) * 256 + j) * 256 + b ≡ ((p * 256 + x) * 256 + q) * 256 + y = eqb-true _ _ h in
    let e4 : b ≡ y = omega (arith, e, lb, ly) in
    let d : (i * 256 + a) * 256 + j ≡ (p * 256 + x) * 256 + q = omega (arith, e, e4) in
    let e3 : j ≡ q = omega (arith, d, lj, lq) in
    let f : i * 256 + a ≡ p * 256 + x = omega (arith, d, e3) in
    let e2 : a ≡ x = omega (arith, f, la, lx) in
    let e1 : i ≡ p = omega (arith, f, e2) in
    and_from ((i == p) && (a == x)) ((j == q) && (b == y)) (and_from (i == p) (a == x) (eq-eqb i p e1) (eq-eqb a x e2)) (and_from (j == q) (b == y) (eq-eqb j q e3) (eq-eqb b y e4)))

-- ---- what a move says

none_some : (r : ℕ × Bool) → None ≡ Some r → ⊥
none_some r e = cc

some_none : (r : ℕ × Bool) → Some r ≡ None → ⊥
some_none r e = cc

same_turn : (r s : ℕ × Bool) → Some r ≡ Some s → r ≡ s
same_turn r s e = cc

back_apart : (r s : ℕ × Bool) → r ≡ s → r.1 ≡ true → s.1 ≡ false → ⊥
back_apart r s e t f = let bad : true ≡ false = sym t ∙ ap (λ (r : ℕ × Bool). r.1) e ∙ f in cc

-- the sheet by the sheets of a move, forth or back
abbrev pub sheet_by : Bool → List ℕ → ℕ → ℕ
sheet_by back sheets sheet = cond back (position sheet sheets) (slice_index_or sheets sheet 0)

module _ (i a j b sheet : ℕ) (li : i ≤ 255) (la : a ≤ 255) (lj : j ≤ 255) (lb : b ≤ 255) where
  abbrev pub Says : ℕ → List code.Move → Option (ℕ × Bool) → Type 0
  Says number ms None = move_by (moves_seen ms) i a j b sheet ≡ sheet
  Says number ms (Some r) =
      (k : ℕ) × (r.0 ≡ number + k) × (k < length ms) × ((d : code.Move) → move_by (moves_seen ms) i a j b sheet ≡ sheet_by r.1 (get_or ms k d).sheets.items sheet)

  forth_is : (m : code.Move) → HasBytes m → is_move (move_seen m) i a j b ≡ (turn_key m.first m.value m.second m.other == turn_key i a j b)
  forth_is m h = keys_alike m.first m.value m.second m.other i a j b h.value h.second h.other la lj lb

  back_is : (m : code.Move) → HasBytes m → is_move (move_seen m) j b i a ≡ (turn_key m.second m.other m.first m.value == turn_key i a j b)
  back_is m h =
      and_turned ((m.first == j) && (m.value == b)) ((m.second == i) && (m.other == a))
      ∙ keys_alike m.second m.other m.first m.value i a j b h.other h.first h.value la lj lb

  next_is : (m : code.Move) (ms : List code.Move) → HasBytes m → move_by (moves_seen (m ∷ ms)) i a j b sheet
      ≡ cond (turn_key m.first m.value m.second m.other == turn_key i a j b) (slice_index_or m.sheets.items sheet 0)
      (cond (turn_key m.second m.other m.first m.value == turn_key i a j b) (position sheet m.sheets.items) (move_by (moves_seen ms) i a j b sheet))
  next_is m ms h =
      ap (λ t. cond t (slice_index_or m.sheets.items sheet 0) (cond (is_move (move_seen m) j b i a) (position sheet m.sheets.items) (move_by (moves_seen ms) i a j b sheet))) (forth_is m h)
      ∙ ap (λ t. cond (turn_key m.first m.value m.second m.other == turn_key i a j b) (slice_index_or m.sheets.items sheet 0) (cond t (position sheet m.sheets.items) (move_by (moves_seen ms) i a j b sheet))) (back_is m h)

  pub turn_says : (number : ℕ) (ms : List code.Move) → AllByRecursion HasBytes ms → (o : Option (ℕ × Bool)) → turn_in number ms (turn_key i a j b) ≡ o → Says number ms o
  turn_says number [] h None e = refl
  turn_says number [] h (Some r) e = absurd (none_some r e)
  turn_says number (m ∷ ms) h o e = go (turn_key m.first m.value m.second m.other == turn_key i a j b) (turn_key m.second m.other m.first m.value == turn_key i a j b) (turn_says (suc number) ms h.1) o e (next_is m ms h.0)
    where
      go : (forth back : Bool) → ((o : Option (ℕ × Bool)) → turn_in (suc number) ms (turn_key i a j b) ≡ o → Says (suc number) ms o) → (o : Option (ℕ × Bool))
          → cond forth (Some (number, false)) (cond back (Some (number, true)) (turn_in (suc number) ms (turn_key i a j b))) ≡ o
          → move_by (moves_seen (m ∷ ms)) i a j b sheet ≡ cond forth (slice_index_or m.sheets.items sheet 0) (cond back (position sheet m.sheets.items) (move_by (moves_seen ms) i a j b sheet))
          → Says number (m ∷ ms) o
      go true back rest None e is = absurd (some_none (number, false) e)
      go true back rest (Some (n, true)) e is = absurd (back_apart (n, true) (number, false) (sym (same_turn (number, false) (n, true) e)) refl refl)
      go true back rest (Some (n, false)) e is = let same : n ≡ number = sym (ap (λ (r : ℕ × Bool). r.0) (same_turn (number, false) (n, false) e)) in (0, (omega (arith, same)), omega arith, λ d. is)
      go false true rest None e is = absurd (some_none (number, true) e)
      go false true rest (Some (n, false)) e is = absurd (back_apart (number, true) (n, false) (same_turn (number, true) (n, false) e) refl refl)
      go false true rest (Some (n, true)) e is = let same : n ≡ number = sym (ap (λ (r : ℕ × Bool). r.0) (same_turn (number, true) (n, true) e)) in (0, (omega (arith, same)), omega arith, λ d. is)
      go false false rest None e is = is ∙ rest None e
      go false false rest (Some r) e is =
          let s = rest (Some r) e in
          (suc s.0, (let at = s.1 in omega (arith, at)), (let low = s.2 in omega (arith, low)), λ d. is ∙ s.3 d)

-- ---- what a table says

module _ (moves : List code.Move) (turns : ℕ → Option (ℕ × Bool)) (h : AreTurns moves turns) (i a j b sheet : ℕ) (li : i ≤ 255) (la : a ≤ 255) (lj : j ≤ 255) (lb : b ≤ 255) (key : ℕ) (is : key ≡ turn_key i a j b) where
  abbrev through : Option (ℕ × Bool) → Type 0
  through o = Says i a j b sheet li la lj lb 0 moves o

  says : (o : Option (ℕ × Bool)) → o ≡ turns key → through o
  says o e = turn_says i a j b sheet li la lj lb 0 moves h.small o (sym (e ∙ h.same key ∙ ap (turn_in 0 moves) is))

  pub says_none : (o : Option (ℕ × Bool)) → o ≡ turns key → o ≡ None → move_by (moves_seen moves) i a j b sheet ≡ sheet
  says_none o e none = subst through none (says o e)

  pub says_inside : (o : Option (ℕ × Bool)) (r : ℕ × Bool) → o ≡ turns key → o ≡ Some r → r.0 < length moves
  says_inside o r e some = let s = subst through some (says o e) in let at = s.1 in let low = s.2 in omega (arith, at, low)

  pub says_some : (o : Option (ℕ × Bool)) (r : ℕ × Bool) → o ≡ turns key → o ≡ Some r → (d : code.Move) → move_by (moves_seen moves) i a j b sheet ≡ sheet_by r.1 (get_or moves r.0 d).sheets.items sheet
  says_some o r e some d =
      let s = subst through some (says o e) in
      s.3 d ∙ ap (λ k. sheet_by r.1 (get_or moves k d).sheets.items sheet) (let at = s.1 in let d : s.0 ≡ r.0 = omega (arith, at) in d)

pub went : (moves : List code.Move) (tuple : Tuple) (i j sheet a b r : ℕ) → (i ≡ j → ⊥) → a ≡ value_at tuple i → b ≡ value_at tuple j → r ≡ move_by (moves_seen moves) i a j b sheet → r ≡ moved_by moves tuple i j sheet
went moves tuple i j sheet a b r ne ia jb is =
    is ∙ ap₂ (λ x y. move_by (moves_seen moves) i x j y sheet) ia jb
    ∙ sym (cond-false (i == j) sheet (move_by (moves_seen moves) i (value_at tuple i) j (value_at tuple j) sheet) (ne_eqb i j ne))
