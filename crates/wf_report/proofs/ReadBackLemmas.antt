-- What is read was written so.
use Rattle.std.proofs.Common.{◌≡◌, ℕ, suc, ◌+◌, ◌≤◌, ◌==◌, ◌&&◌, ◌||◌, nat_le, ◌++◌, List, [], ◌∷◌, length, flat_map, Bool, true, false, cond, not, Option, Some, None, option_map, Ok, Err, codes, decimal, refl, sym, ◌∙◌, ap, subst, arith, append_assoc, append-nil, eqb-true, leb-true}
use Rattle.std.specs.Option.{option_and_then}
use Rattle.std.specs.List.{AllByRecursion, list_all}
use Rattle.std.specs.Cmp.Lexicographic as std
use Rattle.std.proofs.lemmas.Fmt.{decimal-digits_value}
use Rattle.wf_model.specs.Refutation.{Line, remove, empty, branch, found}
use Rattle.wf_model.specs.Limits.{most_number}
use Rattle.wf_model.specs.Report.{Body, Reading, Report, a_map, answer_line, any_step, body_at, body_text, fixed_at, least, least_body, line, line_text, lines_of, map_body, none, none_body, number_at, number_of_line, number_upto, onto_first, report_of, report_text, same_text, step_of_none, then_read, value_line, value_of_line, words_of, step_of_words}
use Rattle.wf_report.specs.Grammar.{IsBodyWithin, IsInGrammar, IsLineWithin, IsStepWithin}
use Rattle.wf_report.specs.Numbers.{is_digit, with_digits}
use Rattle.wf_report.proofs.BodyLemmas.{ended, front, front_by, front_is, items_from, map_is, none_is, onto, steps_are}
use Rattle.wf_report.proofs.LineLemmas.{passed}
use Rattle.wf_report.proofs.ReadLemmas.{number_by, number_is, number_step, number_at_line}
use Rattle.wf_report.proofs.WrittenLemmas.{own}
use Rattle.wf_model.proofs.Lemmas.{some_of}

-- ---- numbers

abbrev Parts : (a b e : Bool) (n m : ℕ) → Type 0
Parts a b e n m = (a ≡ true) × (b ≡ true) × (e ≡ true) × (n ≡ m)

all_parts : (a b e : Bool) (n m : ℕ) → cond (a && b && e) (Some n) None ≡ Some m → Parts a b e n m
all_parts true true true n m h = (refl, refl, refl, cc)
all_parts false b e n m h = absurd (let bad : ⊥ = cc in bad)
all_parts true false e n m h = absurd (let bad : ⊥ = cc in bad)
all_parts true true false n m h = absurd (let bad : ⊥ = cc in bad)

one_zero : (d : ℕ) (ds : List ℕ) → (not (d == 48) || (length ds == 0)) ≡ true → d ≡ 48 → length (d ∷ ds) ≡ 1
one_zero d ds h e =
    let same : (not (48 == 48) || (length ds == 0)) ≡ true = sym (ap (λ x. not (x == 48) || (length ds == 0)) e) ∙ h in
    let none_more : length ds ≡ 0 = eqb-true (length ds) 0 same in
    omega (arith, none_more)

-- a word with a number is its decimal
pub spelt : (most n : ℕ) (w : List ℕ) → most ≤ most_number → number_upto most w ≡ Some n → (w ≡ decimal n) × (n ≤ most)
spelt most n [] low h = absurd (let bad : ⊥ = cc in bad)
spelt most n (d ∷ ds) low h =
    let parts = all_parts (list_all is_digit (d ∷ ds)) (not (d == 48) || (length ds == 0)) (nat_le (with_digits 0 (d ∷ ds)) most) (with_digits 0 (d ∷ ds)) n h in
    let within : with_digits 0 (d ∷ ds) ≤ most = leb-true (with_digits 0 (d ∷ ds)) most parts.2 in (
      sym (decimal-digits_value own (d ∷ ds) parts.0 (omega arith) (λ e. one_zero d ds parts.1 e) (omega (arith, within, low))) ∙ ap decimal parts.3,
      omega (arith, within, parts.3),
    )

-- ---- lines

pub joined : (text : List ℕ) → flat_map (λ l. l) (lines_of text) ≡ text
joined [] = refl
joined (b ∷ text) = by_test (b == 10) (lines_of text) (joined text)
  where
    onto : (ls : List (List ℕ)) → flat_map (λ l. l) (onto_first b ls) ≡ b ∷ flat_map (λ l. l) ls
    onto [] = refl
    onto (l ∷ ls) = refl

    by_test : (t : Bool) (ls : List (List ℕ)) → flat_map (λ l. l) ls ≡ text → flat_map (λ l. l) (cond t ((b ∷ []) ∷ ls) (onto_first b ls)) ≡ b ∷ text
    by_test true ls e = ap (λ xs. b ∷ xs) e
    by_test false ls e = onto ls ∙ ap (λ xs. b ∷ xs) e

-- the words behind the first, each with a space before it, and the line feed
abbrev pub words_text : List (List ℕ) → List ℕ
words_text [] = 10 ∷ []
words_text (w ∷ ws) = 32 ∷ (w ++ words_text ws)

pub record HasWords (l : List ℕ) (ws : List (List ℕ)) : Type 0 where
  pub first : List ℕ
  pub more : List (List ℕ)
  pub words_are : ws ≡ first ∷ more
  pub text_is : l ≡ first ++ words_text more

pub has_words : (l : List ℕ) (ws : List (List ℕ)) → words_of l ≡ Some ws → HasWords l ws
has_words [] ws h = absurd (let bad : ⊥ = cc in bad)
has_words (b ∷ l) ws h = by_test (b == 10) (b == 32) refl refl h (has_words l)
  where
    by_end : (l : List ℕ) → b ≡ 10 → (elim l [ [] ↦ Some ([] ∷ []) | c ∷ cs ↦ None ]) ≡ Some ws → HasWords (b ∷ l) ws
    by_end [] e h = record { first = []; more = []; words_are = let same : ws ≡ [] ∷ [] = cc in same; text_is = ap (λ x. x ∷ []) e }
    by_end (c ∷ cs) e h = absurd (let bad : ⊥ = cc in bad)

    by_test : (s t : Bool) → (b == 10) ≡ s → (b == 32) ≡ t → cond s (elim l [ [] ↦ Some ([] ∷ []) | c ∷ cs ↦ None ]) (cond t (option_map (λ ws. [] ∷ ws) (words_of l)) (option_map (onto_first b) (words_of l))) ≡ Some ws
        → ((vs : List (List ℕ)) → words_of l ≡ Some vs → HasWords l vs) → HasWords (b ∷ l) ws
    by_test true t e f h rest = by_end l (eqb-true b 10 e) h
    by_test false true e f h rest =
        let found = some_of (λ ws. [] ∷ ws) (words_of l) ws h in
        let more = rest found.0 found.1 in
        record {
          first = [];
          more = more.first ∷ more.more;
          words_are = sym found.2 ∙ ap (λ vs. [] ∷ vs) more.words_are;
          text_is = (λ i. eqb-true b 32 f i ∷ more.text_is i);
        }
    by_test false false e f h rest =
        let found = some_of (onto_first b) (words_of l) ws h in
        let more = rest found.0 found.1 in
        record {
          first = b ∷ more.first;
          more = more.more;
          words_are = sym found.2 ∙ ap (onto_first b) more.words_are;
          text_is = ap (λ xs. b ∷ xs) more.text_is;
        }

-- ---- a word and a number

pub when_true : {X : Type 0} (t : Bool) (o : Option X) (x : X) → cond t o None ≡ Some x → (t ≡ true) × (o ≡ Some x)
when_true true o x h = (refl, h)
when_true false o x h = absurd (let bad : ⊥ = cc in bad)

pub number_line : (name l : List ℕ) (n : ℕ) → number_of_line name l ≡ Some n → (l ≡ line name (n ∷ [])) × (n ≤ most_number)
number_line name l n h = by_words (words_of l) refl (sym (number_is name l) ∙ h)
  where
    by_words : (o : Option (List (List ℕ))) → words_of l ≡ o → number_by name o ≡ Some n → (l ≡ line name (n ∷ [])) × (n ≤ most_number)
    by_words None e h = absurd (let bad : ⊥ = cc in bad)
    by_words (Some []) e h = absurd (let bad : ⊥ = cc in bad)
    by_words (Some (w ∷ [])) e h = absurd (let bad : ⊥ = cc in bad)
    by_words (Some (w ∷ v ∷ x ∷ more)) e h = absurd (let bad : ⊥ = cc in bad)
    by_words (Some (w ∷ v ∷ [])) e h =
        let parts = when_true (same_text w name) (number_upto most_number v) n h in
        let has = has_words l (w ∷ v ∷ []) e in
        let number = spelt most_number n v (omega arith) parts.1 in
        let name_is : w ≡ name = std.same_text w name (sym parts.0) in
        let first : has.first ≡ w = let k = has.words_are in cc in
        let more : has.more ≡ v ∷ [] = let k = has.words_are in cc in
        (has.text_is ∙ (λ i. (first ∙ name_is) i ++ words_text (more i)) ∙ ap (λ x. name ++ 32 ∷ (x ++ 10 ∷ [])) number.0, number.1)

pub value_there : (l : List ℕ) (a : ℕ) → value_of_line l ≡ Some a → (l ≡ value_line a) × (a ≤ 255)
value_there l a h = by_number (number_of_line (codes "m") l) refl h
  where
    by_number : (o : Option ℕ) → number_of_line (codes "m") l ≡ o → option_and_then (λ a. cond (nat_le a 255) (Some a) None) o ≡ Some a → (l ≡ value_line a) × (a ≤ 255)
    by_number None e h = absurd (let bad : ⊥ = cc in bad)
    by_number (Some n) e h =
        let parts = when_true (nat_le n 255) (Some n) a h in
        let same : n ≡ a = cc in
        ((number_line (codes "m") l n e).0 ∙ ap value_line same, omega (arith, leb-true n 255 parts.0, same))

-- ---- steps

pub text_by_words : (l w : List ℕ) (ws : List (List ℕ)) → words_of l ≡ Some (w ∷ ws) → l ≡ w ++ words_text ws
text_by_words l w ws e =
    let has = has_words l (w ∷ ws) e in
    let first : has.first ≡ w = let k = has.words_are in cc in
    let more : has.more ≡ ws = let k = has.words_are in cc in
    has.text_is ∙ (λ i. first i ++ words_text (more i))

abbrev IsStep : List ℕ → Line → Type 0
IsStep l x = (l ≡ line_text x) × IsStepWithin x

step_of_two : (l w v : List ℕ) (x : Line) → words_of l ≡ Some (w ∷ v ∷ []) → cond (same_text w (codes "z")) (option_map empty (number_upto most_number v)) (cond (same_text w (codes "b")) (option_map branch (number_upto most_number v)) None) ≡ Some x → IsStep l x
step_of_two l w v x e h = by_tests (same_text w (codes "z")) (same_text w (codes "b")) (number_upto most_number v) refl refl refl h
  where
    by_tests : (z b : Bool) (o : Option ℕ) → same_text w (codes "z") ≡ z → same_text w (codes "b") ≡ b → number_upto most_number v ≡ o → cond z (option_map empty o) (cond b (option_map branch o) None) ≡ Some x → IsStep l x
    by_tests true b None z_is b_is o_is h = absurd (let bad : ⊥ = cc in bad)
    by_tests true b (Some n) z_is b_is o_is h =
        let number = spelt most_number n v (omega arith) o_is in
        let same : empty n ≡ x = cc in
        let is : l ≡ line_text (empty n) = text_by_words l w (v ∷ []) e ∙ (λ i. std.same_text w (codes "z") (sym z_is) i ++ words_text (number.0 i ∷ [])) in
        subst (IsStep l) same (is, number.1)
    by_tests false true None z_is b_is o_is h = absurd (let bad : ⊥ = cc in bad)
    by_tests false true (Some n) z_is b_is o_is h =
        let number = spelt most_number n v (omega arith) o_is in
        let same : branch n ≡ x = cc in
        let is : l ≡ line_text (branch n) = text_by_words l w (v ∷ []) e ∙ (λ i. std.same_text w (codes "b") (sym b_is) i ++ words_text (number.0 i ∷ [])) in
        subst (IsStep l) same (is, number.1)
    by_tests false false None z_is b_is o_is h = absurd (let bad : ⊥ = cc in bad)
    by_tests false false (Some n) z_is b_is o_is h = absurd (let bad : ⊥ = cc in bad)

step_of_four : (l w u v y : List ℕ) (x : Line) → words_of l ≡ Some (w ∷ u ∷ v ∷ y ∷ [])
    → cond (same_text w (codes "p")) (option_and_then (λ e. option_and_then (λ c. option_map (λ a. remove e c a) (number_upto 255 y)) (number_upto 3 v)) (number_upto most_number u)) None ≡ Some x → IsStep l x
step_of_four l w u v y x e h = by_tests (same_text w (codes "p")) (number_upto most_number u) (number_upto 3 v) (number_upto 255 y) refl refl refl refl h
  where
    by_tests : (p : Bool) (o1 o2 o3 : Option ℕ) → same_text w (codes "p") ≡ p → number_upto most_number u ≡ o1 → number_upto 3 v ≡ o2 → number_upto 255 y ≡ o3
        → cond p (option_and_then (λ e. option_and_then (λ c. option_map (λ a. remove e c a) o3) o2) o1) None ≡ Some x → IsStep l x
    by_tests false o1 o2 o3 p_is e1 e2 e3 h = absurd (let bad : ⊥ = cc in bad)
    by_tests true None o2 o3 p_is e1 e2 e3 h = absurd (let bad : ⊥ = cc in bad)
    by_tests true (Some n) None o3 p_is e1 e2 e3 h = absurd (let bad : ⊥ = cc in bad)
    by_tests true (Some n) (Some c) None p_is e1 e2 e3 h = absurd (let bad : ⊥ = cc in bad)
    by_tests true (Some n) (Some c) (Some a) p_is e1 e2 e3 h =
        let first = spelt most_number n u (omega arith) e1 in
        let second = spelt 3 c v (omega arith) e2 in
        let third = spelt 255 a y (omega arith) e3 in
        let same : remove n c a ≡ x = cc in
        let is : l ≡ line_text (remove n c a) = text_by_words l w (u ∷ v ∷ y ∷ []) e ∙ (λ i. std.same_text w (codes "p") (sym p_is) i ++ words_text (first.0 i ∷ second.0 i ∷ third.0 i ∷ [])) in
        subst (IsStep l) same (is, (first.1, second.1, third.1))

step_of_one : (l w : List ℕ) (x : Line) → words_of l ≡ Some (w ∷ []) → cond (same_text w (codes "f")) (Some found) None ≡ Some x → IsStep l x
step_of_one l w x e h = by_test (same_text w (codes "f")) refl h
  where
    by_test : (f : Bool) → same_text w (codes "f") ≡ f → cond f (Some found) None ≡ Some x → IsStep l x
    by_test true f_is h =
        let same : found ≡ x = cc in
        let is : l ≡ line_text found = text_by_words l w [] e ∙ ap (λ w. w ++ words_text []) (std.same_text w (codes "f") (sym f_is)) in
        subst (IsStep l) same (is, tt)
    by_test false f_is h = absurd (let bad : ⊥ = cc in bad)

pub step_there : (l : List ℕ) (x : Line) → any_step l ≡ Some x → IsStep l x
step_there l x h = by_words (words_of l) refl h
  where
    by_words : (o : Option (List (List ℕ))) → words_of l ≡ o → option_and_then step_of_words o ≡ Some x → IsStep l x
    by_words None e h = absurd (let bad : ⊥ = cc in bad)
    by_words (Some []) e h = absurd (let bad : ⊥ = cc in bad)
    by_words (Some (w ∷ [])) e h = step_of_one l w x e h
    by_words (Some (w ∷ v ∷ [])) e h = step_of_two l w v x e h
    by_words (Some (w ∷ u ∷ v ∷ [])) e h = absurd (let bad : ⊥ = cc in bad)
    by_words (Some (w ∷ u ∷ v ∷ y ∷ [])) e h = step_of_four l w u v y x e h
    by_words (Some (w ∷ u ∷ v ∷ y ∷ z ∷ more)) e h = absurd (let bad : ⊥ = cc in bad)

-- a line of a refutation
line_there : (l : List ℕ) (x : Line) → step_of_none l ≡ Some x → (l ≡ line_text x) × IsLineWithin x
line_there l x h = by_step (any_step l) refl h
  where
    by_step : (o : Option Line) → any_step l ≡ o → passed o ≡ Some x → (l ≡ line_text x) × IsLineWithin x
    by_step None e h = absurd (let bad : ⊥ = cc in bad)
    by_step (Some (remove n c a)) e h = let same : remove n c a ≡ x = cc in subst (λ x. (l ≡ line_text x) × IsLineWithin x) same (step_there l (remove n c a) e)
    by_step (Some (empty v)) e h = let same : empty v ≡ x = cc in subst (λ x. (l ≡ line_text x) × IsLineWithin x) same (step_there l (empty v) e)
    by_step (Some (branch v)) e h = let same : branch v ≡ x = cc in subst (λ x. (l ≡ line_text x) × IsLineWithin x) same (step_there l (branch v) e)
    by_step (Some found) e h = absurd (let bad : ⊥ = cc in bad)

-- ---- items

items_there : {X : Type 0} (item : List ℕ → Option X) (text : X → List ℕ) (Good : X → Type 0) → ((l : List ℕ) (x : X) → item l ≡ Some x → (l ≡ text x) × Good x)
    → (ls : List (List ℕ)) (xs : List X) (k : ℕ) → items_from item k ls ≡ Ok xs → (flat_map (λ l. l) ls ≡ flat_map text xs ++ line (codes "end") []) × AllByRecursion Good xs
items_there item text Good spells [] xs k h = absurd (let bad : ⊥ = cc in bad)
items_there {X} item text Good spells (l ∷ ls) xs k h =
    by_test (same_text l (line (codes "end") [])) (item l) (items_from item (suc k) ls) refl refl refl (items_there item text Good spells ls) h
  where
    at_end : (ls : List (List ℕ)) → l ≡ line (codes "end") [] → ended k ls ≡ Ok xs → (flat_map (λ l. l) (l ∷ ls) ≡ flat_map text xs ++ line (codes "end") []) × AllByRecursion Good xs
    at_end [] e h =
        let same : [] ≡ xs = cc in
        subst (λ xs. (l ++ [] ≡ flat_map text xs ++ line (codes "end") []) × AllByRecursion Good xs) same (append-nil l ∙ e, tt)
    at_end (x ∷ more) e h = absurd (let bad : ⊥ = cc in bad)

    by_test : (t : Bool) (o : Option X) (r : Reading (List X)) → same_text l (line (codes "end") []) ≡ t → item l ≡ o → items_from item (suc k) ls ≡ r
        → ((ys : List X) (n : ℕ) → items_from item n ls ≡ Ok ys → (flat_map (λ l. l) ls ≡ flat_map text ys ++ line (codes "end") []) × AllByRecursion Good ys)
        → cond t (ended k ls) (onto o k r) ≡ Ok xs → (flat_map (λ l. l) (l ∷ ls) ≡ flat_map text xs ++ line (codes "end") []) × AllByRecursion Good xs
    by_test true o r t_is o_is r_is rest h = at_end ls (std.same_text l (line (codes "end") []) (sym t_is)) h
    by_test false None r t_is o_is r_is rest h = absurd (let bad : ⊥ = cc in bad)
    by_test false (Some x) (Err e) t_is o_is r_is rest h = absurd (let bad : ⊥ = cc in bad)
    by_test false (Some x) (Ok ys) t_is o_is r_is rest h =
        let same : x ∷ ys ≡ xs = cc in
        let more = rest ys (suc k) r_is in
        let one = spells l x o_is in
        subst (λ xs. (flat_map (λ l. l) (l ∷ ls) ≡ flat_map text xs ++ line (codes "end") []) × AllByRecursion Good xs) same ((λ i. one.0 i ++ more.0 i) ∙ sym (append_assoc (text x) (flat_map text ys) (line (codes "end") [])), (one.1, more.1))

-- the values at the front, and what comes after them
front_there : (ls : List (List ℕ)) → (flat_map (λ l. l) ls ≡ flat_map value_line (front ls).0 ++ flat_map (λ l. l) (front ls).1) × AllByRecursion (λ a. a ≤ 255) (front ls).0
front_there [] = (refl, tt)
front_there (l ∷ ls) =
    subst (λ p. (flat_map (λ l. l) (l ∷ ls) ≡ flat_map value_line p.0 ++ flat_map (λ l. l) p.1) × AllByRecursion (λ a. a ≤ 255) p.0) (sym (front_is l ls)) (by_value (value_of_line l) refl (front_there ls))
  where
    by_value : (o : Option ℕ) → value_of_line l ≡ o → (flat_map (λ l. l) ls ≡ flat_map value_line (front ls).0 ++ flat_map (λ l. l) (front ls).1) × AllByRecursion (λ a. a ≤ 255) (front ls).0
        → (flat_map (λ l. l) (l ∷ ls) ≡ flat_map value_line (front_by o l ls).0 ++ flat_map (λ l. l) (front_by o l ls).1) × AllByRecursion (λ a. a ≤ 255) (front_by o l ls).0
    by_value None e rest = (refl, tt)
    by_value (Some a) e rest =
        let one = value_there l a e in
        ((λ i. one.0 i ++ rest.0 i) ∙ sym (append_assoc (value_line a) (flat_map value_line (front ls).0) (flat_map (λ l. l) (front ls).1)), (one.1, rest.1))

-- ---- bodies and reports

pub then_ok : {X Y : Type 0} (r : Reading X) (f : X → Reading Y) (y : Y) → then_read r f ≡ Ok y → (x : X) × (r ≡ Ok x) × (f x ≡ Ok y)
then_ok (Ok x) f y h = (x, refl, h)
then_ok (Err e) f y h = absurd (let bad : ⊥ = cc in bad)

abbrev IsBodyText : List (List ℕ) → Body → Type 0
IsBodyText ls b = (flat_map (λ l. l) ls ≡ answer_line b ++ (body_text b ++ line (codes "end") [])) × IsBodyWithin b

body_there : (ls : List (List ℕ)) (b : Body) → body_at ls ≡ Ok b → IsBodyText ls b
body_there [] b h = absurd (let bad : ⊥ = cc in bad)
body_there (l ∷ ls) b h = by_tests (same_text l (line (codes "answer map") [])) (same_text l (line (codes "answer none") [])) (same_text l (line (codes "answer least") [])) refl refl refl h
  where
    of_map : l ≡ line (codes "answer map") [] → map_body ls ≡ Ok b → IsBodyText (l ∷ ls) b
    of_map e h =
        let found = then_ok (items_from value_of_line 7 ls) (λ xs. Ok (a_map xs)) b (sym (map_is ls) ∙ h) in
        let same : a_map found.0 ≡ b = let k = found.2 in cc in
        let items = items_there value_of_line value_line (λ a. a ≤ 255) value_there ls found.0 7 found.1 in
        subst (IsBodyText (l ∷ ls)) same ((λ i. e i ++ items.0 i), items.1)

    of_lines : l ≡ line (codes "answer none") [] → none_body ls ≡ Ok b → IsBodyText (l ∷ ls) b
    of_lines e h =
        let found = then_ok (items_from step_of_none 7 ls) (λ xs. Ok (none xs)) b (sym (none_is ls) ∙ h) in
        let same : none found.0 ≡ b = let k = found.2 in cc in
        let items = items_there step_of_none line_text IsLineWithin line_there ls found.0 7 found.1 in
        subst (IsBodyText (l ∷ ls)) same ((λ i. e i ++ items.0 i), items.1)

    of_least : l ≡ line (codes "answer least") [] → least_body ls ≡ Ok b → IsBodyText (l ∷ ls) b
    of_least e h =
        let m = (front ls).0 in
        let rest = (front ls).1 in
        let found = then_ok (items_from any_step (7 + length m) rest) (λ xs. Ok (least m xs)) b (ap (λ r. then_read r (λ xs. Ok (least m xs))) (sym (steps_are any_step (7 + length m) rest)) ∙ h) in
        let same : least m found.0 ≡ b = let k = found.2 in cc in
        let values = front_there ls in
        let items = items_there any_step line_text IsStepWithin step_there rest found.0 (7 + length m) found.1 in
        subst (IsBodyText (l ∷ ls)) same (
          (λ i. e i ++ (values.0 ∙ ap (λ t. flat_map value_line m ++ t) items.0 ∙ sym (append_assoc (flat_map value_line m) (flat_map line_text found.0) (line (codes "end") []))) i),
          (values.1, items.1),
        )

    by_tests : (s t u : Bool) → same_text l (line (codes "answer map") []) ≡ s → same_text l (line (codes "answer none") []) ≡ t → same_text l (line (codes "answer least") []) ≡ u
        → cond s (map_body ls) (cond t (none_body ls) (cond u (least_body ls) (Err 6))) ≡ Ok b → IsBodyText (l ∷ ls) b
    by_tests true t u s_is t_is u_is h = of_map (std.same_text l (line (codes "answer map") []) (sym s_is)) h
    by_tests false true u s_is t_is u_is h = of_lines (std.same_text l (line (codes "answer none") []) (sym t_is)) h
    by_tests false false true s_is t_is u_is h = of_least (std.same_text l (line (codes "answer least") []) (sym u_is)) h
    by_tests false false false s_is t_is u_is h = absurd (let bad : ⊥ = cc in bad)

pub fixed_there : (k : ℕ) (wanted : List ℕ) (ls rest : List (List ℕ)) → fixed_at k wanted ls ≡ Ok rest → ls ≡ wanted ∷ rest
fixed_there k wanted [] rest h = absurd (let bad : ⊥ = cc in bad)
fixed_there k wanted (l ∷ ls) rest h = by_test (same_text l wanted) refl h
  where
    by_test : (t : Bool) → same_text l wanted ≡ t → cond t (Ok ls) (Err k) ≡ Ok rest → l ∷ ls ≡ wanted ∷ rest
    by_test true e h = let same : ls ≡ rest = cc in (λ i. std.same_text l wanted (sym e) i ∷ same i)
    by_test false e h = absurd (let bad : ⊥ = cc in bad)

pub number_found : (k : ℕ) (name : List ℕ) (ls : List (List ℕ)) (p : ℕ × List (List ℕ)) → number_at k name ls ≡ Ok p → (ls ≡ line name (p.0 ∷ []) ∷ p.1) × (p.0 ≤ most_number)
number_found k name [] p h = absurd (let bad : ⊥ = cc in bad)
number_found k name (l ∷ ls) p h = by_number (number_of_line name l) refl (sym (number_at_line k name l ls) ∙ h)
  where
    by_number : (o : Option ℕ) → number_of_line name l ≡ o → number_step k ls o ≡ Ok p → (l ∷ ls ≡ line name (p.0 ∷ []) ∷ p.1) × (p.0 ≤ most_number)
    by_number None e h = absurd (let bad : ⊥ = cc in bad)
    by_number (Some n) e h =
        let same : (n, ls) ≡ p = cc in
        let one = number_line name l n e in
        subst (λ p. (l ∷ ls ≡ line name (p.0 ∷ []) ∷ p.1) × (p.0 ≤ most_number)) same (ap (λ x. x ∷ ls) one.0, one.1)

pub read_written : (text : List ℕ) (r : Report) → report_of text ≡ Ok r → (text ≡ report_text r) × IsInGrammar r
read_written text r h =
    let first = then_ok (fixed_at 1 (line (codes "wfcheck report 1") []) (lines_of text)) _ r h in
    let second = then_ok (number_at 2 (codes "processes") first.0) _ r first.2 in
    let third = then_ok (number_at 3 (codes "rounds") second.0.1) _ r second.2 in
    let fourth = then_ok (number_at 4 (codes "points") third.0.1) _ r third.2 in
    let fifth = then_ok (number_at 5 (codes "executions") fourth.0.1) _ r fourth.2 in
    let sixth = then_ok (body_at fifth.0.1) _ r fifth.2 in
    let same : record { processes = second.0.0; rounds = third.0.0; points = fourth.0.0; executions = fifth.0.0; body = sixth.0 } ≡ r = let k = sixth.2 in cc in
    let at1 = fixed_there 1 (line (codes "wfcheck report 1") []) (lines_of text) first.0 first.1 in
    let at2 = number_found 2 (codes "processes") first.0 second.0 second.1 in
    let at3 = number_found 3 (codes "rounds") second.0.1 third.0 third.1 in
    let at4 = number_found 4 (codes "points") third.0.1 fourth.0 fourth.1 in
    let at5 = number_found 5 (codes "executions") fourth.0.1 fifth.0 fifth.1 in
    let at6 = body_there fifth.0.1 sixth.0 sixth.1 in
    let lines_are : lines_of text ≡ line (codes "wfcheck report 1") [] ∷ line (codes "processes") (second.0.0 ∷ []) ∷ line (codes "rounds") (third.0.0 ∷ []) ∷ line (codes "points") (fourth.0.0 ∷ []) ∷ line (codes "executions") (fifth.0.0 ∷ []) ∷ fifth.0.1 =
    at1 ∙ ap (λ ls. line (codes "wfcheck report 1") [] ∷ ls) (at2.0 ∙ ap (λ ls. line (codes "processes") (second.0.0 ∷ []) ∷ ls) (at3.0 ∙ ap (λ ls. line (codes "rounds") (third.0.0 ∷ []) ∷ ls) (at4.0 ∙ ap (λ ls. line (codes "points") (fourth.0.0 ∷ []) ∷ ls) at5.0))) in
    subst (λ (r : Report). (text ≡ report_text r) × IsInGrammar r) same (
      sym (joined text) ∙ ap (flat_map (λ l. l)) lines_are ∙ ap (λ xs. line (codes "wfcheck report 1") [] ++ (line (codes "processes") (second.0.0 ∷ []) ++ (line (codes "rounds") (third.0.0 ∷ []) ++ (line (codes "points") (fourth.0.0 ∷ []) ++ (line (codes "executions") (fifth.0.0 ∷ []) ++ xs))))) at6.0,
      record { processes = at2.1; rounds = at3.1; points = at4.1; executions = at5.1; body = at6.1 },
    )
