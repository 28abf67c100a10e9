-- Bodies, line by line.
use Rattle.std.proofs.Common.{◌≡◌, ℕ, suc, ◌+◌, ◌==◌, nat_le, ◌++◌, List, [], ◌∷◌, length, Bool, true, false, cond, Option, Some, None, Ok, Err, codes, ⊎_elim, if◌then◌else◌, refl, sym, ◌∙◌, ap, arith, append_assoc, append-nil, eqb-true}
use Rattle.std.specs.Option.{option_and_then}
use Rattle.std.specs.Cmp.Lexicographic as std
use Rattle.wf_model.specs.Refutation.{Line}
use Rattle.wf_model.specs.Report.{Body, Reading, a_map, any_step, none, least, body_at, last_at, least_body, line, lines_of, map_body, no_step, none_body, same_text, step_of_none, step_of_words, steps_from, is_found, then_read, value_of_line, values_at_front}
use Rattle.wf_report.specs.Reading.{lacks}
use Rattle.wf_report.specs.Steps.{step_in}
use Rattle.wf_report.specs.declared.reading.Section.{Section}
use Rattle.wf_report.specs.declared.reading.Section.TheVariants.{Values, Refutation, Search}
use Rattle.wf_report.proofs.ReadLemmas.{last_piece, lines_cut, no_words, not_ended, number_by, number_is, same_ended, some_line}

-- nothing may come after line k
abbrev pub ended : {X : Type 0} → ℕ → List (List ℕ) → Reading (List X)
ended k [] = Ok []
ended k (l ∷ ls) = Err (suc k)

abbrev pub onto : {X : Type 0} → Option X → ℕ → Reading (List X) → Reading (List X)
onto None k rest = Err k
onto (Some x) k rest = then_read rest (λ xs. Ok (x ∷ xs))

-- an item a line, from line k up to `end`, the last line
abbrev pub items_from : {X : Type 0} → (List ℕ → Option X) → ℕ → List (List ℕ) → Reading (List X)
items_from item k [] = Err k
items_from item k (l ∷ ls) = cond (same_text l (line (codes "end") [])) (ended k ls) (onto (item l) k (items_from item (suc k) ls))

last_is : (k : ℕ) (ls : List (List ℕ)) → last_at k ls ≡ ended k ls
last_is k [] = refl
last_is k (l ∷ ls) = refl

pub steps_are : (step : List ℕ → Option Line) (k : ℕ) (ls : List (List ℕ)) → steps_from step k ls ≡ items_from step k ls
steps_are step k [] = refl
steps_are step k (l ∷ ls) = by_test (same_text l (line (codes "end") [])) (step l) (steps_are step (suc k) ls)
  where
    by_test : (t : Bool) (o : Option Line) → steps_from step (suc k) ls ≡ items_from step (suc k) ls
        → (elim t [ true ↦ last_at k ls | false ↦ elim o [ None ↦ Err k | Some x ↦ then_read (steps_from step (suc k) ls) (λ xs. Ok (x ∷ xs)) ] ]) ≡ cond t (ended k ls) (onto o k (items_from step (suc k) ls))
    by_test true o e = last_is k ls
    by_test false None e = refl
    by_test false (Some x) e = ap (λ r. then_read r (λ xs. Ok (x ∷ xs))) e

-- ---- one line after another

-- what is made of the items, with those so far
abbrev pub gathered : {X Y : Type 0} → (List X → Y) → List X → Reading (List X) → Reading Y
gathered f before rest = then_read rest (λ xs. Ok (f (before ++ xs)))

pub one_more : {X Y : Type 0} (f : List X → Y) (before : List X) (x : X) (k : ℕ) (rest : Reading (List X)) → gathered f before (onto (Some x) k rest) ≡ gathered f (before ++ x ∷ []) rest
one_more f before x k (Ok xs) = ap (λ ys. Ok (f ys)) (sym (append_assoc before (x ∷ []) xs))
one_more f before x k (Err e) = refl

-- no line without its line feed is an item
abbrev pub IsOfLines : {X : Type 0} → (List ℕ → Option X) → Type 0
IsOfLines item = (l : List ℕ) → lacks 10 l ≡ true → item l ≡ None

pub no_line : {X : Type 0} (item : List ℕ → Option X) (k : ℕ) (text : List ℕ) → IsOfLines item → lacks 10 text ≡ true → items_from item k (lines_of text) ≡ Err k
no_line item k text whole h =
    ⊎_elim
    (λ (e : lines_of text ≡ []). ap (items_from item k) e)
    (λ (e : lines_of text ≡ text ∷ []).
    ap (items_from item k) e
    ∙ (λ i. cond (not_ended text (codes "end") h i) (ended k []) (onto (whole text h i) k (items_from item (suc k) []))))
    (last_piece text h)

pub line_is : {X : Type 0} (item : List ℕ → Option X) (k : ℕ) (found rest text : List ℕ) → text ≡ found ++ 10 ∷ rest → lacks 10 found ≡ true
    → items_from item k (lines_of text) ≡ cond (same_text found (codes "end")) (ended k (lines_of rest)) (onto (item (found ++ 10 ∷ [])) k (items_from item (suc k) (lines_of rest)))
line_is item k found rest text is h =
    ap (λ t. items_from item k (lines_of t)) is ∙ ap (items_from item k) (lines_cut found rest h)
    ∙ ap (λ t. cond t (ended k (lines_of rest)) (onto (item (found ++ 10 ∷ [])) k (items_from item (suc k) (lines_of rest)))) (same_ended found (codes "end"))

some_lines : (b : ℕ) (text : List ℕ) → lines_of (b ∷ text) ≡ [] → ⊥
some_lines b text e = some_line (b == 10) b (lines_of text) e

not_last : {X : Type 0} (k : ℕ) (rest : List ℕ) → (length rest == 0) ≡ false → ended {X = X} k (lines_of rest) ≡ Err (suc k)
not_last k [] h = absurd (let bad : ⊥ = cc in bad)
not_last k (b ∷ rest) h = by_lines (lines_of (b ∷ rest)) (some_lines b rest)
  where
    by_lines : {X : Type 0} (ls : List (List ℕ)) → (ls ≡ [] → ⊥) → ended {X = X} k ls ≡ Err (suc k)
    by_lines [] h = absurd (h refl)
    by_lines (l ∷ ls) h = refl

is_last : {X : Type 0} (k : ℕ) (rest : List ℕ) → (length rest == 0) ≡ true → ended {X = X} k (lines_of rest) ≡ Ok []
is_last k [] h = refl
is_last k (b ∷ rest) h = absurd (let same : suc (length rest) ≡ 0 = eqb-true (suc (length rest)) 0 h in omega (arith, same))

-- what a loop over lines knows, and what follows from its next line
module _ {X Y : Type 0} (f : List X → Y) (item : List ℕ → Option X) (before : List X) (k : ℕ) (text found rest : List ℕ) (is : text ≡ found ++ 10 ∷ rest) (h : lacks 10 found ≡ true) where
  abbrev so_far : Reading Y
  so_far = gathered f before (items_from item k (lines_of text))

  pub after_end : same_text found (codes "end") ≡ true → (length rest == 0) ≡ false → so_far ≡ Err (k + 1)
  after_end e some =
      let next : suc k ≡ k + 1 = omega arith in
      ap (gathered f before) (line_is item k found rest text is h ∙ ap (λ t. cond t (ended k (lines_of rest)) (onto (item (found ++ 10 ∷ [])) k (items_from item (suc k) (lines_of rest)))) e ∙ not_last k rest some) ∙ ap Err next

  pub at_end : same_text found (codes "end") ≡ true → (length rest == 0) ≡ true → so_far ≡ Ok (f before)
  at_end e none_left =
      ap (gathered f before) (line_is item k found rest text is h ∙ ap (λ t. cond t (ended k (lines_of rest)) (onto (item (found ++ 10 ∷ [])) k (items_from item (suc k) (lines_of rest)))) e ∙ is_last k rest none_left)
      ∙ ap (λ xs. Ok (f xs)) (append-nil before)

  pub at_bad : same_text found (codes "end") ≡ false → item (found ++ 10 ∷ []) ≡ None → so_far ≡ Err k
  at_bad e bad =
      ap (gathered f before) (line_is item k found rest text is h ∙ ap (λ t. cond t (ended k (lines_of rest)) (onto (item (found ++ 10 ∷ [])) k (items_from item (suc k) (lines_of rest)))) e ∙ ap (λ o. onto o k (items_from item (suc k) (lines_of rest))) bad)

  pub at_item : (x : X) → same_text found (codes "end") ≡ false → item (found ++ 10 ∷ []) ≡ Some x → so_far ≡ gathered f (before ++ x ∷ []) (items_from item (k + 1) (lines_of rest))
  at_item x e good =
      let next : suc k ≡ k + 1 = omega arith in
      ap (gathered f before) (line_is item k found rest text is h ∙ ap (λ t. cond t (ended k (lines_of rest)) (onto (item (found ++ 10 ∷ [])) k (items_from item (suc k) (lines_of rest)))) e ∙ ap (λ o. onto o k (items_from item (suc k) (lines_of rest))) good)
      ∙ one_more f before x k (items_from item (suc k) (lines_of rest))
      ∙ ap (λ n. gathered f (before ++ x ∷ []) (items_from item n (lines_of rest))) next

pub at_cut_off : {X Y : Type 0} (f : List X → Y) (item : List ℕ → Option X) (before : List X) (k : ℕ) (text : List ℕ) → IsOfLines item → lacks 10 text ≡ true → gathered f before (items_from item k (lines_of text)) ≡ Err k
at_cut_off f item before k text whole h = ap (gathered f before) (no_line item k text whole h)

-- ---- the lines

pub steps_of_lines : (part : Section) → IsOfLines (step_in part)
steps_of_lines Values l h = refl
steps_of_lines Refutation l h = ap (λ o. option_and_then (λ x. if is_found x then None else Some x) (option_and_then step_of_words o)) (no_words l h)
steps_of_lines Search l h = ap (option_and_then step_of_words) (no_words l h)

-- all items are there
pub none_before : {X : Type 0} (rest : Reading (List X)) → gathered (λ xs. xs) [] rest ≡ rest
none_before (Ok xs) = refl
none_before (Err e) = refl

pub none_is : (ls : List (List ℕ)) → none_body ls ≡ gathered none [] (items_from step_of_none 7 ls)
none_is ls = ap (λ r. then_read r (λ xs. Ok (none xs))) (steps_are step_of_none 7 ls)

-- ---- the values of a map

pub values_of_lines : IsOfLines value_of_line
values_of_lines l h = ap (λ o. option_and_then (λ a. if nat_le a 255 then Some a else None) o) (number_is (codes "m") l ∙ ap (number_by (codes "m")) (no_words l h))

-- the last line has no value
end_is_none : (l : List ℕ) (a : ℕ) → value_of_line l ≡ Some a → same_text l (line (codes "end") []) ≡ false
end_is_none l a is = by_test (same_text l (line (codes "end") [])) refl
  where
    by_test : (t : Bool) → same_text l (line (codes "end") []) ≡ t → t ≡ false
    by_test false e = refl
    by_test true e =
        let same : l ≡ line (codes "end") [] = std.same_text l (line (codes "end") []) (sym e) in
        let no_value : value_of_line l ≡ None = ap value_of_line same in
        absurd (let bad : ⊥ = cc in bad)

abbrev pub front : List (List ℕ) → List ℕ × List (List ℕ)
front ls = values_at_front ls

abbrev pub front_by : Option ℕ → List ℕ → List (List ℕ) → List ℕ × List (List ℕ)
front_by None l ls = ([], l ∷ ls)
front_by (Some a) l ls = (a ∷ (front ls).0, (front ls).1)

pub front_is : (l : List ℕ) (ls : List (List ℕ)) → values_at_front (l ∷ ls) ≡ front_by (value_of_line l) l ls
front_is l ls = by_value (value_of_line l)
  where
    by_value : (o : Option ℕ) → (elim o [ None ↦ ([], l ∷ ls) | Some a ↦ (a ∷ (values_at_front ls).0, (values_at_front ls).1) ]) ≡ front_by o l ls
    by_value None = refl
    by_value (Some a) = refl

-- the body of the values at the front, after some values
abbrev of_front : List ℕ → ℕ → List ℕ × List (List ℕ) → Reading Body
of_front before k m = then_read (items_from no_step (k + length m.0) m.1) (λ xs. Ok (a_map (before ++ m.0)))

values_are : (before : List ℕ) (k : ℕ) (ls : List (List ℕ)) → of_front before k (front ls) ≡ gathered a_map before (items_from value_of_line k ls)
values_are before k [] =
    let same : k + 0 ≡ k = omega arith in
    ap Err same
values_are before k (l ∷ ls) = ap (of_front before k) (front_is l ls) ∙ by_value (value_of_line l) refl (λ a. values_are (before ++ a ∷ []) (suc k) ls)
  where
    none_left : (k : ℕ) (t : Bool) → then_read (cond t (ended k ls) (onto None k (items_from no_step (suc k) ls))) (λ (xs : List Line). Ok (a_map (before ++ []))) ≡ gathered a_map before (cond t (ended k ls) (onto None k (items_from value_of_line (suc k) ls)))
    none_left k false = refl
    none_left k true = at_end ls
      where
        at_end : (ls : List (List ℕ)) → then_read (ended k ls) (λ (xs : List Line). Ok (a_map (before ++ []))) ≡ gathered a_map before (ended k ls)
        at_end [] = refl
        at_end (x ∷ xs) = refl

    by_value : (o : Option ℕ) → value_of_line l ≡ o → ((a : ℕ) → of_front (before ++ a ∷ []) (suc k) (front ls) ≡ gathered a_map (before ++ a ∷ []) (items_from value_of_line (suc k) ls))
        → of_front before k (front_by o l ls) ≡ gathered a_map before (items_from value_of_line k (l ∷ ls))
    by_value None e rest =
        let same : k + 0 ≡ k = omega arith in
        ap (λ n. then_read (items_from no_step n (l ∷ ls)) (λ xs. Ok (a_map (before ++ [])))) same
        ∙ none_left k (same_text l (line (codes "end") []))
        ∙ ap (λ o. gathered a_map before (cond (same_text l (line (codes "end") [])) (ended k ls) (onto o k (items_from value_of_line (suc k) ls)))) (sym e)
    by_value (Some a) e rest =
        let next : k + suc (length (front ls).0) ≡ suc k + length (front ls).0 = omega arith in
        (λ i. then_read (items_from no_step (next i) (front ls).1) (λ xs. Ok (a_map (sym (append_assoc before (a ∷ []) (front ls).0) i))))
        ∙ rest a
        ∙ sym (one_more a_map before a k (items_from value_of_line (suc k) ls))
        ∙ sym (λ i. gathered a_map before (cond (end_is_none l a e i) (ended k ls) (onto (e i) k (items_from value_of_line (suc k) ls))))

pub map_is : (ls : List (List ℕ)) → map_body ls ≡ gathered a_map [] (items_from value_of_line 7 ls)
map_is ls = ap (λ r. then_read r (λ xs. Ok (a_map (front ls).0))) (steps_are no_step (7 + length (front ls).0) (front ls).1) ∙ values_are [] 7 ls

-- ---- a map, and the lines that lead to it

pub least_by_front : (ls rest : List (List ℕ)) (m : List ℕ) → values_at_front ls ≡ (m, rest) → least_body ls ≡ then_read (steps_from any_step (7 + length m) rest) (λ xs. Ok (least m xs))
least_by_front ls rest m e = ap (λ p. then_read (steps_from any_step (7 + length p.0) p.1) (λ xs. Ok (least p.0 xs))) e

-- the values so far, with those at the front of what is left
abbrev pub fronted : List ℕ → List ℕ × List (List ℕ) → List ℕ × List (List ℕ)
fronted before p = (before ++ p.0, p.1)

pub none_fronted : (p : List ℕ × List (List ℕ)) → fronted [] p ≡ p
none_fronted (m, rest) = refl

pub no_value_cut : (before : List ℕ) (text : List ℕ) → lacks 10 text ≡ true → fronted before (front (lines_of text)) ≡ (before, lines_of text)
no_value_cut before text h =
    ⊎_elim
    (λ (e : lines_of text ≡ []). ap (λ ls. fronted before (front ls)) e ∙ (λ i. (append-nil before i, sym e i)))
    (λ (e : lines_of text ≡ text ∷ []).
    ap (λ ls. fronted before (front ls)) e ∙ ap (fronted before) (front_is text [] ∙ ap (λ o. front_by o text []) (values_of_lines text h)) ∙ (λ i. (append-nil before i, sym e i)))
    (last_piece text h)

-- the next line has a value, or none
module _ (before : List ℕ) (found rest text : List ℕ) (is : text ≡ found ++ 10 ∷ rest) (h : lacks 10 found ≡ true) where
  abbrev cut_is : lines_of text ≡ (found ++ 10 ∷ []) ∷ lines_of rest
  cut_is = ap lines_of is ∙ lines_cut found rest h

  pub no_value_next : value_of_line (found ++ 10 ∷ []) ≡ None → fronted before (front (lines_of text)) ≡ (before, lines_of text)
  no_value_next e =
      ap (λ ls. fronted before (front ls)) cut_is
      ∙ ap (fronted before) (front_is (found ++ 10 ∷ []) (lines_of rest) ∙ ap (λ o. front_by o (found ++ 10 ∷ []) (lines_of rest)) e)
      ∙ (λ i. (append-nil before i, sym cut_is i))

  pub value_next : (a : ℕ) → value_of_line (found ++ 10 ∷ []) ≡ Some a → fronted before (front (lines_of text)) ≡ fronted (before ++ a ∷ []) (front (lines_of rest))
  value_next a e =
      ap (λ ls. fronted before (front ls)) cut_is
      ∙ ap (fronted before) (front_is (found ++ 10 ∷ []) (lines_of rest) ∙ ap (λ o. front_by o (found ++ 10 ∷ []) (lines_of rest)) e)
      ∙ (λ i. (sym (append_assoc before (a ∷ []) (front (lines_of rest)).0) i, (front (lines_of rest)).1))

-- ---- by line 6

abbrev by_answers : (map_is none_is least_is : Bool) → List (List ℕ) → Reading Body
by_answers map_is none_is least_is ls = cond map_is (map_body ls) (cond none_is (none_body ls) (cond least_is (least_body ls) (Err 6)))

pub no_answer : (text : List ℕ) → lacks 10 text ≡ true → body_at (lines_of text) ≡ Err 6
no_answer text h =
    ⊎_elim
    (λ (e : lines_of text ≡ []). ap body_at e)
    (λ (e : lines_of text ≡ text ∷ []).
    ap body_at e ∙ (λ i. by_answers (not_ended text (codes "answer map") h i) (not_ended text (codes "answer none") h i) (not_ended text (codes "answer least") h i) []))
    (last_piece text h)

module _ (found rest text : List ℕ) (is : text ≡ found ++ 10 ∷ rest) (h : lacks 10 found ≡ true) where
  tests_are : body_at (lines_of text) ≡ by_answers (same_text found (codes "answer map")) (same_text found (codes "answer none")) (same_text found (codes "answer least")) (lines_of rest)
  tests_are =
      ap (λ t. body_at (lines_of t)) is ∙ ap body_at (lines_cut found rest h)
      ∙ (λ i. by_answers (same_ended found (codes "answer map") i) (same_ended found (codes "answer none") i) (same_ended found (codes "answer least") i) (lines_of rest))

  pub map_answer : same_text found (codes "answer map") ≡ true → body_at (lines_of text) ≡ map_body (lines_of rest)
  map_answer e = tests_are ∙ ap (λ t. by_answers t (same_text found (codes "answer none")) (same_text found (codes "answer least")) (lines_of rest)) e

  pub bad_answer : same_text found (codes "answer map") ≡ false → same_text found (codes "answer none") ≡ false → same_text found (codes "answer least") ≡ false → body_at (lines_of text) ≡ Err 6
  bad_answer no_map no_lines no_least = tests_are ∙ (λ i. by_answers (no_map i) (no_lines i) (no_least i) (lines_of rest))
