-- What is written is read again.
use Rattle.std.proofs.Common.{◌≡◌, ℕ, zero, suc, ◌+◌, ◌<◌, ◌≤◌, ◌==◌, ◌&&◌, ◌||◌, nat_le, ◌++◌, List, [], ◌∷◌, length, map, flat_map, get_or, Bool, true, false, cond, not, Option, Some, None, option_map, Ok, codes, decimal, refl, sym, ◌∙◌, ap, arith, append_assoc, rules, eqb-true, leb-true}
use Rattle.std.specs.Option.{option_and_then}
use Rattle.std.specs.List.{AllByRecursion, list_all}
use Rattle.std.proofs.lemmas.Bool.{le-leb, and_parts}
use Rattle.std.proofs.lemmas.Str.Parse.{IsNumeralModel, numerals_by_fold}
use Rattle.std.proofs.lemmas.Fmt.{digits_decimal, digits_value-decimal, decimal_nonempty, first_decimal, decimal_digit}
use Rattle.wf_model.specs.Refutation.{Line, remove, empty, branch, found}
use Rattle.wf_model.specs.Limits.{most_number}
use Rattle.wf_model.specs.Report.{Body, Report, a_map, answer_line, any_step, body_at, body_text, fixed_at, least_body, line, line_text, lines_of, none, least, number_at, number_of_line, number_upto, numbers_text, onto_first, report_of, report_text, same_text, step_of_none, then_read, value_line, value_of_line, words_of, step_of_words}
use Rattle.wf_report.specs.Grammar.{IsBodyWithin, IsInGrammar, IsLineWithin, IsStepWithin}
use Rattle.wf_report.specs.Numbers.{is_digit, with_digits}
use Rattle.wf_report.specs.Reading.{lacks}
use Rattle.wf_report.proofs.BodyLemmas.{ended, front, front_by, front_is, gathered, items_from, least_by_front, map_is, none_is, onto, steps_are}
use Rattle.wf_report.proofs.LineLemmas.{passed}
use Rattle.wf_report.proofs.ReadLemmas.{not_true, number_by, number_is, number_step, number_at_line}

-- ---- numbers

pub own : IsNumeralModel (λ ds. list_all is_digit ds ≡ true) (with_digits 0)
own = numerals_by_fold _ (search rules) with_digits (search rules)

by_parts : (a b e : Bool) (n m : ℕ) → a ≡ true → b ≡ true → e ≡ true → n ≡ m → cond (a && b && e) (Some n) None ≡ Some m
by_parts true true true n m h k l same = ap Some same
by_parts false b e n m h k l same = absurd (let bad : ⊥ = cc in bad)
by_parts true false e n m h k l same = absurd (let bad : ⊥ = cc in bad)
by_parts true true false n m h k l same = absurd (let bad : ⊥ = cc in bad)

one_zero : (n : ℕ) → n < 18446744073709551616 → get_or (decimal n) 0 0 ≡ 48 → length (decimal n) ≡ 1
one_zero zero lt e = ap length (decimal_digit 0 (omega arith))
one_zero (suc n) lt e = let high = first_decimal (suc n) (omega arith) (omega (arith, lt)) in absurd (omega (arith, high, e))

pub number_read : (most n : ℕ) → n ≤ most → n ≤ most_number → number_upto most (decimal n) ≡ Some n
number_read most n low within =
    let small : n < 18446744073709551616 = omega (arith, within) in
    by_word (decimal n) (decimal_nonempty n small) (digits_decimal own n small) (digits_value-decimal own n small) (one_zero n small)
  where
    spelt : (d : ℕ) (ds : List ℕ) → (d ≡ 48 → length (d ∷ ds) ≡ 1) → (not (d == 48) || (length ds == 0)) ≡ true
    spelt d ds one = by_test (d == 48) refl
      where
        by_test : (t : Bool) → (d == 48) ≡ t → (not t || (length ds == 0)) ≡ true
        by_test false e = refl
        by_test true e =
            let same : length ds ≡ 0 = let k = one (eqb-true d 48 e) in omega (arith, k) in
            ap (λ n. n == 0) same

    by_word : (w : List ℕ) → 0 < length w → list_all is_digit w ≡ true → with_digits 0 w ≡ n → (get_or w 0 0 ≡ 48 → length w ≡ 1) → number_upto most w ≡ Some n
    by_word [] some digits value one = absurd (omega (arith, some))
    by_word (d ∷ ds) some digits value one =
        by_parts (list_all is_digit (d ∷ ds)) (not (d == 48) || (length ds == 0)) (nat_le (with_digits 0 (d ∷ ds)) most) (with_digits 0 (d ∷ ds)) n digits (spelt d ds one) (le-leb (with_digits 0 (d ∷ ds)) most (omega (arith, value, low))) value

-- digits are neither spaces nor line feeds
digit_lacks : (byte : ℕ) (ds : List ℕ) → byte < 48 → list_all is_digit ds ≡ true → lacks byte ds ≡ true
digit_lacks byte [] h all = refl
digit_lacks byte (d ∷ ds) h all =
    let parts = and_parts (is_digit d) (list_all is_digit ds) all in
    ap (λ t. not t && lacks byte ds) (other (d == byte) refl parts.0) ∙ digit_lacks byte ds h parts.1
  where
    low_digit : (x : ℕ) → x < 48 → is_digit x ≡ true → ⊥
    low_digit x lt is = let k = leb-true 48 x (and_parts (nat_le 48 x) (nat_le x 57) is).0 in omega (arith, k, lt)

    other : (t : Bool) → (d == byte) ≡ t → is_digit d ≡ true → t ≡ false
    other false e is = refl
    other true e is = absurd (low_digit byte h (sym (ap is_digit (eqb-true d byte e)) ∙ is))

decimal_lacks : (byte n : ℕ) → byte < 48 → n ≤ most_number → lacks byte (decimal n) ≡ true
decimal_lacks byte n h within = digit_lacks byte (decimal n) h (digits_decimal own n (omega (arith, within)))

-- ---- lines

-- a text that is one line, whatever comes after it
abbrev pub IsLine : List ℕ → Type 0
IsLine l = (rest : List ℕ) → lines_of (l ++ rest) ≡ l ∷ lines_of rest

longer_line : (w l : List ℕ) → lacks 10 w ≡ true → IsLine l → IsLine (w ++ l)
longer_line [] l h is rest = is rest
longer_line (b ∷ w) l h is rest =
    let parts = and_parts (not (b == 10)) (lacks 10 w) h in
    ap (λ t. cond t ((b ∷ []) ∷ lines_of ((w ++ l) ++ rest)) (onto_first b (lines_of ((w ++ l) ++ rest)))) (not_true (b == 10) parts.0)
    ∙ ap (onto_first b) (longer_line w l parts.1 is rest)

numbers_are_line : (ns : List ℕ) → AllByRecursion (λ n. n ≤ most_number) ns → IsLine (numbers_text ns)
numbers_are_line [] h rest = refl
numbers_are_line (n ∷ ns) h rest = ap (onto_first 32) (longer_line (decimal n) (numbers_text ns) (decimal_lacks 10 n (omega arith) h.0) (numbers_are_line ns h.1) rest)

pub is_line : (name ns : List ℕ) → lacks 10 name ≡ true → AllByRecursion (λ n. n ≤ most_number) ns → IsLine (line name ns)
is_line name ns h k = longer_line name (numbers_text ns) h (numbers_are_line ns k)

-- ---- words

longer_word : (w rest : List ℕ) (ws : List (List ℕ)) → lacks 10 w ≡ true → lacks 32 w ≡ true → words_of rest ≡ Some ([] ∷ ws) → words_of (w ++ rest) ≡ Some (w ∷ ws)
longer_word [] rest ws h k is = is
longer_word (b ∷ w) rest ws h k is =
    let line = and_parts (not (b == 10)) (lacks 10 w) h in
    let space = and_parts (not (b == 32)) (lacks 32 w) k in
    by_tests (b == 10) (b == 32) (words_of (w ++ rest)) (not_true (b == 10) line.0) (not_true (b == 32) space.0) (longer_word w rest ws line.1 space.1 is)
  where
    by_tests : (s t : Bool) (o : Option (List (List ℕ))) → s ≡ false → t ≡ false → o ≡ Some (w ∷ ws)
        → cond s (elim (w ++ rest) [ [] ↦ Some ([] ∷ []) | c ∷ cs ↦ None ]) (cond t (option_map (λ ws. [] ∷ ws) o) (option_map (onto_first b) o)) ≡ Some ((b ∷ w) ∷ ws)
    by_tests true t o e f is = absurd (let bad : ⊥ = cc in bad)
    by_tests false true o e f is = absurd (let bad : ⊥ = cc in bad)
    by_tests false false o e f is = ap (option_map (onto_first b)) is

number_words_are : (ns : List ℕ) → AllByRecursion (λ n. n ≤ most_number) ns → words_of (numbers_text ns) ≡ Some ([] ∷ map decimal ns)
number_words_are [] h = refl
number_words_are (n ∷ ns) h =
    ap (option_map (λ ws. [] ∷ ws)) (longer_word (decimal n) (numbers_text ns) (map decimal ns) (decimal_lacks 10 n (omega arith) h.0) (decimal_lacks 32 n (omega arith) h.0) (number_words_are ns h.1))

pub words_are : (name ns : List ℕ) → lacks 10 name ≡ true → lacks 32 name ≡ true → AllByRecursion (λ n. n ≤ most_number) ns → words_of (line name ns) ≡ Some (name ∷ map decimal ns)
words_are name ns h k all = longer_word name (numbers_text ns) (map decimal ns) h k (number_words_are ns all)

-- ---- items

value_read : (a : ℕ) → a ≤ 255 → value_of_line (value_line a) ≡ Some a
value_read a h =
    let within : a ≤ most_number = omega (arith, h) in
    let number : number_of_line (codes "m") (value_line a) ≡ Some a = number_is (codes "m") (value_line a) ∙ ap (number_by (codes "m")) (words_are (codes "m") (a ∷ []) refl refl (within, tt)) ∙ number_read most_number a within within in
    ap (λ o. option_and_then (λ a. cond (nat_le a 255) (Some a) None) o) number ∙ ap (λ t. cond t (Some a) None) (le-leb a 255 h)

step_read : (l : Line) → IsStepWithin l → any_step (line_text l) ≡ Some l
step_read (remove e c a) h =
    let process : c ≤ most_number = omega (arith, h.1) in
    let value : a ≤ most_number = omega (arith, h.2) in
    let ws : words_of (line_text (remove e c a)) ≡ Some (codes "p" ∷ decimal e ∷ decimal c ∷ decimal a ∷ []) = words_are (codes "p") (e ∷ c ∷ a ∷ []) refl refl (h.0, (process, (value, tt))) in
    ap (option_and_then step_of_words) ws
    ∙ (λ i. option_and_then (λ x. option_and_then (λ y. option_map (λ z. remove x y z) (number_read 255 a h.2 value i)) (number_read 3 c h.1 process i)) (number_read most_number e h.0 h.0 i))
step_read (empty v) h =
    let ws : words_of (line_text (empty v)) ≡ Some (codes "z" ∷ decimal v ∷ []) = words_are (codes "z") (v ∷ []) refl refl (h, tt) in
    ap (option_and_then step_of_words) ws ∙ ap (option_map empty) (number_read most_number v h h)
step_read (branch v) h =
    let ws : words_of (line_text (branch v)) ≡ Some (codes "b" ∷ decimal v ∷ []) = words_are (codes "b") (v ∷ []) refl refl (h, tt) in
    ap (option_and_then step_of_words) ws ∙ ap (option_map branch) (number_read most_number v h h)
step_read found h = refl

no_value_by : (l : List ℕ) (ws : List (List ℕ)) → number_by (codes "m") (Some ws) ≡ None → words_of l ≡ Some ws → value_of_line l ≡ None
no_value_by l ws none_there are = ap (λ o. option_and_then (λ a. cond (nat_le a 255) (Some a) None) o) (number_is (codes "m") l ∙ ap (number_by (codes "m")) are ∙ none_there)

-- an item whose text is a line that is read as the item, and isn't the last
pub record IsReadAgain {X : Type 0} (item : List ℕ → Option X) (text : X → List ℕ) (x : X) : Type 0 where
  pub one_line : IsLine (text x)
  pub other : same_text (text x) (line (codes "end") []) ≡ false
  pub read : item (text x) ≡ Some x

items_read : {X : Type 0} (item : List ℕ → Option X) (text : X → List ℕ) (xs : List X) (k : ℕ) → AllByRecursion (IsReadAgain item text) xs → items_from item k (lines_of (flat_map text xs ++ line (codes "end") [])) ≡ Ok xs
items_read item text [] k h = refl
items_read item text (x ∷ xs) k h =
    ap (λ t. items_from item k (lines_of t)) (append_assoc (text x) (flat_map text xs) (line (codes "end") []))
    ∙ ap (items_from item k) (h.0.one_line (flat_map text xs ++ line (codes "end") []))
    ∙ (λ i. cond (h.0.other i) (ended k (lines_of (flat_map text xs ++ line (codes "end") []))) (onto (h.0.read i) k (items_read item text xs (suc k) h.1 i)))

each_value : (m : List ℕ) → AllByRecursion (λ a. a ≤ 255) m → AllByRecursion (IsReadAgain value_of_line value_line) m
each_value [] h = tt
each_value (a ∷ m) h =
    let within : a ≤ most_number = omega (arith, h.0) in
    (record { one_line = is_line (codes "m") (a ∷ []) refl (within, tt); other = refl; read = value_read a h.0 }, each_value m h.1)

step_again : (l : Line) → IsStepWithin l → IsReadAgain any_step line_text l
step_again (remove e c a) h =
    let process : c ≤ most_number = omega (arith, h.1) in
    let value : a ≤ most_number = omega (arith, h.2) in
    record { one_line = is_line (codes "p") (e ∷ c ∷ a ∷ []) refl (h.0, (process, (value, tt))); other = refl; read = step_read (remove e c a) h }
step_again (empty v) h = record { one_line = is_line (codes "z") (v ∷ []) refl (h, tt); other = refl; read = step_read (empty v) h }
step_again (branch v) h = record { one_line = is_line (codes "b") (v ∷ []) refl (h, tt); other = refl; read = step_read (branch v) h }
step_again found h = record { one_line = is_line (codes "f") [] refl tt; other = refl; read = refl }

-- a line of a refutation
line_again : (l : Line) → IsLineWithin l → IsReadAgain step_of_none line_text l
line_again (remove e c a) h = let step = step_again (remove e c a) h in record { one_line = step.one_line; other = refl; read = ap passed step.read }
line_again (empty v) h = let step = step_again (empty v) h in record { one_line = step.one_line; other = refl; read = ap passed step.read }
line_again (branch v) h = let step = step_again (branch v) h in record { one_line = step.one_line; other = refl; read = ap passed step.read }
line_again found h = absurd h

each_step : (ls : List Line) → AllByRecursion IsStepWithin ls → AllByRecursion (IsReadAgain any_step line_text) ls
each_step [] h = tt
each_step (l ∷ ls) h = (step_again l h.0, each_step ls h.1)

each_line : (ls : List Line) → AllByRecursion IsLineWithin ls → AllByRecursion (IsReadAgain step_of_none line_text) ls
each_line [] h = tt
each_line (l ∷ ls) h = (line_again l h.0, each_line ls h.1)

-- ---- values before steps

-- no line of a step has a value
step_no_value : (l : Line) → IsStepWithin l → value_of_line (line_text l) ≡ None
step_no_value (remove e c a) h =
    let process : c ≤ most_number = omega (arith, h.1) in
    let value : a ≤ most_number = omega (arith, h.2) in
    no_value_by (line_text (remove e c a)) (codes "p" ∷ decimal e ∷ decimal c ∷ decimal a ∷ []) refl (words_are (codes "p") (e ∷ c ∷ a ∷ []) refl refl (h.0, (process, (value, tt))))
step_no_value (empty v) h = no_value_by (line_text (empty v)) (codes "z" ∷ decimal v ∷ []) refl (words_are (codes "z") (v ∷ []) refl refl (h, tt))
step_no_value (branch v) h = no_value_by (line_text (branch v)) (codes "b" ∷ decimal v ∷ []) refl (words_are (codes "b") (v ∷ []) refl refl (h, tt))
step_no_value found h = refl

-- the lines of steps and the end have no value in front
no_front : (ls : List Line) → AllByRecursion IsStepWithin ls → front (lines_of (flat_map line_text ls ++ line (codes "end") [])) ≡ ([], lines_of (flat_map line_text ls ++ line (codes "end") []))
no_front [] h = refl
no_front (l ∷ ls) h =
    let more = flat_map line_text ls ++ line (codes "end") [] in
    let lines_are : lines_of (flat_map line_text (l ∷ ls) ++ line (codes "end") []) ≡ line_text l ∷ lines_of more = ap lines_of (append_assoc (line_text l) (flat_map line_text ls) (line (codes "end") [])) ∙ (step_again l h.0).one_line more in
    ap front lines_are ∙ front_is (line_text l) (lines_of more) ∙ ap (λ o. front_by o (line_text l) (lines_of more)) (step_no_value l h.0) ∙ ap (λ ls. ([], ls)) (sym lines_are)

front_read : (m rest : List ℕ) → AllByRecursion (λ a. a ≤ 255) m → front (lines_of rest) ≡ ([], lines_of rest) → front (lines_of (flat_map value_line m ++ rest)) ≡ (m, lines_of rest)
front_read [] rest h e = e
front_read (a ∷ m) rest h e =
    let within : a ≤ most_number = omega (arith, h.0) in
    let more = flat_map value_line m ++ rest in
    ap (λ t. front (lines_of t)) (append_assoc (value_line a) (flat_map value_line m) rest)
    ∙ ap front (is_line (codes "m") (a ∷ []) refl (within, tt) more)
    ∙ front_is (value_line a) (lines_of more)
    ∙ ap (λ o. front_by o (value_line a) (lines_of more)) (value_read a h.0)
    ∙ ap (λ p. (a ∷ p.0, p.1)) (front_read m rest h.1 e)

-- ---- reports

body_read : (b : Body) → IsBodyWithin b → body_at (lines_of (answer_line b ++ (body_text b ++ line (codes "end") []))) ≡ Ok b
body_read (a_map m) h =
    ap body_at (is_line (codes "answer map") [] refl tt (body_text (a_map m) ++ line (codes "end") []))
    ∙ map_is (lines_of (body_text (a_map m) ++ line (codes "end") []))
    ∙ ap (gathered a_map []) (items_read value_of_line value_line m 7 (each_value m h))
body_read (none ls) h =
    ap body_at (is_line (codes "answer none") [] refl tt (body_text (none ls) ++ line (codes "end") []))
    ∙ none_is (lines_of (body_text (none ls) ++ line (codes "end") []))
    ∙ ap (gathered none []) (items_read step_of_none line_text ls 7 (each_line ls h))
body_read (least m ls) h =
    let steps = flat_map line_text ls ++ line (codes "end") [] in
    ap body_at (is_line (codes "answer least") [] refl tt (body_text (least m ls) ++ line (codes "end") []))
    ∙ ap (λ t. least_body (lines_of t)) (append_assoc (flat_map value_line m) (flat_map line_text ls) (line (codes "end") []))
    ∙ least_by_front (lines_of (flat_map value_line m ++ steps)) (lines_of steps) m (front_read m steps h.0 (no_front ls h.1))
    ∙ ap (λ r. then_read r (λ xs. Ok (least m xs))) (steps_are any_step (7 + length m) (lines_of steps) ∙ items_read any_step line_text ls (7 + length m) (each_step ls h.1))

pub number_there : (k : ℕ) (name rest : List ℕ) (n : ℕ) → lacks 10 name ≡ true → lacks 32 name ≡ true → same_text name name ≡ true → n ≤ most_number → number_at k name (lines_of (line name (n ∷ []) ++ rest)) ≡ Ok (n, lines_of rest)
number_there k name rest n h space same within =
    ap (number_at k name) (is_line name (n ∷ []) h (within, tt) rest)
    ∙ number_at_line k name (line name (n ∷ [])) (lines_of rest)
    ∙ ap (number_step k (lines_of rest)) (number_is name (line name (n ∷ [])) ∙ ap (number_by name) (words_are name (n ∷ []) h space (within, tt)) ∙ (λ i. cond (same i) (number_read most_number n within within i) None))

pub written_read : (r : Report) → IsInGrammar r → report_of (report_text r) ≡ Ok r
written_read r h =
    let body = answer_line r.body ++ (body_text r.body ++ line (codes "end") []) in
    let at_executions = line (codes "executions") (r.executions ∷ []) ++ body in
    let at_points = line (codes "points") (r.points ∷ []) ++ at_executions in
    let at_rounds = line (codes "rounds") (r.rounds ∷ []) ++ at_points in
    let at_processes = line (codes "processes") (r.processes ∷ []) ++ at_rounds in
    let first : fixed_at 1 (line (codes "wfcheck report 1") []) (lines_of (report_text r)) ≡ Ok (lines_of at_processes) = ap (fixed_at 1 (line (codes "wfcheck report 1") [])) (is_line (codes "wfcheck report 1") [] refl tt at_processes) in
    ap (λ x. then_read x λ ls. then_read (number_at 2 (codes "processes") ls) λ n. then_read (number_at 3 (codes "rounds") n.1) λ r. then_read (number_at 4 (codes "points") r.1) λ p. then_read (number_at 5 (codes "executions") p.1) λ e. then_read (body_at e.1) λ body. Ok (record { processes = n.0; rounds = r.0; points = p.0; executions = e.0; body = body })) first
    ∙ ap (λ x. then_read x λ n. then_read (number_at 3 (codes "rounds") n.1) λ r. then_read (number_at 4 (codes "points") r.1) λ p. then_read (number_at 5 (codes "executions") p.1) λ e. then_read (body_at e.1) λ body. Ok (record { processes = n.0; rounds = r.0; points = p.0; executions = e.0; body = body })) (number_there 2 (codes "processes") at_rounds r.processes refl refl refl h.processes)
    ∙ ap (λ x. then_read x λ n. then_read (number_at 4 (codes "points") n.1) λ p. then_read (number_at 5 (codes "executions") p.1) λ e. then_read (body_at e.1) λ body. Ok (record { processes = r.processes; rounds = n.0; points = p.0; executions = e.0; body = body })) (number_there 3 (codes "rounds") at_points r.rounds refl refl refl h.rounds)
    ∙ ap (λ x. then_read x λ p. then_read (number_at 5 (codes "executions") p.1) λ e. then_read (body_at e.1) λ body. Ok (record { processes = r.processes; rounds = r.rounds; points = p.0; executions = e.0; body = body })) (number_there 4 (codes "points") at_executions r.points refl refl refl h.points)
    ∙ ap (λ x. then_read x λ e. then_read (body_at e.1) λ body. Ok (record { processes = r.processes; rounds = r.rounds; points = r.points; executions = e.0; body = body })) (number_there 5 (codes "executions") body r.executions refl refl refl h.executions)
    ∙ ap (λ x. then_read x λ body. Ok (record { processes = r.processes; rounds = r.rounds; points = r.points; executions = r.executions; body = body })) (body_read r.body h.body)
