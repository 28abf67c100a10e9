-- Where an execution stands, and its words round by round.
use Rattle.std.proofs.Common.{◌≡◌, ℕ, zero, suc, ◌+◌, ◌-◌, ◌*◌, ◌/◌, ◌%◌, ◌<◌, ◌≤◌, ◌==◌, Bool, true, false, get_or, List, [], ◌∷◌, ◌++◌, map, flat_map, take, length, Some, All, codes, slice_get, refl, sym, ap, ◌∙◌, subst, arith, append_assoc, append-nil, length-append, ne_eqb}
use Rattle.std.specs.List.{slice_index_or}
use Rattle.std.proofs.lemmas.Nat.{div-mul-add, mod-mul-add}
use Rattle.std.proofs.lemmas.List.{length-map, get_or-map, take_more}
use Rattle.std.proofs.lemmas.List.Elements.{All-from_recursion}
use Rattle.std.proofs.lemmas.List.Concat.{flat_map-append}
use Rattle.std.proofs.lemmas.List.FromFn.{map-range_with_len_more, get_or-map-range_with_len, length-map-range_with_len}
use Rattle.std.proofs.lemmas.Option.{slice_get_within, slice_get_read, get_or_from_slice_get}
use Rattle.wf_model.specs.Lists.{lists_of, below}
use Rattle.wf_model.specs.Simplex.{Simplex, values_of}
use Rattle.wf_model.specs.Word.{Word, words}
use Rattle.wf_model.specs.Task.{Task, Rule, inputs, first_block}
use Rattle.wf_model.specs.Execution.{Execution, executions_on, executions}
use Rattle.wf_model.proofs.Lemmas.{below_next, words_long}
use Rattle.wf_complex.specs.Layout.{turns}
use Rattle.wf_complex.specs.Protocol.{Built, IsProtocol}
use Rattle.wf_complex.proofs.Lemmas.{suc_times, length-lists_of, as_many_executions}
use Rattle.wf_report_trim.proofs.Lemmas.{begun_by, begun, there_within, MadeOf, made_of, made_there, as_many_numbers, length-on}
use Rattle.wf_report_explain.specs.declared.words.executions.ExecutionRange.{ExecutionRange}
use Rattle.wf_report_explain.specs.Words.Table.{Naming, spans_of, words_up_to, break_text}
use Rattle.wf_report_explain.specs.Words.Text.{Names, argument_names, others_text, block_text, block_of, named, participant_text, plain_names, ranked_from, word_text, words_text, execution_text}

-- ---- a list of words by division

length_begun : {X : Type 0} (ys : List (List X)) (xs : List X) → length (flat_map (begun_by ys) xs) ≡ length xs * length ys
length_begun ys [] = omega arith
length_begun ys (x ∷ xs) =
    length-append (begun_by ys x) (flat_map (begun_by ys) xs)
    ∙ (λ i. length-map ys (λ rest. x ∷ rest) i + length_begun ys xs i)
    ∙ sym (suc_times (length xs) (length ys))

divides : (a b : ℕ) → 1 ≤ a → (a * b) / a ≡ b
divides a b some =
    let turned : a * b ≡ b * a + 0 = grind arith in
    ap (λ x. x / a) turned ∙ div-mul-add b a 0 (omega (arith, some))

-- a list of words for one round more: its first word, and the list for the rounds after it
pub record Cut (ws : List Word) (k o : ℕ) : Type 0 where
  pub words_some : 1 ≤ length ws
  pub some : 1 ≤ length (lists_of ws k)
  pub each : length (lists_of ws (suc k)) / length ws ≡ length (lists_of ws k)
  pub first_low : o / length (lists_of ws k) < length ws
  pub rest_low : o % length (lists_of ws k) < length (lists_of ws k)
  pub is : slice_index_or (lists_of ws (suc k)) o [] ≡ slice_index_or ws (o / length (lists_of ws k)) [] ∷ slice_index_or (lists_of ws k) (o % length (lists_of ws k)) []

pub cut : (ws : List Word) (k o : ℕ) → o < length (lists_of ws (suc k)) → Cut ws k o
cut ws k o low =
    let (l, there) = there_within (lists_of ws (suc k)) o low in
    let b = begun (lists_of ws k) ws o l there in
    let size = length (lists_of ws k) in
    let p_low : b.first_place < length ws = slice_get_within ws b.first_place b.first b.first_there in
    let q_low : b.rest_place < size = slice_get_within (lists_of ws k) b.rest_place b.rest b.rest_there in
    let over : o / size ≡ b.first_place = ap (λ x. x / size) b.place ∙ div-mul-add b.first_place size b.rest_place q_low in
    let under : o % size ≡ b.rest_place = ap (λ x. x % size) b.place ∙ mod-mul-add b.first_place size b.rest_place q_low in
    let some : 1 ≤ length ws = omega (arith, p_low) in
    record {
      words_some = some;
      some = omega (arith, q_low);
      each = ap (λ x. x / length ws) (length_begun (lists_of ws k) ws) ∙ divides (length ws) size some;
      first_low = omega (arith, over, p_low);
      rest_low = omega (arith, under, q_low);
      is =
          get_or_from_slice_get (lists_of ws (suc k)) o l [] there ∙ b.is
          ∙ (λ i. sym (ap (λ n. slice_index_or ws n []) over ∙ get_or_from_slice_get ws b.first_place b.first [] b.first_there) i
          ∷ sym (ap (λ n. slice_index_or (lists_of ws k) n []) under ∙ get_or_from_slice_get (lists_of ws k) b.rest_place b.rest [] b.rest_there) i);
    }

-- ---- round by round

abbrev pub between_rounds : List ℕ
between_rounds = codes " ; "

-- the word of a round
abbrev pub round_text : Names → ℕ → Word → List ℕ
round_text names zero w = word_text names.first names.all w
round_text names (suc round) w = word_text names.later names.all w

-- what is to come of a list of words once so many rounds are told
abbrev pub to_come : Names → ℕ → List Word → List ℕ
to_come names zero [] = []
to_come names zero (w ∷ ws) = words_text names (w ∷ ws)
to_come names (suc round) ws = others_text (word_text names.later names.all) between_rounds between_rounds ws

one_other : (f : Word → List ℕ) (s : List ℕ) (w : Word) (ws : List Word) → others_text f s s (w ∷ ws) ≡ s ++ (f w ++ others_text f s s ws)
one_other f s w [] = ap (λ x. s ++ x) (sym (append-nil (f w)))
one_other f s w (u ∷ ws) = refl

one_round : (names : Names) (round : ℕ) (w : Word) (ws : List Word) → to_come names round (w ∷ ws) ≡ break_text round ++ (round_text names round w ++ to_come names (suc round) ws)
one_round names zero w ws = refl
one_round names (suc round) w ws = one_other (word_text names.later names.all) between_rounds w ws

none_to_come : (names : Names) (round : ℕ) → to_come names round [] ≡ []
none_to_come names zero = refl
none_to_come names (suc round) = refl

-- what is known once so many rounds are told
pub record AreTold (names : Names) (ws : List Word) (rounds round count place : ℕ) (text whole : List ℕ) : Type 0 where
  pub count_is : count ≡ length (lists_of ws (rounds - round))
  pub low : place < count
  pub told : text ++ to_come names round (slice_index_or (lists_of ws (rounds - round)) place []) ≡ whole

pub one_more_round : (names : Names) (ws : List Word) (rounds round count place : ℕ) (text t1 t2 whole : List ℕ) (w : Word) → AreTold names ws rounds round count place text whole → round < rounds
    → t1 ≡ text ++ break_text round → t2 ≡ t1 ++ round_text names round w → w ≡ slice_index_or ws (place / (count / length ws)) []
    → AreTold names ws rounds (round + 1) (count / length ws) (place % (count / length ws)) t2 whole
one_more_round names ws rounds round count place text t1 t2 whole w h low first second is =
    let k = rounds - (round + 1) in
    let next : rounds - round ≡ suc k = omega (arith, low) in
    let count_is : count ≡ length (lists_of ws (suc k)) = h.count_is ∙ ap (λ n. length (lists_of ws n)) next in
    let c = cut ws k place (omega (arith, h.low, count_is)) in
    let each : count / length ws ≡ length (lists_of ws k) = ap (λ x. x / length ws) count_is ∙ c.each in
    let word : slice_index_or ws (place / length (lists_of ws k)) [] ≡ w = sym (ap (λ n. slice_index_or ws (place / n) []) each) ∙ sym is in
    let rest = slice_index_or (lists_of ws k) (place % length (lists_of ws k)) [] in
    let later : suc round ≡ round + 1 = omega arith in
    record {
      count_is = each;
      low = omega (arith, ap (λ n. place % n) each, each, c.rest_low);
      told =
          ap (λ n. t2 ++ to_come names (round + 1) (slice_index_or (lists_of ws k) (place % n) [])) each
          ∙ ap (λ n. t2 ++ to_come names n rest) (sym later)
          ∙ ap (λ x. x ++ to_come names (suc round) rest) (second ∙ ap (λ x. x ++ round_text names round w) first)
          ∙ append_assoc (text ++ break_text round) (round_text names round w) (to_come names (suc round) rest)
          ∙ append_assoc text (break_text round) (round_text names round w ++ to_come names (suc round) rest)
          ∙ ap (λ x. text ++ x) (sym (one_round names round w rest))
          ∙ ap (λ x. text ++ to_come names round (x ∷ rest)) (sym word)
          ∙ ap (λ x. text ++ to_come names round x) (sym c.is)
          ∙ ap (λ n. text ++ to_come names round (slice_index_or (lists_of ws n) place [])) (sym next)
          ∙ h.told;
    }

-- before the first round nothing is told
pub none_told : (names : Names) (ws : List Word) (rounds count place : ℕ) (text : List ℕ) → 0 < rounds → count ≡ length (lists_of ws rounds) → place < count
    → AreTold names ws rounds 0 count place text (text ++ words_text names (slice_index_or (lists_of ws rounds) place []))
none_told names ws zero count place text some is low = absurd (omega (arith, some))
none_told names ws (suc k) count place text some is low =
    let c = cut ws k place (omega (arith, is, low)) in
    let all : suc k - 0 ≡ suc k = omega arith in
    let x = slice_index_or ws (place / length (lists_of ws k)) [] in
    let xs = slice_index_or (lists_of ws k) (place % length (lists_of ws k)) [] in
    record {
      count_is = is ∙ ap (λ n. length (lists_of ws n)) (sym all);
      low = low;
      told = ap (λ n. text ++ to_come names 0 (slice_index_or (lists_of ws n) place [])) all ∙ ap (λ l. text ++ to_come names 0 l) c.is ∙ ap (λ l. text ++ words_text names l) (sym c.is);
    }

-- after the last one all is
pub all_told : (names : Names) (ws : List Word) (rounds round count place : ℕ) (text whole : List ℕ) → AreTold names ws rounds round count place text whole → rounds ≤ round → text ≡ whole
all_told names ws rounds round count place text whole h high =
    let none : rounds - round ≡ 0 = omega (arith, high) in
    let one : count ≡ 1 = h.count_is ∙ ap (λ n. length (lists_of ws n)) none in
    let first : place ≡ 0 = omega (arith, one, h.low) in
    sym (append-nil text)
    ∙ ap (λ x. text ++ x) (sym (none_to_come names round))
    ∙ ap (λ p. text ++ to_come names round (slice_index_or (lists_of ws 0) p [])) (sym first)
    ∙ ap (λ n. text ++ to_come names round (slice_index_or (lists_of ws n) place [])) (sym none)
    ∙ h.told

-- while rounds are left there is a word at the place, and none of the divisors is 0
pub record IsAnother (ws : List Word) (count place : ℕ) : Type 0 where
  pub some : 0 < length ws
  pub each : 0 < count / length ws
  pub low : place / (count / length ws) < length ws

pub another : (names : Names) (ws : List Word) (rounds round count place : ℕ) (text whole : List ℕ) → AreTold names ws rounds round count place text whole → round < rounds → IsAnother ws count place
another names ws rounds round count place text whole h low =
    let k = rounds - (round + 1) in
    let next : rounds - round ≡ suc k = omega (arith, low) in
    let count_is : count ≡ length (lists_of ws (suc k)) = h.count_is ∙ ap (λ n. length (lists_of ws n)) next in
    let c = cut ws k place (omega (arith, h.low, count_is)) in
    let each : count / length ws ≡ length (lists_of ws k) = ap (λ x. x / length ws) count_is ∙ c.each in
    record {
      some = omega (arith, c.words_some);
      each = omega (arith, each, c.some);
      low = omega (arith, ap (λ n. place / n) each, c.first_low);
    }

-- ---- block by block

abbrev pub blocks_text : (ℕ × ℕ → List ℕ) → Simplex → Word → ℕ → List ℕ
blocks_text name all w n = flat_map (λ block. block_text name (block_of all w block)) (below n)

pub one_more_block : (name : ℕ × ℕ → List ℕ) (all : Simplex) (w : Word) (n : ℕ) (start text new : List ℕ) → text ≡ start ++ blocks_text name all w n → new ≡ text ++ block_text name (block_of all w n) → new ≡ start ++ blocks_text name all w (n + 1)
one_more_block name all w n start text new so_far more =
    let f : ℕ → List ℕ = λ block. block_text name (block_of all w block) in
    more ∙ ap (λ x. x ++ f n) so_far ∙ append_assoc start (flat_map f (below n)) (f n)
    ∙ ap (λ x. start ++ (flat_map f (below n) ++ x)) (sym (append-nil (f n)))
    ∙ ap (λ x. start ++ x) (sym (flat_map-append f (below n) (n ∷ [])))
    ∙ ap (λ xs. start ++ flat_map f xs) (sym (below_next n))

-- ---- names

length-ranked_from : (n : ℕ) (s : Simplex) → length (ranked_from n s) ≡ length s
length-ranked_from n [] = refl
length-ranked_from n (v ∷ s) = ap suc (length-ranked_from (suc n) s)

pub length-named : (ranks : Bool) (s : Simplex) → length (named ranks s) ≡ length s
length-named true s = length-ranked_from 0 s
length-named false s = refl

ranked_at : (n i : ℕ) (s : Simplex) → i < length s → get_or (ranked_from n s) i (0, 0) ≡ (n + i, get_or (values_of s) i 0)
ranked_at n i [] inside = absurd (omega (arith, inside))
ranked_at n zero (v ∷ s) inside = let here : n ≡ n + 0 = omega arith in ap (λ k. (k, v.1)) here
ranked_at n (suc i) (v ∷ s) inside =
    let next : suc n + i ≡ n + suc i = omega arith in
    ranked_at (suc n) i s (omega (arith, inside)) ∙ ap (λ k. (k, get_or (values_of s) i 0)) next

-- the participant at a place
pub rank_at : (s : Simplex) (i : ℕ) → i < length s → get_or (named true s) i (0, 0) ≡ (i, get_or (values_of s) i 0)
rank_at s i inside = let here : 0 + i ≡ i = omega arith in ranked_at 0 i s inside ∙ ap (λ k. (k, get_or (values_of s) i 0)) here

-- the first round's word stands with inputs, later ones without
pub round_shown : (ranks : Bool) (s : Simplex) (round : ℕ) (w : Word) → word_text (participant_text ranks (round == 0)) (named ranks s) w ≡ round_text (argument_names ranks s) round w
round_shown ranks s zero w = refl
round_shown ranks s (suc round) w = ap (λ b. word_text (participant_text ranks b) (named ranks s) w) (ne_eqb (suc round) 0 (λ e. omega (arith, e)))

pub round_plain : (s : Simplex) (round : ℕ) (w : Word) → word_text (participant_text false false) s w ≡ round_text (plain_names s) round w
round_plain s zero w = refl
round_plain s (suc round) w = refl

-- ---- the table

pub one_more_size : (m n : ℕ) (table : List (List Word)) (list : List Word) → table ≡ words_up_to m n → list ≡ words m (n + 1) → table ++ list ∷ [] ≡ words_up_to m (n + 1)
unfolding words_up_to
one_more_size m n table list is are =
    (λ i. is i ++ are i ∷ []) ∙ sym (map-range_with_len_more (λ k. words m (k + 1)) 0 n n (omega arith))

pub one_more_word : (ws : List Word) (n : ℕ) (w : Word) (items : List Word) → slice_get ws n ≡ Some w → items ≡ take n ws → items ++ w ∷ [] ≡ take (n + 1) ws
one_more_word ws n w items there is =
    ap (λ xs. xs ++ w ∷ []) is
    ∙ ap (λ x. take n ws ++ x ∷ []) (sym (get_or_from_slice_get ws n w [] there))
    ∙ sym (take_more ws n [] (slice_get_within ws n w there))

pub no_size : (m : ℕ) → words_up_to m 0 ≡ []
unfolding words_up_to
no_size m = refl

pub record HasSize (m n : ℕ) (table : List (List Word)) : Type 0 where
  pub low : n - 1 < length table
  pub is : slice_index_or table (n - 1) [] ≡ words m n

pub size_there : (m n top : ℕ) (table : List (List Word)) → table ≡ words_up_to m top → 1 ≤ n → n ≤ top → HasSize m n table
unfolding words_up_to
size_there m n top table is some few =
    let at : 0 + (n - 1) ≡ n - 1 = omega arith in
    let size : (n - 1) + 1 ≡ n = omega (arith, some) in
    record {
      low = omega (arith, ap length is, length-map-range_with_len (λ k. words m (k + 1)) 0 top, some, few);
      is = ap (λ xs. slice_index_or xs (n - 1) []) is ∙ get_or-map-range_with_len (λ k. words m (k + 1)) 0 top (n - 1) (n - 1) [] (omega (arith, some, few)) at ∙ ap (words m) size;
    }

-- ---- the execution of a number

-- the span of an input simplex, by the executions on those before it
span_at : (m r : ℕ) (rules : List Rule) (number first : ℕ) (rule : Rule) → slice_get rules number ≡ Some rule →
    slice_get (spans_of m r first (map (λ rule. rule.input) rules)) number ≡ Some (record { first = first + length (flat_map (executions_on m r) (take number rules)); count = turns m (length rule.input) r })
span_at m r [] number first rule h = absurd (let none : ⊥ = cc in none)
span_at m r (a ∷ rules) zero first rule h =
    let same : a ≡ rule = cc in
    let b : first ≡ first + 0 = omega arith in
    λ i. Some (record { first = b i; count = turns m (length (same i).input) r })
span_at m r (a ∷ rules) (suc number) first rule h =
    let b : first + turns m (length a.input) r + length (flat_map (executions_on m r) (take number rules)) ≡ first + length (executions_on m r a ++ flat_map (executions_on m r) (take number rules)) =
    omega (arith, length-on m r a, length-append (executions_on m r a) (flat_map (executions_on m r) (take number rules))) in
    span_at m r rules number (first + turns m (length a.input) r) rule h
    ∙ (λ i. Some (record { first = b i; count = turns m (length rule.input) r }))

-- what was read at a place, whatever stands for none
pub read_at : {X : Type 0} (xs : List X) (i : ℕ) (x d : X) → i < length xs → x ≡ slice_index_or xs i x → x ≡ slice_index_or xs i d
read_at xs i x d low is = sym (get_or_from_slice_get xs i x d (slice_get_read xs (length xs) i x refl low is))

-- an execution of the task, with its simplex, its span and its text
pub record IsFound (t : Task) (r e s : ℕ) : Type 0 where
  pub rule : Rule
  pub span : ExecutionRange
  pub rule_there : slice_get t.delta s ≡ Some rule
  pub span_there : slice_get (spans_of (first_block t) r 0 (inputs t)) s ≡ Some span
  pub begun : span.first ≤ e
  pub count : span.count ≡ length (lists_of (words (first_block t) (length rule.input)) r)
  pub place : e - span.first < span.count
  pub text : (names : Naming) → execution_text names (slice_get (executions t r) e) ≡ words_text (names rule.input) (slice_index_or (lists_of (words (first_block t) (length rule.input)) r) (e - span.first) [])

pub found_there : (t : Task) (r : ℕ) (b : Built) (e s : ℕ) → IsProtocol t r b → slice_get b.simplices e ≡ Some s → IsFound t r e s
found_there t r b e s h on =
    let m = first_block t in
    let at : MadeOf (executions_on m r) t.delta 0 e s = made_of (executions_on m r) t.delta 0 e s (subst (λ ns. slice_get ns e ≡ Some s) h.simplices_are on) in
    let rule = at.element in
    let lists = lists_of (words m (length rule.input)) r in
    let before = length (flat_map (executions_on m r) (take at.number t.delta)) in
    let number : at.number ≡ s = omega (arith, at.numbered) in
    let spans : List ExecutionRange = spans_of m r 0 (inputs t) in
    let span : ExecutionRange = record { first = 0 + before; count = turns m (length rule.input) r } in
    let low : at.place < length lists = omega (arith, at.within, length-on m r rule, length-lists_of m (length rule.input) r) in
    let offset : e - (0 + before) ≡ at.place = omega (arith, at.at) in
    let (ws, ws_there) = there_within lists at.place low in
    let here : slice_get (executions t r) e ≡ Some (record { rule = rule; words = ws }) =
    ap (slice_get (executions t r)) at.at ∙ made_there (executions_on m r) t.delta at.number rule at.place at.there at.within
    ∙ in_place rule lists at.place ws ws_there in
    record {
      rule = rule;
      span = span;
      rule_there = subst (λ j. slice_get t.delta j ≡ Some rule) number at.there;
      span_there = subst (λ j. slice_get spans j ≡ Some span) number (span_at m r t.delta at.number 0 rule at.there);
      begun = omega (arith, at.at);
      count = sym (length-lists_of m (length rule.input) r);
      place = omega (arith, offset, low, length-lists_of m (length rule.input) r);
      text = λ names. ap (execution_text names) here ∙ ap (words_text (names rule.input)) (sym (ap (λ n. slice_index_or lists n []) offset ∙ get_or_from_slice_get lists at.place ws [] ws_there));
    }
  where
    in_place : (rule : Rule) (lists : List (List Word)) (i : ℕ) (ws : List Word) → slice_get lists i ≡ Some ws
        → slice_get {X = Execution} (map (λ ws. record { rule = rule; words = ws }) lists) i ≡ Some (record { rule = rule; words = ws })
    in_place rule [] i ws h = absurd (let none : ⊥ = cc in none)
    in_place rule (l ∷ lists) zero ws h = let same : l ≡ ws = cc in ap (λ x. Some (record { rule = rule; words = x })) same
    in_place rule (l ∷ lists) (suc i) ws h = in_place rule lists i ws h

-- as many input simplices are known as executions have points
pub as_many : (t : Task) (r : ℕ) (b : Built) → IsProtocol t r b → length b.simplices ≡ length b.scopes
as_many t r b h = ap length h.simplices_are ∙ as_many_numbers (executions_on (first_block t) r) t.delta 0 ∙ sym (as_many_executions t r b h)

-- what the look-ups of an execution give
pub record IsLookedUp (t : Task) (r e s : ℕ) (simplex : Simplex) (span : ExecutionRange) (ws : List Word) : Type 0 where
  pub begun : span.first ≤ e
  pub count : span.count ≡ length (lists_of ws r)
  pub place : e - span.first < span.count
  pub long : All (λ w. length w ≡ length simplex) ws
  pub text : (names : Naming) → words_text (names simplex) (slice_index_or (lists_of ws r) (e - span.first) []) ≡ execution_text names (slice_get (executions t r) e)

pub looked_up : (t : Task) (r e s : ℕ) (simplex : Simplex) (span : ExecutionRange) (ws : List Word) → (f : IsFound t r e s) → simplex ≡ f.rule.input → span ≡ f.span → ws ≡ words (first_block t) (length f.rule.input)
    → IsLookedUp t r e s simplex span ws
looked_up t r e s simplex span ws f on at are =
    let first : span.first ≡ f.span.first = ap (λ (x : ExecutionRange). x.first) at in
    let count : span.count ≡ f.span.count = ap (λ (x : ExecutionRange). x.count) at in
    record {
      begun = omega (arith, first, f.begun);
      count = count ∙ f.count ∙ ap (λ xs. length (lists_of xs r)) (sym are);
      place = omega (arith, first, count, f.place);
      long = subst (λ xs. All (λ w. length w ≡ length simplex) xs) (sym are)
          (subst (λ (n : ℕ). All (λ (w : List ℕ). length w ≡ n) (words (first_block t) (length f.rule.input))) (ap length (sym on))
          (All-from_recursion _ (words (first_block t) (length f.rule.input)) (words_long (first_block t) (length f.rule.input))));
      text = λ names. (λ i. words_text (names (on i)) (slice_index_or (lists_of (are i) r) (e - first i) [])) ∙ sym (f.text names);
    }

-- ---- the look-ups

-- the simplex of this number is that of the rule
pub simplex_at : (t : Task) (s : ℕ) (rule : Rule) (all : List Simplex) (simplex : Simplex) → slice_get t.delta s ≡ Some rule → all ≡ inputs t → simplex ≡ slice_index_or all s simplex → simplex ≡ rule.input
simplex_at t s rule all simplex there are is =
    is ∙ ap (λ xs. slice_index_or xs s simplex) are ∙ get_or-map (λ (r : Rule). r.input) t.delta s rule simplex (slice_get_within t.delta s rule there)
    ∙ ap (λ (r : Rule). r.input) (get_or_from_slice_get t.delta s rule rule there)

pub simplex_low : (t : Task) (s : ℕ) (rule : Rule) (all : List Simplex) → slice_get t.delta s ≡ Some rule → all ≡ inputs t → s < length all
simplex_low t s rule all there are = omega (arith, slice_get_within t.delta s rule there, ap length are, length-map t.delta (λ (r : Rule). r.input))

-- the words of so many participants
pub words_at : {V : Type 0} (items_of : V → List Word) (m n k : ℕ) (all list : List V) (v : V) (ws : List Word) → all ≡ list → map items_of list ≡ words_up_to m 4 → 1 ≤ n → n ≤ 4 → k ≡ n - 1
    → v ≡ slice_index_or all k v → ws ≡ items_of v → ws ≡ words m n
words_at items_of m n k all list v ws same are some few at is got =
    let there = size_there m n 4 (map items_of list) are some few in
    let low : k < length list = omega (arith, there.low, length-map list items_of, at) in
    got ∙ ap items_of (is ∙ ap (λ xs. slice_index_or xs k v) same) ∙ sym (get_or-map items_of list k v [] low) ∙ ap (λ i. slice_index_or (map items_of list) i []) at ∙ there.is

pub words_low : {V : Type 0} (items_of : V → List Word) (m n : ℕ) (all list : List V) → all ≡ list → map items_of list ≡ words_up_to m 4 → 1 ≤ n → n ≤ 4 → n - 1 < length all
words_low items_of m n all list same are some few =
    let there = size_there m n 4 (map items_of list) are some few in
    omega (arith, there.low, length-map list items_of, ap length same)
