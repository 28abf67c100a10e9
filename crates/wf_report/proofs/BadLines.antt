-- A line without its line feed, or a longer one than any of a report, says nothing of a report.
use Rattle.std.proofs.Common.{◌≡◌, ◌<◌, ◌≤◌, ◌⊎◌, inl, inr, ⊎_elim, ℕ, ◌+◌, ◌==◌, ◌&&◌, ◌++◌, List, [], ◌∷◌, length, Bool, true, false, cond, not, eqb-true, Option, Some, None, decimal, refl, sym, ◌∙◌, ap, arith, append_assoc, length-append}
use Rattle.std.specs.Option.{option_and_then}
use Rattle.std.specs.Cmp.Lexicographic as std
use Rattle.std.proofs.lemmas.Bool.{and_parts}
use Rattle.std.proofs.lemmas.Fmt.{length-decimal-le}
use Rattle.wf_model.specs.Limits.{most_number}
use Rattle.wf_model.specs.Refutation.{Line, remove, empty, branch, found}
use Rattle.wf_model.specs.Report.{any_step, is_found, line_text, lines_of, number_of_line, same_text, value_of_line}
use Rattle.wf_report.specs.Grammar.{IsStepWithin}
use Rattle.wf_report.specs.Reading.{lacks}
use Rattle.wf_report.specs.Steps.{step_in}
use Rattle.wf_report.specs.declared.reading.Section.{Section}
use Rattle.wf_report.specs.declared.reading.Section.TheVariants.{Values, Refutation, Search}
use Rattle.wf_report.proofs.BodyLemmas.{steps_of_lines, values_of_lines}
use Rattle.wf_report.proofs.ReadBackLemmas.{number_line, step_there, value_there}
use Rattle.wf_report.proofs.ReadLemmas.{last_piece, lines_cut, no_words, not_ended, number_by, number_is, some_line}
use Rattle.wf_report.specs.Fronts.{IsBadLine}

-- ---- the first line

both : (s t : Bool) → s ≡ true → t ≡ true → (s && t) ≡ true
both s t a b = λ i. a i && b i

pub lacks_both : (front rest : List ℕ) → lacks 10 front ≡ true → lacks 10 rest ≡ true → lacks 10 (front ++ rest) ≡ true
lacks_both [] rest h k = k
lacks_both (b ∷ front) rest h k =
    let parts = and_parts (not (b == 10)) (lacks 10 front) h in
    both (not (b == 10)) (lacks 10 (front ++ rest)) parts.0 (lacks_both front rest parts.1 k)

-- a text is cut at its first line feed, if it has one
pub record HasFeed (text : List ℕ) : Type 0 where
  pub front : List ℕ
  pub rest : List ℕ
  pub text_is : text ≡ front ++ 10 ∷ rest
  pub whole : lacks 10 front ≡ true

pub feed : (text : List ℕ) → (lacks 10 text ≡ true) ⊎ HasFeed text
feed [] = inl refl
feed (b ∷ text) = by_test (b == 10) refl (feed text)
  where
    by_test : (t : Bool) → (b == 10) ≡ t → (lacks 10 text ≡ true) ⊎ HasFeed text → (lacks 10 (b ∷ text) ≡ true) ⊎ HasFeed (b ∷ text)
    by_test true e rest = inr (record { front = []; rest = text; text_is = ap (λ x. x ∷ text) (eqb-true b 10 e); whole = refl })
    by_test false e (inl k) = inl (both (not (b == 10)) (lacks 10 text) (ap not e) k)
    by_test false e (inr k) = inr (record { front = b ∷ k.front; rest = k.rest; text_is = ap (λ x. b ∷ x) k.text_is; whole = both (not (b == 10)) (lacks 10 k.front) (ap not e) k.whole })

pub some_length : (ls : List (List ℕ)) → (ls ≡ [] → ⊥) → 0 < length ls
some_length [] h = absurd (h refl)
some_length (l ∷ ls) h = omega arith

-- a text that is not empty has a line
pub has_lines : (text : List ℕ) → 0 < length text → 0 < length (lines_of text)
has_lines [] h = absurd (omega (arith, h))
has_lines (b ∷ text) h = some_length (lines_of (b ∷ text)) (some_line (b == 10) b (lines_of text))

-- a text without a line feed is a bad line
pub one_bad : (text : List ℕ) → 0 < length text → lacks 10 text ≡ true → lines_of text ≡ text ∷ []
one_bad text some h =
    ⊎_elim
    (λ (e : lines_of text ≡ []). absurd (let has = has_lines text some in let none = ap length e in omega (arith, has, none)))
    (λ (e : lines_of text ≡ text ∷ []). e)
    (last_piece text h)

-- the first line is bad
pub record BeginsBadly (text : List ℕ) : Type 0 where
  pub first : List ℕ
  pub more : List (List ℕ)
  pub lines_are : lines_of text ≡ first ∷ more
  pub bad : IsBadLine first

pub long_first : (front rest : List ℕ) → length front ≡ 22 → lacks 10 front ≡ true → BeginsBadly (front ++ rest)
long_first front rest long h = by_feed (feed rest)
  where
    by_feed : (lacks 10 rest ≡ true) ⊎ HasFeed rest → BeginsBadly (front ++ rest)
    by_feed (inl k) =
        let all = lacks_both front rest h k in
        let some = length-append front rest in
        record { first = front ++ rest; more = []; lines_are = one_bad (front ++ rest) (omega (arith, some, long)) all; bad = inl all }
    by_feed (inr k) =
        let all = lacks_both front k.front h k.whole in
        let size = length-append (front ++ k.front) (10 ∷ []) in
        let both_sizes = length-append front k.front in
        record {
          first = (front ++ k.front) ++ 10 ∷ [];
          more = lines_of k.rest;
          lines_are = ap (λ t. lines_of (front ++ t)) k.text_is ∙ ap lines_of (sym (append_assoc front k.front (10 ∷ k.rest))) ∙ lines_cut (front ++ k.front) k.rest all;
          bad = inr (omega (arith, size, both_sizes, long));
        }

-- ---- what a bad line is not

pub not_fixed : (wanted l : List ℕ) → length wanted ≤ 21 → IsBadLine l → same_text l (wanted ++ 10 ∷ []) ≡ false
not_fixed wanted l short (inl h) = not_ended l wanted h
not_fixed wanted l short (inr long) = by_test (same_text l (wanted ++ 10 ∷ [])) refl
  where
    by_test : (t : Bool) → same_text l (wanted ++ 10 ∷ []) ≡ t → t ≡ false
    by_test false e = refl
    by_test true e =
        let size = ap length (std.same_text l (wanted ++ 10 ∷ []) (sym e)) in
        let parts = length-append wanted (10 ∷ []) in
        absurd (omega (arith, size, parts, short, long))

-- the size of a number with a space before it
number_size : (n : ℕ) (rest : List ℕ) → n ≤ most_number → length (32 ∷ (decimal n ++ rest)) ≤ 11 + length rest
number_size n rest few =
    let digits = length-decimal-le 10 n (omega arith) (omega (arith, few)) (omega (arith, few)) in
    let parts = length-append (decimal n) rest in
    omega (arith, digits, parts)

pub not_number : (name l : List ℕ) → length name ≤ 10 → IsBadLine l → number_of_line name l ≡ None
not_number name l short (inl h) = number_is name l ∙ ap (number_by name) (no_words l h)
not_number name l short (inr long) = by_number (number_of_line name l) refl
  where
    by_number : (o : Option ℕ) → number_of_line name l ≡ o → o ≡ None
    by_number None e = refl
    by_number (Some n) e =
        let is = number_line name l n e in
        let size = ap length is.0 in
        let parts = length-append name (32 ∷ (decimal n ++ 10 ∷ [])) in
        let number = number_size n (10 ∷ []) is.1 in
        absurd (omega (arith, size, parts, number, short, long))

pub not_value : (l : List ℕ) → IsBadLine l → value_of_line l ≡ None
not_value l (inl h) = values_of_lines l h
not_value l (inr long) = by_value (value_of_line l) refl
  where
    by_value : (o : Option ℕ) → value_of_line l ≡ o → o ≡ None
    by_value None e = refl
    by_value (Some a) e =
        let is = value_there l a e in
        let size = ap length is.0 in
        let number = number_size a (10 ∷ []) (omega (arith, is.1)) in
        absurd (omega (arith, size, number, long))

step_size : (x : Line) → IsStepWithin x → length (line_text x) ≤ 22
step_size (remove e c a) (few, less, small) =
    let first = number_size e (32 ∷ (decimal c ++ 32 ∷ (decimal a ++ 10 ∷ []))) few in
    let digit = length-decimal-le 1 c (omega arith) (omega (arith, less)) (omega (arith, less)) in
    let second = length-append (decimal c) (32 ∷ (decimal a ++ 10 ∷ [])) in
    let digits = length-decimal-le 3 a (omega arith) (omega (arith, small)) (omega (arith, small)) in
    let third = length-append (decimal a) (10 ∷ []) in
    omega (arith, first, digit, second, digits, third)
step_size (empty v) few =
    let number = number_size v (10 ∷ []) few in
    omega (arith, number)
step_size (branch v) few =
    let number = number_size v (10 ∷ []) few in
    omega (arith, number)
step_size found few = omega arith

no_step_there : (l : List ℕ) → 22 < length l → any_step l ≡ None
no_step_there l long = by_step (any_step l) refl
  where
    by_step : (o : Option Line) → any_step l ≡ o → o ≡ None
    by_step None e = refl
    by_step (Some x) e =
        let is = step_there l x e in
        let size = ap length is.0 in
        let few = step_size x is.1 in
        absurd (omega (arith, size, few, long))

pub not_step : (part : Section) (l : List ℕ) → IsBadLine l → step_in part l ≡ None
not_step part l (inl h) = steps_of_lines part l h
not_step Values l (inr long) = refl
not_step Refutation l (inr long) = ap (λ o. option_and_then (λ x. cond (is_found x) None (Some x)) o) (no_step_there l long)
not_step Search l (inr long) = no_step_there l long
