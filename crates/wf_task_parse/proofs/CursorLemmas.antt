-- The first token of a text that is known byte by byte.
use Rattle.std.proofs.Common.{◌≡◌, ℕ, ◌+◌, ◌-◌, ◌*◌, ◌/◌, ◌%◌, ◌<◌, ◌≤◌, ◌⊎◌, inl, inr, Bool, true, false, cond, List, [], ◌∷◌, ◌++◌, length, get_or, take, drop, refl, sym, ap, ap₂, ◌∙◌, subst, arith, take_all, length-drop}
use Rattle.std.proofs.lemmas.Bool.{cases_eq, ne_eqb, both_ways}
use Rattle.std.proofs.lemmas.List.{drop_more, take_more}
use Rattle.std.proofs.lemmas.List.Concat.{flat_map-append}
use Rattle.std.specs.Fmt.{decimal}
use Rattle.std.proofs.lemmas.Fmt.{decimal_digit, decimal_step}
use Rattle.json.specs.Token.{Token, number, boolean, key, bad}
use Rattle.json.specs.Word.{is_space, ends_word, word}
use Rattle.json.specs.Lex.{Place, fresh, after_value, after_comma, after_key, between, token, colon, string_token, class, space, lex, lex_byte, if_allowed, may_begin, may_close, punctuate}
use Rattle.json.specs.Print.{escape, escape_byte}
use Rattle.json.proofs.Printed.Strings.{escape_byte_plain, content-escape, lex-escape}
use Rattle.json.proofs.Printed.Numbers.{lex-number, in_word-ended}
use Rattle.json.proofs.Printed.Decimals.{IsNumber-decimal}

allowed : (b : Bool) (t : Token) (k : Place → List Token) (next : Place) → b ≡ true → if_allowed b t k next ≡ t ∷ k next
allowed b t k next e = ap (λ x. if_allowed x t k next) e

module _ (p : Place) (xs rest : List ℕ) where
  pub first-begin_array : may_begin p ≡ true → xs ≡ 91 ∷ rest → punctuate p (lex between xs) ≡ Token.begin_array ∷ punctuate fresh (lex between rest)
  unfolding lex punctuate
  first-begin_array h e = ap (λ t. punctuate p (lex between t)) e ∙ allowed (may_begin p) Token.begin_array (λ n. punctuate n (lex between rest)) fresh h

  pub first-begin_object : may_begin p ≡ true → xs ≡ 123 ∷ rest → punctuate p (lex between xs) ≡ Token.begin_object ∷ punctuate fresh (lex between rest)
  unfolding lex punctuate
  first-begin_object h e = ap (λ t. punctuate p (lex between t)) e ∙ allowed (may_begin p) Token.begin_object (λ n. punctuate n (lex between rest)) fresh h

  pub first-end_array : may_close p ≡ true → xs ≡ 93 ∷ rest → punctuate p (lex between xs) ≡ Token.end_array ∷ punctuate after_value (lex between rest)
  unfolding lex punctuate
  first-end_array h e = ap (λ t. punctuate p (lex between t)) e ∙ allowed (may_close p) Token.end_array (λ n. punctuate n (lex between rest)) after_value h

  pub first-end_object : may_close p ≡ true → xs ≡ 125 ∷ rest → punctuate p (lex between xs) ≡ Token.end_object ∷ punctuate after_value (lex between rest)
  unfolding lex punctuate
  first-end_object h e = ap (λ t. punctuate p (lex between t)) e ∙ allowed (may_close p) Token.end_object (λ n. punctuate n (lex between rest)) after_value h

  pub first-number : (n : ℕ) → n < 1000 → may_begin p ≡ true → xs ≡ decimal n ++ rest → ends_word rest ≡ true → punctuate p (lex between xs) ≡ number (decimal n) ∷ punctuate after_value (lex between rest)
  unfolding punctuate
  first-number n low h e ended =
      ap (λ t. punctuate p (lex between t)) e
      ∙ ap (punctuate p) (lex-number (decimal n) rest (IsNumber-decimal n (omega (arith, low))) ended)
      ∙ allowed (may_begin p) (number (decimal n)) (λ k. punctuate k (lex between rest)) after_value h

  pub first-true : may_begin p ≡ true → xs ≡ 116 ∷ 114 ∷ 117 ∷ 101 ∷ rest → ends_word rest ≡ true → punctuate p (lex between xs) ≡ boolean true ∷ punctuate after_value (lex between rest)
  unfolding lex punctuate word
  first-true h e ended =
      ap (λ t. punctuate p (lex between t)) e
      ∙ ap (punctuate p) (ap₂ (λ b l. token (cond b (boolean true) bad) ∷ l) ended (in_word-ended rest ended))
      ∙ allowed (may_begin p) (boolean true) (λ k. punctuate k (lex between rest)) after_value h

  pub first-false : may_begin p ≡ true → xs ≡ 102 ∷ 97 ∷ 108 ∷ 115 ∷ 101 ∷ rest → ends_word rest ≡ true → punctuate p (lex between xs) ≡ boolean false ∷ punctuate after_value (lex between rest)
  unfolding lex punctuate word
  first-false h e ended =
      ap (λ t. punctuate p (lex between t)) e
      ∙ ap (punctuate p) (ap₂ (λ b l. token (cond b (boolean false) bad) ∷ l) ended (in_word-ended rest ended))
      ∙ allowed (may_begin p) (boolean false) (λ k. punctuate k (lex between rest)) after_value h

  pub first-key : (k text behind more : List ℕ) → may_begin p ≡ true → xs ≡ 34 ∷ text → text ≡ escape k ++ 34 ∷ behind → lex between rest ≡ lex between behind → rest ≡ 58 ∷ more
      → punctuate p (lex between xs) ≡ key k ∷ punctuate fresh (lex between more)
  unfolding lex punctuate
  first-key k text behind more h quote string blank mark =
      let ls : lex between behind ≡ colon ∷ lex between more = sym blank ∙ ap (lex between) mark in
      ap (λ t. punctuate p (lex between t)) (quote ∙ ap (λ t. 34 ∷ t) string)
      ∙ ap (punctuate p) (ap₂ (λ o l. token (string_token o) ∷ l) (content-escape k behind) (lex-escape k behind ∙ ls))
      ∙ allowed (may_begin p) (key k) (λ n. punctuate n (colon ∷ lex between more)) after_key h

pub past_comma : (xs rest : List ℕ) → xs ≡ 44 ∷ rest → punctuate after_value (lex between xs) ≡ punctuate after_comma (lex between rest)
unfolding lex punctuate
past_comma xs rest e = ap (λ t. punctuate after_value (lex between t)) e

-- an array of two digits with no blank between
pub first-pair : (p : Place) (xs rest : List ℕ) (x y : ℕ) → x < 10 → y < 10 → may_begin p ≡ true → xs ≡ 91 ∷ (48 + x) ∷ 44 ∷ (48 + y) ∷ 93 ∷ rest
    → punctuate p (lex between xs) ≡ Token.begin_array ∷ number (decimal x) ∷ number (decimal y) ∷ Token.end_array ∷ punctuate after_value (lex between rest)
first-pair p xs rest x y low lower h e =
    let last = 93 ∷ rest in
    let second = (48 + y) ∷ last in
    let comma = 44 ∷ second in
    let first = (48 + x) ∷ comma in
    let more : punctuate after_value (lex between last) ≡ Token.end_array ∷ punctuate after_value (lex between rest) = first-end_array after_value last rest refl refl in
    let two : punctuate after_comma (lex between second) ≡ number (decimal y) ∷ punctuate after_value (lex between last) =
    first-number after_comma second last y (omega (arith, lower)) refl (ap (λ d. d ++ last) (sym (decimal_digit y lower))) refl in
    let one : punctuate fresh (lex between first) ≡ number (decimal x) ∷ punctuate after_value (lex between comma) =
    first-number fresh first comma x (omega (arith, low)) refl (ap (λ d. d ++ comma) (sym (decimal_digit x low))) refl in
    first-begin_array p xs first h e
    ∙ ap (λ ts. Token.begin_array ∷ ts) (one ∙ ap (λ ts. number (decimal x) ∷ ts) (past_comma comma second refl ∙ two ∙ ap (λ ts. number (decimal y) ∷ ts) more))

pub at_end : (p : Place) (xs : List ℕ) → may_close p ≡ true → length xs ≡ 0 → punctuate p (lex between xs) ≡ []
unfolding lex punctuate
at_end fresh [] h e = refl
at_end after_value [] h e = refl
at_end after_comma [] h e = cc
at_end after_key [] h e = cc
at_end p (x ∷ xs) h e = absurd (let none : ⊥ = omega (arith, e) in none)

-- ---- bytes at the front of a text, and the text behind them

pub behind : (k : ℕ) (xs : List ℕ) → take (length xs - k) (drop k xs) ≡ drop k xs
behind k xs = take_all (length xs - k) (drop k xs) (omega (arith, length-drop k xs))

pub front : (xs : List ℕ) (x : ℕ) → 1 ≤ length xs → get_or xs 0 0 ≡ x → xs ≡ x ∷ take (length xs - 1) (drop 1 xs)
front [] x some e = absurd (let none : ⊥ = omega (arith, some) in none)
front (y ∷ ys) x some e = ap₂ (λ z zs. z ∷ zs) e (sym (behind 1 (y ∷ ys)))

pub front_four : (xs : List ℕ) (a b c d : ℕ) → 4 ≤ length xs → get_or xs 0 0 ≡ a → get_or xs 1 0 ≡ b → get_or xs 2 0 ≡ c → get_or xs 3 0 ≡ d → xs ≡ a ∷ b ∷ c ∷ d ∷ take (length xs - 4) (drop 4 xs)
front_four [] a b c d long first second third fourth = absurd (let none : ⊥ = omega (arith, long) in none)
front_four (w ∷ []) a b c d long first second third fourth = absurd (let none : ⊥ = omega (arith, long) in none)
front_four (w ∷ x ∷ []) a b c d long first second third fourth = absurd (let none : ⊥ = omega (arith, long) in none)
front_four (w ∷ x ∷ y ∷ []) a b c d long first second third fourth = absurd (let none : ⊥ = omega (arith, long) in none)
front_four (w ∷ x ∷ y ∷ z ∷ zs) a b c d long first second third fourth = rw (behind 4 (w ∷ x ∷ y ∷ z ∷ zs), ← first, ← second, ← third, ← fourth) refl

pub front_five : (xs : List ℕ) (a b c d e : ℕ) → 5 ≤ length xs → get_or xs 0 0 ≡ a → get_or xs 1 0 ≡ b → get_or xs 2 0 ≡ c → get_or xs 3 0 ≡ d → get_or xs 4 0 ≡ e → xs ≡ a ∷ b ∷ c ∷ d ∷ e ∷ take (length xs - 5) (drop 5 xs)
front_five [] a b c d e long first second third fourth fifth = absurd (let none : ⊥ = omega (arith, long) in none)
front_five (v ∷ []) a b c d e long first second third fourth fifth = absurd (let none : ⊥ = omega (arith, long) in none)
front_five (v ∷ w ∷ []) a b c d e long first second third fourth fifth = absurd (let none : ⊥ = omega (arith, long) in none)
front_five (v ∷ w ∷ x ∷ []) a b c d e long first second third fourth fifth = absurd (let none : ⊥ = omega (arith, long) in none)
front_five (v ∷ w ∷ x ∷ y ∷ []) a b c d e long first second third fourth fifth = absurd (let none : ⊥ = omega (arith, long) in none)
front_five (v ∷ w ∷ x ∷ y ∷ z ∷ zs) a b c d e long first second third fourth fifth = rw (behind 5 (v ∷ w ∷ x ∷ y ∷ z ∷ zs), ← first, ← second, ← third, ← fourth, ← fifth) refl

decimal_more : (m d : ℕ) → 0 < m → m < 100 → d < 10 → decimal (10 * m + d) ≡ decimal m ++ (48 + d) ∷ []
decimal_more m d some few low =
    let n = 10 * m + d in
    let first : n / 10 ≡ m = omega arith in
    let last : 48 + n % 10 ≡ 48 + d = omega arith in
    decimal_step n (omega arith) (omega arith) ∙ ap₂ (λ k e. decimal k ++ e ∷ []) first last

pub one_digit : (xs : List ℕ) (n : ℕ) → 1 ≤ length xs → n + 48 ≡ get_or xs 0 0 → n < 10 → xs ≡ decimal n ++ take (length xs - 1) (drop 1 xs)
one_digit [] n some is low = absurd (let none : ⊥ = omega (arith, some) in none)
one_digit (y ∷ ys) n some is low =
    let same : 48 + n ≡ y = omega (arith, is) in
    sym (ap₂ (λ s r. s ++ r) (decimal_digit n low ∙ ap (λ z. z ∷ []) same) (behind 1 (y ∷ ys)))

two_written : (t o y z : ℕ) → t + 48 ≡ y → o + 48 ≡ z → 0 < t → t < 10 → o < 10 → decimal (10 * t + o) ≡ y ∷ z ∷ []
two_written t o y z first second some few low =
    let tens : 48 + t ≡ y = omega (arith, first) in
    let ones : 48 + o ≡ z = omega (arith, second) in
    decimal_more t o some (omega (arith, few)) low ∙ ap₂ (λ s d. s ++ d ∷ []) (decimal_digit t few ∙ ap (λ d. d ∷ []) tens) ones

pub two_digits : (xs : List ℕ) (t o : ℕ) → 2 ≤ length xs → t + 48 ≡ get_or xs 0 0 → o + 48 ≡ get_or xs 1 0 → 0 < t → t < 10 → o < 10 → xs ≡ decimal (10 * t + o) ++ take (length xs - 2) (drop 2 xs)
two_digits [] t o long first second some few low = absurd (let none : ⊥ = omega (arith, long) in none)
two_digits (y ∷ []) t o long first second some few low = absurd (let none : ⊥ = omega (arith, long) in none)
two_digits (y ∷ z ∷ zs) t o long first second some few low = sym (ap₂ (λ s r. s ++ r) (two_written t o y z first second some few low) (behind 2 (y ∷ z ∷ zs)))

pub three_digits : (xs : List ℕ) (h t o : ℕ) → 3 ≤ length xs → h + 48 ≡ get_or xs 0 0 → t + 48 ≡ get_or xs 1 0 → o + 48 ≡ get_or xs 2 0 → 0 < h → h < 10 → t < 10 → o < 10
    → xs ≡ decimal (10 * (10 * h + t) + o) ++ take (length xs - 3) (drop 3 xs)
three_digits [] h t o long first second third some few low lower = absurd (let none : ⊥ = omega (arith, long) in none)
three_digits (x ∷ []) h t o long first second third some few low lower = absurd (let none : ⊥ = omega (arith, long) in none)
three_digits (x ∷ y ∷ []) h t o long first second third some few low lower = absurd (let none : ⊥ = omega (arith, long) in none)
three_digits (x ∷ y ∷ z ∷ zs) h t o long first second third some few low lower =
    let ones : 48 + o ≡ z = omega (arith, third) in
    sym (ap₂ (λ s r. s ++ r)
    (decimal_more (10 * h + t) o (omega arith) (omega arith) lower ∙ ap₂ (λ s d. s ++ d ∷ []) (two_written h t x y first second some few low) ones)
    (behind 3 (x ∷ y ∷ z ∷ zs)))

-- ---- bytes that are passed over

blank_class : (x : ℕ) → is_space x ≡ true → class x ≡ space
blank_class x h = by (cases_eq x 32) (cases_eq x 9) (cases_eq x 10) (cases_eq x 13)
  where
    by : (x ≡ 32) ⊎ (x ≡ 32 → ⊥) → (x ≡ 9) ⊎ (x ≡ 9 → ⊥) → (x ≡ 10) ⊎ (x ≡ 10 → ⊥) → (x ≡ 13) ⊎ (x ≡ 13 → ⊥) → class x ≡ space
    by (inl e) b c d = subst (λ y. class y ≡ space) (sym e) refl
    by (inr a) (inl e) c d = subst (λ y. class y ≡ space) (sym e) refl
    by (inr a) (inr b) (inl e) d = subst (λ y. class y ≡ space) (sym e) refl
    by (inr a) (inr b) (inr c) (inl e) = subst (λ y. class y ≡ space) (sym e) refl
    by (inr a) (inr b) (inr c) (inr d) =
        let none : is_space x ≡ false = rw (ne_eqb x 32 a, ne_eqb x 9 b, ne_eqb x 10 c, ne_eqb x 13 d) refl in
        absurd (both_ways (is_space x) none h)

blank_first : (x : ℕ) (xs : List ℕ) → is_space x ≡ true → lex between (x ∷ xs) ≡ lex between xs
unfolding lex
blank_first x xs h = ap (λ c. lex_byte between c x xs (λ next. lex next xs)) (blank_class x h)

pub blank_more : (xs : List ℕ) (i : ℕ) → i < length xs → is_space (get_or xs i 0) ≡ true → lex between (drop (i + 1) xs) ≡ lex between (drop i xs)
blank_more xs i inside is = sym (ap (lex between) (drop_more xs i 0 inside) ∙ blank_first (get_or xs i 0) (drop (i + 1) xs) is)

pub plain_byte : (x : ℕ) → 95 ≤ x → escape (x ∷ []) ≡ x ∷ []
plain_byte x high = ap (λ s. s ++ []) (escape_byte_plain x (λ e. omega (arith, e)) (λ e. omega (arith, e)) (omega arith))

pub plain_more : (xs : List ℕ) (i : ℕ) → i < length xs → escape (get_or xs i 0 ∷ []) ≡ get_or xs i 0 ∷ [] → escape (take i xs) ≡ take i xs → escape (take (i + 1) xs) ≡ take (i + 1) xs
plain_more xs i inside one before =
    ap escape (take_more xs i 0 inside) ∙ flat_map-append escape_byte (take i xs) (get_or xs i 0 ∷ []) ∙ ap₂ (λ s t. s ++ t) before one ∙ sym (take_more xs i 0 inside)
