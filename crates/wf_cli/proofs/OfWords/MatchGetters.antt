-- What the getters of the matches read, by the rows.
use Rattle.std.proofs.Common.{◌≡◌, ◌∙◌, refl, ap, arith, ℕ, Bool, true, false, List, Option, Some, None, Result, Ok, Err}
use Rattle.std.specs.Prelude.{if◌then◌else◌, option_and_then}
use Rattle.std.specs.Str.Parse.{ParsesUnsigned, digits_value, without_leading_plus}
use Rattle.clap.specs.Words.{ReadsOne, Text, one_text, rows_of}
use Rattle.clap.specs.ValueTests.{is_unsigned_in}
use Rattle.clap.specs.declared.builder.value_parser.ValueParser.TheVariants as parser
use Rattle.clap.specs.declared.parser.matches.Found.{Found}
use Rattle.clap.proofs.ValueTestLemmas.{accepts-Accepts, Accepts-accepts}
use Rattle.clap.proofs.WalkLemmas.{one_text-rows}
use Rattle.wf_cli.specs.Words.Given.{number_of, read_number}

-- what `u32` reads of a text
pub number_read : {E : Type 0} (G : List ℕ → Result ℕ E → Type 0) (text : Text) (r : Option ℕ)
    → ((u : Text) (x : Result ℕ E) → G u x → ParsesUnsigned 32 10 u x) → ReadsOne G text r → r ≡ read_number text
number_read G text (Some v) only h =
    let parsed = only text (Ok v) h in
    let small = parsed.0.1 in
    let yes : is_unsigned_in 0 4294967295 text ≡ true =
    Accepts-accepts false (parser.Unsigned 0 4294967295) text (parsed.0.0, omega (arith, small), omega arith, omega (arith, small)) in
    rw yes (ap Some parsed.1)
number_read {E} G text None only h = go (is_unsigned_in 0 4294967295 text) refl
  where
    go : (b : Bool) → is_unsigned_in 0 4294967295 text ≡ b → None ≡ (if b then Some (digits_value 10 (without_leading_plus text)) else None)
    go false e = refl
    go true e =
        let accepted = accepts-Accepts false (parser.Unsigned 0 4294967295) text e in
        let most = accepted.3 in
        absurd (only text (Err h.0) h.1 (accepted.0, omega (arith, most)))

pub number_found : {E : Type 0} (G : List ℕ → Result ℕ E → Type 0) (f : Found) (name : Text) (r : Option ℕ)
    → ((u : Text) (x : Result ℕ E) → G u x → ParsesUnsigned 32 10 u x) → (one_text f name ≡ None → r ≡ None)
    → ((text : Text) → one_text f name ≡ Some text → ReadsOne G text r) → r ≡ number_of name (rows_of f)
number_found G f name r only none some = go (one_text f name) refl ∙ ap (option_and_then read_number) (one_text-rows f name)
  where
    go : (o : Option Text) → one_text f name ≡ o → r ≡ option_and_then read_number o
    go None e = none e
    go (Some text) e = number_read G text r only (some text e)
