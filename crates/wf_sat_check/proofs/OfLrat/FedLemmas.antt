-- Laws of what a proof's bytes come to.
use Rattle.std.proofs.Common.{◌≡◌, ℕ, Option, Some, None, ◌+◌, ◌<◌, true, List, [], ◌∷◌, sym, ◌∙◌, ap, length, drop, get_or}
use Rattle.std.specs.Prelude.{if◌then◌else◌}
use Rattle.std.proofs.lemmas.List.{drop_more}
use Rattle.std.proofs.lemmas.Option.{none-some}
use Rattle.wf_sat_text.specs.Lrat.Moves.{Moves}
use Rattle.wf_sat_text.specs.Lrat.Text.{End, State, Step, Text, text_of}
use Rattle.wf_sat_check.specs.Lrat.Fed.{Outcome, by_end, by_step, by_steps, outcome_of, refutes}
use Rattle.wf_sat_check.specs.Lrat.Ledger.{Ledger}

steps_refuted : (steps : List Step) (end : End) (l : Ledger) → l.is_refuted ≡ true → by_steps steps end l ≡ refutes l
steps_refuted [] end l is = ap (λ b. if b then refutes l else by_end end l) is
steps_refuted (step ∷ steps) end l is = ap (λ b. if b then refutes l else by_step step l (λ next. by_steps steps end next)) is

-- nothing is read behind the contradiction
pub refuted_outcome : (text : Text) (l : Ledger) → l.is_refuted ≡ true → outcome_of text l ≡ refutes l
refuted_outcome text l is = steps_refuted text.steps text.end l is

-- no bytes were read
unmoved : (bytes : List ℕ) (from : ℕ) (moved : Option ℕ) (inside next : State) → moved ≡ None → Moves bytes inside from inside next moved → next ≡ inside
unmoved bytes from None inside next none same = same
unmoved bytes from (Some to) inside next none same = absurd (none-some to (sym none))

-- the next byte is read by itself
pub to_byte : (start : Outcome) (bytes : List ℕ) (from : ℕ) (moved : Option ℕ) (inside next before : State) (l : Ledger) → from < length bytes
    → moved ≡ None → Moves bytes inside from inside next moved → inside ≡ before → start ≡ outcome_of (text_of before (drop from bytes)) l
    → start ≡ outcome_of (text_of next (get_or bytes from 0 ∷ drop (from + 1) bytes)) l
to_byte start bytes from moved inside next before l within none moves is so =
    so ∙ ap (λ s. outcome_of (text_of s (drop from bytes)) l) (sym (unmoved bytes from moved inside next none moves ∙ is))
    ∙ ap (λ left. outcome_of (text_of next left) l) (drop_more bytes from 0 within)
