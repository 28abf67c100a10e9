-- The laws of what takes tokens: a page of text, and the clause at hand of a checker.
use Rattle.std.specs.Prelude.{◌≡◌, ℕ, List, [], ◌∷◌, ◌++◌, Some, None, Result, Ok, Err, IfOk, IsErr, refl}
use Rattle.std.proofs.Common.{sym, ap, ◌∙◌, subst, arith, append-nil, append_assoc}
use Rattle.std.proofs.lemmas.Bool.{false≢true}
use Rattle.std.proofs.lemmas.List.Concat.{flat_map-append}
use Rattle.wf_base.specs.Streams.Seen.{Writing}
use Rattle.wf_base.specs.Streams.Ends.{CanWrite}
use Rattle.wf_base.specs.Streams.Texts.{PutsText}
use Rattle.wf_base.specs.declared.streams.sink.WriteFault.{WriteFault}
use Rattle.wf_base.proofs.OfStreams.Lemmas.{all_put, begun, last_put, stopped, went_on}
use Rattle.wf_sat_text.specs.Clauses.Formula.{Clause, Formula}
use Rattle.wf_sat_cnf.specs.Posed.{Adds, with_clauses}
use Rattle.wf_sat_cnf.specs.Tokens.{AddsTokens, IsTaking, Token, begun_after, ended, token_text, tokens_text}

-- ---- a page of text

abbrev pub PutsTokens : List Token → List ℕ → Writing → List ℕ → Writing → Result (Unit {0}) WriteFault → Type 0
PutsTokens tokens page sink page' sink' result = PutsText sink page sink' page' (tokens_text tokens) result

pub text_laws : IsTaking PutsTokens CanWrite
text_laws = record {
  nothing = λ page sink. all_put _ _ _ _ [] [] (begun sink page []) refl;
  more = λ some next a b c d e f result first second.
      let text = tokens_text (some ++ next) in
      last_put _ _ _ _ _ _ text (tokens_text next) (tokens_text next) result
      (went_on _ _ _ _ _ _ text (tokens_text some) text (tokens_text next) (begun d a text) first (flat_map-append token_text some next)) second refl;
  stopped = λ some next a b d e fault result first failed.
      let text = tokens_text (some ++ next) in
      stopped _ _ _ _ _ _ text (tokens_text some) text (tokens_text next) result failed (begun d a text) first (flat_map-append token_text some next);
  stays_open = λ some a b d e put room. omega (arith, room, put.1.failures);
}

-- ---- the clause at hand of a checker

ended_more : (begun : Clause) (some next : List Token) → ended begun (some ++ next) ≡ ended begun some
    ++ ended (begun_after begun some) next
ended_more begun [] next = refl
ended_more begun (Some literal ∷ some) next = ended_more (begun ++ literal ∷ []) some next
ended_more begun (None ∷ some) next = ap (λ cs. begun ∷ cs) (ended_more [] some next)

begun_more : (begun : Clause) (some next : List Token) → begun_after begun (some ++ next) ≡ begun_after (begun_after begun some) next
begun_more begun [] next = refl
begun_more begun (Some literal ∷ some) next = begun_more (begun ++ literal ∷ []) some next
begun_more begun (None ∷ some) next = begun_more [] some next

-- no clause is added
pub adds_none : {C : Type 0} (is_posed : Formula → C → Type 0) (now : C) → Adds is_posed [] now now
adds_none is_posed now f posed =
    let same : f ≡ with_clauses [] f = λ i. record { variables = f.variables; clauses = sym (append-nil f.clauses) i } in
    subst (λ g. is_posed g now) same posed

-- further clauses are added
pub adds_more : {C : Type 0} (is_posed : Formula → C → Type 0) (some next all : List Clause) (old now new : C) → all ≡ some ++ next
    → Adds is_posed some old now → Adds is_posed next now new → Adds is_posed all old new
adds_more is_posed some next all old now new whole first second f posed =
    let both : (f.clauses ++ some) ++ next ≡ f.clauses ++ all = append_assoc f.clauses some next ∙ ap (λ cs. f.clauses ++ cs) (sym whole) in
    let is : with_clauses next (with_clauses some f) ≡ with_clauses all f = λ i. record { variables = f.variables; clauses = both i } in
    subst (λ g. is_posed g new) is (second (with_clauses some f) (first f posed))

pub adds_tokens : {C : Type 0} (is_posed : Formula → C → Type 0) (some next : List Token) (a b c : Clause) (old now new : C)
    → AddsTokens is_posed some a old b now → AddsTokens is_posed next b now c new → AddsTokens is_posed (some ++ next) a old c new
adds_tokens is_posed some next a b c old now new first second = record {
  adds = adds_more is_posed (ended a some) (ended b next) (ended a (some ++ next)) old now new
      (ended_more a some next ∙ ap (λ k. ended a some ++ ended k next) (sym first.begun_is)) first.adds second.adds;
  begun_is = second.begun_is ∙ ap (λ k. begun_after k next) first.begun_is ∙ sym (begun_more a some next);
}

-- one of two that are added one after the other
both_added : {C E : Type 0} (is_posed : Formula → C → Type 0) (some next : List Token) (a b c : Clause) (old now new : C) (result : Result (Unit {0}) E)
    → AddsTokens is_posed some a old b now → IfOk result (λ done. AddsTokens is_posed next b now c new)
    → IfOk result (λ done. AddsTokens is_posed (some ++ next) a old c new)
both_added is_posed some next a b c old now new (Ok done) first second = adds_tokens is_posed some next a b c old now new first second
both_added is_posed some next a b c old now new (Err fault) first second = tt

none_if_stopped : {E : Type 0} (P : Unit {0} → Type 0) (result : Result (Unit {0}) E) → IsErr result → IfOk result P
none_if_stopped P (Ok done) failed = absurd (false≢true failed)
none_if_stopped P (Err fault) failed = tt

pub adding_laws : {C K E : Type 0} (is_posed : Formula → C → Type 0) (at_hand : K → Clause)
    → IsTaking {E = E} (λ tokens clause checker clause' checker' result. IfOk result (λ done. AddsTokens is_posed tokens (at_hand clause) checker (at_hand clause') checker')) (λ checker. Unit {0})
adding_laws is_posed at_hand = record {
  nothing = λ clause checker. record { adds = adds_none is_posed checker; begun_is = refl };
  more = λ some next a b c old now new result first second. both_added is_posed some next (at_hand a) (at_hand b) (at_hand c) old now new result first second;
  stopped = λ some next a b old new fault result first failed. none_if_stopped (λ done. AddsTokens is_posed (some ++ next) (at_hand a) old (at_hand b) new) result failed;
  stays_open = λ some a b old new taken ready. tt;
}
