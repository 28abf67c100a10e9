-- Clauses that are added to a checker of proofs.
use Rattle.std.proofs.Common.{◌≡◌, ℕ, List, [], ◌∷◌, ◌++◌, Some, None, map, refl, sym, ap, ◌∙◌, append-nil, append_assoc}
use Rattle.std.specs.Prelude.{IfOk, Result, Ok, Err}
use Rattle.wf_sat_text.specs.Clauses.Formula.{Clause}
use Rattle.wf_sat_check.specs.Rup.Kept.{AddsAtMost, IsKept, KnowsStill}
use Rattle.wf_sat_check.specs.Rup.Posed.{IsPosed}
use Rattle.wf_sat_check.specs.Rup.Seen.{KeepsModelsOf, Known, KnowsNothing}
use Rattle.wf_sat_check.proofs.OfRup.Lemmas.{posed_more, posed_none}
use Rattle.wf_sat_cnf.specs.Posed.{Adds, with_clauses}
use Rattle.wf_sat_cnf.specs.Tokens.{Token, ended, formula_tokens}

-- ---- a checker of clausal proofs

-- a new checker knows the formula without a clause
pub posed_on : {E : Type 0} (r : Result Known E) (variables : ℕ) → IfOk r KnowsNothing → IfOk r (λ known. known.clauses ≡ []) → IfOk r (λ known. known.variables ≡ variables)
    → IfOk r (IsPosed (record { variables = variables; clauses = [] }))
posed_on (Ok known) variables nothing none same = posed_none variables known nothing none same
posed_on (Err e) variables nothing none same = tt

-- one that is told a clause knows it behind those of the formula
pub adds_clause : {X E : Type 0} (r : Result X E) (clause : Clause) (old new : Known) → KeepsModelsOf clause old new
    → IfOk r (λ done. IsKept clause new) → IfOk r (λ done. KnowsStill old new) → IfOk r (λ done. AddsAtMost clause old new) → IfOk r (λ done. Adds IsPosed (clause ∷ []) old new)
adds_clause (Ok done) clause old new sound kept still alone =
    λ f posed. posed_more f (with_clauses (clause ∷ []) f) clause old new refl refl posed sound kept still alone
adds_clause (Err e) clause old new sound kept still alone = tt

-- ---- the tokens of a formula

-- the clause ends that is begun
ended_first : (begun literals : Clause) (tokens : List Token) → ended begun (map Some literals ++ None ∷ tokens) ≡ (begun ++ literals) ∷ ended [] tokens
ended_first begun [] tokens = ap (λ c. c ∷ ended [] tokens) (sym (append-nil begun))
ended_first begun (literal ∷ literals) tokens = ended_first (begun ++ literal ∷ []) literals tokens ∙ ap (λ c. c ∷ ended [] tokens) (append_assoc begun (literal ∷ []) literals)

-- its clauses end one after the other
pub each_ended : (clauses : List Clause) → ended [] (formula_tokens clauses) ≡ clauses
each_ended [] = refl
each_ended (clause ∷ clauses) =
    ap (ended []) (append_assoc (map Some clause) (None ∷ []) (formula_tokens clauses)) ∙ ended_first [] clause (formula_tokens clauses) ∙ ap (λ cs. clause ∷ cs) (each_ended clauses)
