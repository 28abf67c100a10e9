use Rattle.std.proofs.Common.{◌≡◌, ◌≤◌, List, ℕ, ◌++◌, [], Ok, flat_map, map, length, string_bytes, ap, sym, ◌∙◌, subst, refl, append-nil}
use Rattle.wf_model.specs.Limits.{most_points}
use Rattle.wf_base.specs.Set.Sets.{values_in}
use Rattle.wf_base.specs.Streams.Seen.{Writing}
use Rattle.wf_base.specs.Streams.Texts.{PutsText, WritesText}
use Rattle.wf_base.proofs.OfStreams.Lemmas.{IsPut, begun, went_on, left_off, passed_on}
use Rattle.wf_sat_cnf.specs.Patterns.{patterns_seen}
use Rattle.wf_sat_cnf.specs.Clauses.{AreCovered}
use Rattle.wf_sat_text.specs.Clauses.Formula.{Clause}
use Rattle.wf_sat_formula.specs.Dimacs.{clause_text}
use Rattle.wf_sat_cnf.specs.Exclusions.{clauses_with, sets_in}
use Rattle.wf_sat_cnf.specs.Tokens.{formula_tokens, tokens_text}
use Rattle.wf_sat_cnf.specs.declared.patterns.Patterns.{Patterns}
use Rattle.wf_sat_cnf.proofs.TextLemmas.{text_of_tokens}
use Rattle.wf_sat_cnf.specs.declared.question.CnfFormula.TheInside.{Inside}
use Rattle.wf_sat_cnf.proofs.question.CnfFormula.write.Goals as goal

-- before the clauses of the points
headed : (a b : Writing) (empty page head piece rest : List ℕ) → empty ≡ [] → piece ≡ head → PutsText a empty b page piece (Ok tt) → IsPut a [] b page (head ++ rest) rest
headed a b empty page head piece rest none is put =
    let text = head ++ rest in
    went_on a a b [] empty page text piece text rest (subst (λ p. IsPut a p a empty text text) none (begun a empty text)) put (ap (λ bs. bs ++ rest) (sym is))

-- what is left to put after the head
clauses : Inside → List Clause
clauses q = clauses_with (values_in q.variables.values) (map patterns_seen q.patterns.items) q.protocol.now (map values_in (sets_in q.branch))

rest : Inside → List ℕ
unfolding clauses
rest q = flat_map clause_text (clauses q)

-- the tokens that are given are what is left
given : (q : Inside) (patterns : List Patterns) (sets : List (List ℕ)) → patterns ≡ q.patterns.items → sets ≡ sets_in q.branch
    → rest q ≡ tokens_text (formula_tokens (clauses_with (values_in q.variables.values) (map patterns_seen patterns) q.protocol.now (map values_in sets))) ++ []
unfolding clauses rest
given q patterns sets patterns_are sets_are =
    sym (text_of_tokens (clauses q))
    ∙ sym (append-nil (tokens_text (formula_tokens (clauses q))))
    ∙ (λ i. tokens_text (formula_tokens (clauses_with (values_in q.variables.values) (map patterns_seen (sym patterns_are i)) q.protocol.now (map values_in (sym sets_are i)))) ++ [])

pub returns-in_err-put : goal.returns-in_err-put
unfolding clauses rest
returns-in_err-put g c =
    let q = c.self.inside in
    let text = string_bytes q.head ++ rest q in
    let started = subst (λ p. IsPut c.args.sink.now p c.args.sink.now q.page text text) c.self.invariant.empty (begun c.args.sink.now q.page text) in
    let result = c.from_residual.result in
    subst (λ text. WritesText c.args.sink.now c.put.new.sink text result) c.self.view_is
    (left_off _ _ _ _ _ c.as_bytes.result.now text (rest q) result c.from_residual.ensures.0 started c.in_err-put.ensures (ap (λ bs. bs ++ rest q) (sym c.as_bytes.ensures.value)))

pub give_clauses-requires-clause-covered : goal.give_clauses-requires-clause-covered
give_clauses-requires-clause-covered g c =
    subst (λ ps. AreCovered (map patterns_seen ps) c.self.inside.protocol.now) (sym c.deref.ensures.value) c.self.invariant.covered

pub give_clauses-requires-clause-few : goal.give_clauses-requires-clause-few
give_clauses-requires-clause-few g c = subst (λ sets. length sets ≤ most_points) (sym c.candidates_of.ensures) c.self.invariant.few

pub returns-in_err-give_clauses : goal.returns-in_err-give_clauses
unfolding clauses rest
returns-in_err-give_clauses g c =
    let q = c.self.inside in
    let begun = headed c.args.sink.now c.put.new.sink q.page c.put.new.self (string_bytes q.head) c.as_bytes.result.now (rest q) c.self.invariant.empty c.as_bytes.ensures.value c.in_ok-put.ensures in
    let result = c.from_residual-in_err-give_clauses.result in
    subst (λ text. WritesText c.args.sink.now c.give_clauses.new.to text result) c.self.view_is
    (left_off _ _ _ _ _ _ (rest q) [] result c.from_residual-in_err-give_clauses.ensures.0 begun c.in_err-give_clauses.ensures
    (given q c.deref.result.now c.candidates_of.result.now c.deref.ensures.value c.candidates_of.ensures))

pub returns : goal.returns
unfolding clauses rest
returns g c =
    let q = c.self.inside in
    let begun = headed c.args.sink.now c.put.new.sink q.page c.put.new.self (string_bytes q.head) c.as_bytes.result.now (rest q) c.self.invariant.empty c.as_bytes.ensures.value c.in_ok-put.ensures in
    let whole = went_on _ _ _ _ _ _ _ _ (rest q) [] begun c.in_ok-give_clauses.ensures (given q c.deref.result.now c.candidates_of.result.now c.deref.ensures.value c.candidates_of.ensures) in
    subst (λ text. WritesText c.args.sink.now c.finish.new.sink text c.finish.result) c.self.view_is
    (passed_on _ _ _ _ _ [] c.finish.result whole refl c.finish.ensures)
