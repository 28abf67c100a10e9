-- Clauses that are added to a checker one after another, until it knows a formula.
use Rattle.std.proofs.Common.{◌≡◌, ℕ, ◌+◌, ◌<◌, List, [], ◌∷◌, ◌++◌, Vec, Some, map, length, take, get_or, inl, inr, refl, sym, ap, ◌∙◌, subst, append-nil}
use Rattle.std.specs.Prelude.{true}
use Rattle.std.proofs.lemmas.List.{map-append, take_more}
use Rattle.std.proofs.lemmas.List.Elements.{All-nil, All-pop, All-push, All-weaker}
use Rattle.wf_sat_text.specs.Clauses.Formula.{Clause, Formula, Literal, satisfies}
use Rattle.wf_sat_check.specs.Rup.Kept.{AddsAtMost, IsKept, KnowsStill}
use Rattle.wf_sat_check.specs.Rup.Posed.{AreSomeOf, IsPosed, KeepsEach}
use Rattle.wf_sat_check.specs.Rup.Seen.{KeepsModelsOf, Known, KnowsNothing}
use Rattle.wf_sat_check.specs.Rup.Whole.{clauses_of}
use Rattle.wf_sat_check.proofs.OfRup.StoredLemmas.{kept-on, models-kept}

-- ---- some of the clauses of a list

pub some_itself : (all : List Clause) → AreSomeOf all all
some_itself [] = tt
some_itself (clause ∷ all) = inl (refl, some_itself all)

some_later : (some : List Clause) (clause : Clause) (all : List Clause) → AreSomeOf some all → AreSomeOf some (clause ∷ all)
some_later [] clause all is = tt
some_later (first ∷ some) clause all is = inr is

some_both : (some all more others : List Clause) → AreSomeOf some all → AreSomeOf more others → AreSomeOf (some ++ more) (all ++ others)
some_both [] [] more others is also = also
some_both [] (clause ∷ all) more others is also = some_later more clause (all ++ others) (some_both [] all more others tt also)
some_both (first ∷ some) [] more others is also = absurd is
some_both (first ∷ some) (clause ∷ all) more others (inl here) also = inl (here.0, some_both some all more others here.1 also)
some_both (first ∷ some) (clause ∷ all) more others (inr later) also = inr (some_both (first ∷ some) all more others later also)

-- one clause is added at most
some_on : (all : List Clause) (clause : Clause) (old new : Known) → AreSomeOf old.clauses all → AddsAtMost clause old new → AreSomeOf new.clauses (all ++ clause ∷ [])
some_on all clause old new some (inl none) =
    subst (λ cs. AreSomeOf cs (all ++ clause ∷ [])) (append-nil old.clauses ∙ sym none) (some_both old.clauses all [] (clause ∷ []) some tt)
some_on all clause old new some (inr one) =
    subst (λ cs. AreSomeOf cs (all ++ clause ∷ [])) (sym one) (some_both old.clauses all (clause ∷ []) (clause ∷ []) some (some_itself (clause ∷ [])))

-- ---- a formula is known

-- what knows nothing knows the formula without a clause
pub posed_none : (variables : ℕ) (known : Known) → KnowsNothing known → known.clauses ≡ [] → known.variables ≡ variables
    → IsPosed (record { variables = variables; clauses = [] }) known
posed_none variables known nothing none same = record {
  models = record { follows = λ a model. nothing a; complete = λ a model. All-nil (λ c. satisfies a c ≡ true) };
  variables = same;
  each = All-nil (λ c. IsKept c known);
  alone = subst (λ cs. AreSomeOf cs []) (sym none) tt;
}

-- a formula is known, and the clause is added by which another one is longer
pub posed_more : (f g : Formula) (clause : Clause) (old new : Known) → f.variables ≡ g.variables → f.clauses ++ clause ∷ [] ≡ g.clauses → IsPosed f old
    → KeepsModelsOf clause old new → IsKept clause new → KnowsStill old new → AddsAtMost clause old new → IsPosed g new
posed_more f g clause old new variables whole posed sound kept still alone =
    let before : KeepsEach f.clauses new = All-weaker (λ c. IsKept c old) (λ c. IsKept c new) (λ c here. kept-on c old new still here) f.clauses posed.each in
    let each : KeepsEach g.clauses new = subst (λ cs. KeepsEach cs new) whole (All-push (λ c. IsKept c new) f.clauses clause before kept) in
    record {
      models = record {
        follows = λ a model.
            let parts = All-pop (λ c. satisfies a c ≡ true) g.clauses f.clauses (Some clause) (sym whole) model in
            sound a (posed.models.follows a parts.0) parts.1;
        complete = λ a model. (models-kept g.clauses old new still each a model).1;
      };
      variables = still.variables ∙ posed.variables ∙ variables;
      each = each;
      alone = subst (AreSomeOf new.clauses) whole (some_on f.clauses clause old new posed.alone alone);
    }

-- the clauses of one more vector
pub clauses_more : {A : Type 0} (vectors : List (Vec Literal A)) (i : ℕ) (v : Vec Literal A) (clause : Clause) → i < length vectors → v ≡ get_or vectors i v → clause ≡ v.items
    → clauses_of (take i vectors) ++ clause ∷ [] ≡ clauses_of (take (i + 1) vectors)
clauses_more {A} vectors i v clause within here is =
    let items : Vec Literal A → Clause = λ w. w.items in
    ap (λ c. clauses_of (take i vectors) ++ c ∷ []) is ∙ sym (map-append items (take i vectors) (v ∷ []))
    ∙ sym (ap (map items) (take_more vectors i v within ∙ ap (λ w. take i vectors ++ w ∷ []) (sym here)))
