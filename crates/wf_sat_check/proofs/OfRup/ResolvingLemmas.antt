-- Laws of the resolvents of a lemma with the clauses of a list, one by one.
use Rattle.std.proofs.Common.{◌≡◌, ℕ, ◌<◌, ◌≤◌, true, false, List, [], ◌∷◌, sym, ◌∙◌, subst, arith, length, get_or, inr}
use Rattle.std.specs.List.{Contains}
use Rattle.std.proofs.lemmas.List.{get_or_default}
use Rattle.wf_sat_check.specs.Rup.Propagation.{Implies}
use Rattle.wf_sat_check.specs.Store.Literals.{has, opposite}
use Rattle.wf_sat_check.specs.Rup.Rat.{ResolvesOn, resolvent_of}
use Rattle.wf_sat_check.specs.Rup.Resolving.{StopsShort, StopsShortOfRat, StopsShortOfResolvent}
use Rattle.wf_sat_check.specs.Rup.Stored.{kept_of}
use Rattle.wf_sat_check.proofs.OfRup.DeletedLemmas.{placed}
use Rattle.wf_sat_check.proofs.OfRup.KeptLemmas.{Contains-kept}
use Rattle.wf_sat_check.proofs.OfRup.StoredLemmas.{some-literal}

-- with each clause before this number that has the literal, the lemma has an implied resolvent
abbrev pub AreResolvedBefore : List (List ℕ) → List ℕ → List ℕ → ℕ → ℕ → Type 0
AreResolvedBefore f trail lemma negation number =
    (k : ℕ) → k < number → has (get_or f k []) negation ≡ true → Implies (kept_of f) trail (resolvent_of lemma negation (get_or f k []))

module _ (f : List (List ℕ)) (trail lemma : List ℕ) (negation number : ℕ) (clause : List ℕ) (within : number < length f) (is : clause ≡ get_or f number clause) where
  here : clause ≡ get_or f number []
  here = is ∙ get_or_default f number clause [] within

  -- the resolvent with this clause doesn't follow
  pub stops-at : (pivot : ℕ) → negation ≡ opposite pivot → has clause negation ≡ true → StopsShort (kept_of f) trail (resolvent_of lemma negation clause)
      → StopsShortOfResolvent (kept_of f) trail lemma pivot
  stops-at pivot e inside short = record {
    clause = clause;
    stored_is = Contains-kept f number clause within is (some-literal clause negation inside);
    inside = subst (λ (l : ℕ). has clause l ≡ true) e inside;
    stops = subst (λ (l : ℕ). StopsShort (kept_of f) trail (resolvent_of lemma l clause)) e short;
  }

each-clause : (f : List (List ℕ)) (trail lemma : List ℕ) (negation number : ℕ) → length f ≤ number → AreResolvedBefore f trail lemma negation number
    → (clause : List ℕ) → Contains (kept_of f) clause → has clause negation ≡ true → Implies (kept_of f) trail (resolvent_of lemma negation clause)
each-clause f trail lemma negation number long all clause there inside =
    let at = placed f clause there in
    let within : at.number < length f = at.kept.within in
    subst (λ c. Implies (kept_of f) trail (resolvent_of lemma negation c)) at.is
    (all at.number (omega (arith, within, long)) (subst (λ c. has c negation ≡ true) (sym at.is) inside))

-- all clauses were looked at
pub resolves-on : (f : List (List ℕ)) (trail lemma : List ℕ) (pivot negation number : ℕ) → negation ≡ opposite pivot → has lemma pivot ≡ true
    → has trail negation ≡ false → length f ≤ number → AreResolvedBefore f trail lemma negation number → ResolvesOn (kept_of f) trail lemma pivot
resolves-on f trail lemma pivot negation number e inside free long all = record {
  inside = inside;
  unfalsified = subst (λ (l : ℕ). has trail l ≡ false) e free;
  each = subst (λ (l : ℕ). (clause : List ℕ) → Contains (kept_of f) clause → has clause l ≡ true → Implies (kept_of f) trail (resolvent_of lemma l clause)) e
      (each-clause f trail lemma negation number long all);
}

-- ---- a lemma that isn't RAT

pub short-resolvent : (clauses : List (List ℕ)) (trail lemma : List ℕ) (pivot : ℕ) → pivot ≡ get_or lemma 0 pivot → 0 < length lemma
    → StopsShortOfResolvent clauses trail lemma pivot → StopsShortOfRat clauses trail lemma
short-resolvent clauses trail [] pivot e some one = absurd (omega (arith, some))
short-resolvent clauses trail (p ∷ ps) pivot e some one = inr (subst (StopsShortOfResolvent clauses trail (p ∷ ps)) e one)
