-- What is stored stays, and what that says of what is known.
use Rattle.std.proofs.Common.{◌≡◌, ℕ, ◌<◌, Bool, true, List, [], ◌∷◌, ◌++◌, refl, sym, ◌∙◌, ap, subst, arith, length, take, get_or, map, inl, inr}
use Rattle.std.specs.List.{All, Contains}
use Rattle.std.proofs.Math.Seq.{take-append_seam, take-length}
use Rattle.std.proofs.lemmas.Bool.{cases_Bool, false≢true}
use Rattle.std.proofs.lemmas.List.{get_or-take, length-take, map-append}
use Rattle.std.proofs.lemmas.List.Elements.{All-contains, All-take, All-weaker, Contains-push}
use Rattle.std.proofs.lemmas.List.Folds.{list_any_at}
use Rattle.wf_sat_text.specs.Clauses.Formula.{Assignment, Clause, Literal, SatisfiesAll, holds, satisfies}
use Rattle.wf_sat_text.specs.Drat.Codes.{code_of, literal_of}
use Rattle.wf_sat_check.specs.Rup.Kept.{AddsAtMost, IsKept, IsStored, KnowsStill, StoresAtMost, StoresStill}
use Rattle.wf_sat_check.specs.Store.Literals.{has, with_literal}
use Rattle.wf_sat_check.specs.Rup.Seen.{IsModelOf, Known, known_of}
use Rattle.wf_sat_check.specs.Rup.Stored.{Stored, kept_of}
use Rattle.wf_sat_check.proofs.OfRup.DeletedLemmas.{back-again}
use Rattle.wf_sat_check.proofs.OfRup.KeptLemmas.{kept_of-pushed}
use Rattle.wf_sat_check.proofs.OfStore.Lemmas.{has-front, has-with_same}
use Rattle.wf_sat_check.proofs.OfRup.UnitLemmas.{Contains-image, Contains-map}

-- a literal that was put on a trail is on all that extend it
pub has-put : (old put new : List ℕ) (l : ℕ) → put ≡ with_literal old l → take (length put) new ≡ put → has new l ≡ true
has-put old put new l is front = has-front put new l front (ap (λ xs. has xs l) is ∙ has-with_same old l)

-- a clause with a literal has some
pub some-literal : (clause : List ℕ) (l : ℕ) → has clause l ≡ true → 0 < length clause
some-literal [] l h = absurd (false≢true h)
some-literal (x ∷ xs) l h = omega arith

pub kept-pushed : (old new : List (List ℕ)) (clause : List ℕ) (l : ℕ) → has clause l ≡ true → new ≡ old ++ clause ∷ [] → Contains (kept_of new) clause
kept-pushed old new clause l there is =
    subst (λ cs. Contains cs clause) (sym (ap kept_of is ∙ kept_of-pushed old clause (some-literal clause l there))) (Contains-push (kept_of old) clause)

pub kept-still : (old new : List (List ℕ)) (clause : List ℕ) (l : ℕ) → has clause l ≡ true → new ≡ old ++ clause ∷ [] → take (length (kept_of old)) (kept_of new) ≡ kept_of old
kept-still old new clause l there is =
    ap (take (length (kept_of old))) (ap kept_of is ∙ kept_of-pushed old clause (some-literal clause l there))
    ∙ take-append_seam (kept_of old) (clause ∷ [])

pub stores-pushed : (literals : List ℕ) (before after : List (List ℕ)) (refuted : Bool) (clause : List ℕ) (l : ℕ) (old : Stored)
    → record { literals = literals; clauses = kept_of before; is_refuted = refuted } ≡ old → has clause l ≡ true → after ≡ before ++ clause ∷ []
    → StoresStill old (record { literals = literals; clauses = kept_of after; is_refuted = refuted })
stores-pushed literals before after refuted clause l old is there same =
    subst (λ s. StoresStill s (record { literals = literals; clauses = kept_of after; is_refuted = refuted })) is
    (record { literals = take-length literals; clauses = kept-still before after clause l there same; refuted = λ was. was })

-- of clauses, the one that is stored is the only one more
pub stores-one : (literals : List ℕ) (before after : List (List ℕ)) (refuted : Bool) (clause : List ℕ) (l : ℕ) (old : Stored)
    → record { literals = literals; clauses = kept_of before; is_refuted = refuted } ≡ old → has clause l ≡ true → after ≡ before ++ clause ∷ []
    → kept_of after ≡ old.clauses ++ clause ∷ []
stores-one literals before after refuted clause l old is there same =
    ap kept_of same ∙ kept_of-pushed before clause (some-literal clause l there) ∙ ap (λ (s : Stored). s.clauses ++ clause ∷ []) is

-- ---- what is known

front-map : {A B : Type 0} (f : A → B) (old new : List A) → take (length old) new ≡ old → take (length (map f old)) (map f new) ≡ map f old
front-map {A} {B} f [] new h = refl
front-map {A} {B} f (x ∷ xs) [] h = absurd (let bad : ⊥ = cc in bad)
front-map {A} {B} f (x ∷ xs) (y ∷ ys) h =
    let first : y ≡ x = cc in
    let rest : take (length xs) ys ≡ xs = cc in
    ap (λ z. f z ∷ take (length (map f xs)) (map f ys)) first ∙ ap (λ zs. f x ∷ zs) (front-map f xs ys rest)

pub knows-still : (v : ℕ) (old new : Stored) (known : Known) → known_of v old ≡ known → StoresStill old new → KnowsStill known (known_of v new)
knows-still v old new known is h =
    subst (λ k. KnowsStill k (known_of v new)) is
    (record { variables = refl; literals = front-map literal_of old.literals new.literals h.literals; clauses = front-map (map literal_of) old.clauses new.clauses h.clauses; refuted = h.refuted })

alone-known : (v : ℕ) (old new : Stored) (known : Known) (clause : Clause) (codes : List ℕ) → known_of v old ≡ known → map literal_of codes ≡ clause
    → StoresAtMost codes old new → AddsAtMost clause known (known_of v new)
alone-known v old new known clause codes is coded (inl none) = inl (ap (map (map literal_of)) none ∙ ap (λ (k : Known). k.clauses) is)
alone-known v old new known clause codes is coded (inr one) =
    inr (ap (map (map literal_of)) one ∙ map-append (map literal_of) old.clauses (codes ∷ [])
    ∙ ap (λ c. map (map literal_of) old.clauses ++ c ∷ []) coded ∙ ap (λ (k : Known). k.clauses ++ clause ∷ []) is)

pub knows-alone : (v : ℕ) (old new : Stored) (known : Known) (clause : Clause) (codes : List ℕ) → known_of v old ≡ known → codes ≡ map code_of clause
    → StoresAtMost codes old new → AddsAtMost clause known (known_of v new)
knows-alone v old new known clause codes is same stored = alone-known v old new known clause codes is (ap (map literal_of) same ∙ back-again clause) stored

kept-codes : (v : ℕ) (new : Stored) (clause : Clause) (codes : List ℕ) → map literal_of codes ≡ clause → IsStored codes new → IsKept clause (known_of v new)
kept-codes v new clause codes is (inl refuted) = inl refuted
kept-codes v new clause codes is (inr (inl there)) =
    inr (inl (subst (Contains (known_of v new).clauses) is (Contains-map (map literal_of) new.clauses codes there)))
kept-codes v new clause codes is (inr (inr (l, inside, holds))) =
    inr (inr (literal_of l, subst (λ c. Contains c (literal_of l)) is (Contains-image literal_of codes l inside), Contains-image literal_of new.literals l holds))

pub is-kept : (v : ℕ) (new : Stored) (clause : Clause) (codes : List ℕ) → codes ≡ map code_of clause → IsStored codes new → IsKept clause (known_of v new)
is-kept v new clause codes is stored = kept-codes v new clause codes (ap (map literal_of) is ∙ back-again clause) stored

-- ---- the models of what is known

satisfied-by : (a : Assignment) (clause : Clause) (l : Literal) → Contains clause l → holds a l ≡ true → satisfies a clause ≡ true
satisfied-by a clause l there h = list_any_at (holds a) clause there.0 l there.1 (ap (holds a) there.2 ∙ h)

satisfied-kept : (a : Assignment) (clause : Clause) (known : Known) → IsModelOf a known → IsKept clause known → satisfies a clause ≡ true
satisfied-kept a clause known model (inl refuted) = absurd (false≢true (sym model.unrefuted ∙ refuted))
satisfied-kept a clause known model (inr (inl there)) = All-contains (λ c. satisfies a c ≡ true) known.clauses clause model.clauses there
satisfied-kept a clause known model (inr (inr (l, inside, there))) =
    satisfied-by a clause l inside (All-contains (λ x. holds a x ≡ true) known.literals l model.literals there)

all-front : {X : Type 0} (P : X → Type 0) (old new : List X) → take (length old) new ≡ old → All P new → All P old
all-front P old new front all = subst (All P) front (All-take P (length old) new all)

model-before : (a : Assignment) (old new : Known) → KnowsStill old new → IsModelOf a new → IsModelOf a old
model-before a old new still model = record {
  literals = all-front (λ x. holds a x ≡ true) old.literals new.literals still.literals model.literals;
  clauses = all-front (λ c. satisfies a c ≡ true) old.clauses new.clauses still.clauses model.clauses;
  unrefuted = elim (cases_Bool old.is_refuted) [ inl was ↦ absurd (false≢true (sym model.unrefuted ∙ still.refuted was)) | inr never ↦ never ];
}

-- ---- what stays known

contains-front : {X : Type 0} (old new : List X) (x : X) → take (length old) new ≡ old → Contains old x → Contains new x
contains-front old new x front (k, within, is) =
    let long : length (take (length old) new) ≡ length old = ap length front in
    let inside : k < length new = omega (arith, within, long, length-take (length old) new) in
    (k, inside, sym (get_or-take (length old) new k x within) ∙ ap (λ xs. get_or xs k x) front ∙ is)

pub still-same : (known : Known) → KnowsStill known known
still-same known = record { variables = refl; literals = take-length known.literals; clauses = take-length known.clauses; refuted = λ was. was }

-- what is kept stays so where nothing is lost
pub kept-on : (clause : Clause) (old new : Known) → KnowsStill old new → IsKept clause old → IsKept clause new
kept-on clause old new still (inl refuted) = inl (still.refuted refuted)
kept-on clause old new still (inr (inl there)) = inr (inl (contains-front old.clauses new.clauses clause still.clauses there))
kept-on clause old new still (inr (inr (l, inside, there))) = inr (inr (l, inside, contains-front old.literals new.literals l still.literals there))

-- where nothing is lost each model is one of what was known, and where
-- clauses are kept it satisfies them
pub models-kept : (clauses : List Clause) (old new : Known) → KnowsStill old new → All (λ clause. IsKept clause new) clauses → (a : Assignment) → IsModelOf a new
    → IsModelOf a old × SatisfiesAll a clauses
models-kept clauses old new still kept a model =
    (model-before a old new still model, All-weaker (λ c. IsKept c new) (λ c. satisfies a c ≡ true) (λ c here. satisfied-kept a c new model here) clauses kept)
