-- Laws of deletions.
use Rattle.std.proofs.Common.{◌≡◌, ℕ, ◌<◌, zero, suc, Bool, true, List, [], ◌∷◌, ◌++◌, refl, sym, ◌∙◌, ap, subst, arith, length, get_or, map, set, inl, inr}
use Rattle.std.specs.Prelude.{◌==◌}
use Rattle.std.specs.List.{All, Contains}
use Rattle.std.proofs.lemmas.List.{get_or_default, get_or-map, length-map, map-append}
use Rattle.std.proofs.lemmas.List.Elements.{All-contains}
use Rattle.std.proofs.lemmas.List.Folds.{list_any_at}
use Rattle.wf_sat_text.specs.Clauses.Formula.{Clause, Literal}
use Rattle.wf_sat_text.specs.Drat.Codes.{code_of, code_of-literal_of, literal_of}
use Rattle.wf_sat_check.specs.Store.Alike.{AreAlike, IsAmong}
use Rattle.wf_sat_check.specs.Rup.Deleted.{Deletes, DeletesStored, HasAlike, HasAlikeStored, HaveSameLiterals, IsStoredWithout, IsWithout}
use Rattle.wf_sat_check.specs.Store.Index.{IsAlikeAt, IsKeptAt, IsTaken}
use Rattle.wf_sat_check.specs.Rup.Seen.{Known, known_of}
use Rattle.wf_sat_check.specs.Rup.Stored.{Stored, kept_of}
use Rattle.wf_sat_check.specs.Store.Literals.{has}
use Rattle.wf_sat_check.proofs.OfRup.LiteralLemmas.{literal_of-code_of}
use Rattle.wf_sat_check.proofs.OfStore.Lemmas.{same_test}
use Rattle.wf_sat_check.proofs.OfRup.UnitLemmas.{Contains-image, Contains-of_image, image-at}

-- ---- one clause less

record IsSplit (c : List ℕ) (old new : List (List ℕ)) : Type 0 where
  pub front : List (List ℕ)
  pub back : List (List ℕ)
  pub before : old ≡ front ++ c ∷ back
  pub after : new ≡ front ++ back

kept_of-less : (f : List (List ℕ)) (i : ℕ) (c : List ℕ) → i < length f → c ≡ get_or f i [] → 0 < length c → IsSplit c (kept_of f) (kept_of (set f i []))
kept_of-less [] i c within e some = absurd (omega arith)
kept_of-less ([] ∷ f) zero c within e some = let none : length c ≡ 0 = ap length e in absurd (omega arith)
kept_of-less ([] ∷ f) (suc i) c within e some = let rest : i < length f = omega arith in kept_of-less f i c rest e some
kept_of-less ((x ∷ xs) ∷ f) zero c within e some =
    record { front = []; back = kept_of f; before = ap (λ y. y ∷ kept_of f) (sym e); after = refl }
kept_of-less ((x ∷ xs) ∷ f) (suc i) c within e some =
    let rest : i < length f = omega arith in
    let split : IsSplit c (kept_of f) (kept_of (set f i [])) = kept_of-less f i c rest e some in
    record {
      front = (x ∷ xs) ∷ split.front;
      back = split.back;
      before = ap (λ cs. (x ∷ xs) ∷ cs) split.before;
      after = ap (λ cs. (x ∷ xs) ∷ cs) split.after;
    }

abbrev view : List ℕ → List (List ℕ) → Bool → Stored
view literals f refuted = record { literals = literals; clauses = kept_of f; is_refuted = refuted }

pub deletes-taken : (old : Stored) (t : List ℕ) (f g : List (List ℕ)) (r : Bool) (clause : List ℕ) → record { literals = t; clauses = kept_of f; is_refuted = r } ≡ old
    → IsTaken clause f g → IsStoredWithout clause old (record { literals = t; clauses = kept_of g; is_refuted = r })
deletes-taken old t f g r clause e taken =
    let n = taken.number in
    let kept = taken.alike.kept in
    let split : IsSplit (get_or f n []) (kept_of f) (kept_of (set f n [])) = kept_of-less f n (get_or f n []) kept.within refl kept.some in
    subst (λ o. IsStoredWithout clause o (view t g r)) e
    (subst (λ h. IsStoredWithout clause (view t f r) (view t h r)) (sym taken.is) (record {
      front = split.front;
      deleted = get_or f n [];
      back = split.back;
      same = taken.alike.alike;
      before = split.before;
      after = split.after;
      literals = refl;
      is_refuted = refl;
    }))

-- a clause that is kept stands somewhere
pub record IsPlaced (f : List (List ℕ)) (c : List ℕ) : Type 0 where
  pub number : ℕ
  pub kept : IsKeptAt f number
  pub is : get_or f number [] ≡ c

placed-later : (f : List (List ℕ)) (x c : List ℕ) → IsPlaced f c → IsPlaced (x ∷ f) c
placed-later f x c placed =
    let before : placed.number < length f = placed.kept.within in
    let within : suc placed.number < length (x ∷ f) = omega arith in
    record { number = suc placed.number; kept = record { within = within; some = placed.kept.some }; is = placed.is }

pub placed : (f : List (List ℕ)) (c : List ℕ) → Contains (kept_of f) c → IsPlaced f c
placed [] c (k, within, is) = absurd (omega arith)
placed ([] ∷ f) c there = placed-later f [] c (placed f c there)
placed ((x ∷ xs) ∷ f) c (zero, within, is) =
    let first : 0 < length ((x ∷ xs) ∷ f) = omega arith in
    let some : 0 < length (x ∷ xs) = omega arith in
    record { number = 0; kept = record { within = first; some = some }; is = is }
placed ((x ∷ xs) ∷ f) c (suc k, within, is) = let rest : k < length (kept_of f) = omega arith in placed-later f (x ∷ xs) c (placed f c (k, rest, is))

pub none-stored : (old : Stored) (t : List ℕ) (f : List (List ℕ)) (r : Bool) (clause : List ℕ) → record { literals = t; clauses = kept_of f; is_refuted = r } ≡ old
    → ((n : ℕ) → IsAlikeAt f clause n → ⊥) → HasAlikeStored clause old → ⊥
none-stored old t f r clause e none has =
    let there : Contains (kept_of f) has.other = subst (λ (o : Stored). Contains o.clauses has.other) (sym e) has.stored_is in
    let place : IsPlaced f has.other = placed f has.other there in
    none place.number (record { kept = place.kept; alike = subst (AreAlike clause) (sym place.is) has.same })

-- ---- the same of what is known

among-images : (xs ys : List ℕ) → IsAmong xs ys → All (Contains (map literal_of xs)) (map literal_of ys)
among-images xs ys all = λ k d here.
    let one = image-at literal_of ys (get_or (map literal_of ys) k d) k here (get_or_default (map literal_of ys) k (get_or (map literal_of ys) k d) d here) in
    subst (Contains (map literal_of xs)) one.2 (Contains-image literal_of xs one.0 (All-contains (λ l. has xs l ≡ true) ys one.0 all one.1))

pub back-again : (clause : List Literal) → map literal_of (map code_of clause) ≡ clause
back-again [] = refl
back-again (l ∷ ls) = ap (λ m. m ∷ map literal_of (map code_of ls)) (literal_of-code_of l) ∙ ap (λ ms. l ∷ ms) (back-again ls)

alike-images : (codes deleted : List ℕ) (clause : Clause) → codes ≡ map code_of clause → AreAlike codes deleted → HaveSameLiterals clause (map literal_of deleted)
alike-images codes deleted clause e alike =
    subst (λ c. HaveSameLiterals c (map literal_of deleted)) (ap (map literal_of) e ∙ back-again clause)
    (among-images codes deleted alike.0, among-images deleted codes alike.1)

known-less : (v : ℕ) (old new : Stored) (clause : Clause) (codes : List ℕ) → codes ≡ map code_of clause → IsStoredWithout codes old new → IsWithout clause (known_of v old) (known_of v new)
known-less v old new clause codes e less =
    let all : List (List ℕ) → List Clause = map (map literal_of) in
    record {
      front = all less.front;
      deleted = map literal_of less.deleted;
      back = all less.back;
      same = alike-images codes less.deleted clause e less.same;
      before = ap all less.before ∙ map-append (map literal_of) less.front (less.deleted ∷ less.back);
      after = ap all less.after ∙ map-append (map literal_of) less.front less.back;
      literals = ap (map literal_of) less.literals;
      is_refuted = less.is_refuted;
      variables = refl;
    }

known-either : (v : ℕ) (old new : Stored) (clause : Clause) (codes : List ℕ) → codes ≡ map code_of clause → DeletesStored codes old new → Deletes clause (known_of v old) (known_of v new)
known-either v old new clause codes e (inl same) = inl (ap (known_of v) same)
known-either v old new clause codes e (inr less) = inr (known-less v old new clause codes e less)

pub deletes-known : (v : ℕ) (old new : Stored) (known : Known) (clause : Clause) (codes : List ℕ) → known_of v old ≡ known → codes ≡ map code_of clause
    → DeletesStored codes old new → Deletes clause known (known_of v new)
deletes-known v old new known clause codes same e less = subst (λ k. Deletes clause k (known_of v new)) same (known-either v old new clause codes e less)

-- ---- the same of a clause that is known to be there

pub has-contained : (xs : List ℕ) (x : ℕ) → Contains xs x → has xs x ≡ true
has-contained xs x (k, within, is) = list_any_at (λ z. z == x) xs k x within (same_test (get_or xs k x) x is)

same-codes : (x y : ℕ) → literal_of x ≡ literal_of y → x ≡ y
same-codes x y e = sym (code_of-literal_of x) ∙ ap code_of e ∙ code_of-literal_of y

among-codes : (xs ys : List ℕ) → All (Contains (map literal_of xs)) (map literal_of ys) → IsAmong xs ys
among-codes xs ys all = λ k d here.
    let y = get_or ys k d in
    let inside : k < length (map literal_of ys) = omega (arith, length-map ys literal_of) in
    let there : Contains (map literal_of xs) (literal_of y) =
    subst (Contains (map literal_of xs)) (get_or-map literal_of ys k d (literal_of d) here) (all k (literal_of d) inside) in
    let one = Contains-of_image literal_of xs (literal_of y) there in
    ap (has xs) (sym (same-codes one.0 y one.2)) ∙ has-contained xs one.0 one.1

alike-codes : (codes other : List ℕ) (clause : Clause) → codes ≡ map code_of clause → HaveSameLiterals clause (map literal_of other) → AreAlike codes other
alike-codes codes other clause e same =
    let here : HaveSameLiterals (map literal_of codes) (map literal_of other) =
    subst (λ c. HaveSameLiterals c (map literal_of other)) (sym (ap (map literal_of) e ∙ back-again clause)) same in
    (among-codes codes other here.0, among-codes other codes here.1)

pub stored-alike : (v : ℕ) (old : Stored) (known : Known) (clause : Clause) (codes : List ℕ) → known_of v old ≡ known → codes ≡ map code_of clause
    → HasAlike clause known → HasAlikeStored codes old
stored-alike v old known clause codes same e has =
    let there : Contains (map (map literal_of) old.clauses) has.other = subst (λ (k : Known). Contains k.clauses has.other) (sym same) has.known_is in
    let one = Contains-of_image (map literal_of) old.clauses has.other there in
    record { other = one.0; stored_is = one.1; same = alike-codes codes one.0 clause e (subst (HaveSameLiterals clause) (sym one.2) has.same) }

pub without-known : (v : ℕ) (old new : Stored) (known : Known) (clause : Clause) (codes : List ℕ) → known_of v old ≡ known → codes ≡ map code_of clause
    → IsStoredWithout codes old new → IsWithout clause known (known_of v new)
without-known v old new known clause codes same e less = subst (λ k. IsWithout clause k (known_of v new)) same (known-less v old new clause codes e less)
