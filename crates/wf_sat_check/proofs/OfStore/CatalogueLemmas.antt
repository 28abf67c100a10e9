-- Each clause that is kept stands in the index.
use Rattle.std.proofs.Common.{◌≡◌, ℕ, ◌<◌, ◌≤◌, Bool, true, false, List, [], ◌∷◌, ◌++◌, refl, sym, ◌∙◌, ap, subst, arith, length, length-set, get_or, set, take, inl, inr, get_or-set_other, get_or-set_same}
use Rattle.std.specs.Prelude.{if◌then◌else◌}
use Rattle.std.specs.List.{All, Contains}
use Rattle.std.proofs.lemmas.Bool.{cases_eq, cases_lt}
use Rattle.std.proofs.lemmas.List.{get_or_append_left, get_or_push, length_push, take_all}
use Rattle.std.proofs.lemmas.List.Elements.{All-contains}
use Rattle.wf_sat_check.specs.Store.Index.{Finds, FindsStill, FindsStillBut, IsAlikeAt, IsHashOf, IsIndexed, IsKeptAt, IsOther, bucket_of}
use Rattle.wf_sat_check.specs.declared.store.index.HashEntry.{HashEntry}
use Rattle.wf_sat_check.proofs.OfStore.HashLemmas.{same-hash}

abbrev entry_of : ℕ → ℕ → HashEntry
entry_of hash number = record { hash = hash; number = number }

pub indexed-still : (clauses : List (List ℕ)) (old new : List (List HashEntry)) → IsIndexed clauses old → FindsStill old new → IsIndexed clauses new
indexed-still clauses old new h still = λ n kept. record {
  hash = (h n kept).hash;
  hashed = (h n kept).hashed;
  found = still (entry_of (h n kept).hash n) (h n kept).found;
}

pub indexed-pushed : (clauses : List (List ℕ)) (old new : List (List HashEntry)) (c : List ℕ) (hash number : ℕ) → IsIndexed clauses old → FindsStill old new
    → IsHashOf c hash → number ≡ length clauses → Finds new (record { hash = hash; number = number }) → IsIndexed (clauses ++ c ∷ []) new
indexed-pushed clauses old new c hash number h still hashed last found = λ n kept. elim (cases_lt n (length clauses)) [
  | inl within ↦
      let same : get_or (clauses ++ c ∷ []) n [] ≡ get_or clauses n [] = get_or_append_left clauses (c ∷ []) [] n within in
      let was : IsKeptAt clauses n = record { within = within; some = subst (λ xs. 0 < length xs) same kept.some } in
      record {
        hash = (h n was).hash;
        hashed = subst (λ xs. IsHashOf xs (h n was).hash) (sym same) (h n was).hashed;
        found = still (entry_of (h n was).hash n) (h n was).found;
      }
  | inr beyond ↦
      let inside : n < length (clauses ++ c ∷ []) = kept.within in
      let here : length clauses ≡ n = omega (arith, length_push clauses c) in
      let same : get_or (clauses ++ c ∷ []) n [] ≡ c = get_or_push clauses c [] n here in
      record {
        hash = hash;
        hashed = subst (λ xs. IsHashOf xs hash) (sym same) hashed;
        found = subst (λ (m : ℕ). Finds new (entry_of hash m)) (last ∙ here) found;
      }
]

pub indexed-forgotten : (clauses : List (List ℕ)) (old new : List (List HashEntry)) (taken : HashEntry) (number : ℕ) → IsIndexed clauses old
    → FindsStillBut taken old new → taken.number ≡ number → IsIndexed (set clauses number []) new
indexed-forgotten clauses old new taken number h still is = λ n kept.
    let inside : n < length (set clauses number []) = kept.within in
    let within : n < length clauses = omega (arith, length-set clauses number []) in
    elim (cases_eq n number) [
      | inl same ↦
          let none : get_or (set clauses number []) n [] ≡ [] =
          subst (λ (m : ℕ). get_or (set clauses number []) m [] ≡ []) (sym same) (get_or-set_same clauses number [] [] (subst (λ (m : ℕ). m < length clauses) same within)) in
          let empty : length (get_or (set clauses number []) n []) ≡ 0 = ap length none in
          let some : 0 < length (get_or (set clauses number []) n []) = kept.some in
          absurd (omega arith)
      | inr other ↦
          let same : get_or (set clauses number []) n [] ≡ get_or clauses n [] = get_or-set_other clauses number n [] [] other in
          let was : IsKeptAt clauses n = record { within = within; some = subst (λ xs. 0 < length xs) same kept.some } in
          record {
            hash = (h n was).hash;
            hashed = subst (λ xs. IsHashOf xs (h n was).hash) (sym same) (h n was).hashed;
            found = still (entry_of (h n was).hash n) (λ e. other (ap (λ x. x.number) e ∙ is)) (h n was).found;
          }
    ]

-- a clause that is not found is none that is kept
pub none-alike : (clauses : List (List ℕ)) (index : List (List HashEntry)) (entries : List HashEntry) (hash n : ℕ) (clause : List ℕ) → IsIndexed clauses index → entries ≡ bucket_of index hash
    → IsHashOf clause hash → All (IsOther clauses hash clause) entries → IsAlikeAt clauses clause n → ⊥
none-alike clauses index entries hash n clause h is hashed others there =
    let at = h n there.kept in
    let same : at.hash ≡ hash = sym (same-hash clause (get_or clauses n []) hash at.hash there.alike hashed at.hashed) in
    let here : Contains (bucket_of index hash) (entry_of hash n) = subst (λ (k : ℕ). Finds index (entry_of k n)) same at.found in
    All-contains (IsOther clauses hash clause) (bucket_of index hash) (entry_of hash n) (subst (All (IsOther clauses hash clause)) is others) here refl there

-- what holds of a front that is all holds of all
pub all-so_far : {X : Type 0} (P : X → Type 0) (xs : List X) (i : ℕ) → length xs ≤ i → All P (take i xs) → All P xs
all-so_far P xs i long h = subst (All P) (take_all i xs long) h

-- where the clause is stored in the end, and where it is not
pub indexed-either : (clauses after : List (List ℕ)) (old new : List (List HashEntry)) (c : List ℕ) (hash number : ℕ) (b : Bool) → IsIndexed clauses old → FindsStill old new
    → IsHashOf c hash → number ≡ length clauses → Finds new (record { hash = hash; number = number })
    → after ≡ (if b then clauses ++ c ∷ [] else clauses) → IsIndexed after new
indexed-either clauses after old new c hash number true h still hashed last found is =
    subst (λ cs. IsIndexed cs new) (sym is) (indexed-pushed clauses old new c hash number h still hashed last found)
indexed-either clauses after old new c hash number false h still hashed last found is =
    subst (λ cs. IsIndexed cs new) (sym is) (indexed-still clauses old new h still)
