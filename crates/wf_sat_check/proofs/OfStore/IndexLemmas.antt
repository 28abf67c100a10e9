-- Where the entries of the index stand.
use Rattle.std.proofs.Common.{◌≡◌, ℕ, ◌+◌, ◌%◌, ◌<◌, ◌≤◌, zero, suc, List, [], ◌∷◌, ◌++◌, sym, ◌∙◌, ap, subst, arith, length, length-set, map, Vec, get_or, set, inl, inr, get_or-set_other, get_or-set_same}
use Rattle.std.specs.List.{Contains}
use Rattle.std.proofs.lemmas.Bool.{cases_eq, cases_lt}
use Rattle.std.proofs.lemmas.List.{get_or_past, get_or_default, get_or-map, length-map, map-set}
use Rattle.std.proofs.lemmas.List.Elements.{All-contains, Contains-push, Contains-append_left}
use Rattle.std.proofs.lemmas.List.Sorted.{Contains-permutation, IsPermutation-swap_remove}
use Rattle.std.specs.List.{swap_remove}
use Rattle.wf_sat_check.specs.Store.Index.{Finds, FindsEach, FindsStill, FindsStillBut, bucket_of}
use Rattle.wf_sat_check.specs.declared.store.index.HashEntry.{HashEntry}

Contains-nothing : (e : HashEntry) (xs : List HashEntry) → xs ≡ [] → Contains xs e → ⊥
Contains-nothing e xs none h =
    let empty : length xs ≡ 0 = ap length none in
    let within : h.0 < length xs = h.1 in
    omega arith

-- a bucket that is written keeps an entry where what is written has it
pub Finds-set : (buckets : List (List HashEntry)) (at : ℕ) (b : List HashEntry) (e : HashEntry) → (at ≡ e.hash % length buckets → Contains (get_or buckets at []) e → Contains b e)
    → Finds buckets e → Finds (set buckets at b) e
Finds-set buckets at b e keeps found =
    let place = e.hash % length buckets in
    let same_length : length (set buckets at b) ≡ length buckets = length-set buckets at b in
    let here : e.hash % length (set buckets at b) ≡ place = ap (λ n. e.hash % n) same_length in
    subst (λ (n : ℕ). Contains (get_or (set buckets at b) n []) e) (sym here)
    (elim (cases_eq at place) [
      | inl same ↦ elim (cases_lt at (length buckets)) [
        | inl within ↦
            subst (λ (n : ℕ). Contains (get_or (set buckets at b) n []) e) same
            (subst (λ xs. Contains xs e) (sym (get_or-set_same buckets at b [] within))
            (keeps same (subst (λ (n : ℕ). Contains (get_or buckets n []) e) (sym same) found)))
        | inr beyond ↦
            absurd (Contains-nothing e (get_or buckets place []) (get_or_past buckets place [] (omega arith)) found)
      ]
      | inr other ↦ subst (λ xs. Contains xs e) (sym (get_or-set_other buckets at place b [] (λ s. other (sym s)))) found
    ])

pub Finds-put : (buckets : List (List HashEntry)) (at : ℕ) (e : HashEntry) → at ≡ e.hash % length buckets → at < length buckets
    → Finds (set buckets at (get_or buckets at [] ++ e ∷ [])) e
Finds-put buckets at e is within =
    let b = get_or buckets at [] ++ e ∷ [] in
    let here : e.hash % length (set buckets at b) ≡ at = ap (λ n. e.hash % n) (length-set buckets at b) ∙ sym is in
    subst (λ (n : ℕ). Contains (get_or (set buckets at b) n []) e) (sym here)
    (subst (λ xs. Contains xs e) (sym (get_or-set_same buckets at b [] within)) (Contains-push (get_or buckets at []) e))

pub FindsStill-put : (buckets : List (List HashEntry)) (at : ℕ) (e : HashEntry) → FindsStill buckets (set buckets at (get_or buckets at [] ++ e ∷ []))
FindsStill-put buckets at e = λ entry found.
    Finds-set buckets at (get_or buckets at [] ++ e ∷ []) entry (λ is there. Contains-append_left (get_or buckets at []) (e ∷ []) entry there) found

Contains-behind : (x e : HashEntry) (xs : List HashEntry) → (e ≡ x → ⊥) → Contains (x ∷ xs) e → Contains xs e
Contains-behind x e xs other (zero, within, is) = absurd (other (sym is))
Contains-behind x e xs other (suc k, within, is) = let rest : k < length xs = omega arith in (k, rest, is)

pub FindsStill-take : (buckets : List (List HashEntry)) (at place : ℕ) (x entry : HashEntry) → place < length (get_or buckets at []) → x ≡ get_or (get_or buckets at []) place x
    → entry ≡ x → FindsStillBut entry buckets (set buckets at (swap_remove (get_or buckets at []) place x))
FindsStill-take buckets at place x entry within is same = λ e other found.
    let bucket = get_or buckets at [] in
    Finds-set buckets at (swap_remove bucket place x) e
    (λ here there. Contains-behind x e (swap_remove bucket place x) (λ s. other (s ∙ sym same))
    (Contains-permutation bucket (x ∷ swap_remove bucket place x) e (IsPermutation-swap_remove bucket place x within is) there))
    found

-- ---- buckets in vectors

abbrev pub buckets_of : {A : Type 0} → List (Vec HashEntry A) → List (List HashEntry)
buckets_of vs = map (λ v. v.items) vs

pub bucket-read : {A : Type 0} (vs : List (Vec HashEntry A)) (at : ℕ) (v : Vec HashEntry A) → at < length vs → v ≡ get_or vs at v → v.items ≡ get_or (buckets_of vs) at []
bucket-read vs at v within is = ap (λ b. b.items) is ∙ sym (get_or-map (λ b. b.items) vs at v [] within)

pub place-within : {A : Type 0} (vs : List (Vec HashEntry A)) (hash n : ℕ) → n ≡ length vs → 0 < length vs → hash % n < length vs
place-within vs hash n long some = omega arith

place-is : {A : Type 0} (vs : List (Vec HashEntry A)) (hash n : ℕ) → n ≡ length vs → hash % n ≡ hash % length (buckets_of vs)
place-is {A} vs hash n long = ap (λ m. hash % m) (long ∙ sym (length-map vs (λ (b : Vec HashEntry A). b.items)))

pub bucket-here : {A : Type 0} (vs : List (Vec HashEntry A)) (buckets : List (List HashEntry)) (hash n : ℕ) (v : Vec HashEntry A) → buckets_of vs ≡ buckets → n ≡ length vs → 0 < length vs
    → v ≡ get_or vs (hash % n) v → v.items ≡ bucket_of buckets hash
bucket-here vs buckets hash n v view long some is =
    bucket-read vs (hash % n) v (place-within vs hash n long some) is
    ∙ ap (λ (k : ℕ). get_or (buckets_of vs) k []) (place-is vs hash n long) ∙ ap (λ bs. bucket_of bs hash) view

pub found-put : {A : Type 0} (vs : List (Vec HashEntry A)) (n : ℕ) (e : HashEntry) (v new : Vec HashEntry A) → n ≡ length vs → 0 < length vs
    → v ≡ get_or vs (e.hash % n) v → new.items ≡ v.items ++ e ∷ [] → Finds (buckets_of (set vs (e.hash % n) new)) e
found-put {A} vs n e v new long some is pushed =
    let at = e.hash % n in
    let within : at < length vs = place-within vs e.hash n long some in
    let within2 : at < length (buckets_of vs) = omega (arith, length-map vs (λ (b : Vec HashEntry A). b.items)) in
    let filled : new.items ≡ get_or (buckets_of vs) at [] ++ e ∷ [] = pushed ∙ ap (λ xs. xs ++ e ∷ []) (bucket-read vs at v within is) in
    subst (λ bs. Finds bs e) (sym (map-set (λ b. b.items) vs at new ∙ ap (set (buckets_of vs) at) filled))
    (Finds-put (buckets_of vs) at e (place-is vs e.hash n long) within2)

pub still-put : {A : Type 0} (vs : List (Vec HashEntry A)) (buckets : List (List HashEntry)) (n : ℕ) (e : HashEntry) (v new : Vec HashEntry A) → buckets_of vs ≡ buckets → n ≡ length vs → 0 < length vs
    → v ≡ get_or vs (e.hash % n) v → new.items ≡ v.items ++ e ∷ [] → FindsStill buckets (buckets_of (set vs (e.hash % n) new))
still-put vs buckets n e v new view long some is pushed =
    let at = e.hash % n in
    let within : at < length vs = place-within vs e.hash n long some in
    let filled : new.items ≡ get_or (buckets_of vs) at [] ++ e ∷ [] = pushed ∙ ap (λ xs. xs ++ e ∷ []) (bucket-read vs at v within is) in
    subst (λ bs. FindsStill bs (buckets_of (set vs at new))) view
    (subst (FindsStill (buckets_of vs)) (sym (map-set (λ b. b.items) vs at new ∙ ap (set (buckets_of vs) at) filled))
    (FindsStill-put (buckets_of vs) at e))

-- a bucket that is written as it was
pub still-same : {A : Type 0} (vs : List (Vec HashEntry A)) (buckets : List (List HashEntry)) (at : ℕ) (v new : Vec HashEntry A) → buckets_of vs ≡ buckets
    → at < length vs → v ≡ get_or vs at v → new.items ≡ v.items → FindsStill buckets (buckets_of (set vs at new))
still-same vs buckets at v new view within is same =
    subst (λ bs. FindsStill bs (buckets_of (set vs at new))) view
    (subst (FindsStill (buckets_of vs)) (sym (map-set (λ b. b.items) vs at new)) (λ e found.
    Finds-set (buckets_of vs) at new.items e (λ here there. subst (λ xs. Contains xs e) (sym (same ∙ bucket-read vs at v within is)) there) found))

pub still-taken : {A : Type 0} (vs : List (Vec HashEntry A)) (buckets : List (List HashEntry)) (hash n place : ℕ) (v new : Vec HashEntry A) (x entry : HashEntry) → buckets_of vs ≡ buckets → n ≡ length vs → 0 < length vs
    → v ≡ get_or vs (hash % n) v → place < length (bucket_of buckets hash) → x ≡ get_or v.items place x → new.items ≡ swap_remove v.items place x
    → entry ≡ get_or (bucket_of buckets hash) place entry → FindsStillBut entry buckets (buckets_of (set vs (hash % n) new))
still-taken vs buckets hash n place v new x entry view long some is inside read taken this =
    let at = hash % n in
    let within : at < length vs = place-within vs hash n long some in
    let bucket : v.items ≡ bucket_of buckets hash = bucket-here vs buckets hash n v view long some is in
    let old : v.items ≡ get_or (buckets_of vs) at [] = bucket-read vs at v within is in
    let same : entry ≡ x = this ∙ ap (λ xs. get_or xs place entry) (sym bucket)
    ∙ get_or_default v.items place entry x (subst (λ xs. place < length xs) (sym bucket) inside) ∙ sym read in
    subst (λ bs. FindsStillBut entry bs (buckets_of (set vs at new))) view
    (subst (FindsStillBut entry (buckets_of vs)) (sym (map-set (λ b. b.items) vs at new
    ∙ ap (set (buckets_of vs) at) (taken ∙ ap (λ xs. swap_remove xs place x) old)))
    (FindsStill-take (buckets_of vs) at place x entry (subst (λ xs. place < length xs) (sym bucket ∙ old) inside)
    (read ∙ ap (λ xs. get_or xs place x) old) same))

-- ---- more entries

pub each-still : (old new : List (List HashEntry)) (entries : List HashEntry) → FindsStill old new → FindsEach old entries → FindsEach new entries
each-still old new entries still all = λ k d here. still (get_or entries k d) (all k d here)

-- each entry of the first buckets stands in the index
abbrev pub HasFirst : List (List HashEntry) → List (List HashEntry) → ℕ → Type 0
HasFirst larger buckets count = (k : ℕ) → k < count → FindsEach larger (get_or buckets k [])

pub first-more : {A : Type 0} (vs : List (Vec HashEntry A)) (old new : List (List HashEntry)) (i : ℕ) (v : Vec HashEntry A) (entries : List HashEntry) → i < length vs → v ≡ get_or vs i v
    → entries ≡ v.items → FindsStill old new → FindsEach new entries → HasFirst old (buckets_of vs) i → HasFirst new (buckets_of vs) (i + 1)
first-more vs old new i v entries within is read still here before = λ k below. elim (cases_lt k i) [
  | inl less ↦ each-still old new (get_or (buckets_of vs) k []) still (before k less)
  | inr more ↦
      let same : i ≡ k = omega arith in
      subst (λ (m : ℕ). FindsEach new (get_or (buckets_of vs) m [])) same (subst (FindsEach new) (read ∙ bucket-read vs i v within is) here)
]

pub first-all : {A : Type 0} (vs : List (Vec HashEntry A)) (buckets larger : List (List HashEntry)) (count : ℕ) → buckets_of vs ≡ buckets → length vs ≤ count
    → HasFirst larger (buckets_of vs) count → FindsStill buckets larger
first-all {A} vs buckets larger count view long all = subst (λ bs. FindsStill bs larger) view (λ e found.
    let place = e.hash % length (buckets_of vs) in
    elim (cases_lt place (length (buckets_of vs))) [
      | inl within ↦
          let below : place < count = omega (arith, length-map vs (λ (b : Vec HashEntry A). b.items)) in
          All-contains (Finds larger) (get_or (buckets_of vs) place []) e (all place below) found
      | inr beyond ↦ absurd (Contains-nothing e (get_or (buckets_of vs) place []) (get_or_past (buckets_of vs) place [] (omega arith)) found)
    ])
