-- One entry more.
use Rattle.std.proofs.Common.{◌≡◌, ◌≢◌, ℕ, ◌+◌, ◌<◌, ◌≤◌, Bool, true, false, ◌||◌, IsTrue, not, List, [], ◌∷◌, ◌++◌, length, map, take, cond, slice_set, slice_get, slice_index_or, Some, Contains, refl, sym, ap, ap₂, ◌∙◌, subst, subst₂, arith, append-nil, length-append, length-set, get_or-set_same, get_or-set_other, inl, inr, nat_lt, ◌==◌, zero, suc, drop, All, add-one, drop-cons, length-take-le, eqb-true, ne_eqb, ltb-true, ltb-false, lt-ltb}
use Rattle.std.proofs.lemmas.Bool.{eqb-false}
use Rattle.std.specs.List.{position_from}
use Rattle.std.specs.declared.cmp.Ordering.TheVariants.{Less, Equal}
use Rattle.std.specs.Cmp.{tied_itself}
use Rattle.std.specs.List.Sorted.{IsStrictlySortedBy}
use Rattle.std.proofs.lemmas.List.{get_or_default, get_or-map, length-map, take_more, map-append}
use Rattle.std.proofs.lemmas.List.Elements.{filter-append, All-get_or}
use Rattle.std.proofs.lemmas.Map.Keys.{Less-from_sorted}
use Rattle.std.proofs.lemmas.Option.{get_or_from_slice_get, slice_get_within}
use Rattle.wf_model.specs.Simplex.{Simplex, simplex_cmp}
use Rattle.wf_model.specs.Task.{Rule, IsSimplexWithin}
use Rattle.wf_simplex.proofs.Lemmas.{contains-has, Has, has_at_place}
use Rattle.wf_task_parse.specs.declared.shape.DeltaEntry.{DeltaEntry}
use Rattle.wf_task_parse.specs.DraftSeen.{entry_seen}
use Rattle.wf_task.specs.Judge.{is_among}
use Rattle.wf_simplex.specs.Order.{same_simplex, same_simplex-decides, simplex_cmp-total}
use Rattle.wf_task.specs.declared.slots.EntryCount.{EntryCount}
use Rattle.wf_task.specs.declared.slots.EntryCount.TheVariants.{Missing, Once, Twice}
use Rattle.wf_task_parse.specs.Shape.{rule_of}
use Rattle.wf_task.specs.Slots.{with_entry, entries_in, Means, AreOf, is_missing, is_twice}

entries-push : (rules : List Rule) (e : Rule) (s : Simplex) → entries_in (rules ++ (e ∷ [])) s ≡ entries_in rules s ++ entries_in (e ∷ []) s
entries-push rules e s = filter-append (λ rule. same_simplex rule.input s) rules (e ∷ [])

entries-one : (e : Rule) (s : Simplex) → same_simplex e.input s ≡ true → entries_in (e ∷ []) s ≡ e ∷ []
entries-one e s h = rw h refl

entries-none : (e : Rule) (s : Simplex) → same_simplex e.input s ≡ false → entries_in (e ∷ []) s ≡ []
entries-none e s h = rw h refl

at_end : (rules : List Rule) (e d : Rule) → slice_index_or (rules ++ (e ∷ [])) (length rules) d ≡ e
at_end [] e d = refl
at_end (r ∷ rules) e d = at_end rules e d

before_end : (rules : List Rule) (e d : Rule) (k : ℕ) → k < length rules → slice_index_or (rules ++ (e ∷ [])) k d ≡ slice_index_or rules k d
before_end [] e d k h = absurd (let none : ⊥ = omega (arith, h) in none)
before_end (r ∷ rules) e d zero h = refl
before_end (r ∷ rules) e d (suc k) h = before_end rules e d k (omega (arith, h))

-- an entry for the simplex
pub means_more : (slot : EntryCount) (rules : List Rule) (e : Rule) (s : Simplex) → Means slot rules s → same_simplex e.input s ≡ true → Means (with_entry slot (length rules)) (rules ++ (e ∷ [])) s
means_more Missing rules e s h same = (
  omega (arith, length-append rules (e ∷ [])),
  entries-push rules e s ∙ ap (λ es. es ++ entries_in (e ∷ []) s) h ∙ entries-one e s same ∙ ap (λ r. r ∷ []) (sym (at_end rules e (rule_of [] []))),
)
means_more (Once k) rules e s h same =
    omega (arith, ap length (entries-push rules e s), length-append (entries_in rules s) (entries_in (e ∷ []) s), ap length h.1, ap length (entries-one e s same))
means_more Twice rules e s h same =
    omega (arith, h, ap length (entries-push rules e s), length-append (entries_in rules s) (entries_in (e ∷ []) s))

-- an entry for another one
pub means_other : (slot : EntryCount) (rules : List Rule) (e : Rule) (s : Simplex) → Means slot rules s → same_simplex e.input s ≡ false → Means slot (rules ++ (e ∷ [])) s
means_other Missing rules e s h other = entries-push rules e s ∙ ap (λ es. es ++ entries_in (e ∷ []) s) h ∙ entries-none e s other
means_other (Once k) rules e s h other = (
  omega (arith, h.0, length-append rules (e ∷ [])),
  entries-push rules e s ∙ ap (λ es. entries_in rules s ++ es) (entries-none e s other) ∙ append-nil (entries_in rules s) ∙ h.1 ∙ ap (λ r. r ∷ []) (sym (before_end rules e (rule_of [] []) k h.0)),
)
means_other Twice rules e s h other =
    omega (arith, h, ap length (entries-push rules e s), length-append (entries_in rules s) (entries_in (e ∷ []) s))

different : (s t : Simplex) → (s ≡ t → ⊥) → same_simplex s t ≡ false
different s t apart = by (same_simplex s t) refl
  where
    by : (b : Bool) → same_simplex s t ≡ b → b ≡ false
    by true e = absurd (apart ((same_simplex-decides s t).0 e))
    by false e = refl

one_place : (inputs : List Simplex) (i j : ℕ) → IsStrictlySortedBy simplex_cmp inputs → i < length inputs → j < length inputs → slice_index_or inputs i [] ≡ slice_index_or inputs j [] → i ≢ j → ⊥
one_place inputs i j up hi hj same apart = by (nat_lt i j) refl
  where
    clash : (a b : ℕ) → a < b → b < length inputs → slice_index_or inputs a [] ≡ slice_index_or inputs b [] → ⊥
    clash a b below inside is =
        let less = Less-from_sorted simplex_cmp inputs a b [] up below inside in
        let level : simplex_cmp (slice_index_or inputs a []) (slice_index_or inputs b []) ≡ Equal = ap (simplex_cmp (slice_index_or inputs a [])) (sym is) ∙ tied_itself simplex_cmp-total (slice_index_or inputs a []) in
        let e : Less ≡ Equal = sym less ∙ level in cc

    by : (b : Bool) → nat_lt i j ≡ b → ⊥
    by true e = clash i j (ltb-true i j e) hj same
    by false e = let above : j < i = omega (arith, ltb-false i j e, apart) in clash j i above hi (sym same)

-- an entry for the simplex at a place
pub slots-found : (slots : List EntryCount) (rules : List Rule) (inputs : List Simplex) (e : Rule) (j : ℕ) → IsStrictlySortedBy simplex_cmp inputs → AreOf slots rules inputs
    → slice_get inputs j ≡ Some e.input → AreOf (slice_set slots j (with_entry (slice_index_or slots j Missing) (length rules))) (rules ++ (e ∷ [])) inputs
slots-found slots rules inputs e j up h here = record { long = length-set slots j _ ∙ h.long; each = λ i inside. by i inside (i == j) refl }
  where
    at : slice_index_or inputs j [] ≡ e.input
    at = get_or_from_slice_get inputs j e.input [] here

    within : j < length inputs
    within = slice_get_within inputs j e.input here

    by : (i : ℕ) → i < length inputs → (b : Bool) → (i == j) ≡ b → Means (slice_index_or (slice_set slots j (with_entry (slice_index_or slots j Missing) (length rules))) i Missing) (rules ++ (e ∷ [])) (slice_index_or inputs i [])
    by i inside true is =
        let same : i ≡ j = eqb-true i j is in
        let long : j < length slots = omega (arith, within, h.long) in
        subst (λ n. Means (slice_index_or (slice_set slots j (with_entry (slice_index_or slots j Missing) (length rules))) n Missing) (rules ++ (e ∷ [])) (slice_index_or inputs n [])) (sym same)
        (rw (get_or-set_same slots j (with_entry (slice_index_or slots j Missing) (length rules)) Missing long)
        (means_more (slice_index_or slots j Missing) rules e (slice_index_or inputs j []) (h.each j within) ((same_simplex-decides e.input (slice_index_or inputs j [])).1 (sym at))))
    by i inside false is =
        let apart : i ≢ j = eqb-false i j is in
        rw (get_or-set_other slots j i (with_entry (slice_index_or slots j Missing) (length rules)) Missing apart)
        (means_other (slice_index_or slots i Missing) rules e (slice_index_or inputs i []) (h.each i inside)
        (different e.input (slice_index_or inputs i []) (λ is. one_place inputs i j up inside within (sym is ∙ sym at) apart)))

-- an entry for none of them
pub slots-stray : (slots : List EntryCount) (rules : List Rule) (inputs : List Simplex) (e : Rule) → AreOf slots rules inputs → (Contains inputs e.input → ⊥) → AreOf slots (rules ++ (e ∷ [])) inputs
slots-stray slots rules inputs e h none = record {
  long = h.long;
  each = λ i inside. means_other (slice_index_or slots i Missing) rules e (slice_index_or inputs i []) (h.each i inside)
      (different e.input (slice_index_or inputs i []) (λ is. none (i, inside, get_or_default inputs i e.input [] inside ∙ sym is)));
}

-- ---- the first of a kind

pub same_place : {X Y : Type 0} (p : X → Bool) (q : Y → Bool) (d : X) (e : Y) (n : ℕ) (xs : List X) (ys : List Y) → length xs ≡ length ys
    → ((i : ℕ) → i < length xs → p (slice_index_or xs i d) ≡ q (slice_index_or ys i e)) → position_from p n xs ≡ position_from q n ys
same_place p q d e n [] [] h each = refl
same_place p q d e n [] (y ∷ ys) h each = absurd (let none : ⊥ = omega (arith, h) in none)
same_place p q d e n (x ∷ xs) [] h each = absurd (let none : ⊥ = omega (arith, h) in none)
same_place p q d e n (x ∷ xs) (y ∷ ys) h each =
    rw (each 0 (omega arith)) (ap (cond (q y) (Some n)) (same_place p q d e (n + 1) xs ys (omega (arith, h)) (λ i inside. each (suc i) (omega (arith, inside)))))

missing_is : (slot : EntryCount) (rules : List Rule) (s : Simplex) → Means slot rules s → is_missing slot ≡ (length (entries_in rules s) == 0)
missing_is Missing rules s h = sym (ap (λ es. length es == 0) h)
missing_is (Once k) rules s h = sym (ap (λ es. length es == 0) h.1)
missing_is Twice rules s h = sym (ne_eqb (length (entries_in rules s)) 0 (λ e. (let none : ⊥ = omega (arith, e, h) in none)))

twice_is : (slot : EntryCount) (rules : List Rule) (s : Simplex) → Means slot rules s → is_twice slot ≡ nat_lt 1 (length (entries_in rules s))
twice_is Missing rules s h = sym (ap (λ es. nat_lt 1 (length es)) h)
twice_is (Once k) rules s h = sym (ap (λ es. nat_lt 1 (length es)) h.1)
twice_is Twice rules s h = sym (lt-ltb 1 (length (entries_in rules s)) h)

pub first_missing_is : (slots : List EntryCount) (rules : List Rule) (inputs : List Simplex) → AreOf slots rules inputs → position_from is_missing 0 slots ≡ position_from (λ s. length (entries_in rules s) == 0) 0 inputs
first_missing_is slots rules inputs h =
    same_place is_missing (λ s. length (entries_in rules s) == 0) Missing [] 0 slots inputs h.long
    (λ i inside. missing_is (slice_index_or slots i Missing) rules (slice_index_or inputs i []) (h.each i (omega (arith, inside, h.long))))

pub first_twice_is : (slots : List EntryCount) (rules : List Rule) (inputs : List Simplex) → AreOf slots rules inputs → position_from is_twice 0 slots ≡ position_from (λ s. nat_lt 1 (length (entries_in rules s))) 0 inputs
first_twice_is slots rules inputs h =
    same_place is_twice (λ s. nat_lt 1 (length (entries_in rules s))) Missing [] 0 slots inputs h.long
    (λ i inside. twice_is (slice_index_or slots i Missing) rules (slice_index_or inputs i []) (h.each i (omega (arith, inside, h.long))))

-- ---- entries and the complex

pub among-absent : (inputs : List Simplex) (s : Simplex) → (Contains inputs s → ⊥) → is_among inputs s ≡ false
among-absent inputs s none = by inputs (λ h. none (has_at_place s inputs h))
  where
    by : (inputs : List Simplex) → (Has s inputs → ⊥) → is_among inputs s ≡ false
    by [] h = refl
    by (t ∷ ts) h = rw (different s t (λ e. h (inl (sym e)))) (by ts (λ g. h (inr g)))

or_true : (b : Bool) → (b || true) ≡ true
or_true true = refl
or_true false = refl

pub among-there : (inputs : List Simplex) (s : Simplex) → Contains inputs s → is_among inputs s ≡ true
among-there inputs s there = by inputs (contains-has s inputs there)
  where
    by : (inputs : List Simplex) → Has s inputs → is_among inputs s ≡ true
    by [] h = absurd h
    by (t ∷ ts) (inl e) = rw ((same_simplex-decides s t).1 (sym e)) refl
    by (t ∷ ts) (inr h) = rw (by ts h) (or_true (same_simplex s t))

pub entry_within : (delta : List DeltaEntry) (i : ℕ) (e : DeltaEntry) → i < length delta → e ≡ slice_index_or delta i e → All (λ rule. IsSimplexWithin 4 255 rule.input) (map entry_seen delta) → IsSimplexWithin 4 255 (entry_seen e).input
entry_within delta i e inside is all =
    let shorter : i < length (map entry_seen delta) = omega (arith, length-map delta entry_seen) in
    let within = All-get_or (λ rule. IsSimplexWithin 4 255 rule.input) (map entry_seen delta) i (entry_seen e) shorter all in
    subst (λ rule. IsSimplexWithin 4 255 rule.input) (get_or-map entry_seen delta i e (entry_seen e) inside ∙ ap entry_seen (sym is)) within

pub entry_at : (delta : List DeltaEntry) (i : ℕ) (e : DeltaEntry) → i < length delta → e ≡ slice_index_or delta i e → drop i delta ≡ e ∷ drop (i + 1) delta
entry_at delta i e inside is = rw add-one (drop-cons delta i e inside ∙ ap (λ f. f ∷ drop (suc i) delta) (sym is))

pub entries_more : (delta : List DeltaEntry) (i : ℕ) (e : DeltaEntry) → i < length delta → e ≡ slice_index_or delta i e → map entry_seen (take (i + 1) delta) ≡ map entry_seen (take i delta) ++ (entry_seen e ∷ [])
entries_more delta i e inside is =
    ap (map entry_seen) (take_more delta i e inside ∙ ap (λ f. take i delta ++ (f ∷ [])) (sym is)) ∙ map-append entry_seen (take i delta) (e ∷ [])

pub entries_so_far : (delta : List DeltaEntry) (i : ℕ) → i ≤ length delta → length (map entry_seen (take i delta)) ≡ i
entries_so_far delta i h = length-map (take i delta) entry_seen ∙ length-take-le i delta h

-- the first stray entry, seen from its place on
pub stray_here : (inputs : List Simplex) (delta : List DeltaEntry) (i : ℕ) (e : DeltaEntry) → i < length delta → e ≡ slice_index_or delta i e → (Contains inputs (entry_seen e).input → ⊥)
    → Some i ≡ position_from (λ rule. not (is_among inputs rule.input)) i (map entry_seen (drop i delta))
stray_here inputs delta i e inside is none =
    rw (entry_at delta i e inside is) (rw (among-absent inputs (entry_seen e).input none) refl)

pub inner : {X : Type 0} {x y : X} → Some x ≡ Some y → x ≡ y
inner e = cc

-- one turn of the loop, at an entry for the input simplex of number j
pub found_step : (slots new : List EntryCount) (delta : List DeltaEntry) (i : ℕ) (e : DeltaEntry) (inputs : List Simplex) (j : ℕ) (s : Simplex) (old made : EntryCount) → IsStrictlySortedBy simplex_cmp inputs
    → i < length delta → e ≡ slice_index_or delta i e → AreOf slots (map entry_seen (take i delta)) inputs → slice_get inputs j ≡ Some s → s ≡ (entry_seen e).input
    → old ≡ slice_index_or slots j old → made ≡ with_entry old i → new ≡ slice_set slots j made → AreOf new (map entry_seen (take (i + 1) delta)) inputs
found_step slots new delta i e inputs j s old made up inside is h here same old-is made-is new-is =
    let rules = map entry_seen (take i delta) in
    let long : length rules ≡ i = entries_so_far delta i (omega (arith, inside)) in
    let within : j < length slots = omega (arith, slice_get_within inputs j s here, h.long) in
    let was : old ≡ slice_index_or slots j Missing = old-is ∙ get_or_default slots j old Missing within in
    let made-here : made ≡ with_entry (slice_index_or slots j Missing) (length rules) = made-is ∙ ap₂ with_entry was (sym long) in
    let next = slots-found slots rules inputs (entry_seen e) j up h (here ∙ ap Some same) in
    subst₂ (λ ss rs. AreOf ss rs inputs) (ap (slice_set slots j) (sym made-here) ∙ sym new-is) (sym (entries_more delta i e inside is)) next

-- and at an entry for none
pub stray_step : (slots new : List EntryCount) (delta : List DeltaEntry) (i : ℕ) (e : DeltaEntry) (inputs : List Simplex) → i < length delta → e ≡ slice_index_or delta i e
    → AreOf slots (map entry_seen (take i delta)) inputs → (Contains inputs (entry_seen e).input → ⊥) → new ≡ slots → AreOf new (map entry_seen (take (i + 1) delta)) inputs
stray_step slots new delta i e inputs inside is h none new-is =
    subst₂ (λ ss rs. AreOf ss rs inputs) (sym new-is) (sym (entries_more delta i e inside is)) (slots-stray slots (map entry_seen (take i delta)) inputs (entry_seen e) h none)

pub not_both : (b : Bool) → b ≡ false → IsTrue b → ⊥
not_both true e h = cc
not_both false e h = cc
