-- What a canonical text lists is judged without a fault, and is the task.
use Rattle.std.proofs.Common.{◌≡◌, ℕ, ◌+◌, ◌*◌, ◌^◌, ◌<◌, ◌≤◌, ◌==◌, ◌&&◌, ◌||◌, Bool, true, false, not, nat_lt, Contains, List, [], ◌∷◌, length, map, flat_map, zip, All, sum_by, count_by, Option, None, Some, Result, Ok, cond, refl, sym, ap, ◌∙◌, subst, inl, inr, arith, lt-ltb, le-leb, eq-eqb, append-nil}
use Rattle.std.specs.List.{AllByRecursion, list_any, list_all, position_from}
use Rattle.std.specs.List.Sorted.{IsStrictlySortedBy}
use Rattle.std.specs.declared.cmp.Ordering.TheVariants.{Less, Equal}
use Rattle.std.specs.Ordering.{nat_cmp}
use Rattle.std.specs.Str.{IsUtf8}
use Rattle.std.specs.Cmp.{tied_itself}
use Rattle.std.specs.Cmp.Lexicographic.{slice_cmp}
use Rattle.std.proofs.lemmas.Bool.{and_parts, and_from, le-ltb}
use Rattle.std.proofs.lemmas.List.{length-map}
use Rattle.serde_json.specs.Data.{Data, depth}
use Rattle.serde_json.specs.Read.{read, max_depth}
use Rattle.serde_json.specs.Written.{compact_text, has_float}
use Rattle.wf_task.proofs.Written.{task_has_no_float}
use Rattle.serde_json.specs.View.{items_of}
use Rattle.wf_model.specs.Lists.{in_order}
use Rattle.wf_model.specs.Simplex.{Simplex, Vertex, processes_of, values_of, is_nonempty, is_ascending, simplex_cmp, complex_of}
use Rattle.wf_model.specs.Task.{Task, Rule, Tuple, IsRule, IsSimplexWithin, IsComplexWithin, IsFirstBlock, largest_value, inputs}
use Rattle.wf_model.proofs.Lemmas.{length_filter, inputs_within, outputs_within, inputs_are, suc_not_zero, values_of_zip}
use Rattle.wf_simplex.specs.Faces.{IsComplex}
use Rattle.wf_simplex.specs.Order.{same_simplex, same_simplex-decides, simplex_cmp-total}
use Rattle.wf_simplex.proofs.Lemmas.{Has, has-filter, complex_of-sorted, has_of_all, all_of_has, length-within, contains-has, map-has, has-map}
use Rattle.wf_task_parse.specs.declared.fault.TaskFault.{TaskFault}
use Rattle.wf_task_parse.specs.Shape.{each, whole_of, pair_of, simplex_of, tuples_of, rule_of, entry_of, list_of}
use Rattle.wf_task_parse.specs.RawTask.{Listed, ◌>>=◌, draft_of}
use Rattle.wf_task.specs.Slots.{entries_in}
use Rattle.wf_task.specs.Judge.{is_first_block, is_large, has_large, rule_has_large, some_large, names_processes, all_processes_named, is_among, tuples_for, wrong_length, no_output, first_answer, numbers_judged, sizes_judged, entries_judged, tuples_judged, rule_for, drafted, judged, task_of_json, task_of_text}
use Rattle.wf_task.specs.declared.task.TheConstants.{MAX_TEXT_BYTES}
use Rattle.wf_task_parse.proofs.Lemmas.{json_of-some}
use Rattle.wf_task.specs.Canonical.{is_inner, facets, IsListable, version_of, listed_of, number_data, list_data, vertex_data, simplex_data, tuple_data, rule_data, task_data}
use Rattle.wf_task.proofs.Judged.{limit-few}
use Rattle.wf_task.proofs.DraftsWithoutFault.{within_more}
use Rattle.wf_task.proofs.Lengths.{HasShortParts, simplex-long, tuple-long as tuple-short, rule-long, task-long, task-deep}
use Rattle.wf_task.proofs.Faceted.{complex_of-facets}
use Rattle.wf_task.proofs.Facets.{any-has}
use Rattle.wf_task.proofs.Listings.{each_has}

-- ---- reading the value

each-read : {X : Type 0} (f : X → Data) (g : Data → Option X) (xs : List X) → ((x : X) → Has x xs → g (f x) ≡ Some x) → each g (items_of (map f xs)) ≡ Ok xs
each-read f g [] h = refl
each-read f g (x ∷ xs) h = rw (h x (inl refl)) (rw (each-read f g xs (λ y k. h y (inr k))) refl)

pair-read : (v : Vertex) → pair_of (vertex_data v) ≡ Some v
pair-read v = refl

simplex-read : (s : Simplex) → is_nonempty s ≡ true → simplex_of (simplex_data s) ≡ Some s
simplex-read [] h = cc
simplex-read (v ∷ s) h = rw (each-read vertex_data pair_of s (λ w k. pair-read w)) refl

tuple-read : (t : Tuple) → list_of whole_of (tuple_data t) ≡ Some t
tuple-read t = rw (each-read number_data whole_of t (λ x k. refl)) refl

tuples-read : (ts : List Tuple) → tuples_of (list_data tuple_data ts) ≡ Some ts
tuples-read ts = rw (each-read tuple_data (list_of whole_of) ts (λ t k. tuple-read t)) refl

entry-read : (rule : Rule) → is_nonempty rule.input ≡ true → entry_of (rule_data rule) ≡ Some rule
entry-read rule h = rw (tuples-read rule.tuples) (rw (simplex-read rule.input h) refl)

draft-read : (t : Task) → ((s : Simplex) → Has s (facets (inputs t)) → is_nonempty s ≡ true) → ((s : Simplex) → Has s (facets t.outputs) → is_nonempty s ≡ true) → ((rule : Rule) → Has rule t.delta → is_nonempty rule.input ≡ true)
    → t.processes < 2 ^ 64 → draft_of (task_data t) ≡ Ok (listed_of t)
unfolding draft_of
draft-read t some_inputs some_outputs some_rules low = by t.least_block
  where
    with : Option ℕ → Task
    with o = record { processes = t.processes; symmetric = t.symmetric; least_block = o; delta = t.delta; outputs = t.outputs }

    by : (o : Option ℕ) → draft_of (task_data (with o)) ≡ Ok (listed_of (with o))
    by None =
        rw (each-read simplex_data simplex_of (facets (inputs t)) (λ s k. simplex-read s (some_inputs s k)))
        (rw (each-read simplex_data simplex_of (facets t.outputs) (λ s k. simplex-read s (some_outputs s k)))
        (rw (each-read rule_data entry_of t.delta (λ rule k. entry-read rule (some_rules rule k))) refl))
    by (Some m) =
        rw (each-read simplex_data simplex_of (facets (inputs t)) (λ s k. simplex-read s (some_inputs s k)))
        (rw (each-read simplex_data simplex_of (facets t.outputs) (λ s k. simplex-read s (some_outputs s k)))
        (rw (each-read rule_data entry_of t.delta (λ rule k. entry-read rule (some_rules rule k))) refl))

-- ---- tests of lists

any_false : {X : Type 0} (p : X → Bool) (xs : List X) → ((x : X) → Has x xs → p x ≡ false) → list_any p xs ≡ false
any_false p [] h = refl
any_false p (x ∷ xs) h = rw (h x (inl refl)) (any_false p xs (λ y k. h y (inr k)))

all_true : {X : Type 0} (p : X → Bool) (xs : List X) → ((x : X) → Has x xs → p x ≡ true) → list_all p xs ≡ true
all_true p [] h = refl
all_true p (x ∷ xs) h = rw (h x (inl refl)) (all_true p xs (λ y k. h y (inr k)))

none_from : {X : Type 0} (p : X → Bool) (n : ℕ) (xs : List X) → ((x : X) → Has x xs → p x ≡ false) → position_from p n xs ≡ None
none_from p n [] h = refl
none_from p n (x ∷ xs) h = rw (h x (inl refl)) (none_from p (n + 1) xs (λ y k. h y (inr k)))

no_answers : (f : Simplex → Option ℕ) (n : ℕ) (ss : List Simplex) → ((s : Simplex) → Has s ss → f s ≡ None) → first_answer f n ss ≡ None
no_answers f n [] h = refl
no_answers f n (s ∷ ss) h = rw (h s (inl refl)) (no_answers f (n + 1) ss (λ u k. h u (inr k)))

has-among : (complex : List Simplex) (s : Simplex) → Has s complex → is_among complex s ≡ true
has-among complex s h = any-has (same_simplex s) s complex h ((same_simplex-decides s s).1 refl)

-- ---- numbers

small-list : (m : ℕ) (xs : List ℕ) → All (λ x. x ≤ m) xs → list_any (is_large m) xs ≡ false
small-list m xs h = any_false (is_large m) xs (λ x k. le-ltb m x (has_of_all (λ x. x ≤ m) x xs h k))

simplex-small : (n m : ℕ) (s : Simplex) → IsSimplexWithin n m s → has_large m s ≡ false
simplex-small n m s h = small-list m (values_of s) h.values

simplex-processes : (n m : ℕ) (s : Simplex) → IsSimplexWithin n m s → names_processes n s ≡ true
simplex-processes n m s h =
    and_from (is_ascending (processes_of s)) (list_all (λ p. nat_lt p n) (processes_of s)) (and_parts (is_nonempty s) (is_ascending (processes_of s)) h.is_simplex).1
    (all_true (λ p. nat_lt p n) (processes_of s) (λ p k. lt-ltb p n (has_of_all (λ p. p < n) p (processes_of s) h.processes k)))

or_false : (a b : Bool) → a ≡ false → b ≡ false → (a || b) ≡ false
or_false true b h g = h
or_false false b h g = g

version-passes : (o : Option ℕ) → not (version_of o == 1 || version_of o == 2) ≡ false
version-passes None = refl
version-passes (Some m) = refl

first_block-passes : (o : Option ℕ) → IsFirstBlock o → not (is_first_block o) ≡ false
first_block-passes None h = refl
first_block-passes (Some m) h = rw (le-leb 1 m h.0) (rw (le-leb m 4 h.1) refl)

-- ---- the one entry of an input simplex

none-later : (s : Simplex) (rules : List Rule) → AllByRecursion (λ u. simplex_cmp s u ≡ Less) (map (λ (rule : Rule). rule.input) rules) → entries_in rules s ≡ []
none-later s [] h = refl
none-later s (rule ∷ rules) h = by (same_simplex rule.input s) refl (none-later s rules h.1)
  where
    by : (b : Bool) → same_simplex rule.input s ≡ b → entries_in rules s ≡ [] → cond b (rule ∷ entries_in rules s) (entries_in rules s) ≡ []
    by true is rest =
        let same : rule.input ≡ s = (same_simplex-decides rule.input s).0 is in
        let level : Less ≡ Equal = sym h.0 ∙ ap (simplex_cmp s) same ∙ tied_itself simplex_cmp-total s in cc
    by false is rest = rest

one-entry : (rules : List Rule) (rule : Rule) → IsStrictlySortedBy simplex_cmp (map (λ (r : Rule). r.input) rules) → Has rule rules → entries_in rules rule.input ≡ rule ∷ []
unfolding IsStrictlySortedBy
one-entry [] rule h here = absurd here
one-entry (r ∷ rules) rule h (inl e) =
    subst (λ (u : Rule). entries_in (r ∷ rules) u.input ≡ u ∷ []) e
    (rw ((same_simplex-decides r.input r.input).1 refl) (ap (λ rest. r ∷ rest) (none-later r.input rules h.0)))
one-entry (r ∷ rules) rule h (inr here) = by (same_simplex r.input rule.input) refl (one-entry rules rule h.1 here)
  where
    by : (b : Bool) → same_simplex r.input rule.input ≡ b → entries_in rules rule.input ≡ rule ∷ [] → cond b (r ∷ entries_in rules rule.input) (entries_in rules rule.input) ≡ rule ∷ []
    by true is rest =
        let less : simplex_cmp r.input rule.input ≡ Less = each_has (λ u. simplex_cmp r.input u ≡ Less) rule.input (map (λ (x : Rule). x.input) rules) h.0 (map-has (λ (x : Rule). x.input) rule rules here) in
        let same : r.input ≡ rule.input = (same_simplex-decides r.input rule.input).0 is in
        let level : Less ≡ Equal = sym less ∙ ap (simplex_cmp r.input) (sym same) ∙ tied_itself simplex_cmp-total r.input in cc
    by false is rest = rest

-- ---- the judgement

module _ (t : Task) (h : IsListable t) where
  abbrev largest : ℕ
  largest = largest_value t.least_block

  within-four : (s : Simplex) → IsSimplexWithin t.processes largest s → IsSimplexWithin 4 255 s
  within-four s k = within_more t.processes largest 4 255 s h.task.limits.processes (limit-few t.least_block) k

  complex-is : (complex : List Simplex) → IsComplexWithin t.processes largest complex → length complex < 2 ^ 32 → IsComplex complex
  complex-is complex c few = record {
    ascending = subst (IsStrictlySortedBy simplex_cmp) c.is_complex (complex_of-sorted complex);
    closed = c.is_complex;
    within = all_of_has (IsSimplexWithin 4 255) complex (λ s k. within-four s (has_of_all (IsSimplexWithin t.processes largest) s complex c.within k));
    countable = few;
  }

  input_count : length (inputs t) ≤ 4096
  input_count = omega (arith, length-map t.delta (λ (rule : Rule). rule.input), h.task.limits.inputs)

  inputs-complex : IsComplex (inputs t)
  inputs-complex = complex-is (inputs t) (inputs_are t h.task) (omega (arith, input_count))

  outputs-complex : IsComplex t.outputs
  outputs-complex = h.outputs

  inputs-back : complex_of (facets (inputs t)) ≡ inputs t
  inputs-back = complex_of-facets (inputs t) inputs-complex

  outputs-back : complex_of (facets t.outputs) ≡ t.outputs
  outputs-back = complex_of-facets t.outputs outputs-complex

  input-is : (s : Simplex) → Has s (inputs t) → IsSimplexWithin t.processes largest s
  input-is s k = has_of_all (IsSimplexWithin t.processes largest) s (inputs t) (inputs_within t h.task) k

  output-is : (s : Simplex) → Has s t.outputs → IsSimplexWithin t.processes largest s
  output-is s k = has_of_all (IsSimplexWithin t.processes largest) s t.outputs (outputs_within t h.task) k

  facet-of : (complex : List Simplex) (s : Simplex) → Has s (facets complex) → Has s complex
  facet-of complex s k = (has-filter (λ u. not (is_inner complex u)) s complex k).0

  rule-input : (rule : Rule) → Has rule t.delta → Has rule.input (inputs t)
  rule-input rule k = map-has (λ (r : Rule). r.input) rule t.delta k

  rule-is : (rule : Rule) → Has rule t.delta → IsRule t.outputs rule
  rule-is rule k = has_of_all (IsRule t.outputs) rule t.delta h.task.decision.rules k

  tuple-there : (rule : Rule) (tuple : Tuple) → Has rule t.delta → Has tuple rule.tuples → Has (zip (processes_of rule.input) tuple) t.outputs
  tuple-there rule tuple k j =
      contains-has (zip (processes_of rule.input) tuple) t.outputs (has_of_all (λ u. Contains t.outputs (zip (processes_of rule.input) u)) tuple rule.tuples (rule-is rule k).listed j)

  tuple-long : (rule : Rule) (tuple : Tuple) → Has rule t.delta → Has tuple rule.tuples → length tuple ≡ length rule.input
  tuple-long rule tuple k j = has_of_all (λ u. length u ≡ length rule.input) tuple rule.tuples (rule-is rule k).long j

  tuple-values : (rule : Rule) (tuple : Tuple) → Has rule t.delta → Has tuple rule.tuples → All (λ x. x ≤ largest) tuple
  tuple-values rule tuple k j =
      let long : length tuple ≡ length (processes_of rule.input) = tuple-long rule tuple k j ∙ sym (length-map rule.input (λ (v : Vertex). v.0)) in
      subst (All (λ x. x ≤ largest)) (values_of_zip (processes_of rule.input) tuple long) (output-is (zip (processes_of rule.input) tuple) (tuple-there rule tuple k j)).values

  tuple-small : (rule : Rule) (tuple : Tuple) → Has rule t.delta → Has tuple rule.tuples → list_any (is_large largest) tuple ≡ false
  tuple-small rule tuple k j = small-list largest tuple (tuple-values rule tuple k j)

  rule-small : (rule : Rule) → Has rule t.delta → rule_has_large largest rule ≡ false
  rule-small rule k =
      or_false (has_large largest rule.input) (list_any (list_any (is_large largest)) rule.tuples) (simplex-small t.processes largest rule.input (input-is rule.input (rule-input rule k)))
      (any_false (list_any (is_large largest)) rule.tuples (λ tuple j. tuple-small rule tuple k j))

  none-large : some_large (listed_of t) ≡ false
  none-large =
      or_false (list_any (has_large largest) (facets (inputs t)) || list_any (has_large largest) (facets t.outputs)) (list_any (rule_has_large largest) t.delta)
      (or_false (list_any (has_large largest) (facets (inputs t))) (list_any (has_large largest) (facets t.outputs))
      (any_false (has_large largest) (facets (inputs t)) (λ s k. simplex-small t.processes largest s (input-is s (facet-of (inputs t) s k))))
      (any_false (has_large largest) (facets t.outputs) (λ s k. simplex-small t.processes largest s (output-is s (facet-of t.outputs s k)))))
      (any_false (rule_has_large largest) t.delta rule-small)

  all-named : all_processes_named (listed_of t) ≡ true
  all-named =
      and_from (list_all (names_processes t.processes) (facets (inputs t)) && list_all (names_processes t.processes) (facets t.outputs)) (list_all (λ rule. names_processes t.processes rule.input) t.delta)
      (and_from (list_all (names_processes t.processes) (facets (inputs t))) (list_all (names_processes t.processes) (facets t.outputs))
      (all_true (names_processes t.processes) (facets (inputs t)) (λ s k. simplex-processes t.processes largest s (input-is s (facet-of (inputs t) s k))))
      (all_true (names_processes t.processes) (facets t.outputs) (λ s k. simplex-processes t.processes largest s (output-is s (facet-of t.outputs s k)))))
      (all_true (λ (rule : Rule). names_processes t.processes rule.input) t.delta (λ rule k. simplex-processes t.processes largest rule.input (input-is rule.input (rule-input rule k))))

  numbers-pass : numbers_judged (listed_of t) ≡ Ok tt
  unfolding numbers_judged
  numbers-pass =
      rw (version-passes t.least_block) (rw (le-leb 1 t.processes h.task.decision.some_process) (rw (le-leb t.processes 4 h.task.limits.processes) (rw none-large (rw all-named refl))))

  sizes-pass : sizes_judged (listed_of t) (inputs t) ≡ Ok tt
  unfolding sizes_judged
  sizes-pass =
      rw (le-ltb 64 (count_by (λ s. length s == 1) (inputs t)) h.task.limits.vertices)
      (rw (le-ltb 4096 (length (inputs t)) input_count)
      (rw (le-ltb 65536 (length (facets t.outputs)) h.few)
      (rw (le-ltb 65536 (sum_by (λ rule. length rule.tuples) t.delta) h.task.limits.tuples) refl)))

  entry : (s : Simplex) → Has s (inputs t) → (rule : Rule) × Has rule t.delta × (rule.input ≡ s) × (entries_in t.delta s ≡ rule ∷ [])
  entry s k =
      let rule = has-map (λ (r : Rule). r.input) s t.delta k in
      (rule.0, rule.1, rule.2, subst (λ u. entries_in t.delta u ≡ rule.0 ∷ []) rule.2 (one-entry t.delta rule.0 inputs-complex.ascending rule.1))

  entries-pass : entries_judged (listed_of t) (inputs t) ≡ Ok tt
  unfolding entries_judged
  entries-pass =
      rw (none_from (λ s. length (entries_in t.delta s) == 0) 0 (inputs t) (λ s k. ap (λ (es : List Rule). length es == 0) (entry s k).3))
      (rw (none_from (λ s. nat_lt 1 (length (entries_in t.delta s))) 0 (inputs t) (λ s k. ap (λ (es : List Rule). nat_lt 1 (length es)) (entry s k).3))
      (rw (none_from (λ (rule : Rule). not (is_among (inputs t) rule.input)) 0 t.delta (λ rule k. ap not (has-among (inputs t) rule.input (rule-input rule k)))) refl))

  tuples-of : (rule : Rule) → Has rule t.delta → tuples_for (listed_of t) rule.input ≡ rule.tuples
  tuples-of rule k = ap (flat_map (λ (r : Rule). r.tuples)) (one-entry t.delta rule inputs-complex.ascending k) ∙ append-nil rule.tuples

  tuples-at : (s : Simplex) (k : Has s (inputs t)) → tuples_for (listed_of t) s ≡ (entry s k).0.tuples
  tuples-at s k = let e = entry s k in ap (tuples_for (listed_of t)) (sym e.2) ∙ tuples-of e.0 e.1

  lengths-pass : (s : Simplex) → Has s (inputs t) → wrong_length (listed_of t) s ≡ None
  lengths-pass s k =
      let e = entry s k in
      none_from (λ (tuple : Tuple). not (length tuple == length s)) 0 (tuples_for (listed_of t) s)
      (λ tuple j. ap not (eq-eqb (length tuple) (length s) (tuple-long e.0 tuple e.1 (subst (Has tuple) (tuples-at s k) j) ∙ ap length e.2)))

  outputs-pass : (s : Simplex) → Has s (inputs t) → no_output (listed_of t) s ≡ None
  outputs-pass s k =
      let e = entry s k in
      none_from (λ (tuple : Tuple). not (is_among (complex_of (facets t.outputs)) (zip (processes_of s) tuple))) 0 (tuples_for (listed_of t) s)
      (λ tuple j. ap not (has-among (complex_of (facets t.outputs)) (zip (processes_of s) tuple)
      (subst (Has (zip (processes_of s) tuple)) (sym outputs-back) (subst (λ u. Has (zip (processes_of u) tuple) t.outputs) e.2 (tuple-there e.0 tuple e.1 (subst (Has tuple) (tuples-at s k) j))))))

  tuples-pass : tuples_judged (listed_of t) (inputs t) ≡ Ok tt
  unfolding tuples_judged
  tuples-pass = rw (no_answers (wrong_length (listed_of t)) 0 (inputs t) lengths-pass) (rw (no_answers (no_output (listed_of t)) 0 (inputs t) outputs-pass) refl)

  some-input : (length (facets (inputs t)) == 0) ≡ false
  some-input = by (facets (inputs t)) inputs-back
    where
      by : (fs : List Simplex) → complex_of fs ≡ inputs t → (length fs == 0) ≡ false
      by [] is = absurd (let none : ⊥ = omega (arith, ap length is, length-map t.delta (λ (rule : Rule). rule.input), h.task.limits.some_input) in none)
      by (f ∷ fs) is = suc_not_zero (length fs)

  rules-back : (rules : List Rule) → ((rule : Rule) → Has rule rules → Has rule t.delta) → map (rule_for (listed_of t)) (map (λ (rule : Rule). rule.input) rules) ≡ rules
  rules-back [] all = refl
  rules-back (rule ∷ rules) all =
      let tuples = ap (in_order (slice_cmp nat_cmp)) (tuples-of rule (all rule (inl refl))) ∙ (rule-is rule (all rule (inl refl))).ascending in
      let rest = rules-back rules (λ r k. all r (inr k)) in
      λ j. rule_of rule.input (tuples j) ∷ rest j

  drafted-back : drafted (listed_of t) ≡ t
  drafted-back =
      let rules = ap (map (rule_for (listed_of t))) inputs-back ∙ rules-back t.delta (λ rule k. k) in
      λ j. record { processes = t.processes; symmetric = t.symmetric; least_block = t.least_block; delta = rules j; outputs = outputs-back j }

  judged-back : judged (listed_of t) ≡ Ok t
  unfolding judged
  judged-back =
      rw numbers-pass
      (rw (ap (sizes_judged (listed_of t)) inputs-back ∙ sizes-pass)
      (rw (ap (entries_judged (listed_of t)) inputs-back ∙ entries-pass)
      (rw (ap (tuples_judged (listed_of t)) inputs-back ∙ tuples-pass)
      (rw some-input (rw (first_block-passes t.least_block h.task.limits.first_block) (ap Ok drafted-back))))))

  vertex-some : (s : Simplex) → IsSimplexWithin t.processes largest s → is_nonempty s ≡ true
  vertex-some s k = (and_parts (is_nonempty s) (is_ascending (processes_of s)) k.is_simplex).0

  -- the value of the canonical text is read as the task
  pub read-back : task_of_json (task_data t) ≡ Ok t
  unfolding task_of_json
  read-back =
      let read = draft-read t (λ s k. vertex-some s (input-is s (facet-of (inputs t) s k))) (λ s k. vertex-some s (output-is s (facet-of t.outputs s k))) (λ rule k. vertex-some rule.input (input-is rule.input (rule-input rule k)))
      (let low : t.processes < 2 ^ 64 = omega (arith, h.task.limits.processes) in low) in
      ap (λ (r : Result Listed TaskFault). r >>= judged) read ∙ judged-back

  -- ---- the length of the canonical text

  small : (x : ℕ) → x ≤ largest → x ≤ 255
  small x low = omega (arith, low, limit-few t.least_block)

  simplex-short : (s : Simplex) → IsSimplexWithin t.processes largest s → length (compact_text (simplex_data s)) ≤ 46
  simplex-short s k =
      simplex-long s (length-within 4 255 s (within-four s k)) (λ v j.
      let process : v.0 < t.processes = has_of_all (λ p. p < t.processes) v.0 (processes_of s) k.processes (map-has (λ (w : Vertex). w.0) v s j) in
      (omega (arith, process, h.task.limits.processes), small v.1 (has_of_all (λ x. x ≤ largest) v.1 (values_of s) k.values (map-has (λ (w : Vertex). w.1) v s j))))

  rule-short : (rule : Rule) → Has rule t.delta → length (compact_text (rule_data rule)) ≤ 63 + 19 * length rule.tuples
  rule-short rule k =
      let within = input-is rule.input (rule-input rule k) in
      let few = length-within 4 255 rule.input (within-four rule.input within) in
      rule-long rule (simplex-short rule.input within) (λ tuple j.
      tuple-short tuple (omega (arith, tuple-long rule tuple k j, few)) (λ x i. small x (has_of_all (λ y. y ≤ largest) x tuple (tuple-values rule tuple k j) i)))

  short-parts : HasShortParts t
  short-parts = record {
    processes = omega (arith, h.task.limits.processes);
    least_block = h.task.limits.first_block;
    input_count = omega (arith, length_filter (λ s. not (is_inner (inputs t) s)) (inputs t), input_count);
    output_count = h.few;
    rule_count = h.task.limits.inputs;
    tuple_count = h.task.limits.tuples;
    input_parts = λ s k. simplex-short s (input-is s (facet-of (inputs t) s k));
    output_parts = λ s k. simplex-short s (output-is s (facet-of t.outputs s k));
    rule_parts = rule-short;
  }

  text-short : length (compact_text (task_data t)) ≤ MAX_TEXT_BYTES
  text-short = task-long t short-parts

  -- its value nests no deeper than a reading follows
  pub value-shallow : depth (task_data t) ≤ max_depth
  value-shallow = task-deep t

  -- bytes that are the canonical text and are read as its value are read as the task
  pub text-back : (text : List ℕ) → text ≡ compact_text (task_data t) → IsUtf8 text → read text ≡ Some (task_data t) → task_of_text text ≡ Ok t
  unfolding task_of_text
  text-back text is utf8 reads =
      rw (le-ltb MAX_TEXT_BYTES (length text) (subst (λ w. length w ≤ MAX_TEXT_BYTES) (sym is) text-short))
      (rw (json_of-some text (task_data t) utf8 reads) read-back)

-- the text of a value that is the task's
pub whole-text : (t : Task) {d : Data} {text : List ℕ} → d ≡ task_data t → (has_float d ≡ false → text ≡ compact_text d) → text ≡ compact_text (task_data t)
whole-text t is written = written (ap has_float is ∙ task_has_no_float t) ∙ ap compact_text is
