-- A draft without a fault lists a task.
use Rattle.std.proofs.Common.{◌≡◌, ℕ, suc, ◌+◌, ◌<◌, ◌≤◌, ◌==◌, Bool, true, false, not, ◌&&◌, ◌||◌, cond, nat_lt, nat_le, List, [], ◌∷◌, length, map, flat_map, zip, sum_by, count_by, All, Contains, Option, None, Some, Result, Ok, slice_index_or, inl, inr, refl, sym, ap, ◌∙◌, subst, arith, ltb-false, leb-true, eqb-true, eq-eqb, length-append}
use Rattle.std.specs.List.{AllByRecursion, list_any, list_all, position_from}
use Rattle.std.specs.List.Sorted.{IsStrictlySortedBy}
use Rattle.std.specs.declared.cmp.Ordering.TheVariants.{Less, Equal}
use Rattle.std.specs.Ordering.{nat_cmp}
use Rattle.std.specs.Cmp.{nat_cmp_total, tied_itself}
use Rattle.std.specs.Cmp.Lexicographic.{slice_cmp, nat_list_cmp_total}
use Rattle.std.proofs.lemmas.List.{get_or_default, length-map}
use Rattle.std.proofs.lemmas.List.Elements.{All-nil, All-cons, All-head, All-tail, All-get_or, All-weaker, All-map}
use Rattle.std.proofs.lemmas.List.Sums.{sum_by-cons, sum_by-le-sum_by}
use Rattle.wf_model.specs.Lists.{has, in_order}
use Rattle.wf_model.specs.Simplex.{Simplex, processes_of, values_of, is_nonempty, is_ascending, parts_of, simplex_cmp, complex_of}
use Rattle.wf_model.specs.Task.{Task, Rule, Tuple, IsTask, IsRule, IsSimplexWithin, IsComplexWithin, IsFirstBlock, inputs}
use Rattle.wf_model.proofs.Lemmas.{on_processes, up_to}
use Rattle.wf_simplex.specs.Order.{same_simplex, same_simplex-decides, simplex_cmp-total, nat_cmp-Equal}
use Rattle.wf_simplex.proofs.Lemmas.{Has, has-in_order, in_order-in_order, length-in_order, has_at_place, whole_is_part, filter-has, is_in_complex, complex_of-sorted, complex_of-complex_of, all_of_has, has_of_all, complex_within, length-within}
use Rattle.std.proofs.lemmas.Bool.{and_parts, or_parts, not-false}
use Rattle.wf_task.specs.declared.slots.EntryCount.{EntryCount}
use Rattle.wf_task.specs.declared.slots.EntryCount.TheVariants.{Missing, Once, Twice}
use Rattle.wf_task_parse.specs.declared.fault.TaskFault.{TaskFault}
use Rattle.wf_task_parse.specs.declared.fault.TaskFault.TheVariants as fault
use Rattle.wf_task_parse.specs.Shape.{rule_of}
use Rattle.wf_task_parse.specs.RawTask.{Listed, ◌>>=◌}
use Rattle.wf_task.specs.Slots.{entries_in, Means, AreOf, IsOnly, AreOnly}
use Rattle.wf_task.specs.Judge.{is_first_block, has_large, rule_has_large, names_processes, is_among, tuples_for, wrong_length, no_output, first_answer, refused_at, entries_judged, sizes_judged, tuples_judged, numbers_judged, rule_for, drafted}
use Rattle.wf_task_parse.specs.Listed.{ListsVertices}
use Rattle.wf_task.specs.Faultless.{IsFaultless}
use Rattle.wf_task.specs.Tuples.{IsTupleOf, AreTuples, IsRow, NamesRows, rows_at}
use Rattle.wf_task.specs.TaskSeen.{rules_seen}
use Rattle.wf_task.proofs.Judged.{AreJudged, are_judged, passed, passed_last, within, limit_of, limit-few, inputs_within, outputs_within}
use Rattle.wf_task.proofs.Sizes.{sum_by-map}
use Rattle.wf_task.proofs.TupleLemmas.{lists-only, once-only, no_answer, none_passes, are_tuples}
use Rattle.wf_task.proofs.RowLemmas.{tuple_cmp-Equal}

-- ---- bounds on the listed simplices

pub within_more : (n k m l : ℕ) (s : Simplex) → n ≤ m → k ≤ l → IsSimplexWithin n k s → IsSimplexWithin m l s
within_more n k m l s more larger h = record {
  is_simplex = h.is_simplex;
  processes = All-weaker (λ p. p < n) (λ p. p < m) (λ p low. omega (arith, low, more)) (processes_of s) h.processes;
  values = All-weaker (λ x. x ≤ k) (λ x. x ≤ l) (λ x low. omega (arith, low, larger)) (values_of s) h.values;
}

pub all_within_four : (listed : Listed) (ss : List Simplex) → AreJudged listed → All (IsSimplexWithin listed.processes (limit_of listed)) ss → All (IsSimplexWithin 4 255) ss
all_within_four listed ss h all =
    All-weaker (IsSimplexWithin listed.processes (limit_of listed)) (IsSimplexWithin 4 255) (λ s. within_more listed.processes (limit_of listed) 4 255 s h.few (limit-few listed.least_block)) ss all

entries_from : (n m : ℕ) (rules : List Rule) → All (λ rule. is_nonempty rule.input ≡ true) rules → list_any (rule_has_large m) rules ≡ false → list_all (λ rule. names_processes n rule.input) rules ≡ true
    → All (λ rule. IsSimplexWithin n m rule.input) rules
entries_from n m [] some small named = All-nil (λ rule. IsSimplexWithin n m rule.input)
entries_from n m (rule ∷ rules) some small named =
    All-cons (λ rule. IsSimplexWithin n m rule.input) rule rules
    (within n m rule.input (All-head (λ rule. is_nonempty rule.input ≡ true) rule rules some)
    (or_parts (has_large m rule.input) _ (or_parts (rule_has_large m rule) (list_any (rule_has_large m) rules) small).0).0
    (and_parts (names_processes n rule.input) (list_all (λ rule. names_processes n rule.input) rules) named).0)
    (entries_from n m rules (All-tail (λ rule. is_nonempty rule.input ≡ true) rule rules some) (or_parts (rule_has_large m rule) (list_any (rule_has_large m) rules) small).1
    (and_parts (names_processes n rule.input) (list_all (λ rule. names_processes n rule.input) rules) named).1)

pub entries_within_four : (listed : Listed) → AreJudged listed → ListsVertices listed → All (λ rule. IsSimplexWithin 4 255 rule.input) listed.delta
entries_within_four listed h some =
    let m = limit_of listed in
    All-weaker (λ rule. IsSimplexWithin listed.processes m rule.input) (λ rule. IsSimplexWithin 4 255 rule.input) (λ rule. within_more listed.processes m 4 255 rule.input h.few (limit-few listed.least_block)) listed.delta
    (entries_from listed.processes m listed.delta some.entries
    (or_parts (list_any (has_large m) listed.inputs || list_any (has_large m) listed.outputs) (list_any (rule_has_large m) listed.delta) h.small).1
    (and_parts (list_all (names_processes listed.processes) listed.inputs && list_all (names_processes listed.processes) listed.outputs) (list_all (λ rule. names_processes listed.processes rule.input) listed.delta) h.named).1)

-- ---- a refusal that did not come

passed_at : {A B : Type 0} (o : Option A) (e : A → TaskFault) (next : Unit {0} → Result B TaskFault) (x : B) → (refused_at o e >>= next) ≡ Ok x → (o ≡ None) × (next tt ≡ Ok x)
passed_at None e next x h = (refl, h)
passed_at (Some a) e next x h = cc

passed_at_last : {A : Type 0} (o : Option A) (e : A → TaskFault) (u : Unit {0}) → refused_at o e ≡ Ok u → o ≡ None
passed_at_last None e u h = refl
passed_at_last (Some a) e u h = cc

-- each input simplex has one entry
pub only_entries : (slots : List EntryCount) (listed : Listed) (inputs : List Simplex) (u : Unit {0}) → AreOf slots listed.delta inputs → entries_judged listed inputs ≡ Ok u → AreOnly slots listed.delta inputs
unfolding entries_judged
only_entries slots listed inputs u h ok =
    let missing = passed_at (position_from (λ s. length (entries_in listed.delta s) == 0) 0 inputs) fault.DeltaMissing _ u ok in
    let twice = passed_at (position_from (λ s. nat_lt 1 (length (entries_in listed.delta s))) 0 inputs) fault.DeltaTwice _ u missing.1 in
    let some = none_passes (λ s. length (entries_in listed.delta s) == 0) 0 inputs missing.0 in
    let few = none_passes (λ s. nat_lt 1 (length (entries_in listed.delta s))) 0 inputs twice.0 in
    record {
      long = h.long;
      each = λ i inside. one (slice_index_or slots i Missing) (slice_index_or inputs i []) (h.each i inside)
          (All-get_or (λ s. (length (entries_in listed.delta s) == 0) ≡ false) inputs i [] inside some)
          (All-get_or (λ s. nat_lt 1 (length (entries_in listed.delta s)) ≡ false) inputs i [] inside few);
    }
  where
    one : (slot : EntryCount) (s : Simplex) → Means slot listed.delta s → (length (entries_in listed.delta s) == 0) ≡ false → nat_lt 1 (length (entries_in listed.delta s)) ≡ false → IsOnly slot listed.delta s
    one Missing s means some few = let none : true ≡ false = sym (ap (λ es. length es == 0) means) ∙ some in cc
    one (Once k) s means some few = means
    one Twice s means some few = let low = ltb-false 1 (length (entries_in listed.delta s)) few in (let none : ⊥ = omega (arith, low, means) in none)

-- what the judged tuples tell
pub record AreOutputs (listed : Listed) (inputs : List Simplex) : Type 0 where
  pub tuples : AreTuples listed inputs
  pub none : first_answer (no_output listed) 0 inputs ≡ None

pub are_outputs : (listed : Listed) (inputs : List Simplex) (u : Unit {0}) → AreJudged listed → tuples_judged listed inputs ≡ Ok u → AreOutputs listed inputs
unfolding tuples_judged
are_outputs listed inputs u h ok =
    let long = passed_at (first_answer (wrong_length listed) 0 inputs) (λ at. fault.OutLength at.0 at.1) _ u ok in
    let outputs = passed_at_last (first_answer (no_output listed) 0 inputs) (λ at. fault.OutStray at.0 at.1) u long.1 in
    record { tuples = are_tuples listed inputs long.0 h.small; none = outputs }

-- ---- the rows

some_vertices : (s : Simplex) → is_nonempty s ≡ true → 1 ≤ length s
some_vertices [] h = cc
some_vertices (v ∷ s) h = omega arith

row_from : (s : Simplex) (t : Tuple) → IsSimplexWithin 4 255 s → IsTupleOf (length s) t → IsRow t
row_from s t h tuple = record {
  some = omega (arith, tuple.long, some_vertices s (and_parts (is_nonempty s) (is_ascending (processes_of s)) h.is_simplex).0);
  few = omega (arith, tuple.long, length-within 4 255 s h);
  small = tuple.small;
}

pub slots_name_rows : (slots : List EntryCount) (listed : Listed) (inputs : List Simplex) → AreOnly slots listed.delta inputs → AreTuples listed inputs → All (IsSimplexWithin 4 255) inputs → All (NamesRows listed.delta) slots
slots_name_rows slots listed inputs only tuples simplices = λ k d h. (let same = get_or_default slots k d Missing h in subst (NamesRows listed.delta) (sym same) (named k (omega (arith, h, only.long))))
  where
    named : (k : ℕ) → k < length inputs → NamesRows listed.delta (slice_index_or slots k Missing)
    named k inside = record {
      once = once-only slots listed.delta inputs k only inside;
      rows = subst (All IsRow) (sym (lists-only slots listed.delta inputs k only inside))
          (All-weaker (IsTupleOf (length (slice_index_or inputs k []))) IsRow (λ t. row_from (slice_index_or inputs k []) t (All-get_or (IsSimplexWithin 4 255) inputs k [] inside simplices)) (tuples_for listed (slice_index_or inputs k [])) (tuples.each k inside));
    }

same_maps : {X Y Z : Type 0} (f : X → Z) (g : Y → Z) (d : X) (e : Y) (xs : List X) (ys : List Y) → length xs ≡ length ys → ((i : ℕ) → i < length ys → f (slice_index_or xs i d) ≡ g (slice_index_or ys i e)) → map f xs ≡ map g ys
same_maps f g d e [] [] h each = refl
same_maps f g d e [] (y ∷ ys) h each = absurd (let none : ⊥ = omega (arith, h) in none)
same_maps f g d e (x ∷ xs) [] h each = absurd (let none : ⊥ = omega (arith, h) in none)
same_maps f g d e (x ∷ xs) (y ∷ ys) h each =
    let first = each 0 (omega arith) in
    let rest = same_maps f g d e xs ys (omega (arith, h)) (λ i inside. each (suc i) (omega (arith, inside))) in
    λ j. first j ∷ rest j

pub seen_by : (f : Simplex → List Tuple) (ss : List Simplex) → rules_seen ss (map f ss) ≡ map (λ s. rule_of s (f s)) ss
seen_by f [] = refl
seen_by f (s ∷ ss) = ap (λ rest. rule_of s (f s) ∷ rest) (seen_by f ss)

rows_are : (slots : List EntryCount) (listed : Listed) (inputs : List Simplex) → AreOnly slots listed.delta inputs → map (rows_at listed.delta) slots ≡ map (λ s. (rule_for listed s).tuples) inputs
rows_are slots listed inputs only =
    same_maps (rows_at listed.delta) (λ s. (rule_for listed s).tuples) Missing [] slots inputs only.long
    (λ i inside. ap (in_order (slice_cmp nat_cmp)) (lists-only slots listed.delta inputs i only inside))

pub rules_are : (slots : List EntryCount) (listed : Listed) (inputs : List Simplex) (rows : List (List Tuple)) → AreOnly slots listed.delta inputs → rows ≡ map (rows_at listed.delta) slots
    → rules_seen inputs rows ≡ map (rule_for listed) inputs
rules_are slots listed inputs rows only is =
    ap (rules_seen inputs) (is ∙ rows_are slots listed inputs only) ∙ seen_by (λ s. (rule_for listed s).tuples) inputs

pub rows_long : (slots : List EntryCount) (rules : List Rule) (inputs : List Simplex) (rows : List (List Tuple)) → AreOnly slots rules inputs → rows ≡ map (rows_at rules) slots → length rows ≡ length inputs
rows_long slots rules inputs rows only is = ap length is ∙ length-map slots (rows_at rules) ∙ only.long

-- ---- the rule of an input simplex

all-in_order : (P : Tuple → Type 0) (ts : List Tuple) → All P ts → All P (in_order (slice_cmp nat_cmp) ts)
all-in_order P ts h =
    all_of_has P (in_order (slice_cmp nat_cmp) ts) (λ t here. has_of_all P t ts h (has-in_order (slice_cmp nat_cmp) nat_list_cmp_total tuple_cmp-Equal t ts here))

among-has : (complex : List Simplex) (s : Simplex) → is_among complex s ≡ true → Has s complex
among-has [] s h = cc
among-has (t ∷ ts) s h = by (λ g. among-has ts s g) (same_simplex s t) refl h
  where
    by : (is_among ts s ≡ true → Has s ts) → (b : Bool) → same_simplex s t ≡ b → (b || is_among ts s) ≡ true → Has s (t ∷ ts)
    by deeper true is h = inl (sym ((same_simplex-decides s t).0 is))
    by deeper false is h = inr (deeper h)

rule_is : (listed : Listed) (s : Simplex) → All (IsTupleOf (length s)) (tuples_for listed s) → no_output listed s ≡ None → IsRule (complex_of listed.outputs) (rule_for listed s)
rule_is listed s tuples none = record {
  ascending = in_order-in_order (slice_cmp nat_cmp) nat_list_cmp_total tuple_cmp-Equal (tuples_for listed s);
  long = all-in_order (λ t. length t ≡ length s) (tuples_for listed s) (All-weaker (IsTupleOf (length s)) (λ t. length t ≡ length s) (λ t h. h.long) (tuples_for listed s) tuples);
  listed = all-in_order (λ t. Contains (complex_of listed.outputs) (zip (processes_of s) t)) (tuples_for listed s)
      (All-weaker (λ t. not (is_among (complex_of listed.outputs) (zip (processes_of s) t)) ≡ false) (λ t. Contains (complex_of listed.outputs) (zip (processes_of s) t))
      (λ t h. has_at_place (zip (processes_of s) t) (complex_of listed.outputs) (among-has (complex_of listed.outputs) (zip (processes_of s) t) (not-false (is_among (complex_of listed.outputs) (zip (processes_of s) t)) h)))
      (tuples_for listed s)
      (none_passes (λ t. not (is_among (complex_of listed.outputs) (zip (processes_of s) t))) 0 (tuples_for listed s) none));
}

rules_are_rules : (listed : Listed) (inputs : List Simplex) → AreOutputs listed inputs → All (IsRule (complex_of listed.outputs)) (map (rule_for listed) inputs)
rules_are_rules listed inputs h =
    All-map (IsRule (complex_of listed.outputs)) (rule_for listed) inputs
    (λ k d inside. (let same = get_or_default inputs k d [] inside in
    subst (λ s. IsRule (complex_of listed.outputs) (rule_for listed s)) (sym same) (rule_is listed (slice_index_or inputs k []) (h.tuples.each k inside) (no_answer (no_output listed) 0 inputs h.none k inside))))

-- ---- how many tuples

-- a simplex that is not below s is none of those above it
none_above : (x s : Simplex) (n : ℕ) (ss : List Simplex) → x ≡ s → AllByRecursion (λ t. simplex_cmp s t ≡ Less) ss → sum_by (λ t. cond (same_simplex x t) n 0) ss ≡ 0
none_above x s n [] is h = refl
none_above x s n (t ∷ ss) is h = sum_by-cons (λ t. cond (same_simplex x t) n 0) t ss ∙ by (same_simplex x t) refl (none_above x s n ss is h.1)
  where
    by : (b : Bool) → same_simplex x t ≡ b → sum_by (λ t. cond (same_simplex x t) n 0) ss ≡ 0 → cond b n 0 + sum_by (λ t. cond (same_simplex x t) n 0) ss ≡ 0
    by true here rest =
        let same : s ≡ t = sym is ∙ (same_simplex-decides x t).0 here in
        let level : Less ≡ Equal = sym h.0 ∙ ap (simplex_cmp s) (sym same) ∙ tied_itself simplex_cmp-total s in cc
    by false here rest = omega (arith, rest)

-- one simplex is at most once among simplices in order
at_most_once : (x : Simplex) (n : ℕ) (ss : List Simplex) → IsStrictlySortedBy simplex_cmp ss → sum_by (λ t. cond (same_simplex x t) n 0) ss ≤ n
unfolding IsStrictlySortedBy
at_most_once x n [] h = omega arith
at_most_once x n (s ∷ ss) h =
    let all = sum_by-cons (λ t. cond (same_simplex x t) n 0) s ss in
    omega (arith, all, by (same_simplex x s) refl (at_most_once x n ss h.1))
  where
    by : (b : Bool) → same_simplex x s ≡ b → sum_by (λ t. cond (same_simplex x t) n 0) ss ≤ n → cond b n 0 + sum_by (λ t. cond (same_simplex x t) n 0) ss ≤ n
    by true here rest = omega (arith, none_above x s n ss ((same_simplex-decides x s).0 here) h.0)
    by false here rest = omega (arith, rest)

sum_of_both : {X : Type 0} (f g h : X → ℕ) (xs : List X) → ((x : X) → f x ≡ g x + h x) → sum_by f xs ≡ sum_by g xs + sum_by h xs
sum_of_both f g h [] each = refl
sum_of_both f g h (x ∷ xs) each = omega (arith, sum_by-cons f x xs, sum_by-cons g x xs, sum_by-cons h x xs, each x, sum_of_both f g h xs each)

sum_of_none : {X : Type 0} (xs : List X) → sum_by (λ (x : X). 0) xs ≡ 0
sum_of_none [] = refl
sum_of_none {X = X} (x ∷ xs) = omega (arith, sum_by-cons (λ (y : X). 0) x xs, sum_of_none xs)

-- the value lists of all entries for a simplex, and one entry more
pub lists_more : (rule : Rule) (rules : List Rule) (s : Simplex)
    → length (flat_map (λ r. r.tuples) (entries_in (rule ∷ rules) s)) ≡ cond (same_simplex rule.input s) (length rule.tuples) 0 + length (flat_map (λ r. r.tuples) (entries_in rules s))
lists_more rule rules s = by (same_simplex rule.input s)
  where
    by : (b : Bool) → length (flat_map (λ r. r.tuples) (cond b (rule ∷ entries_in rules s) (entries_in rules s))) ≡ cond b (length rule.tuples) 0 + length (flat_map (λ r. r.tuples) (entries_in rules s))
    by true = length-append rule.tuples (flat_map (λ r. r.tuples) (entries_in rules s))
    by false = omega arith

-- different simplices have different entries, so together no more value lists than all entries
few_lists : (rules : List Rule) (inputs : List Simplex) → IsStrictlySortedBy simplex_cmp inputs → sum_by (λ s. length (flat_map (λ r. r.tuples) (entries_in rules s))) inputs ≤ sum_by (λ r. length r.tuples) rules
few_lists [] inputs h = omega (arith, sum_of_none inputs)
few_lists (rule ∷ rules) inputs h =
    omega (
      arith,
      sum_of_both (λ s. length (flat_map (λ r. r.tuples) (entries_in (rule ∷ rules) s))) (λ s. cond (same_simplex rule.input s) (length rule.tuples) 0) (λ s. length (flat_map (λ r. r.tuples) (entries_in rules s))) inputs (lists_more rule rules),
      at_most_once rule.input (length rule.tuples) inputs h,
      few_lists rules inputs h,
      sum_by-cons (λ (r : Rule). length r.tuples) rule rules,
    )

few_rows : (listed : Listed) (inputs : List Simplex) → IsStrictlySortedBy simplex_cmp inputs → sum_by (λ r. length r.tuples) (map (rule_for listed) inputs) ≤ sum_by (λ r. length r.tuples) listed.delta
few_rows listed inputs h =
    omega (
      arith,
      sum_by-map (λ (r : Rule). length r.tuples) (rule_for listed) inputs,
      sum_by-le-sum_by (λ s. length (rule_for listed s).tuples) (λ s. length (tuples_for listed s)) inputs (λ s. length-in_order (slice_cmp nat_cmp) (tuples_for listed s)),
      few_lists listed.delta inputs h,
    )

-- ---- the task

-- what the judged sizes tell
pub record AreFew (listed : Listed) (inputs : List Simplex) : Type 0 where
  pub vertices : count_by (λ s. length s == 1) inputs ≤ 64
  pub simplices : length inputs ≤ 4096
  pub outputs : length listed.outputs ≤ 65536
  pub tuples : sum_by (λ r. length r.tuples) listed.delta ≤ 65536

pub are_few : (listed : Listed) (inputs : List Simplex) (u : Unit {0}) → sizes_judged listed inputs ≡ Ok u → AreFew listed inputs
unfolding sizes_judged
are_few listed inputs u h =
    let vertices = passed (nat_lt 64 (count_by (λ s. length s == 1) inputs)) _ _ u h in
    let simplices = passed (nat_lt 4096 (length inputs)) _ _ u vertices.1 in
    let outputs = passed (nat_lt 65536 (length listed.outputs)) _ _ u simplices.1 in
    let tuples = passed_last (nat_lt 65536 (sum_by (λ r. length r.tuples) listed.delta)) _ u outputs.1 in
    record {
      vertices = ltb-false 64 (count_by (λ s. length s == 1) inputs) vertices.0;
      simplices = ltb-false 4096 (length inputs) simplices.0;
      outputs = ltb-false 65536 (length listed.outputs) outputs.0;
      tuples = ltb-false 65536 (sum_by (λ r. length r.tuples) listed.delta) tuples;
    }

same_inputs : (listed : Listed) (ss : List Simplex) → map (λ rule. rule.input) (map (rule_for listed) ss) ≡ ss
same_inputs listed [] = refl
same_inputs listed (s ∷ ss) = ap (λ rest. s ∷ rest) (same_inputs listed ss)

pub has-some : {X : Type 0} (x : X) (xs : List X) → Has x xs → 0 < length xs
has-some x [] h = absurd h
has-some x (y ∷ ys) h = omega arith

some_faces : (facets : List Simplex) → All (λ s. is_nonempty s ≡ true) facets → (length facets == 0) ≡ false → 0 < length (complex_of facets)
some_faces [] some h = cc
some_faces (s ∷ ss) some h =
    has-some s (complex_of (s ∷ ss)) (is_in_complex s s (s ∷ ss) (inl refl) (filter-has is_nonempty s (parts_of s) (whole_is_part s) (All-head (λ s. is_nonempty s ≡ true) s ss some)))

pub complex_is : (n largest : ℕ) (facets : List Simplex) → All (IsSimplexWithin n largest) facets → IsComplexWithin n largest (complex_of facets)
complex_is n largest facets h = record { is_complex = complex_of-complex_of facets; within = complex_within n largest facets h }

first_block_is : (o : Option ℕ) → is_first_block o ≡ true → IsFirstBlock o
first_block_is None h = tt
first_block_is (Some m) h = let both = and_parts (nat_le 1 m) (nat_le m 4) h in (leb-true 1 m both.0, leb-true m 4 both.1)

pub drafted_is_task : (listed : Listed) → IsFaultless listed → IsTask (drafted listed)
drafted_is_task listed h =
    let complex = complex_of listed.inputs in
    let numbers = are_judged listed tt h.numbers in
    let few = are_few listed complex tt h.sizes in
    let same = same_inputs listed complex in
    let inside = complex_is listed.processes (limit_of listed) listed.inputs (inputs_within listed numbers h.vertices.inputs) in
    let inputs-are = subst (IsComplexWithin listed.processes (limit_of listed)) (sym same) inside in
    let outputs-are = complex_is listed.processes (limit_of listed) listed.outputs (outputs_within listed numbers h.vertices.outputs) in
    record {
      decision = record {
        some_process = numbers.some;
        input_complex = on_processes listed.processes (limit_of listed) _ inputs-are;
        output_complex = on_processes listed.processes (limit_of listed) _ outputs-are;
        rules = rules_are_rules listed complex (are_outputs listed complex tt numbers h.tuples);
      };
      limits = record {
        processes = numbers.few;
        first_block = first_block_is listed.least_block h.first_block;
        input_values = up_to listed.processes (limit_of listed) _ inputs-are;
        output_values = up_to listed.processes (limit_of listed) _ outputs-are;
        some_input = omega (arith, some_faces listed.inputs h.vertices.inputs h.input, length-map complex (rule_for listed));
        vertices = omega (arith, ap (count_by (λ s. length s == 1)) same, few.vertices);
        inputs = omega (arith, length-map complex (rule_for listed), few.simplices);
        tuples = omega (arith, few_rows listed complex (complex_of-sorted listed.inputs), few.tuples);
      };
    }

-- ---- the values

pub has-list : (v : ℕ) (xs : List ℕ) → has xs v ≡ true → Has v xs
has-list v [] h = cc
has-list v (x ∷ xs) h = by (λ g. has-list v xs g) (x == v) refl h
  where
    by : (has xs v ≡ true → Has v xs) → (b : Bool) → (x == v) ≡ b → (b || has xs v) ≡ true → Has v (x ∷ xs)
    by deeper true is h = inl (eqb-true x v is)
    by deeper false is h = inr (deeper h)

pub list-has : (v : ℕ) (xs : List ℕ) → Has v xs → has xs v ≡ true
list-has v [] h = absurd h
list-has v (x ∷ xs) (inl e) = rw (eq-eqb x v e) refl
list-has v (x ∷ xs) (inr h) = by (list-has v xs h) (x == v)
  where
    by : has xs v ≡ true → (b : Bool) → (b || has xs v) ≡ true
    by rest true = refl
    by rest false = rest

-- values put in order are those of the list
pub has_from_order : (v : ℕ) (xs : List ℕ) → has (in_order nat_cmp xs) v ≡ true → has xs v ≡ true
has_from_order v xs h = list-has v xs (has-in_order nat_cmp nat_cmp_total nat_cmp-Equal v xs (has-list v (in_order nat_cmp xs) h))

-- ---- the parts of the task

only_of : (listed : Listed) (slots : List EntryCount) → IsFaultless listed → AreOf slots listed.delta (complex_of listed.inputs) → AreOnly slots listed.delta (complex_of listed.inputs)
only_of listed slots h of = only_entries slots listed (complex_of listed.inputs) tt of h.entries

pub slots_of_faultless : (listed : Listed) (slots : List EntryCount) (inputs : List Simplex) → IsFaultless listed → inputs ≡ complex_of listed.inputs → AreOf slots listed.delta inputs → All (NamesRows listed.delta) slots
slots_of_faultless listed slots inputs h is of =
    let numbers = are_judged listed tt h.numbers in
    slots_name_rows slots listed (complex_of listed.inputs) (only_of listed slots h (subst (AreOf slots listed.delta) is of)) (are_outputs listed (complex_of listed.inputs) tt numbers h.tuples).tuples
    (complex_within 4 255 listed.inputs (all_within_four listed listed.inputs numbers (inputs_within listed numbers h.vertices.inputs)))

pub rows_of_faultless : (listed : Listed) (slots : List EntryCount) (inputs : List Simplex) (rows : List (List Tuple)) → IsFaultless listed → inputs ≡ complex_of listed.inputs → AreOf slots listed.delta inputs
    → rows ≡ map (rows_at listed.delta) slots → length rows ≡ length inputs
rows_of_faultless listed slots inputs rows h is of made =
    rows_long slots listed.delta (complex_of listed.inputs) rows (only_of listed slots h (subst (AreOf slots listed.delta) is of)) made ∙ ap length (sym is)

pub rules_of_faultless : (listed : Listed) (slots : List EntryCount) (inputs : List Simplex) (rows : List (List Tuple)) → IsFaultless listed → inputs ≡ complex_of listed.inputs → AreOf slots listed.delta inputs
    → rows ≡ map (rows_at listed.delta) slots → rules_seen inputs rows ≡ (drafted listed).delta
rules_of_faultless listed slots inputs rows h is of made =
    ap (λ ss. rules_seen ss rows) is ∙ rules_are slots listed (complex_of listed.inputs) rows (only_of listed slots h (subst (AreOf slots listed.delta) is of)) made

pub task_is : (listed : Listed) (rules : List Rule) (outputs : List Simplex) (t : Task) → t ≡ record { processes = listed.processes; symmetric = listed.symmetric; least_block = listed.least_block; delta = rules; outputs = outputs }
    → rules ≡ (drafted listed).delta → outputs ≡ complex_of listed.outputs → t ≡ drafted listed
task_is listed rules outputs t is same complex =
    is ∙ (λ j. record { processes = listed.processes; symmetric = listed.symmetric; least_block = listed.least_block; delta = same j; outputs = complex j })

pub faultless : (listed : Listed) (inputs : List Simplex) (a b c d : Unit {0}) → ListsVertices listed → numbers_judged listed ≡ Ok a → inputs ≡ complex_of listed.inputs → sizes_judged listed inputs ≡ Ok b
    → entries_judged listed inputs ≡ Ok c → tuples_judged listed inputs ≡ Ok d → (length listed.inputs == 0) ≡ false → is_first_block listed.least_block ≡ true → IsFaultless listed
faultless listed inputs a b c d vertices numbers is sizes entries tuples some first = record {
  vertices = vertices;
  numbers = numbers;
  sizes = subst (λ ss. sizes_judged listed ss ≡ Ok tt) is sizes;
  entries = subst (λ ss. entries_judged listed ss ≡ Ok tt) is entries;
  tuples = subst (λ ss. tuples_judged listed ss ≡ Ok tt) is tuples;
  input = some;
  first_block = first;
}
