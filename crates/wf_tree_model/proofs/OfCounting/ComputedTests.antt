-- Tests, to be computed, that a task is one.
use Rattle.std.proofs.Common.{◌≡◌, ℕ, suc, ◌==◌, ◌&&◌, ◌<◌, ◌≤◌, nat_le, nat_lt, Bool, true, List, [], ◌∷◌, map, length, All, Contains, None, refl, sym, subst, inl, inr, arith}
use Rattle.std.specs.List.{count_by, list_all, list_any, sum_by}
use Rattle.std.specs.Ordering.{nat_cmp}
use Rattle.std.specs.Cmp.Lexicographic.{pointwise, slice_cmp}
use Rattle.std.proofs.Common.{zip}
use Rattle.std.proofs.lemmas.Bool.{and_parts, eqb-true, leb-true, ltb-true, false≢true, or_cases}
use Rattle.std.proofs.lemmas.List.Elements.{All-from_recursion}
use Rattle.wf_model.specs.Limits.{most_inputs, most_plain_value, most_processes, most_tuples, most_vertices}
use Rattle.wf_model.specs.Lists.{in_order}
use Rattle.wf_model.specs.Simplex.{Simplex, complex_of, is_simplex, processes_of, same_vertex, values_of}
use Rattle.wf_model.specs.Task.{HasValuesUpTo, IsComplexOn, IsFirstBlock, IsRule, IsSimplexOn, IsTask, Rule, Task, Tuple, inputs, largest_value}
use Rattle.wf_tree_model.specs.Counting.Rules.{same_numbers}
use Rattle.wf_tree_model.proofs.OfCounting.Lists.{each, each_passes}
use Rattle.wf_tree_model.proofs.OfCounting.Words.{numbers_equal}

-- ---- lists that are the same

same_lists : {X : Type 0} (test : X → X → Bool) → ((x y : X) → test x y ≡ true → x ≡ y) → (xs ys : List X) → pointwise test xs ys ≡ true → xs ≡ ys
same_lists test same [] [] h = refl
same_lists test same [] (y ∷ ys) h = absurd (false≢true h)
same_lists test same (x ∷ xs) [] h = absurd (false≢true h)
same_lists test same (x ∷ xs) (y ∷ ys) h =
    let parts = and_parts (test x y) (pointwise test xs ys) h in
    let first = same x y parts.0 in
    let rest = same_lists test same xs ys parts.1 in
    λ i. first i ∷ rest i

same_vertices : (v w : ℕ × ℕ) → same_vertex v w ≡ true → v ≡ w
same_vertices v w h =
    let parts = and_parts (v.0 == w.0) (v.1 == w.1) h in
    let p = eqb-true v.0 w.0 parts.0 in
    let x = eqb-true v.1 w.1 parts.1 in
    λ i. (p i, x i)

abbrev same_simplex : Simplex → Simplex → Bool
same_simplex s t = pointwise same_vertex s t

same_simplices : (s t : Simplex) → same_simplex s t ≡ true → s ≡ t
same_simplices s t h = same_lists same_vertex same_vertices s t h

contains_any : {X : Type 0} (test : X → X → Bool) → ((x y : X) → test x y ≡ true → x ≡ y) → (x : X) (xs : List X) → list_any (test x) xs ≡ true → Contains xs x
contains_any test same x [] h = absurd (false≢true h)
contains_any test same x (y ∷ ys) h =
    elim (or_cases (test x y) (list_any (test x) ys) h) [
      | inl here ↦ (0, (let l : 0 < suc (length ys) = omega arith in l), sym (same x y here))
      | inr later ↦ let c = contains_any test same x ys later in (suc c.0, (let l = c.1 in let m : suc c.0 < suc (length ys) = omega (arith, l) in m), c.2)
    ]

all_pass : {X : Type 0} (test : X → Bool) (P : X → Type 0) → ((x : X) → test x ≡ true → P x) → (xs : List X) → list_all test xs ≡ true → All P xs
all_pass test P from xs h = All-from_recursion P xs (each (λ x. test x ≡ true) P from xs (each_passes test xs h))

-- ---- tasks

abbrev passes_simplex : ℕ → Simplex → Bool
passes_simplex n s = is_simplex s && (list_all (λ p. nat_lt p n) (processes_of s) && list_all (λ x. nat_le x most_plain_value) (values_of s))

abbrev passes_complex : ℕ → List Simplex → Bool
passes_complex n ss = pointwise same_simplex (complex_of ss) ss && list_all (passes_simplex n) ss

abbrev passes_rule : List Simplex → Rule → Bool
passes_rule outputs rule =
    pointwise same_numbers (in_order (slice_cmp nat_cmp) rule.tuples) rule.tuples
    && (list_all (λ tuple. length tuple == length rule.input) rule.tuples && list_all (λ tuple. list_any (same_simplex (zip (processes_of rule.input) tuple)) outputs) rule.tuples)

abbrev passes_limits : ℕ → List Rule → Bool
passes_limits n delta =
    (nat_lt 0 n && nat_le n most_processes)
    && ((nat_lt 0 (length delta) && nat_le (count_by (λ s. length s == 1) (map (λ rule. rule.input) delta)) most_vertices)
    && (nat_le (length delta) most_inputs && nat_le (sum_by (λ rule. length rule.tuples) delta) most_tuples))

-- a task whose words are all allowed
abbrev pub passes_task : ℕ → List Rule → List Simplex → Bool
passes_task n delta outputs = (passes_limits n delta && passes_complex n (map (λ rule. rule.input) delta)) && (passes_complex n outputs && list_all (passes_rule outputs) delta)

simplex_on : (n : ℕ) (s : Simplex) → passes_simplex n s ≡ true → IsSimplexOn n s
simplex_on n s h =
    let a = and_parts (is_simplex s) (list_all (λ p. nat_lt p n) (processes_of s) && list_all (λ x. nat_le x most_plain_value) (values_of s)) h in
    let b = and_parts (list_all (λ p. nat_lt p n) (processes_of s)) (list_all (λ x. nat_le x most_plain_value) (values_of s)) a.1 in
    record { is_simplex = a.0; processes = all_pass (λ p. nat_lt p n) (λ p. p < n) (λ p l. ltb-true p n l) (processes_of s) b.0 }

values_up_to : (n : ℕ) (s : Simplex) → passes_simplex n s ≡ true → HasValuesUpTo most_plain_value s
values_up_to n s h =
    let a = and_parts (is_simplex s) (list_all (λ p. nat_lt p n) (processes_of s) && list_all (λ x. nat_le x most_plain_value) (values_of s)) h in
    let b = and_parts (list_all (λ p. nat_lt p n) (processes_of s)) (list_all (λ x. nat_le x most_plain_value) (values_of s)) a.1 in
    all_pass (λ x. nat_le x most_plain_value) (λ x. x ≤ most_plain_value) (λ x l. leb-true x most_plain_value l) (values_of s) b.1

complex_on : (n : ℕ) (ss : List Simplex) → passes_complex n ss ≡ true → IsComplexOn n ss × All (HasValuesUpTo most_plain_value) ss
complex_on n ss h =
    let a = and_parts (pointwise same_simplex (complex_of ss) ss) (list_all (passes_simplex n) ss) h in (
      record { is_complex = same_lists same_simplex same_simplices (complex_of ss) ss a.0; on = all_pass (passes_simplex n) (IsSimplexOn n) (simplex_on n) ss a.1 },
      all_pass (passes_simplex n) (HasValuesUpTo most_plain_value) (values_up_to n) ss a.1,
    )

rule_is : (outputs : List Simplex) (rule : Rule) → passes_rule outputs rule ≡ true → IsRule outputs rule
rule_is outputs rule h =
    let long = λ (tuple : Tuple). length tuple == length rule.input in
    let there = λ (tuple : Tuple). list_any (same_simplex (zip (processes_of rule.input) tuple)) outputs in
    let a = and_parts (pointwise same_numbers (in_order (slice_cmp nat_cmp) rule.tuples) rule.tuples) (list_all long rule.tuples && list_all there rule.tuples) h in
    let b = and_parts (list_all long rule.tuples) (list_all there rule.tuples) a.1 in
    record {
      ascending = same_lists same_numbers numbers_equal (in_order (slice_cmp nat_cmp) rule.tuples) rule.tuples a.0;
      long = all_pass long (λ tuple. length tuple ≡ length rule.input) (λ tuple l. eqb-true (length tuple) (length rule.input) l) rule.tuples b.0;
      listed = all_pass there (λ tuple. Contains outputs (zip (processes_of rule.input) tuple)) (λ tuple l. contains_any same_simplex same_simplices (zip (processes_of rule.input) tuple) outputs l) rule.tuples b.1;
    }

pub is_task : (t : Task) → t.least_block ≡ None → passes_task t.processes t.delta t.outputs ≡ true → IsTask t
is_task t none h =
    let ss = inputs t in
    let a = and_parts (passes_limits t.processes t.delta && passes_complex t.processes ss) (passes_complex t.processes t.outputs && list_all (passes_rule t.outputs) t.delta) h in
    let b = and_parts (passes_limits t.processes t.delta) (passes_complex t.processes ss) a.0 in
    let c = and_parts (passes_complex t.processes t.outputs) (list_all (passes_rule t.outputs) t.delta) a.1 in
    let few = nat_lt 0 t.processes && nat_le t.processes most_processes in
    let some = nat_lt 0 (length t.delta) && nat_le (count_by (λ (s : Simplex). length s == 1) ss) most_vertices in
    let within = nat_le (length t.delta) most_inputs && nat_le (sum_by (λ (rule : Rule). length rule.tuples) t.delta) most_tuples in
    let d = and_parts few (some && within) b.0 in
    let e = and_parts some within d.1 in
    let f = and_parts (nat_lt 0 t.processes) (nat_le t.processes most_processes) d.0 in
    let g = and_parts (nat_lt 0 (length t.delta)) (nat_le (count_by (λ (s : Simplex). length s == 1) ss) most_vertices) e.0 in
    let i = and_parts (nat_le (length t.delta) most_inputs) (nat_le (sum_by (λ (rule : Rule). length rule.tuples) t.delta) most_tuples) e.1 in
    let ins = complex_on t.processes ss b.1 in
    let outs = complex_on t.processes t.outputs c.0 in
    record {
      decision = record {
        some_process = ltb-true 0 t.processes f.0;
        input_complex = ins.0;
        output_complex = outs.0;
        rules = all_pass (passes_rule t.outputs) (IsRule t.outputs) (rule_is t.outputs) t.delta c.1;
      };
      limits = record {
        processes = leb-true t.processes most_processes f.1;
        first_block = subst IsFirstBlock (sym none) tt;
        input_values = subst (λ o. All (HasValuesUpTo (largest_value o)) ss) (sym none) ins.1;
        output_values = subst (λ o. All (HasValuesUpTo (largest_value o)) t.outputs) (sym none) outs.1;
        some_input = ltb-true 0 (length t.delta) g.0;
        vertices = leb-true (count_by (λ (s : Simplex). length s == 1) ss) most_vertices g.1;
        inputs = leb-true (length t.delta) most_inputs i.0;
        tuples = leb-true (sum_by (λ (rule : Rule). length rule.tuples) t.delta) most_tuples i.1;
      };
    }
