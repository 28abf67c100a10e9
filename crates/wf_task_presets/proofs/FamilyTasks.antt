-- The task of a family is a task.
use Rattle.std.proofs.Common.{◌≡◌, Bool, ℕ, ◌<◌, ◌≤◌, ◌==◌, List, [], ◌∷◌, length, map, zip, sum_by, count_by, All, Contains, None, refl, sym, ap, ◌∙◌, subst, arith}
use Rattle.std.specs.List.Sorted.{IsStrictlySortedBy}
use Rattle.std.specs.Ordering.{nat_cmp}
use Rattle.std.specs.Cmp.{nat_cmp_total}
use Rattle.std.specs.Cmp.Lexicographic.{slice_cmp, nat_list_cmp_total}
use Rattle.std.proofs.lemmas.List.{length-map}
use Rattle.std.proofs.lemmas.List.Concat.{length-flat_map}
use Rattle.std.proofs.lemmas.List.Elements.{All-map, All-weaker}
use Rattle.std.proofs.lemmas.List.FromFn.{length-range_with_len}
use Rattle.std.proofs.lemmas.List.Kept.{IsStrictlySortedBy-filter}
use Rattle.std.proofs.lemmas.List.Sums.{sum_by-le-sum_by}
use Rattle.wf_model.specs.Lists.{below, lists_of, in_order}
use Rattle.wf_model.specs.Simplex.{Simplex, Vertex, processes_of, values_of, complex_of}
use Rattle.wf_model.specs.Task.{Rule, Tuple, IsTask, IsRule, IsSimplexWithin, IsComplexWithin}
use Rattle.wf_model.proofs.Lemmas.{on_processes, up_to, values_of_zip}
use Rattle.wf_model.specs.Limits.{most_processes, most_plain_value, most_vertices, most_inputs, most_tuples}
use Rattle.wf_simplex.specs.Order.{nat_cmp-Equal}
use Rattle.wf_simplex.proofs.Lemmas.{Has, has-in_order, sorted-in_order, in_order-sorted, length-in_order, has_at_place, has-filter, all_of_has, has_of_all, length-within, nonempty_of_simplex}
use Rattle.wf_task_presets.specs.declared.family.Family.{Family}
use Rattle.wf_task_presets.specs.declared.family.Family.TheVariants.{Agreement, Naming}
use Rattle.wf_task_presets.specs.Family.{values_for, allows, tuples_for, IsFamily, AreFew, images_of, task_for}
use Rattle.wf_task.specs.TaskSeen.{rules_seen, task_of_parts}
use Rattle.wf_task.proofs.Lemmas.{complex_is, seen_by, within_more, facet-in, has-images, images-has, sorted-lists_of, sorted-below, has-lists_of, has-below, each_has, tuple_cmp-Equal, sum_by-map, zip_within}

-- ---- values

pub numbers-are : (n : ℕ) → n ≤ 64 → AreFew (below n)
numbers-are n h = record { few = omega (arith, length-range_with_len 0 n, h) }

pub values-are : (family : Family) (n : ℕ) (s : Simplex) → n ≤ 4 → IsFamily family → IsSimplexWithin n 255 s → AreFew (values_for family s)
values-are (Agreement k) n s low h within = record {
  few = omega (arith, length-in_order nat_cmp (values_of s), length-map s (λ (v : Vertex). v.1), length-within n 255 s within, low);
}
values-are (Naming names) n s low h within = numbers-are names h

values-small : (family : Family) (n : ℕ) (s : Simplex) → IsFamily family → IsSimplexWithin n 63 s → All (λ x. x ≤ 63) (values_for family s)
values-small (Agreement k) n s h within =
    all_of_has (λ x. x ≤ 63) (in_order nat_cmp (values_of s))
    (λ x here. has_of_all (λ x. x ≤ 63) x (values_of s) within.values (has-in_order nat_cmp nat_cmp_total nat_cmp-Equal x (values_of s) here))
values-small (Naming names) n s h within = all_of_has (λ x. x ≤ 63) (below names) (λ x here. omega (arith, has-below x names here, h))

values-sorted : (family : Family) (s : Simplex) → IsStrictlySortedBy nat_cmp (values_for family s)
values-sorted (Agreement k) s = sorted-in_order nat_cmp nat_cmp_total nat_cmp-Equal (values_of s)
values-sorted (Naming names) s = sorted-below names

-- ---- tuples

-- as many values as the input has, each a value of a task whose words are all allowed
abbrev IsSmallTuple : ℕ → Tuple → Type 0
IsSmallTuple n t = (length t ≡ n) × All (λ x. x ≤ 63) t

tuple-is : (family : Family) (s : Simplex) (t : Tuple) → All (λ x. x ≤ 63) (values_for family s) → Has t (tuples_for family s) → IsSmallTuple (length s) t
tuple-is family s t values h =
    let list = has-lists_of t (values_for family s) (length s) (has-filter (allows family) t (lists_of (values_for family s) (length s)) h).0 in
    (list.0, all_of_has (λ x. x ≤ 63) t (λ x here. has_of_all (λ x. x ≤ 63) x (values_for family s) values (each_has (λ y. Has y (values_for family s)) x t list.1 here)))

image-within : (n : ℕ) (s : Simplex) (t : Tuple) → IsSimplexWithin n 63 s → IsSmallTuple (length s) t → IsSimplexWithin n 63 (zip (processes_of s) t)
image-within n s t h tuple =
    let small = All-weaker (λ x. x ≤ 63) (λ x. x ≤ 255) (λ x low. omega (arith, low)) t tuple.1 in
    let wide = zip_within n s t (within_more n 63 n 255 s (omega arith) (omega arith) h) (record { long = tuple.0; small = small }) in
    record {
      is_simplex = wide.is_simplex;
      processes = wide.processes;
      values = subst (All (λ x. x ≤ 63)) (sym (values_of_zip (processes_of s) t (tuple.0 ∙ sym (length-map s (λ (v : Vertex). v.0))))) tuple.1;
    }

tuples-sorted : (family : Family) (s : Simplex) → IsStrictlySortedBy (slice_cmp nat_cmp) (tuples_for family s)
tuples-sorted family s = IsStrictlySortedBy-filter (slice_cmp nat_cmp) (allows family) (lists_of (values_for family s) (length s)) (sorted-lists_of (values_for family s) (length s) (values-sorted family s))

-- ---- the task

abbrev pub rule_of_family : Family → Simplex → Rule
rule_of_family family s = record { input = s; tuples = tuples_for family s }

pub same_inputs : (family : Family) (ss : List Simplex) → map (λ (rule : Rule). rule.input) (map (rule_of_family family) ss) ≡ ss
same_inputs family [] = refl
same_inputs family (s ∷ ss) = ap (λ rest. s ∷ rest) (same_inputs family ss)

-- inputs of so many processes, and no more tuples than a task may have
pub record IsReady (n : ℕ) (family : Family) (inputs : List Simplex) : Type 0 where
  pub some : 1 ≤ n
  pub few : n ≤ most_processes
  pub is_family : IsFamily family
  pub complex : complex_of inputs ≡ inputs
  pub within : All (IsSimplexWithin n most_plain_value) inputs
  pub some_input : 0 < length inputs
  pub vertices : count_by (λ s. length s == 1) inputs ≤ most_vertices
  pub simplices : length inputs ≤ most_inputs
  pub tuples : sum_by (λ s. length (tuples_for family s)) inputs ≤ most_tuples

module _ (n : ℕ) (family : Family) (inputs : List Simplex) (h : IsReady n family inputs) where
  tuple-of : (s : Simplex) (t : Tuple) → Has s inputs → Has t (tuples_for family s) → IsSmallTuple (length s) t
  tuple-of s t here g = tuple-is family s t (values-small family n s h.is_family (has_of_all (IsSimplexWithin n 63) s inputs h.within here)) g

  images-within : All (IsSimplexWithin n 63) (images_of family inputs)
  images-within = all_of_has (IsSimplexWithin n 63) (images_of family inputs)
      (λ u here. (let i = has-images (tuples_for family) inputs u here in
      subst (IsSimplexWithin n 63) i.2.same (image-within n i.0 i.1 (has_of_all (IsSimplexWithin n 63) i.0 inputs h.within i.2.input) (tuple-of i.0 i.1 i.2.input i.2.decided))))

  rule-is : (s : Simplex) → Has s inputs → IsRule (complex_of (images_of family inputs)) (rule_of_family family s)
  rule-is s here = record {
    ascending = in_order-sorted (slice_cmp nat_cmp) nat_list_cmp_total tuple_cmp-Equal (tuples_for family s) (tuples-sorted family s);
    long = all_of_has (λ t. length t ≡ length s) (tuples_for family s) (λ t g. (tuple-of s t here g).0);
    listed = all_of_has (λ t. Contains (complex_of (images_of family inputs)) (zip (processes_of s) t)) (tuples_for family s)
        (λ t g. has_at_place (zip (processes_of s) t) (complex_of (images_of family inputs)) (listed t g));
  }
    where
      listed : (t : Tuple) → Has t (tuples_for family s) → Has (zip (processes_of s) t) (complex_of (images_of family inputs))
      listed t g =
          let image = images-has (tuples_for family) inputs s t here g in
          let within = has_of_all (IsSimplexWithin n 63) (zip (processes_of s) t) (images_of family inputs) images-within image in
          facet-in (zip (processes_of s) t) (images_of family inputs) image (nonempty_of_simplex (zip (processes_of s) t) within.is_simplex)

  pub task-is : (symmetric : Bool) → IsTask (task_for n symmetric family inputs)
  task-is symmetric =
      let inputs-are = subst (IsComplexWithin n most_plain_value) (sym (same_inputs family inputs)) (record { is_complex = h.complex; within = h.within }) in
      let outputs-are = complex_is n most_plain_value (images_of family inputs) images-within in record {
        decision = record {
          some_process = h.some;
          input_complex = on_processes n most_plain_value _ inputs-are;
          output_complex = on_processes n most_plain_value _ outputs-are;
          rules = All-map (IsRule (complex_of (images_of family inputs))) (rule_of_family family) inputs (all_of_has (λ s. IsRule (complex_of (images_of family inputs)) (rule_of_family family s)) inputs rule-is);
        };
        limits = record {
          processes = h.few;
          first_block = tt;
          input_values = up_to n most_plain_value _ inputs-are;
          output_values = up_to n most_plain_value _ outputs-are;
          some_input = omega (arith, h.some_input, length-map inputs (rule_of_family family));
          vertices = omega (arith, ap (count_by (λ (s : Simplex). length s == 1)) (same_inputs family inputs), h.vertices);
          inputs = omega (arith, h.simplices, length-map inputs (rule_of_family family));
          tuples = omega (arith, h.tuples, sum_by-map (λ (r : Rule). length r.tuples) (rule_of_family family) inputs);
        };
      }

-- ---- the parts of the task

pub few-images : (family : Family) (inputs : List Simplex) → sum_by (λ s. length (tuples_for family s)) inputs ≤ most_tuples → length (images_of family inputs) ≤ 65536
few-images family inputs few =
    omega (
      arith,
      length-flat_map (λ s. map (zip (processes_of s)) (tuples_for family s)) inputs,
      sum_by-le-sum_by (λ s. length (map (zip (processes_of s)) (tuples_for family s))) (λ s. length (tuples_for family s)) inputs (λ s. omega (arith, length-map (tuples_for family s) (zip (processes_of s)))),
      few,
    )

-- the tuples of the rules are those of the inputs
pub counted : (family : Family) (inputs : List Simplex) → sum_by (λ (rule : Rule). length rule.tuples) (map (rule_of_family family) inputs) ≡ sum_by (λ s. length (tuples_for family s)) inputs
counted family inputs = sum_by-map (λ (rule : Rule). length rule.tuples) (rule_of_family family) inputs

pub parts-task : (n : ℕ) (symmetric : Bool) (family : Family) (inputs images outputs : List Simplex) (tuples : List (List Tuple)) → tuples ≡ map (tuples_for family) inputs → images ≡ images_of family inputs → outputs ≡ complex_of images
    → task_of_parts n symmetric inputs tuples outputs ≡ task_for n symmetric family inputs
parts-task n symmetric family inputs images outputs tuples rows all complex =
    let rules = ap (rules_seen inputs) rows ∙ seen_by (tuples_for family) inputs in
    let faces = complex ∙ ap complex_of all in
    λ j. record { processes = n; symmetric = symmetric; least_block = None; delta = rules j; outputs = faces j }

pub rows-long : (family : Family) (s : Simplex) → All (λ t. length t ≡ length s) (tuples_for family s)
rows-long family s = all_of_has (λ t. length t ≡ length s) (tuples_for family s)
    (λ t here. (has-lists_of t (values_for family s) (length s) (has-filter (allows family) t (lists_of (values_for family s) (length s)) here).0).0)
