-- Which limits set agreement and renaming break.
use Rattle.std.proofs.Common.{◌≡◌, ℕ, zero, suc, ◌^◌, ◌<◌, ◌≤◌, ◌==◌, Bool, true, false, not, nat_lt, nat_le, List, [], ◌∷◌, length, map, zip, sum_by, count_by, All as Each, Result, Ok, Err, Option, None, Some, is_some, cond, take, ◌||◌, eqb-true, refl, sym, ap, ◌∙◌, subst, inl, inr, arith, ltb-true, lit≤}
use Rattle.std.proofs.Math.Nat.{one-le-pow}
use Rattle.std.proofs.lemmas.Bool.{lt-ltb, le-ltb, ltb-false, leb-true, and_from, and_parts}
use Rattle.std.proofs.lemmas.List.{length-map}
use Rattle.std.proofs.lemmas.List.FromFn.{length-range_with_len}
use Rattle.wf_model.specs.Lists.{below}
use Rattle.wf_model.specs.Presets as model
use Rattle.wf_model.specs.Presets.{input_facets, input_values, namings}
use Rattle.wf_model.specs.Simplex.{Simplex, Vertex, processes_of, values_of, is_nonempty, is_ascending, complex_of}
use Rattle.wf_model.specs.Task.{Task, IsTask, IsSimplexWithin, inputs}
use Rattle.wf_simplex.proofs.Lemmas.{Has, complex_of-complex_of, all_of_has, complex_within}
use Rattle.wf_task_parse.specs.declared.fault.TaskLimit.TheVariants as limit
use Rattle.wf_task_parse.specs.declared.fault.TaskFault.{TaskFault}
use Rattle.wf_task_parse.specs.declared.fault.TaskFault.TheVariants as fault
use Rattle.wf_task_presets.specs.declared.family.Family.TheVariants.{Agreement, Naming}
use Rattle.wf_task_parse.specs.RawTask.{◌>>=◌, Fails}
use Rattle.wf_task.specs.Judge.{refused_if, sizes_judged}
use Rattle.wf_task.specs.Canonical.{facets, HasFewFacets}
use Rattle.wf_task_presets.specs.Family.{tuples_for, images_of, at_most, task_for}
use Rattle.wf_task_presets.specs.declared.preset.Inputs.{Inputs}
use Rattle.wf_task_presets.specs.declared.preset.Inputs.TheVariants.{Own, All}
use Rattle.wf_task_presets.specs.Preset.{within_limits, inputs_judged, inputs_seen, has_processes, has_values, has_input_values, set_agreement_of, renaming_of}
use Rattle.wf_task_presets.proofs.AgreementOutputs.{agreement-outputs, agreement-facets, length-wholes, length-input_facets, few-own, facets-few, is_facet}
use Rattle.wf_task.proofs.Lemmas.{has-some, length-zip-same, processes-zip-same, nonempty-long, facet-in, has-map, has-below}
use Rattle.wf_task_presets.proofs.FamilyTasks.{rule_of_family, same_inputs, counted, task-is}
use Rattle.wf_task_presets.proofs.RenamingOutputs.{start, processes-start, renaming-outputs, many-facets}
use Rattle.wf_model.proofs.Lemmas.{values_of_zip}

-- ---- the limits of a task, one after another

abbrev pub vertex_count : List Simplex → ℕ
vertex_count complex = count_by (λ s. length s == 1) complex

module _ (t : Task) where
  pub outputs-broken : vertex_count (inputs t) ≤ 64 → length (inputs t) ≤ 4096 → 65536 < length (facets t.outputs) → within_limits t ≡ Err (fault.TooMany limit.Outputs)
  unfolding within_limits sizes_judged
  outputs-broken vertices simplices outputs =
      rw (le-ltb 64 (vertex_count (inputs t)) vertices) (rw (le-ltb 4096 (length (inputs t)) simplices) (rw (lt-ltb 65536 (length (facets t.outputs)) outputs) refl))

  pub tuples-broken : vertex_count (inputs t) ≤ 64 → length (inputs t) ≤ 4096 → length (facets t.outputs) ≤ 65536 → nat_lt 65536 (sum_by (λ rule. length rule.tuples) t.delta) ≡ true
      → within_limits t ≡ Err (fault.TooMany limit.Tuples)
  unfolding within_limits sizes_judged
  tuples-broken vertices simplices outputs tuples =
      rw (le-ltb 64 (vertex_count (inputs t)) vertices) (rw (le-ltb 4096 (length (inputs t)) simplices) (rw (le-ltb 65536 (length (facets t.outputs)) outputs) (rw tuples refl)))

  pub none-broken : vertex_count (inputs t) ≤ 64 → length (inputs t) ≤ 4096 → length (facets t.outputs) ≤ 65536 → nat_lt 65536 (sum_by (λ rule. length rule.tuples) t.delta) ≡ false → within_limits t ≡ Ok t
  unfolding within_limits sizes_judged
  none-broken vertices simplices outputs tuples =
      rw (le-ltb 64 (vertex_count (inputs t)) vertices) (rw (le-ltb 4096 (length (inputs t)) simplices) (rw (le-ltb 65536 (length (facets t.outputs)) outputs) (rw tuples refl)))

  pub inputs-broken : (e : TaskFault) → inputs_judged (inputs t) ≡ Err e → within_limits t ≡ Err e
  unfolding within_limits sizes_judged inputs_judged
  inputs-broken e h = by (nat_lt 64 (vertex_count (inputs t))) (nat_lt 4096 (length (inputs t))) h
    where
      rest : Result (Unit {0}) TaskFault
      rest = refused_if (nat_lt 65536 (length (facets t.outputs))) (fault.TooMany limit.Outputs) >>= λ _. refused_if (nat_lt 65536 (sum_by (λ rule. length rule.tuples) t.delta)) (fault.TooMany limit.Tuples)

      by : (a b : Bool) → (refused_if a (fault.TooMany limit.Vertices) >>= λ _. refused_if b (fault.TooMany limit.Simplices) >>= λ _. Ok (inputs t)) ≡ Err e
          → ((refused_if a (fault.TooMany limit.Vertices) >>= λ _. refused_if b (fault.TooMany limit.Simplices) >>= λ _. rest) >>= λ _. Ok t) ≡ Err e
      by true b h = cc
      by false true h = cc
      by false false h = cc

-- what is known of inputs that break no limit
pub record AreAccepted (complex made : List Simplex) : Type 0 where
  pub same : made ≡ complex
  pub vertices : vertex_count complex ≤ 64
  pub simplices : length complex ≤ 4096

pub accepted : (complex made : List Simplex) → inputs_judged complex ≡ Ok made → AreAccepted complex made
unfolding inputs_judged
accepted complex made h = by (nat_lt 64 (vertex_count complex)) (nat_lt 4096 (length complex)) refl refl h
  where
    by : (a b : Bool) → nat_lt 64 (vertex_count complex) ≡ a → nat_lt 4096 (length complex) ≡ b
        → (refused_if a (fault.TooMany limit.Vertices) >>= λ _. refused_if b (fault.TooMany limit.Simplices) >>= λ _. Ok complex) ≡ Ok made → AreAccepted complex made
    by true b v s h = cc
    by false true v s h = cc
    by false false v s h = record { same = same h; vertices = ltb-false 64 (vertex_count complex) v; simplices = ltb-false 4096 (length complex) s }
      where
        same : ◌≡◌ {A = Result (List Simplex) TaskFault} (Ok complex) (Ok made) → made ≡ complex
        same e = cc

-- inputs with too many vertices or simplices
pub vertices-refused : (complex : List Simplex) → 64 < vertex_count complex → inputs_judged complex ≡ Err (fault.TooMany limit.Vertices)
unfolding inputs_judged
vertices-refused complex h = rw (lt-ltb 64 (vertex_count complex) h) refl

pub simplices-refused : (complex : List Simplex) → vertex_count complex ≤ 64 → 4096 < length complex → inputs_judged complex ≡ Err (fault.TooMany limit.Simplices)
unfolding inputs_judged
simplices-refused complex h g = rw (le-ltb 64 (vertex_count complex) h) (rw (lt-ltb 4096 (length complex) g) refl)

pub inputs-accepted : (complex : List Simplex) → vertex_count complex ≤ 64 → length complex ≤ 4096 → inputs_judged complex ≡ Ok complex
unfolding inputs_judged
inputs-accepted complex h g = rw (le-ltb 64 (vertex_count complex) h) (rw (le-ltb 4096 (length complex) g) refl)

-- ---- set agreement

abbrev pub agreement_inputs : ℕ → model.Inputs → List Simplex
agreement_inputs n choice = complex_of (input_facets n choice)

pub agreement-task : (n k : ℕ) (choice : model.Inputs) → 1 ≤ n → task_for n false (Agreement k) (agreement_inputs n choice) ≡ model.set_agreement n k choice
agreement-task n k choice some =
    ap (λ outputs. record { processes = n; symmetric = false; least_block = None; delta = map (rule_of_family (Agreement k)) (agreement_inputs n choice); outputs = outputs }) (agreement-outputs n k choice some)

ascending-below : (n : ℕ) → n ≤ 4 → is_ascending (below n) ≡ true
ascending-below zero h = refl
ascending-below (suc zero) h = refl
ascending-below (suc (suc zero)) h = refl
ascending-below (suc (suc (suc zero))) h = refl
ascending-below (suc (suc (suc (suc zero)))) h = refl
ascending-below (suc (suc (suc (suc (suc n))))) h = absurd (let none : ⊥ = omega (arith, h) in none)

-- values for the processes below n
values-within : (n : ℕ) (v : List ℕ) → 1 ≤ n → n ≤ 4 → length v ≡ n → ((x : ℕ) → Has x v → x ≤ 63) → IsSimplexWithin n 63 (zip (below n) v)
values-within n v some few long small =
    let beside : length v ≡ length (below n) = long ∙ sym (length-range_with_len 0 n) in
    record {
      is_simplex = and_from (is_nonempty (zip (below n) v)) (is_ascending (processes_of (zip (below n) v)))
          (nonempty-long (zip (below n) v) (omega (arith, length-zip-same (below n) v beside, length-range_with_len 0 n, some)))
          (ap is_ascending (processes-zip-same (below n) v beside) ∙ ascending-below n few);
      processes = subst (Each (λ p. p < n)) (sym (processes-zip-same (below n) v beside)) (all_of_has (λ p. p < n) (below n) (λ p h. has-below p n h));
      values = subst (Each (λ x. x ≤ 63)) (sym (values_of_zip (below n) v beside)) (all_of_has (λ x. x ≤ 63) v small);
    }

-- numbers of values that are accepted
abbrev pub IsChoice : model.Inputs → Type 0
IsChoice model.own = Unit {0}
IsChoice (model.all m) = (1 ≤ m) × (m ≤ 64)

input-small : (n : ℕ) (choice : model.Inputs) (x : ℕ) → n ≤ 4 → IsChoice choice → Has x (input_values n choice) → x ≤ 63
input-small n model.own x few h here = omega (arith, has-below x n here, few)
input-small n (model.all m) x few h here = omega (arith, has-below x m here, h.1)

some-inputs : (n : ℕ) (choice : model.Inputs) → 1 ≤ n → n ≤ 4 → IsChoice choice → 0 < length (agreement_inputs n choice)
some-inputs n model.own some few h =
    has-some (zip (below n) (below n)) (agreement_inputs n model.own)
    (facet-in (zip (below n) (below n)) (zip (below n) (below n) ∷ []) (inl refl)
    (nonempty-long (zip (below n) (below n)) (omega (arith, length-zip-same (below n) (below n) refl, length-range_with_len 0 n, some))))
some-inputs n (model.all m) some few h = omega (arith, facets-few n m some, one-le-pow n m (omega (arith, h.0)))

few-outputs : (n k : ℕ) (choice : model.Inputs) → 1 ≤ n → n ≤ 4 → length (agreement_inputs n choice) ≤ 4096 → length (facets (model.set_agreement n k choice).outputs) ≤ 65536
few-outputs n k model.own some few simplices =
    omega (arith, ap length (agreement-facets n k model.own some), length-wholes n k model.own, ap (λ m. m ^ n) (length-range_with_len 0 n), few-own n few)
few-outputs n k (model.all m) some few simplices =
    omega (arith, ap length (agreement-facets n k (model.all m) some), length-wholes n k (model.all m), ap (λ w. w ^ n) (length-range_with_len 0 m), facets-few n m some, simplices)

-- inputs that were accepted
pub record IsMade (n : ℕ) (choice : model.Inputs) (made : List Simplex) : Type 0 where
  pub some : 1 ≤ n
  pub few : n ≤ 4
  pub is_choice : IsChoice choice
  pub judged : inputs_judged (agreement_inputs n choice) ≡ Ok made

module _ (n k : ℕ) (choice : model.Inputs) (made : List Simplex) (h : IsMade n choice made) where
  agreement-known : AreAccepted (inputs (model.set_agreement n k choice)) made
  agreement-known =
      let known = accepted (agreement_inputs n choice) made h.judged in
      subst (λ c. AreAccepted c made) (sym (same_inputs (Agreement k) (agreement_inputs n choice))) known

  pub agreement-refused : nat_lt 65536 (sum_by (λ s. length (tuples_for (Agreement k) s)) made) ≡ true → within_limits (model.set_agreement n k choice) ≡ Err (fault.TooMany limit.Tuples)
  agreement-refused more =
      let known = accepted (agreement_inputs n choice) made h.judged in
      let same = agreement-known in
      tuples-broken (model.set_agreement n k choice) same.vertices same.simplices (few-outputs n k choice h.some h.few known.simplices)
      (ap (nat_lt 65536) (counted (Agreement k) (agreement_inputs n choice)) ∙ ap (λ c. nat_lt 65536 (sum_by (λ s. length (tuples_for (Agreement k) s)) c)) (sym known.same) ∙ more)

  pub agreement-made : nat_lt 65536 (sum_by (λ s. length (tuples_for (Agreement k) s)) made) ≡ false → within_limits (model.set_agreement n k choice) ≡ Ok (task_for n false (Agreement k) made)
  agreement-made none =
      let known = accepted (agreement_inputs n choice) made h.judged in
      let same = agreement-known in
      none-broken (model.set_agreement n k choice) same.vertices same.simplices (few-outputs n k choice h.some h.few known.simplices)
      (ap (nat_lt 65536) (counted (Agreement k) (agreement_inputs n choice)) ∙ ap (λ c. nat_lt 65536 (sum_by (λ s. length (tuples_for (Agreement k) s)) c)) (sym known.same) ∙ none)
      ∙ ap Ok (sym (agreement-task n k choice h.some) ∙ ap (task_for n false (Agreement k)) (sym known.same))

  pub agreement-is-task : nat_lt 65536 (sum_by (λ s. length (tuples_for (Agreement k) s)) made) ≡ false → IsTask (task_for n false (Agreement k) made)
  agreement-is-task none =
      let known = accepted (agreement_inputs n choice) made h.judged in
      task-is n (Agreement k) made (record {
        some = h.some;
        few = h.few;
        is_family = tt;
        complex = subst (λ c. complex_of c ≡ c) (sym known.same) (complex_of-complex_of (input_facets n choice));
        within = subst (Each (IsSimplexWithin n 63)) (sym known.same) (complex_within n 63 (input_facets n choice) (all_of_has (IsSimplexWithin n 63) (input_facets n choice)
            (λ f here. (let v = is_facet n choice f here in subst (IsSimplexWithin n 63) v.1.same (values-within n v.0 h.some h.few v.1.long (λ x g. input-small n choice x h.few h.is_choice (v.1.values x g)))))));
        some_input = subst (λ c. 0 < length c) (sym known.same) (some-inputs n choice h.some h.few h.is_choice);
        vertices = subst (λ c. vertex_count c ≤ 64) (sym known.same) known.vertices;
        simplices = subst (λ c. length c ≤ 4096) (sym known.same) known.simplices;
        tuples = ltb-false 65536 (sum_by (λ s. length (tuples_for (Agreement k) s)) made) none;
      }) false

  pub agreement-few : HasFewFacets (complex_of (images_of (Agreement k) made))
  agreement-few =
      let known = accepted (agreement_inputs n choice) made h.judged in
      let outputs = ap (λ c. complex_of (images_of (Agreement k) c)) known.same ∙ agreement-outputs n k choice h.some in
      subst HasFewFacets (sym outputs) (few-outputs n k choice h.some h.few known.simplices)

-- ---- renaming

abbrev pub renaming_inputs : ℕ → List Simplex
renaming_inputs n = complex_of (start n ∷ [])

pub renaming-task : (n names : ℕ) → task_for n true (Naming names) (renaming_inputs n) ≡ model.renaming n names
renaming-task n names =
    ap (λ outputs. record { processes = n; symmetric = true; least_block = None; delta = map (rule_of_family (Naming names)) (renaming_inputs n); outputs = outputs }) (renaming-outputs n names)

few-renaming_inputs : (n : ℕ) → n ≤ 4 → (vertex_count (renaming_inputs n) ≤ 64) × (length (renaming_inputs n) ≤ 4096)
few-renaming_inputs zero h = (lit≤ tt, lit≤ tt)
few-renaming_inputs (suc zero) h = (lit≤ tt, lit≤ tt)
few-renaming_inputs (suc (suc zero)) h = (lit≤ tt, lit≤ tt)
few-renaming_inputs (suc (suc (suc zero))) h = (lit≤ tt, lit≤ tt)
few-renaming_inputs (suc (suc (suc (suc zero)))) h = (lit≤ tt, lit≤ tt)
few-renaming_inputs (suc (suc (suc (suc (suc n))))) h = absurd (let none : ⊥ = omega (arith, h) in none)

pub start-within : (n : ℕ) → 1 ≤ n → n ≤ 4 → IsSimplexWithin n 63 (start n)
start-within n some few = record {
  is_simplex = and_from (is_nonempty (start n)) (is_ascending (processes_of (start n)))
      (nonempty-long (start n) (omega (arith, length-map (below n) (λ (p : ℕ). let v : Vertex = (p, 0) in v), length-range_with_len 0 n, some)))
      (ap is_ascending (processes-start (below n)) ∙ ascending-below n few);
  processes = subst (Each (λ p. p < n)) (sym (processes-start (below n))) (all_of_has (λ p. p < n) (below n) (λ p h. has-below p n h));
  values = all_of_has (λ x. x ≤ 63) (values_of (start n)) (λ x h. (let v = has-map (λ (w : Vertex). w.1) x (start n) h in
      let p = has-map (λ (q : ℕ). let w : Vertex = (q, 0) in w) v.0 (below n) v.1 in omega (arith, v.2, ap (λ (w : Vertex). w.1) p.2)));
}

-- how many there are
pub record IsNamed (n names : ℕ) : Type 0 where
  pub some : 1 ≤ n
  pub few : n ≤ 4
  pub some_name : 1 ≤ names
  pub few_names : names ≤ 64

pub length-start : (n : ℕ) → length (start n) ≡ n
length-start n = length-map (below n) (λ (p : ℕ). let v : Vertex = (p, 0) in v) ∙ length-range_with_len 0 n

module _ (n names : ℕ) (h : IsNamed n names) where
  renaming-vertices : vertex_count (inputs (model.renaming n names)) ≤ 64
  renaming-vertices = omega (arith, ap vertex_count (same_inputs (Naming names) (renaming_inputs n)), (few-renaming_inputs n h.few).0)

  renaming-simplices : length (inputs (model.renaming n names)) ≤ 4096
  renaming-simplices = omega (arith, ap length (same_inputs (Naming names) (renaming_inputs n)), (few-renaming_inputs n h.few).1)

  facets-counted : nat_lt 65536 (length (facets (model.renaming n names).outputs)) ≡ nat_lt 65536 (length (tuples_for (Naming names) (start n)))
  facets-counted = many-facets n names 65536 h.some h.few h.some_name (lit≤ tt) ∙ ap (λ size. nat_lt 65536 (length (namings names size))) (sym (length-start n))

  pub renaming-outputs-refused : nat_lt 65536 (length (tuples_for (Naming names) (start n))) ≡ true → within_limits (model.renaming n names) ≡ Err (fault.TooMany limit.Outputs)
  renaming-outputs-refused more = outputs-broken (model.renaming n names) renaming-vertices renaming-simplices (ltb-true 65536 (length (facets (model.renaming n names).outputs)) (facets-counted ∙ more))

  few-facets : nat_lt 65536 (length (tuples_for (Naming names) (start n))) ≡ false → length (facets (model.renaming n names).outputs) ≤ 65536
  few-facets none = ltb-false 65536 (length (facets (model.renaming n names).outputs)) (facets-counted ∙ none)

  pub renaming-few : (made : List Simplex) → made ≡ renaming_inputs n → nat_lt 65536 (length (tuples_for (Naming names) (start n))) ≡ false → HasFewFacets (complex_of (images_of (Naming names) made))
  renaming-few made same none =
      subst HasFewFacets (sym (ap (λ c. complex_of (images_of (Naming names) c)) same ∙ renaming-outputs n names)) (few-facets none)

  pub renaming-refused : (made : List Simplex) → made ≡ renaming_inputs n → nat_lt 65536 (length (tuples_for (Naming names) (start n))) ≡ false
      → nat_lt 65536 (sum_by (λ s. length (tuples_for (Naming names) s)) made) ≡ true → within_limits (model.renaming n names) ≡ Err (fault.TooMany limit.Tuples)
  renaming-refused made same outputs more =
      tuples-broken (model.renaming n names) renaming-vertices renaming-simplices (few-facets outputs)
      (ap (nat_lt 65536) (counted (Naming names) (renaming_inputs n)) ∙ ap (λ c. nat_lt 65536 (sum_by (λ s. length (tuples_for (Naming names) s)) c)) (sym same) ∙ more)

  pub renaming-made : (made : List Simplex) → made ≡ renaming_inputs n → nat_lt 65536 (length (tuples_for (Naming names) (start n))) ≡ false
      → nat_lt 65536 (sum_by (λ s. length (tuples_for (Naming names) s)) made) ≡ false → within_limits (model.renaming n names) ≡ Ok (task_for n true (Naming names) made)
  renaming-made made same outputs none =
      none-broken (model.renaming n names) renaming-vertices renaming-simplices (few-facets outputs)
      (ap (nat_lt 65536) (counted (Naming names) (renaming_inputs n)) ∙ ap (λ c. nat_lt 65536 (sum_by (λ s. length (tuples_for (Naming names) s)) c)) (sym same) ∙ none)
      ∙ ap Ok (sym (renaming-task n names) ∙ ap (task_for n true (Naming names)) (sym same))

  pub renaming-is-task : (made : List Simplex) → made ≡ renaming_inputs n → nat_lt 65536 (sum_by (λ s. length (tuples_for (Naming names) s)) made) ≡ false → IsTask (task_for n true (Naming names) made)
  renaming-is-task made same none =
      task-is n (Naming names) made (record {
        some = h.some;
        few = h.few;
        is_family = h.few_names;
        complex = subst (λ c. complex_of c ≡ c) (sym same) (complex_of-complex_of (start n ∷ []));
        within = subst (Each (IsSimplexWithin n 63)) (sym same) (complex_within n 63 (start n ∷ []) (all_of_has (IsSimplexWithin n 63) (start n ∷ []) (λ f here. elim here [ inl e ↦ subst (IsSimplexWithin n 63) e (start-within n h.some h.few) | inr no_way ↦ absurd no_way ])));
        some_input = subst (λ c. 0 < length c) (sym same) (has-some (start n) (renaming_inputs n) (facet-in (start n) (start n ∷ []) (inl refl) (nonempty-long (start n) (omega (arith, length-start n, h.some)))));
        vertices = subst (λ c. vertex_count c ≤ 64) (sym same) (few-renaming_inputs n h.few).0;
        simplices = subst (λ c. length c ≤ 4096) (sym same) (few-renaming_inputs n h.few).1;
        tuples = ltb-false 65536 (sum_by (λ s. length (tuples_for (Naming names) s)) made) none;
      }) true

-- ---- before the task

pub bounds : (n : ℕ) → has_processes n ≡ true → (1 ≤ n) × (n ≤ 4)
bounds n h = let parts = and_parts (nat_le 1 n) (nat_le n 4) h in (leb-true 1 n parts.0, leb-true n 4 parts.1)

pub value_bounds : (m : ℕ) → has_values m ≡ true → (1 ≤ m) × (m ≤ 64)
value_bounds m h = let parts = and_parts (nat_le 1 m) (nat_le m 64) h in (leb-true 1 m parts.0, leb-true m 64 parts.1)

pub choice_bounds : (choice : Inputs) → has_input_values choice ≡ true → IsChoice (inputs_seen choice)
choice_bounds Own h = tt
choice_bounds (All m) h = value_bounds m h

pub agreement-processes : (n k : ℕ) (choice : Inputs) → has_processes n ≡ false → set_agreement_of n k choice ≡ Err fault.Processes
unfolding set_agreement_of
agreement-processes n k choice h = rw h refl

pub agreement-value : (n k : ℕ) (choice : Inputs) → has_processes n ≡ true → ((k == 0) || not (has_input_values choice)) ≡ true → set_agreement_of n k choice ≡ Err fault.Value
unfolding set_agreement_of
agreement-value n k choice h g = rw h (rw g refl)

pub agreement-judged : (n k : ℕ) (choice : Inputs) → has_processes n ≡ true → ((k == 0) || not (has_input_values choice)) ≡ false → set_agreement_of n k choice ≡ within_limits (model.set_agreement n k (inputs_seen choice))
unfolding set_agreement_of
agreement-judged n k choice h g = rw h (rw g refl)

pub no-value : (k : ℕ) (choice : Inputs) → (k ≡ 0 → ⊥) → has_input_values choice ≡ true → ((k == 0) || not (has_input_values choice)) ≡ false
no-value k choice some h = by (k == 0) refl
  where
    by : (b : Bool) → (k == 0) ≡ b → (b || not (has_input_values choice)) ≡ false
    by true is = absurd (some (eqb-true k 0 is))
    by false is = rw h refl

pub renaming-processes : (n names : ℕ) → has_processes n ≡ false → renaming_of n names ≡ Err fault.Processes
unfolding renaming_of
renaming-processes n names h = rw h refl

pub renaming-value : (n names : ℕ) → has_processes n ≡ true → has_values names ≡ false → renaming_of n names ≡ Err fault.Value
unfolding renaming_of
renaming-value n names h g = rw h (rw g refl)

pub renaming-judged : (n names : ℕ) → has_processes n ≡ true → has_values names ≡ true → renaming_of n names ≡ within_limits (model.renaming n names)
unfolding renaming_of
renaming-judged n names h g = rw h (rw g refl)

-- what refuses the inputs refuses the task
pub refused-through : (t : Task) (complex : List Simplex) (e : TaskFault) (judged : Result Task TaskFault) → inputs t ≡ complex → judged ≡ within_limits t → Fails e (inputs_judged complex) → Fails e judged
refused-through t complex fault.OutOfMemory judged same is h = tt
refused-through t complex e judged same is h = is ∙ inputs-broken t e (ap inputs_judged same ∙ h)

pub named-bounds : (n names : ℕ) → has_processes n ≡ true → has_values names ≡ true → IsNamed n names
named-bounds n names h g = record { some = (bounds n h).0; few = (bounds n h).1; some_name = (value_bounds names g).0; few_names = (value_bounds names g).1 }

-- ---- the count of names

pub counted_more : (o : Option ℕ) (most n : ℕ) → o ≡ at_most most n → is_some o ≡ false → nat_lt most n ≡ true
counted_more o most n is h = by (nat_lt most n) refl
  where
    by : (b : Bool) → nat_lt most n ≡ b → b ≡ true
    by true e = refl
    by false e = let there : is_some o ≡ true = ap is_some (is ∙ ap (λ b. let x : Option ℕ = cond b None (Some n) in x) e) in let none : true ≡ false = sym there ∙ h in cc

pub counted_few : (o : Option ℕ) (most n : ℕ) → o ≡ at_most most n → is_some o ≡ true → nat_lt most n ≡ false
counted_few o most n is h = by (nat_lt most n) refl
  where
    by : (b : Bool) → nat_lt most n ≡ b → b ≡ false
    by true e = let absent : is_some o ≡ false = ap is_some (is ∙ ap (λ b. let x : Option ℕ = cond b None (Some n) in x) e) in let none : true ≡ false = sym h ∙ absent in cc
    by false e = refl

-- ---- the inputs

pub facets-within : (n : ℕ) (choice : model.Inputs) → 1 ≤ n → length (input_facets n choice) ≤ length (agreement_inputs n choice)
facets-within n model.own some =
    has-some (zip (below n) (below n)) (agreement_inputs n model.own)
    (facet-in (zip (below n) (below n)) (zip (below n) (below n) ∷ []) (inl refl)
    (nonempty-long (zip (below n) (below n)) (omega (arith, length-zip-same (below n) (below n) refl, length-range_with_len 0 n, some))))
facets-within n (model.all m) some = omega (arith, length-input_facets n m, facets-few n m some)

pub first_four : (n : ℕ) → n ≤ 4 → take n ((0, 0) ∷ (1, 0) ∷ (2, 0) ∷ (3, 0) ∷ []) ≡ start n
first_four zero h = refl
first_four (suc zero) h = refl
first_four (suc (suc zero)) h = refl
first_four (suc (suc (suc zero))) h = refl
first_four (suc (suc (suc (suc zero)))) h = refl
first_four (suc (suc (suc (suc (suc n))))) h = absurd (let none : ⊥ = omega (arith, h) in none)

pub own_values : (n : ℕ) → n ≤ 4 → take n (0 ∷ 1 ∷ 2 ∷ 3 ∷ []) ≡ below n
own_values zero h = refl
own_values (suc zero) h = refl
own_values (suc (suc zero)) h = refl
own_values (suc (suc (suc zero))) h = refl
own_values (suc (suc (suc (suc zero)))) h = refl
own_values (suc (suc (suc (suc (suc n))))) h = absurd (let none : ⊥ = omega (arith, h) in none)
