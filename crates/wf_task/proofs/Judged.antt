-- What the judged numbers tell: each listed simplex is one, within the bounds.
use Rattle.std.proofs.Common.{◌≡◌, ℕ, ◌≤◌, Bool, true, false, not, ◌&&◌, ◌||◌, ◌==◌, nat_lt, nat_le, List, [], ◌∷◌, All, Option, None, Some, Result, Ok, refl, arith, leb-true, ltb-false}
use Rattle.std.specs.List.{list_any, list_all}
use Rattle.std.proofs.lemmas.Bool.{and_parts, and_from, or_parts, not-false}
use Rattle.std.proofs.lemmas.List.Elements.{All-nil, All-cons, All-head, All-tail}
use Rattle.wf_model.specs.Simplex.{Simplex, processes_of, values_of, is_nonempty, is_ascending}
use Rattle.wf_model.specs.Task.{IsSimplexWithin, largest_value}
use Rattle.wf_simplex.proofs.Lemmas.{low_processes}
use Rattle.wf_task_parse.specs.declared.fault.TaskFault.{TaskFault}
use Rattle.wf_task_parse.specs.declared.fault.TaskFault.TheVariants as fault
use Rattle.wf_task_parse.specs.RawTask.{Listed, ◌>>=◌}
use Rattle.wf_task.specs.Judge.{is_large, has_large, rule_has_large, some_large, names_processes, all_processes_named, refused_if, numbers_judged}

-- a refusal that did not come
pub passed : {A : Type 0} (b : Bool) (e : TaskFault) (next : Unit {0} → Result A TaskFault) (x : A) → (refused_if b e >>= next) ≡ Ok x → (b ≡ false) × (next tt ≡ Ok x)
passed true e next x h = cc
passed false e next x h = (refl, h)

pub passed_last : (b : Bool) (e : TaskFault) (u : Unit {0}) → refused_if b e ≡ Ok u → b ≡ false
passed_last true e u h = cc
passed_last false e u h = refl

-- what the numbers of a draft without a fault of 4 to 7 are
pub record AreJudged (listed : Listed) : Type 0 where
  pub some : 1 ≤ listed.processes
  pub few : listed.processes ≤ 4
  pub small : some_large listed ≡ false
  pub named : all_processes_named listed ≡ true

pub are_judged : (listed : Listed) (u : Unit {0}) → numbers_judged listed ≡ Ok u → AreJudged listed
unfolding numbers_judged
are_judged listed u h =
    let a = passed (not (listed.version == 1 || listed.version == 2)) fault.Version _ u h in
    let b = passed (not (nat_le 1 listed.processes && nat_le listed.processes 4)) fault.Processes _ u a.1 in
    let c = passed (some_large listed) fault.Value _ u b.1 in
    let d = passed_last (not (all_processes_named listed)) fault.Colours u c.1 in
    let within = not-false (nat_le 1 listed.processes && nat_le listed.processes 4) b.0 in
    record {
      some = leb-true 1 listed.processes (and_parts (nat_le 1 listed.processes) (nat_le listed.processes 4) within).0;
      few = leb-true listed.processes 4 (and_parts (nat_le 1 listed.processes) (nat_le listed.processes 4) within).1;
      small = c.0;
      named = not-false (all_processes_named listed) d;
    }

-- ---- one simplex

pub small_values : (m : ℕ) (xs : List ℕ) → list_any (is_large m) xs ≡ false → All (λ x. x ≤ m) xs
small_values m [] h = All-nil (λ x. x ≤ m)
small_values m (x ∷ xs) h =
    All-cons (λ x. x ≤ m) x xs (ltb-false m x (or_parts (nat_lt m x) (list_any (is_large m) xs) h).0) (small_values m xs (or_parts (nat_lt m x) (list_any (is_large m) xs) h).1)

pub within : (n m : ℕ) (s : Simplex) → is_nonempty s ≡ true → has_large m s ≡ false → names_processes n s ≡ true → IsSimplexWithin n m s
within n m s some small named = record {
  is_simplex = and_from (is_nonempty s) (is_ascending (processes_of s)) some (and_parts (is_ascending (processes_of s)) (list_all (λ p. nat_lt p n) (processes_of s)) named).0;
  processes = low_processes n (processes_of s) (and_parts (is_ascending (processes_of s)) (list_all (λ p. nat_lt p n) (processes_of s)) named).1;
  values = small_values m (values_of s) small;
}

-- each simplex of a list
pub all_within : (n m : ℕ) (ss : List Simplex) → All (λ s. is_nonempty s ≡ true) ss → list_any (has_large m) ss ≡ false → list_all (names_processes n) ss ≡ true → All (IsSimplexWithin n m) ss
all_within n m [] some small named = All-nil (IsSimplexWithin n m)
all_within n m (s ∷ ss) some small named =
    All-cons (IsSimplexWithin n m) s ss
    (within n m s (All-head (λ s. is_nonempty s ≡ true) s ss some) (or_parts (has_large m s) (list_any (has_large m) ss) small).0 (and_parts (names_processes n s) (list_all (names_processes n) ss) named).0)
    (all_within n m ss (All-tail (λ s. is_nonempty s ≡ true) s ss some) (or_parts (has_large m s) (list_any (has_large m) ss) small).1 (and_parts (names_processes n s) (list_all (names_processes n) ss) named).1)

-- the largest value of a draft
abbrev pub limit_of : Listed → ℕ
limit_of listed = largest_value listed.least_block

-- no task has a larger value
pub limit-few : (o : Option ℕ) → largest_value o ≤ 255
limit-few None = omega arith
limit-few (Some m) = omega arith

pub inputs_within : (listed : Listed) → AreJudged listed → All (λ s. is_nonempty s ≡ true) listed.inputs → All (IsSimplexWithin listed.processes (limit_of listed)) listed.inputs
inputs_within listed h some =
    let m = limit_of listed in
    all_within listed.processes m listed.inputs some
    (or_parts (list_any (has_large m) listed.inputs) (list_any (has_large m) listed.outputs) (or_parts (list_any (has_large m) listed.inputs || list_any (has_large m) listed.outputs) (list_any (rule_has_large m) listed.delta) h.small).0).0
    (and_parts (list_all (names_processes listed.processes) listed.inputs) (list_all (names_processes listed.processes) listed.outputs)
    (and_parts (list_all (names_processes listed.processes) listed.inputs && list_all (names_processes listed.processes) listed.outputs) (list_all (λ rule. names_processes listed.processes rule.input) listed.delta) h.named).0).0

pub outputs_within : (listed : Listed) → AreJudged listed → All (λ s. is_nonempty s ≡ true) listed.outputs → All (IsSimplexWithin listed.processes (limit_of listed)) listed.outputs
outputs_within listed h some =
    let m = limit_of listed in
    all_within listed.processes m listed.outputs some
    (or_parts (list_any (has_large m) listed.inputs) (list_any (has_large m) listed.outputs) (or_parts (list_any (has_large m) listed.inputs || list_any (has_large m) listed.outputs) (list_any (rule_has_large m) listed.delta) h.small).0).1
    (and_parts (list_all (names_processes listed.processes) listed.inputs) (list_all (names_processes listed.processes) listed.outputs)
    (and_parts (list_all (names_processes listed.processes) listed.inputs && list_all (names_processes listed.processes) listed.outputs) (list_all (λ rule. names_processes listed.processes rule.input) listed.delta) h.named).0).1
