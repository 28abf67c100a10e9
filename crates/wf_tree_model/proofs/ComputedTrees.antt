-- A test, to be computed, that a tree is an obstruction.
use Rattle.std.proofs.Common.{◌≡◌, ℕ, ◌+◌, ◌%◌, ◌==◌, ◌&&◌, nat_le, nat_lt, not, Bool, true, false, List, [], ◌∷◌, length, All, Contains, None}
use Rattle.std.specs.List.{list_all}
use Rattle.std.proofs.lemmas.Bool.{and_parts, eqb-true, false≢true, leb-true, ltb-true, not-true}
use Rattle.std.proofs.lemmas.List.Elements.{All-from_recursion}
use Rattle.wf_model.specs.Task.{Rule, Task, Tuple, first_block}
use Rattle.wf_model.specs.DecisionMap.{HasNoDecisionMap}
use Rattle.wf_tree_model.specs.Counting.Rules.{rule_at}
use Rattle.wf_tree_model.proofs.OfCounting.Lemmas.{listed_rule, is_task, passes_task, each, each_passes}
use Rattle.wf_tree_model.specs.Balance.{IsBalance, IsMultiplier, Multiplier, counts_nothing, input_of, weight_of_vertices}
use Rattle.wf_tree_model.specs.Cases.{components, in_case}
use Rattle.wf_tree_model.specs.Covers.{Covering, IsCovering, covered, is_flat}
use Rattle.wf_tree_model.specs.Splits.{by_stars, split}
use Rattle.wf_tree_model.specs.Trees.{AreTrees, IsTree, Tree, Trees, balance, by_cases, by_cover, by_sheets, by_split, new_name, no_tree, tree_before}
use Rattle.wf_tree_model.proofs.TreesLeaveNoMap.{obstruction_leaves_no_map}

all_pass : {X : Type 0} (test : X → Bool) (P : X → Type 0) → ((x : X) → test x ≡ true → P x) → (xs : List X) → list_all test xs ≡ true → All P xs
all_pass test P from xs h = All-from_recursion P xs (each (λ x. test x ≡ true) P from xs (each_passes test xs h))

-- ---- balances

abbrev passes_multiplier : Task → ℕ → Multiplier → Bool
passes_multiplier t modulus x =
    (nat_lt x.simplex (length t.delta) && nat_lt x.place (length (input_of t x))) && ((length x.others + 1 == length (input_of t x)) && (nat_lt 0 x.weight && nat_lt x.weight modulus))

abbrev passes_rule : Task → ℕ → List Multiplier → Rule → Bool
passes_rule t modulus xs rule = list_all (counts_nothing t modulus xs rule.input) rule.tuples

abbrev passes_balance : Task → ℕ → ℕ → List Multiplier → Bool
passes_balance t modulus sum xs =
    nat_lt 0 sum && (list_all (passes_multiplier t modulus) xs && ((weight_of_vertices t xs % modulus == sum) && list_all (passes_rule t modulus xs) t.delta))

multiplier_is : (t : Task) (modulus : ℕ) (x : Multiplier) → passes_multiplier t modulus x ≡ true → IsMultiplier t modulus x
multiplier_is t modulus x h =
    let n = length (input_of t x) in
    let range = nat_lt 0 x.weight && nat_lt x.weight modulus in
    let a = and_parts (nat_lt x.simplex (length t.delta) && nat_lt x.place n) ((length x.others + 1 == n) && range) h in
    let b = and_parts (nat_lt x.simplex (length t.delta)) (nat_lt x.place n) a.0 in
    let c = and_parts (length x.others + 1 == n) range a.1 in
    let d = and_parts (nat_lt 0 x.weight) (nat_lt x.weight modulus) c.1 in
    record {
      listed = ltb-true x.simplex (length t.delta) b.0;
      inside = ltb-true x.place n b.1;
      long = eqb-true (length x.others + 1) n c.0;
      positive = ltb-true 0 x.weight d.0;
      reduced = ltb-true x.weight modulus d.1;
    }

balance_is : (t : Task) (modulus sum : ℕ) (xs : List Multiplier) → passes_balance t modulus sum xs ≡ true → IsBalance t modulus sum xs
balance_is t modulus sum xs h =
    let fit = list_all (passes_multiplier t modulus) xs in
    let whole = weight_of_vertices t xs % modulus == sum in
    let rules = list_all (passes_rule t modulus xs) t.delta in
    let a = and_parts (nat_lt 0 sum) (fit && (whole && rules)) h in
    let c = and_parts fit (whole && rules) a.1 in
    let d = and_parts whole rules c.1 in
    record {
      some = ltb-true 0 sum a.0;
      multipliers = all_pass (passes_multiplier t modulus) (IsMultiplier t modulus) (multiplier_is t modulus) xs c.0;
      whole = eqb-true (weight_of_vertices t xs % modulus) sum d.0;
      balanced = all_pass (passes_rule t modulus xs) (λ rule. All (λ tuple. counts_nothing t modulus xs rule.input tuple ≡ true) rule.tuples)
          (λ rule h. all_pass (counts_nothing t modulus xs rule.input) (λ tuple. counts_nothing t modulus xs rule.input tuple ≡ true) (λ tuple k. k) rule.tuples h) t.delta d.1;
    }

-- ---- covers

abbrev passes_covering : Covering → Bool
passes_covering c = nat_le 2 (length c.rule.input) && (nat_lt c.corner (length c.rule.input) && (nat_lt 0 c.sheets && is_flat c))

is_covering : (t : Task) (c : Covering) → Contains t.delta c.rule → passes_covering c ≡ true → IsCovering t c
is_covering t c listed h =
    let n = length c.rule.input in
    let a = and_parts (nat_le 2 n) (nat_lt c.corner n && (nat_lt 0 c.sheets && is_flat c)) h in
    let b = and_parts (nat_lt c.corner n) (nat_lt 0 c.sheets && is_flat c) a.1 in
    let d = and_parts (nat_lt 0 c.sheets) (is_flat c) b.1 in
    record {
      listed = listed;
      some = leb-true 2 n a.0;
      inside = ltb-true c.corner n b.0;
      some_sheet = ltb-true 0 c.sheets d.0;
      flat = d.1;
    }

-- ---- trees

abbrev mutual
  pub passes_tree : Tree → Task → Bool
  passes_tree (balance modulus sum xs) t = passes_balance t modulus sum xs
  passes_tree (by_cases simplex trees) t = nat_lt simplex (length t.delta) && passes_trees trees t (rule_at t simplex) (components (rule_at t simplex))
  passes_tree (by_split simplex tree) t = not t.symmetric && (nat_lt simplex (length t.delta) && passes_tree tree (split (by_stars (rule_at t simplex) (new_name t)) t))
  passes_tree (by_cover simplex sheets corner moves tree) t =
      not t.symmetric
      && (nat_lt simplex (length t.delta)
      && (passes_covering (by_sheets t (rule_at t simplex) sheets corner moves) && passes_tree tree (covered (by_sheets t (rule_at t simplex) sheets corner moves) t)))

  pub passes_trees : Trees → Task → Rule → List (List Tuple) → Bool
  passes_trees no_tree t of [] = true
  passes_trees no_tree t of (part ∷ parts) = false
  passes_trees (tree_before tree trees) t of [] = false
  passes_trees (tree_before tree trees) t of (part ∷ parts) = passes_tree tree (in_case of part t) && passes_trees trees t of parts

mutual
  pub tree_is : (tree : Tree) (t : Task) → passes_tree tree t ≡ true → IsTree tree t
  tree_is (balance modulus sum xs) t h = balance_is t modulus sum xs h
  tree_is (by_cases simplex trees) t h =
      let of = rule_at t simplex in
      let a = and_parts (nat_lt simplex (length t.delta)) (passes_trees trees t of (components of)) h in
      (ltb-true simplex (length t.delta) a.0, trees_are trees t of (components of) a.1)
  tree_is (by_split simplex tree) t h =
      let s = by_stars (rule_at t simplex) (new_name t) in
      let a = and_parts (not t.symmetric) (nat_lt simplex (length t.delta) && passes_tree tree (split s t)) h in
      let b = and_parts (nat_lt simplex (length t.delta)) (passes_tree tree (split s t)) a.1 in
      (not-true t.symmetric a.0, ltb-true simplex (length t.delta) b.0, tree_is tree (split s t) b.1)
  tree_is (by_cover simplex sheets corner moves tree) t h =
      let c = by_sheets t (rule_at t simplex) sheets corner moves in
      let rest = passes_covering c && passes_tree tree (covered c t) in
      let a = and_parts (not t.symmetric) (nat_lt simplex (length t.delta) && rest) h in
      let b = and_parts (nat_lt simplex (length t.delta)) rest a.1 in
      let d = and_parts (passes_covering c) (passes_tree tree (covered c t)) b.1 in
      let low = ltb-true simplex (length t.delta) b.0 in
      (not-true t.symmetric a.0, low, is_covering t c (listed_rule t simplex low) d.0, tree_is tree (covered c t) d.1)

  trees_are : (trees : Trees) (t : Task) (of : Rule) (parts : List (List Tuple)) → passes_trees trees t of parts ≡ true → AreTrees trees t of parts
  trees_are no_tree t of [] h = tt
  trees_are no_tree t of (part ∷ parts) h = absurd (false≢true h)
  trees_are (tree_before tree trees) t of [] h = absurd (false≢true h)
  trees_are (tree_before tree trees) t of (part ∷ parts) h =
      let a = and_parts (passes_tree tree (in_case of part t)) (passes_trees trees t of parts) h in
      (tree_is tree (in_case of part t) a.0, trees_are trees t of parts a.1)

-- a task with a tree that passes the test has no map
pub never_by_tree : (t : Task) (tree : Tree) → t.least_block ≡ None → first_block t ≡ 1 → passes_task t.processes t.delta t.outputs ≡ true → passes_tree tree t ≡ true → (r : ℕ) → HasNoDecisionMap t r
never_by_tree t tree none words task passes = obstruction_leaves_no_map t tree (is_task t none task) (record { all_words = words; settled = tree_is tree t passes })
