-- The keys of a task and of its multipliers: the test by weights is that of the definitions.
use Rattle.std.proofs.Common.{◌≡◌, ℕ, ◌%◌, ◌<◌, ◌≤◌, Bool, List, [], ◌∷◌, length, All, sym, ◌∙◌, arith}
use Rattle.std.specs.List.{AllByRecursion}
use Rattle.std.proofs.lemmas.List.Elements.{recursion_from_All}
use Rattle.wf_model.specs.Simplex.{Simplex, values_of}
use Rattle.wf_model.specs.Task.{IsTaskSimplex, Rule, Task, Tuple}
use Rattle.wf_model.proofs.Lemmas.{each_of_map}
use Rattle.wf_tree_model.specs.Counting.Rules.{rule_at}
use Rattle.wf_tree_model.specs.Balance.{IsMultiplier, Multiplier, counts_nothing}
use Rattle.wf_tree_steps.specs.Balance.Keys.{IsTestAt, IsTestOf, digits_code, labels, weight_under}
use Rattle.wf_tree_steps.proofs.OfBalance.Digits.{AreDigits, label_digits}
use Rattle.wf_tree_steps.proofs.OfBalance.Inputs.{HaveInputs, few_in, input_within}
use Rattle.wf_tree_steps.proofs.OfBalance.Settled.{IsKeyed, IsShort, IsSmall, settled_is}

small_in : (s : Simplex) → IsTaskSimplex s → IsSmall s
small_in s is = each s (each_of_map (λ x. x ≤ 255) (λ (v : ℕ × ℕ). v.1) s (recursion_from_All (λ x. x ≤ 255) (values_of s) is.values))
  where
    each : (s : Simplex) → AllByRecursion (λ (v : ℕ × ℕ). v.1 ≤ 255) s → IsSmall s
    each [] h = tt
    each (v ∷ s) h = (let low = h.0 in omega (arith, low), each s h.1)

-- ---- multipliers

keyed_one : (t : Task) → HaveInputs t.delta → (modulus : ℕ) (x : Multiplier) → IsMultiplier t modulus x → All (λ v. v < 2047) x.others → IsKeyed t x
keyed_one t have modulus x fit digits =
    let s = (rule_at t x.simplex).input in
    let is = input_within t have x.simplex fit.listed in
    record {
      small = small_in s is;
      digits = label_digits t.symmetric s is;
      few = few_in s is;
      inside = fit.inside;
      others = record { digits = recursion_from_All (λ v. v < 2047) x.others digits; few = (let long = fit.long in let few = few_in s is in omega (arith, long, few)) };
    }

pub keyed : (t : Task) → HaveInputs t.delta → (modulus : ℕ) (xs : List Multiplier) → AllByRecursion (IsMultiplier t modulus) xs → AllByRecursion (λ x. All (λ v. v < 2047) x.others) xs → AllByRecursion (IsKeyed t) xs
keyed t have modulus [] fit digits = tt
keyed t have modulus (x ∷ xs) fit digits = (keyed_one t have modulus x fit.0 digits.0, keyed t have modulus xs fit.1 digits.1)

-- ---- tuples

byte_digits_in : (y : Tuple) → AllByRecursion (λ x. x ≤ 255) y → AreDigits y
byte_digits_in [] h = tt
byte_digits_in (x ∷ y) h = (let low = h.0 in omega (arith, low), byte_digits_in y h.1)

-- the test is that of the definitions, or gives the same
module _ (t : Task) (modulus : ℕ) (xs : List Multiplier) (keys : AllByRecursion (IsKeyed t) xs) (weights : ℕ → ℕ) (are : (q : ℕ) → weights q ≡ weight_under t xs q % modulus)
    (test : Simplex → Tuple → Bool) (same : (s : Simplex) (y : Tuple) → test s y ≡ counts_nothing t modulus xs s y) where
  on_tuples : (s : Simplex) → IsTaskSimplex s → (ys : List Tuple) → AllByRecursion (λ y. length y ≡ length s) ys → IsTestOf weights modulus (digits_code (labels t s)) (test s) ys
  on_tuples s is [] long = tt
  on_tuples s is (y ∷ ys) long = (
    λ bytes.
        let few = few_in s is in
        let short : IsShort y = record {
          digits = byte_digits_in y (recursion_from_All (λ x. x ≤ 255) y bytes);
          few = (let e = long.0 in omega (arith, e, few));
        } in
        same s y ∙ sym (settled_is t s y (small_in s is) (label_digits t.symmetric s is) few short long.0 weights modulus xs keys are),
    on_tuples s is ys long.1,
  )

  pub on_rules : (rules : List Rule) → HaveInputs rules → AllByRecursion (λ rule. All (λ y. length y ≡ length rule.input) rule.tuples) rules → IsTestAt t weights modulus test rules
  on_rules [] have long = tt
  on_rules (rule ∷ rules) have long =
      (on_tuples rule.input have.0 rule.tuples (recursion_from_All (λ y. length y ≡ length rule.input) rule.tuples long.0), on_rules rules have.1 long.1)
