-- The keys of a multiplier as the code makes them.
use Rattle.std.proofs.Common.{◌≡◌, ℕ, ◌<◌, ◌≤◌, Bool, List, map, length, ap, ap₂, ◌∙◌, arith}
use Rattle.std.proofs.lemmas.List.{length-map}
use Rattle.wf_model.specs.Simplex.{Simplex}
use Rattle.wf_model.specs.Task.{IsTask, Task}
use Rattle.wf_tree_model.specs.Counting.Rules.{rule_at}
use Rattle.wf_tree_model.specs.Balance.{IsMultiplier, Multiplier, input_of}
use Rattle.wf_tree_steps.specs.Balance.Keys.{but, digits_code, key_of, key_with, key_without, label, labels}
use Rattle.wf_tree_steps.proofs.OfBalance.Digits.{but_none, but_removed}
use Rattle.wf_tree_steps.proofs.OfBalance.Inputs.{few_in, input_within, inputs_of}
use Rattle.wf_tree_steps.proofs.OfBalance.Settled.{remove_map}

pub few_vertices : (t : Task) (n : ℕ) → IsTask t → n < length t.delta → length (rule_at t n).input ≤ 4
few_vertices t n task listed = few_in (rule_at t n).input (input_within t (inputs_of t task) n listed)

pub rule_labels : (t : Task) (n : ℕ) (simplex : Simplex) (symmetric : Bool) (code : ℕ) → IsTask t → n < length t.delta → simplex ≡ (rule_at t n).input → symmetric ≡ t.symmetric → code ≡ digits_code (but 0 4 (map (label symmetric) simplex)) →
    code ≡ digits_code (labels t (rule_at t n).input)
rule_labels t n simplex symmetric code task listed input same is =
    let s = (rule_at t n).input in
    let few = few_vertices t n task listed in
    let long = length-map s (label t.symmetric) in
    is ∙ ap₂ (λ b u. digits_code (but 0 4 (map (label b) u))) same input ∙ ap digits_code (but_none (labels t s) 4 (omega (arith, few, long)))

pub few_others : (t : Task) (modulus : ℕ) (x : Multiplier) → IsTask t → IsMultiplier t modulus x → length x.others ≤ 4
few_others t modulus x task fit =
    let few = few_vertices t x.simplex task fit.listed in
    let long = fit.long in
    omega (arith, few, long)

module _ (t : Task) (modulus : ℕ) (x : Multiplier) (simplex : Simplex) (symmetric : Bool) (values : List ℕ) (labels' values' made : ℕ)
    (task : IsTask t) (fit : IsMultiplier t modulus x) (input : simplex ≡ (rule_at t x.simplex).input) (same : symmetric ≡ t.symmetric) (are : values ≡ x.others) where
  labels_are : map (label symmetric) simplex ≡ labels t (input_of t x)
  labels_are = ap₂ (λ b s. map (label b) s) same input

  values_are : digits_code (but 0 4 values) ≡ digits_code x.others
  values_are = ap (λ ys. digits_code (but 0 4 ys)) are ∙ ap digits_code (but_none x.others 4 (few_others t modulus x task fit))

  pub with_key : labels' ≡ digits_code (but 0 4 (map (label symmetric) simplex)) → values' ≡ digits_code (but 0 4 values) → made ≡ key_of x.place labels' values' → made ≡ key_with t x
  with_key l v k =
      let few = few_vertices t x.simplex task fit.listed in
      let long = length-map (input_of t x) (label t.symmetric) in
      k ∙ ap₂ (key_of x.place) (l ∙ ap (λ ys. digits_code (but 0 4 ys)) labels_are ∙ ap digits_code (but_none (labels t (input_of t x)) 4 (omega (arith, few, long)))) (v ∙ values_are)

  pub without_key : labels' ≡ digits_code (but 0 x.place (map (label symmetric) simplex)) → values' ≡ digits_code (but 0 4 values) → made ≡ key_of 4 labels' values' → made ≡ key_without t x
  without_key l v k =
      k ∙ ap₂ (key_of 4) (l ∙ ap (λ ys. digits_code (but 0 x.place ys)) labels_are ∙ ap digits_code (but_removed x.place (labels t (input_of t x)) ∙ remove_map (label t.symmetric) x.place (input_of t x))) (v ∙ values_are)
