-- Why a cover of a task at hand is none, step by step.
use Rattle.std.proofs.Common.{◌≡◌, ℕ, ◌==◌, ◌<◌, ◌≤◌, nat_le, nat_lt, not, Bool, true, false, List, cond, length, Option, Some, refl, sym, ap, ◌∙◌, subst, arith}
use Rattle.std.specs.List.{AllByRecursion}
use Rattle.std.proofs.lemmas.Bool.{eq-eqb, le-leb, leb-true, lt-ltb, ne_eqb}
use Rattle.std.proofs.lemmas.List.Elements.{recursion_from_All}
use Rattle.wf_model.specs.Simplex.{Simplex}
use Rattle.wf_model.specs.Task.{Rule, Task, Tuple}
use Rattle.wf_tree_model.specs.Counting.Rules.{rule_at}
use Rattle.wf_tree_model.specs.Covers.{Covering}
use Rattle.wf_tree_refine.specs.AtHand.{IsRuleAtHand}
use Rattle.wf_tree_steps.specs.declared.cover.cover.Covering as code_cover
use Rattle.wf_tree_steps.specs.declared.cover.cover.CoverFault.{CoverFault}
use Rattle.wf_tree_steps.specs.declared.cover.cover.CoverFault.TheVariants.{NoCorner, NoSheet, OneParticipant}
use Rattle.wf_tree_steps.specs.Cover.Faults.{cover_fault, cover_seen, flat_fault}
use Rattle.wf_tree_steps.specs.Cover.Turns.{IsGoing}
use Rattle.wf_tree_refine.proofs.Lemmas.{rule_with}
use Rattle.wf_tree_steps.proofs.OfCover.Rounds.{not_below}

not_up_to : (m n : ℕ) → n < m → nat_le m n ≡ false
not_up_to m n low = by (nat_le m n) refl
  where
    by : (b : Bool) → nat_le m n ≡ b → b ≡ false
    by false e = refl
    by true e = let high = leb-true m n e in absurd (let bad : ⊥ = omega (arith, low, high) in bad)

module _ (c : Covering) where
  abbrev from_sheets : Bool → Option CoverFault
  from_sheets none = cond none (Some NoSheet) (flat_fault c 0 c.rule.tuples)

  abbrev from_corner : Bool → Option CoverFault
  from_corner inside = cond (not inside) (Some NoCorner) (from_sheets (c.sheets == 0))

  abbrev from_size : Bool → Option CoverFault
  from_size many = cond (not many) (Some OneParticipant) (from_corner (nat_lt c.corner (length c.rule.input)))

  pub one_participant : length c.rule.input < 2 → Some OneParticipant ≡ cover_fault c
  one_participant few = sym (ap from_size (not_up_to 2 (length c.rule.input) few))

  pub no_corner : 2 ≤ length c.rule.input → length c.rule.input ≤ c.corner → Some NoCorner ≡ cover_fault c
  no_corner many past = sym (ap from_size (le-leb 2 (length c.rule.input) many) ∙ ap from_corner (not_below c.corner (length c.rule.input) past))

  pub no_sheet : 2 ≤ length c.rule.input → c.corner < length c.rule.input → c.sheets ≡ 0 → Some NoSheet ≡ cover_fault c
  no_sheet many inside none = sym (ap from_size (le-leb 2 (length c.rule.input) many) ∙ ap from_corner (lt-ltb c.corner (length c.rule.input) inside) ∙ ap from_sheets (eq-eqb c.sheets 0 none))

  pub as_flat : 2 ≤ length c.rule.input → c.corner < length c.rule.input → (c.sheets ≡ 0 → ⊥) → flat_fault c 0 c.rule.tuples ≡ cover_fault c
  as_flat many inside some = sym (ap from_size (le-leb 2 (length c.rule.input) many) ∙ ap from_corner (lt-ltb c.corner (length c.rule.input) inside) ∙ ap from_sheets (ne_eqb c.sheets 0 some))

-- a task at hand whose rule there is known
module _ (t : Task) (cover : code_cover.Covering) (s : Simplex) (ys : List Tuple) (is : rule_at t cover.simplex ≡ rule_with s ys) where
  pub going : IsRuleAtHand (rule_with s ys) → IsGoing (cover_seen t cover) cover ys
  going good = record {
    move = refl;
    sheets = refl;
    long =
        subst (λ (rule : Rule). AllByRecursion (λ tuple. length tuple ≡ length rule.input) ys) (sym is)
        (recursion_from_All (λ (tuple : Tuple). length tuple ≡ length s) ys good.long);
  }

  pub size_here : length (cover_seen t cover).rule.input ≡ length s
  size_here = ap (λ (rule : Rule). length rule.input) is

  pub tuples_here : (cover_seen t cover).rule.tuples ≡ ys
  tuples_here = ap (λ (rule : Rule). rule.tuples) is
