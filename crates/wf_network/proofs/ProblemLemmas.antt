-- What the rule of an execution says of its constraint.
use Rattle.std.proofs.Common.{◌≡◌, ℕ, zip, List, length, All, sym, ap, ◌∙◌, subst}
use Rattle.std.specs.List.{slice_index_or}
use Rattle.std.proofs.lemmas.List.{get_or_default}
use Rattle.wf_model.specs.Simplex.{processes_of}
use Rattle.wf_network.specs.Problems.{IsWide, IsWithin, constraint_seen, no_rule, rule_of}
use Rattle.wf_network.specs.declared.problem.Rule.{Rule}
use Rattle.wf_complex.specs.declared.packed.PackedExecution.{PackedExecution}

pub record Known (rules : List Rule) (e : PackedExecution) (rule : Rule) : Type 0 where
  pub is : rule_of rules e ≡ rule
  pub scope : (constraint_seen rules e).scope ≡ zip (processes_of rule.simplex) e.points
  pub tuples : (constraint_seen rules e).tuples ≡ rule.table.rows
  pub wide : rule.table.width ≡ length rule.simplex

pub known_at : (rules : List Rule) (points : ℕ) (e : PackedExecution) (rule : Rule) → IsWithin (length rules) points e → All IsWide rules → rule ≡ slice_index_or rules e.simplex rule → Known rules e rule
known_at rules points e rule within wide here =
    let rule_is : rule_of rules e ≡ rule = get_or_default rules e.simplex no_rule rule within.rule ∙ sym here in
    record {
      is = rule_is;
      scope = ap (λ (r : Rule). zip (processes_of r.simplex) e.points) rule_is;
      tuples = ap (λ (r : Rule). r.table.rows) rule_is;
      wide = subst IsWide (sym here) (wide e.simplex rule within.rule);
    }
