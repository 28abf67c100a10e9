use Rattle.std.proofs.Common.{◌≡◌, ◌+◌, ◌<◌, ◌∙◌, Bor, List, ap, arith, drop, length, refl, sym}
use Rattle.wf_sat_text.specs.Clauses.Formula.{Literal}
use Rattle.wf_sat_text.specs.declared.lrat.reader.Hint.{Hint}
use Rattle.std.proofs.lemmas.Bool.{false≢true}
use Rattle.wf_sat_text.specs.Drat.Codes.{literal_of}
use Rattle.wf_sat_check.specs.Lrat.Hints.{resolved}
use Rattle.wf_sat_check.specs.Lrat.Slots.{clause_of}
use Rattle.wf_sat_check.specs.declared.lrat.verdict.LratVerdict.TheVariants.{Conflict}
use Rattle.wf_sat_check.proofs.OfLrat.RatLemmas.{passed_over, settled, skipped}
use Rattle.wf_sat_check.proofs.lrat.rat.resolve.Goals as goal
use Rattle.wf_sat_check.proofs.lrat.rat.resolve.Goals.{then-has_literal+in_ok-verdict+else-not-matches, in-Conflict, in_default, else-has_literal}

pub ids-init : goal.ids-init
ids-init c = record {
  trail = refl;
  same = skipped c.args.clauses.now (clause_of c.args.trail.now) (literal_of c.args.negated) c.args.hints.now c.first-number.result c.first-number.ensures;
}

pub ids-preserved : goal.ids-preserved
ids-preserved c =
    let slots = c.args.clauses.now in
    let negated = literal_of c.args.negated in
    let within : c.ids.number < length slots = omega (arith, c.ids-test.true, c.len-number-end.ensures.exact) in
    let behind = λ (trail : List Literal) (left : List Hint). resolved slots trail negated (c.ids.number + 1 + 1) (drop (c.ids.number + 1) slots) left in
    elim c.if-has_literal.branch [
      | then-has_literal+in_ok-verdict+else-not-matches w ↦
          let conflict : w.in_ok-verdict.verdict ≡ Conflict = elim w.match-matches.branch [
            | in-Conflict w' ↦ w'.in-Conflict.is
            | in_default w' ↦ absurd (false≢true (sym w'.matches-is ∙ w.if-not-matches.false))
          ] in
          let same = w.trail-is ∙ w.in_ok-verdict.ensures.undone in
          record {
            trail = same ∙ c.ids.invariant.trail;
            same = c.ids.invariant.same
                ∙ settled slots (clause_of c.ids.trail) negated c.ids.number c.ids.left.now within w.in_ok-verdict.verdict
                (sym c.has_literal.ensures ∙ w.if-has_literal.true) w.in_ok-verdict.ensures.verdict conflict
                ∙ ap (behind (clause_of c.ids.trail)) (sym w.behind_group-left.ensures ∙ ap (λ (r : Bor (List Hint)). r.now) (sym w.left-is))
                ∙ ap (λ t. behind (clause_of t) c.if-has_literal.left.now) (sym same);
          }
      | else-has_literal w ↦ record {
        trail = w.trail-is ∙ c.ids.invariant.trail;
        same = c.ids.invariant.same
            ∙ passed_over slots (clause_of c.ids.trail) negated c.ids.number c.ids.left.now within (sym c.has_literal.ensures ∙ w.if-has_literal.false)
            ∙ ap (behind (clause_of c.ids.trail)) (ap (λ (r : Bor (List Hint)). r.now) (sym w.left-is))
            ∙ ap (λ t. behind (clause_of t) c.if-has_literal.left.now) (sym w.trail-is);
      }
    ]
