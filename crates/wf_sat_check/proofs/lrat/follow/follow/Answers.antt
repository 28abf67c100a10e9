use Rattle.std.proofs.Common.{◌+◌, ◌∙◌, ap, drop, false, sym}
use Rattle.wf_sat_check.specs.Lrat.Hints.{followed}
use Rattle.wf_sat_check.specs.Lrat.Slots.{clause_of}
use Rattle.wf_sat_check.specs.declared.lrat.scan.Opened.TheVariants.{One}
use Rattle.wf_sat_check.proofs.OfLrat.HintLemmas.{hint_step}
use Rattle.wf_sat_check.proofs.OfLrat.LiteralLemmas.{front_on}
use Rattle.wf_sat_check.proofs.lrat.follow.follow.Goals as goal

pub hints-preserved : goal.hints-preserved
hints-preserved c =
    let slots = c.args.clauses.now in
    let hints = c.args.hints.now in
    record {
      front = front_on c.args.trail.now c.hints.trail c.put.new.trail c.hints.invariant.front c.put.ensures.front;
      same = c.hints.invariant.same
          ∙ hint_step slots (clause_of c.hints.trail) hints c.hints.hint-index (record { id = 0; is_negative = false }) c.hints-test.true
          (clause_of c.in-Some.clause.now) (One c.in-One.literal) c.if-hint.false c.in-Some.ensures c.in-One.ensures
          ∙ ap (λ trail. followed slots trail (drop (c.hints.hint-index + 1) hints)) (sym c.in_ok-put-in-One.ensures.exact);
    }
