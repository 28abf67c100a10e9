use Rattle.std.proofs.Common.{All, None, Some, ap, subst, sym}
use Rattle.std.proofs.lemmas.List.Elements.{All-get_or, All-set}
use Rattle.wf_network.specs.Revising.{IsKnownParts}
use Rattle.wf_network.proofs.memo.keep_each.Goals.{in-Some+then-place-len, in-Some+else-place-len, in_default}
use Rattle.wf_network.proofs.memo.keep_each.Goals as goal

pub loop-answer-preserved : goal.loop-answer-preserved
loop-answer-preserved c = λ ks answers places.
    let so_far = c.loop-answer.invariant ks answers places in
    elim c.match-answer.branch [
      | in-Some+then-place-len w ↦
          subst (All (IsKnownParts ks)) (sym (ap (λ v. v.items) w.places-is))
          (All-set (IsKnownParts ks) c.loop-answer.places.items w.slot_of-place.result (Some w.in-Some.known)
          (subst (IsKnownParts ks) w.in-Some.is (All-get_or (IsKnownParts ks) c.args.answers.now c.loop-answer.answer-index None c.loop-answer-test.true answers)) so_far)
      | in-Some+else-place-len w ↦ subst (All (IsKnownParts ks)) (sym (ap (λ v. v.items) w.places-is)) so_far
      | in_default w ↦ subst (All (IsKnownParts ks)) (sym (ap (λ v. v.items) w.places-is)) so_far
    ]
