use Rattle.std.proofs.Common.{All, ap, subst, sym}
use Rattle.std.proofs.lemmas.List.Elements.{All-get_or, All-set}
use Rattle.wf_network.specs.Revising.{IsKnownWord}
use Rattle.wf_network.proofs.memo.keep_words.Goals.{then-place-len+then-answer, else-place-len}
use Rattle.wf_network.proofs.memo.keep_words.Goals as goal

pub loop-answer-preserved : goal.loop-answer-preserved
loop-answer-preserved c = λ ks answers places.
    let so_far = c.loop-answer.invariant ks answers places in
    elim c.if-place-len.branch [
      | then-place-len+then-answer w ↦
          subst (All (IsKnownWord ks)) (sym (ap (λ v. v.items) w.places-is))
          (All-set (IsKnownWord ks) c.loop-answer.places.items c.slot_of_word-place.result _
          (All-get_or (IsKnownWord ks) c.args.answers.now c.loop-answer.answer-index (record { execution = 0; candidates = 0; supported = 0 }) c.loop-answer-test.true answers) so_far)
      | else-place-len w ↦ subst (All (IsKnownWord ks)) (sym (ap (λ v. v.items) w.places-is)) so_far
    ]
