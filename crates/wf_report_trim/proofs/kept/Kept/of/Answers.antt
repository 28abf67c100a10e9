use Rattle.std.proofs.Common.{◌≡◌, refl, ◌∙◌}
use Rattle.wf_report_trim.proofs.Among.{among_taken, among_passed}
use Rattle.wf_report_trim.proofs.kept.Kept.of.Goals as goal
use Rattle.wf_report_trim.proofs.kept.Kept.of.Goals.{then-number-next+then-has+in_ok-push, else-number-next}

pub loop-number-preserved : goal.loop-number-preserved
loop-number-preserved c = elim c.if-number-next.branch [
  | then-number-next+then-has+in_ok-push w ↦
      let same : c.if-number-next.kept.items ≡ w.push.new.self.items = rw w.kept-is refl in
      among_taken _ _ _ _ _ c.loop-number-test.true (same ∙ w.in_ok-push.ensures.items) c.loop-number.invariant
  | else-number-next w ↦ rw w.kept-is (among_passed _ _ _ c.loop-number.invariant)
]
