-- Steps that were read, and judged in turn.
use Rattle.std.proofs.Common.{◌≡◌, ℕ, ◌++◌, List, [], ◌∷◌, Option, Result, sym, ap, ◌∙◌, subst, append_assoc, append-nil}
use Rattle.wf_model.specs.Problem.{Problem}
use Rattle.wf_model.specs.Refutation.{Line}
use Rattle.wf_base.specs.Streams.Seen.{Reading}
use Rattle.wf_report.specs.Windows.{Ahead, CanGive}
use Rattle.wf_report.specs.declared.fault.CertFault.{CertFault}
use Rattle.wf_report.specs.declared.reading.Section.{Section}
use Rattle.wf_report.proofs.Lemmas.{HasSteps}
use Rattle.wf_report_check.specs.Faults.{Fails, Judges}
use Rattle.wf_report_check.specs.Left.{LinesLeft, fault_of}

-- steps were read so far, and judged
pub record AreTaken (part : Section) (p : Problem) (claim : Option (List ℕ)) (old new : Reading) (w w' : Ahead) (first left : LinesLeft) : Type 0 where
  pub done : List Line
  pub read : HasSteps part old new w w' done
  pub can : CanGive new w'
  pub judged : (steps : List Line) → fault_of p claim (done ++ steps) first ≡ fault_of p claim steps left
  pub points : left.points ≡ first.points
  pub line : left.line ≡ w'.number

module _ (p : Problem) (claim : Option (List ℕ)) (first left : LinesLeft) (done : List Line) (judged : (steps : List Line) → fault_of p claim (done ++ steps) first ≡ fault_of p claim steps left) where
  pub judged_more : (l : Line) (next : LinesLeft) → ((steps : List Line) → fault_of p claim (l ∷ steps) left ≡ fault_of p claim steps next)
      → (steps : List Line) → fault_of p claim ((done ++ l ∷ []) ++ steps) first ≡ fault_of p claim steps next
  judged_more l next takes steps = ap (λ steps. fault_of p claim steps first) (append_assoc done (l ∷ []) steps) ∙ judged (l ∷ steps) ∙ takes steps

  pub judged_fault : (l : Line) (e : CertFault) → ((steps : List Line) → Fails e (fault_of p claim (l ∷ steps) left)) → (steps : List Line) → Fails e (fault_of p claim ((done ++ l ∷ []) ++ steps) first)
  judged_fault l e fails steps = subst (Fails e) (sym (ap (λ steps. fault_of p claim steps first) (append_assoc done (l ∷ []) steps) ∙ judged (l ∷ steps))) (fails steps)

  pub judged_last : {X : Type 0} (verdict : Result X CertFault) → Judges verdict (fault_of p claim [] left) → Judges verdict (fault_of p claim done first)
  judged_last verdict is = subst (Judges verdict) (sym (ap (λ steps. fault_of p claim steps first) (sym (append-nil done)) ∙ judged [])) is
