-- What the parts of searches come to when they are put together.
use Rattle.std.proofs.Common.{◌≡◌, ◌⊎◌, inl, inr, ◌+◌, ◌≤◌, ℕ, zero, suc, List, [], ◌∷◌, ◌++◌, append_assoc, append-nil, length, Result, Ok, Err, sym, subst, arith}
use Rattle.wf_model.specs.Task.{Task}
use Rattle.wf_model.specs.Limits.{most_number}
use Rattle.wf_model.specs.Refutation.{Line}
use Rattle.wf_model.specs.Report.{Body, none, report_about}
use Rattle.wf_sat_formula.specs.Branches.{branches}
use Rattle.wf_run.specs.Run.{Next}
use Rattle.wf_run.specs.Texts.{text_of_report}
use Rattle.wf_run.specs.declared.fault.RunFault.{RunFault}
use Rattle.wf_run_branches.specs.Branches.{HasBranch}
use Rattle.wf_run_branches.specs.Solving.{part_text}
use Rattle.wf_run_branches.specs.Joining.{Gathered, Gathers, GoesOn, TakesPart, next_part}
use Rattle.wf_run_branches.proofs.ReportEnds.{next_is}
use Rattle.wf_run_branches.proofs.PartLists.{none_parts}
use Rattle.wf_run_branches.proofs.PartsWithin.{IsWithin}

module _ (t : Task) (r : ℕ) (Stops : RunFault → Type 0) where
  -- nothing more is taken
  abbrev pub IsStopped : {X : Type 0} → Result X RunFault → Type 0
  IsStopped result = (e : RunFault) × (result ≡ Err e) × Stops e

  -- the part with this answer is in the grammar, and is taken; or this stops it
  pub record IsTaken (i : ℕ) (body : Body) : Type 0 where
    pub within : IsWithin t r body
    pub takes : (result : Result Body RunFault) → TakesPart i t r (part_text t r i body) result → (result ≡ Ok body) ⊎ IsStopped result

  abbrev pub AreTakenFrom : ℕ → List (List Line) → Type 0
  AreTakenFrom i [] = Unit {0}
  AreTakenFrom i (ls ∷ lists) = IsTaken i (none ls) × AreTakenFrom (suc i) lists

  module _ (few : length (branches t r) ≤ most_number) where
    cut_off : (i : ℕ) (body : Body) (rest : List ℕ) → HasBranch t r i → IsWithin t r body → next_part (part_text t r i body ++ rest) ≡ (part_text t r i body, rest)
    unfolding text_of_report
    cut_off i body rest there within = next_is i (length (branches t r)) (report_about t r body) rest (omega (arith, there, few)) few within

    -- one part
    pub one_part : (i left : ℕ) (body : Body) (seen : List (List Line)) (rest : List ℕ) (result : Result Gathered RunFault) → HasBranch t r i → IsTaken i body
        → Gathers t r (suc left) i seen (part_text t r i body ++ rest) result → GoesOn (λ more. Gathers t r left (suc i) more rest) seen body result ⊎ IsStopped result
    one_part i left body seen rest result there is (found, takes, goes) =
        let cut = cut_off i body rest there is.within in
        let next : Next (GoesOn (λ more. Gathers t r left (suc i) more rest) seen) found result =
        subst (λ (x : List ℕ × List ℕ). Next (GoesOn (λ more. Gathers t r left (suc i) more x.1) seen) found result) cut goes in
        elim (is.takes found (subst (λ (x : List ℕ × List ℕ). TakesPart i t r x.0 found) cut takes)) [
          | inl same ↦ inl (subst (λ x. Next (GoesOn (λ more. Gathers t r left (suc i) more rest) seen) x result) same next)
          | inr (e, same, stops) ↦ inr (e, subst (λ x. Next (GoesOn (λ more. Gathers t r left (suc i) more rest) seen) x result) same next, stops)
        ]

    -- one after another
    pub nones : (lists : List (List Line)) (k left i : ℕ) (seen : List (List Line)) (rest : List ℕ) (result : Result Gathered RunFault) → k ≡ length lists + left → i + length lists ≤ length (branches t r)
        → AreTakenFrom i lists → Gathers t r k i seen (none_parts t r i lists ++ rest) result → Gathers t r left (i + length lists) (seen ++ lists) rest result ⊎ IsStopped result
    nones [] k left i seen rest result is low taken gathers =
        let same : k ≡ left = omega (arith, is) in
        let here : i ≡ i + 0 = omega arith in
        inl (subst (λ xs. Gathers t r left (i + 0) xs rest result) (sym (append-nil seen)) (subst (λ j. Gathers t r left j seen rest result) here (subst (λ n. Gathers t r n i seen rest result) same gathers)))
    nones (ls ∷ lists) zero left i seen rest result is low taken gathers = absurd (omega (arith, is))
    nones (ls ∷ lists) (suc k) left i seen rest result is low taken gathers =
        let more = none_parts t r (suc i) lists in
        let parts : (part_text t r i (none ls) ++ more) ++ rest ≡ part_text t r i (none ls) ++ (more ++ rest) = append_assoc (part_text t r i (none ls)) more rest in
        let next : i + suc (length lists) ≡ suc i + length lists = omega arith in
        let all : (seen ++ ls ∷ []) ++ lists ≡ seen ++ (ls ∷ lists) = append_assoc seen (ls ∷ []) lists in
        elim (one_part i k (none ls) seen (more ++ rest) result (omega (arith, low)) taken.0 (subst (λ text. Gathers t r (suc k) i seen text result) parts gathers)) [
          | inr stopped ↦ inr stopped
          | inl goes ↦ elim (nones lists k left (suc i) (seen ++ ls ∷ []) rest result (omega (arith, is)) (omega (arith, low)) taken.1 goes) [
            | inr stopped ↦ inr stopped
            | inl rests ↦ inl (subst (λ j. Gathers t r left j (seen ++ (ls ∷ lists)) rest result) (sym next) (subst (λ xs. Gathers t r left (suc i + length lists) xs rest result) all rests))
          ]
        ]
