-- What holds of the two formats of proofs, so that a run over a proof can be the same for both.
use Rattle.std.specs.Prelude.{◌≡◌, ℕ, List, [], false, Contains, Option, Result, Ok, Err}
use Rattle.std.proofs.Common.{inl, inr, refl, subst, arith}
use Rattle.std.proofs.KnownBytes.{Consumes-nil}
use Rattle.std.proofs.lemmas.List.Elements.{All-contains_itself, All-weaker}
use Rattle.wf_sat_text.specs.Clauses.Formula.{Formula, IsUnsatisfiable}
use Rattle.wf_base.specs.Streams.Seen.{Reading}
use Rattle.wf_base.specs.Streams.Texts.{Gave}
use Rattle.wf_sat_check.specs.Rup.Kept.{IsKept}
use Rattle.wf_sat_check.specs.Rup.Posed.{IsPosed}
use Rattle.wf_sat_check.specs.Rup.Seen.{HasNoModel, Known}
use Rattle.wf_sat_check.proofs.OfRup.Lemmas.{some_itself}
use Rattle.wf_sat_check.specs.Lrat.Ledger.{Ledger, ledger_of}
use Rattle.wf_sat_check.specs.Lrat.Models.{HasNoModel as NoModel}
use Rattle.wf_sat_check.proofs.OfLrat.Lemmas.{refutes_formula}
use Rattle.wf_run.specs.declared.fault.RunFault.{RunFault}
use Rattle.wf_run.specs.declared.fault.RunFault.TheVariants.{OutOfMemory, Read, TooLong}
use Rattle.wf_run_verify.specs.Hints.{AreAcceptedHints, AreRefusedHints, IsRefuted, ReadsAsHints, whole_outcome}
use Rattle.wf_run_verify.specs.Proofs.{IsOfBytes, IsRefusedProof, ReadsBytes, ReadsProofOf}

-- ---- in any format

-- nothing was read
nothing_given : (old : Reading) → Gave old old [] 0
nothing_given old = record { bytes_are = Consumes-nil old.left; taken = omega arith; failures = omega arith }

module _ {X : Type 0} (accepts weaker : List ℕ → X → Type 0) (refuses : List ℕ → Option (List ℕ) → RunFault → Type 0) (weaken : (given : List ℕ) (x : X) → accepts given x → weaker given x) where
  bytes_weaker : (given : List ℕ) (left : Option (List ℕ)) (result : Result X RunFault) → IsOfBytes accepts refuses given left result
      → IsOfBytes weaker refuses given left result
  bytes_weaker given left (Ok x) (is, end, few) = (weaken given x is, end, few)
  bytes_weaker given left (Err TooLong) is = is
  bytes_weaker given left (Err OutOfMemory) is = is
  bytes_weaker given left (Err Read) is = is
  bytes_weaker given left (Err e) is = is

  -- less may be said of what is accepted
  reads_weaker : (old new : Reading) (result : Result X RunFault) → ReadsBytes accepts refuses old new result
      → ReadsBytes weaker refuses old new result
  reads_weaker old new result (given, gave, is) = (given, gave, bytes_weaker given new.left result is)

-- ---- clausal proofs

-- what knows the clauses of a formula and nothing else
abbrev stated : Formula → Known
stated f = record { variables = f.variables; literals = []; clauses = f.clauses; is_refuted = false }

stated_posed : (f : Formula) → IsPosed f (stated f)
stated_posed f = record {
  models = record {
    follows = λ a model. record { literals = λ k d within. absurd (omega (arith, within)); clauses = model; unrefuted = refl };
    complete = λ a model. model.clauses;
  };
  variables = refl;
  each = All-weaker (Contains f.clauses) (λ clause. IsKept clause (stated f)) (λ clause there. inr (inl there)) f.clauses (All-contains_itself f.clauses);
  alone = some_itself f.clauses;
}

pub proof_unread : (f : Formula) (holds : Unit {0} × List ℕ → Type 0) (old : Reading) → ReadsProofOf f holds old old (Err OutOfMemory)
proof_unread f holds old = (stated f, stated_posed f, ([], nothing_given old, omega arith))

pub proof_read : (f : Formula) (known : Known) (holds : Unit {0} × List ℕ → Type 0) (old new : Reading) (result : Result (Unit {0} × List ℕ) RunFault) → IsPosed f known
    → ReadsBytes (λ given answer. holds answer × HasNoModel known) (λ given left. IsRefusedProof known given) old new result
    → ReadsProofOf f holds old new result
proof_read f known holds old new result posed read =
    (known, posed, reads_weaker (λ given answer. holds answer × HasNoModel known) (λ given answer. holds answer) (λ given left. IsRefusedProof known given) (λ given answer is. is.0) old new result read)

pub proof_refutes : (f : Formula) (known : Known) → IsPosed f known → HasNoModel known → IsUnsatisfiable f
proof_refutes f known posed none a model = none a (posed.models.follows a model)

-- ---- proofs with hints

pub hints_unread : (f : Formula) (holds : Unit {0} × List ℕ → Type 0) (old : Reading)
    → ReadsAsHints (ledger_of f) holds old old (Err OutOfMemory)
hints_unread f holds old = ([], nothing_given old, omega arith)

pub hints_read : (f : Formula) (ledger : Ledger) (holds : Unit {0} × List ℕ → Type 0) (old new : Reading) (result : Result (Unit {0} × List ℕ) RunFault) → ledger ≡ ledger_of f
    → ReadsBytes (λ given answer. holds answer × AreAcceptedHints ledger given) (AreRefusedHints ledger) old new result
    → ReadsAsHints (ledger_of f) holds old new result
hints_read f ledger holds old new result posed read =
    subst (λ l. ReadsAsHints l holds old new result) posed
    (reads_weaker (λ given answer. holds answer × AreAcceptedHints ledger given) (λ given answer. holds answer × IsRefuted (whole_outcome ledger given)) (AreRefusedHints ledger) (λ given answer is. (is.0, is.1.1)) old new result read)

pub hints_refute : (f : Formula) (ledger : Ledger) (given : List ℕ) → ledger
    ≡ ledger_of f → AreAcceptedHints ledger given → IsUnsatisfiable f
hints_refute f ledger given posed is = refutes_formula f (subst NoModel posed is.0)
