-- From the model in a solver's text to the report of its map.
use Rattle.std.proofs.Common.{◌≡◌, ℕ, List, length, Result, Ok, Err, Vec, sym, ap, subst, ◌∙◌, arith}
use Rattle.std.proofs.lemmas.List.{length-map}
use Rattle.wf_model.specs.Lists.{below}
use Rattle.wf_model.specs.Task.{Task}
use Rattle.wf_model.specs.Points.{points}
use Rattle.wf_model.specs.Problem.{problem_of}
use Rattle.wf_model.specs.Report.{a_map, report_about}
use Rattle.wf_model.specs.Check.{report_fault}
use Rattle.wf_model.proofs.Lemmas.{length-below}
use Rattle.wf_sat_formula.specs.Encoding.{least_true}
use Rattle.wf_sat_formula.specs.SolverText.{stated}
use Rattle.wf_base.specs.Streams.Seen.{Reading}
use Rattle.wf_complex.specs.Protocol.{Built, Builds}
use Rattle.wf_report.specs.Reports.{AreNumbered}
use Rattle.wf_report.specs.declared.fault.CertFault.{CertFault}
use Rattle.wf_report.specs.declared.fault.CertFault.TheVariants as amiss
use Rattle.wf_report_check.specs.Faults.{Fails}
use Rattle.wf_run.specs.Faults.{of_report_fault}
use Rattle.wf_run.specs.declared.fault.RunFault.{RunFault}
use Rattle.wf_run_verify.specs.Models.{IsMapOf, ReportsMap}
use Rattle.wf_run.specs.Run.{HasComplex, Reads, answered}
use Rattle.wf_run_verify.specs.Verify.{IsFaultOf}
use Rattle.wf_run_verify.proofs.WrittenReports.{points_few}
use Rattle.wf_run.proofs.Lemmas.{IsRefusal}

-- a map has a value for each point
map_long : (t : Task) (r : ℕ) (old new : Reading) (m : List ℕ) → Reads (IsMapOf t r) old new (Ok m) → length m ≡ length (points t r)
map_long t r old new m (Ok text, reads, (ls, is, same)) =
    ap length same ∙ length-map (below (length (points t r))) (least_true (problem_of t r).values (stated ls)) ∙ length-below (length (points t r))
map_long t r old new m (Err e, reads, judged) = absurd (let bad : ⊥ = cc in bad)

module _ (t : Task) (r : ℕ) (b : Built) (built : Builds t r (Ok b)) where
  -- the complex is that of its own rounds
  pub own_rounds : Builds t b.rounds (Ok b)
  own_rounds = subst (λ n. Builds t n (Ok b)) (sym built.2.rounds_are) built

  pub map_few : (old new : Reading) (m : List ℕ) → Reads (IsMapOf t b.rounds) old new (Ok m) → AreNumbered (length m)
  map_few old new m reads =
      let long = map_long t b.rounds old new m reads in
      let few = points_few t b.rounds own_rounds.2.task in
      omega (arith, long, few, own_rounds.1)

module _ (t : Task) (r : ℕ) (m : List ℕ) where
  fault_of : (e : CertFault) → HasComplex t r → Fails e (report_fault t r (report_about t r (a_map m))) → IsFaultOf t (report_about t r (a_map m)) (of_report_fault e)
  fault_of amiss.TooLong has fails = absurd fails
  fault_of amiss.OutOfMemory has fails = tt
  fault_of e has fails = (has, fails)

  -- the map is refused
  pub map_refused : {A : Type 0} (e : CertFault) (result : Result (Unit {0} × Vec ℕ A) RunFault) → HasComplex t r → Fails e (report_fault t r (report_about t r (a_map m))) → IsRefusal (of_report_fault e) result
      → ReportsMap t r m (answered result)
  map_refused e (Ok x) has fails is = absurd (let ended = is.0 in let bad : ⊥ = cc in bad)
  map_refused e (Err found) has fails is = subst (IsFaultOf t (report_about t r (a_map m))) (sym is.1) (fault_of e has fails)

-- a refusal that is passed on
pub passed : {X A : Type 0} (e : RunFault) (result : Result (X × Vec ℕ A) RunFault) → IsRefusal e result → answered result ≡ Err e
passed e (Ok x) is = absurd (let ended = is.0 in let bad : ⊥ = cc in bad)
passed e (Err found) is = ap Err is.1
