-- The parts of searches are joined, unless there is too much of them.
use Rattle.std.proofs.Common.{◌≡◌, ◌≢◌, ◌⊎◌, inl, inr, ℕ, Result, Ok, Err, refl, sym, ap, subst}
use Rattle.wf_model.specs.Task.{Task, IsTask}
use Rattle.wf_model.specs.DecisionMap.{listed}
use Rattle.wf_model.specs.Problem.{problem_of}
use Rattle.wf_model.specs.Outline.{outline}
use Rattle.wf_model.specs.Report.{Body, none, report_about}
use Rattle.wf_model.specs.Check.{report_fault}
use Rattle.wf_base.specs.declared.lines.form.Form.{Form}
use Rattle.wf_base.specs.declared.lines.form.Form.TheVariants as form
use Rattle.wf_report.specs.declared.fault.CertFault.TheVariants as amiss
use Rattle.wf_run.specs.Run.{HasComplex, Next}
use Rattle.wf_run_solve.specs.Texts.{body_of_map}
use Rattle.wf_run.specs.declared.fault.RunFault.{RunFault}
use Rattle.wf_run.specs.declared.fault.RunFault.TheVariants as run
use Rattle.wf_run_solve.specs.declared.outcome.Outcome.{Outcome}
use Rattle.wf_run_solve.specs.declared.outcome.Outcome.TheVariants as outcome
use Rattle.wf_run_verify.proofs.Lemmas.{unrefused}
use Rattle.wf_run_branches.specs.Solving.{part_text}
use Rattle.wf_run_branches.specs.Joining.{AcceptsJoined, Gathered, joined_body}
use Rattle.wf_run_branches.specs.Laws.{PartsOfSearchesAreJoined}
use Rattle.wf_run_branches.specs.Searched.{AreTooMuch}
use Rattle.wf_run_branches.proofs.BranchChecks.{map_accepted, none_accepted}
use Rattle.wf_run_branches.proofs.GatheredParts.{IsStopped}
use Rattle.wf_run_branches.proofs.Joinable.{AreParts, IsWhole, comes}
use Rattle.wf_run_branches.proofs.PartLists.{shown}
use Rattle.wf_run_branches.proofs.TakenParts.{taken_unless}

module _ (t : Task) (r : ℕ) (asked : Form) (found : Outcome) (is : IsTask t) (within : HasComplex t r) (shows : asked ≢ form.Verdict) where
  -- a part is taken unless it is too long
  pub as_parts : AreParts asked t r (AreTooMuch asked t r found)
  as_parts = record {
    memory = tt;
    nones = λ i ls there refuted inside. record {
      within = inside;
      takes = taken_unless t r i (none ls) inside (none_accepted t r is i there ls refuted) (AreTooMuch asked t r found) tt
          (λ long. (outcome.Nothing, none ls, there, (ls, refuted, ap (part_text t r i) (sym (shown asked shows ls))), long));
    };
    maps = λ i m ls there least leads inside. record {
      within = inside;
      takes = taken_unless t r i (body_of_map asked (listed t r m) ls) inside (map_accepted t r is i there m ls least leads asked) (AreTooMuch asked t r found) tt
          (λ long. (outcome.Map, body_of_map asked (listed t r m) ls, there, (m, ls, least, leads, refl), long));
    };
  }

  -- the report of the whole question is accepted, unless it is too long
  unaccepted : (body : Body) (e : RunFault) → IsWhole asked t r found body → AcceptsJoined t r body (Err e) → AreTooMuch asked t r found e
  unaccepted body run.OutOfMemory whole refuses = tt
  unaccepted body run.TooLong whole refuses = (body, whole.account, whole.solved, refuses)
  unaccepted body (run.Cert amiss.OutOfMemory) whole refuses = absurd refuses
  unaccepted body (run.Cert e) whole refuses = unrefused e (report_fault t r (report_about t r body)) whole.clear (λ same. let never : ⊥ = cc in never) refuses.1
  unaccepted body e whole refuses = absurd refuses

  -- what a joining makes of what the parts come to
  abbrev Makes : Result Gathered RunFault → RunFault → Type 0
  Makes gathered e = Next (λ g. AcceptsJoined t r (joined_body (outline (problem_of t r)) g)) gathered (Err e)

  of_gathered : (gathered : Result Gathered RunFault) (e : RunFault) → ((g : Gathered) × (gathered ≡ Ok g) × IsWhole asked t r found (joined_body (outline (problem_of t r)) g)) ⊎ IsStopped t r (AreTooMuch asked t r found) gathered
      → Makes gathered e → AreTooMuch asked t r found e
  of_gathered gathered e (inl (g, same, whole)) makes = unaccepted (joined_body (outline (problem_of t r)) g) e whole (subst (λ x. Makes x e) same makes)
  of_gathered gathered e (inr (f, same, stops)) makes =
      let told : Makes (Err f) e = subst (λ x. Makes x e) same makes in
      let known : f ≡ e = cc in
      subst (AreTooMuch asked t r found) known stops

pub parts_joined : PartsOfSearchesAreJoined
parts_joined t r asked found given e within shows parts (gathered, gathers, next) =
    let is = within.1.2.task in
    of_gathered t r asked found is within shows gathered e
    (comes asked shows t r is within (AreTooMuch asked t r found) (as_parts t r asked found is within shows) found given gathered parts gathers) next
