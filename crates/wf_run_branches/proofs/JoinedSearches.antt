-- What a joining of the parts of searches writes is what a search of the whole question writes.
use Rattle.std.proofs.Common.{◌≡◌, ◌≢◌, ◌⊎◌, inl, inr, ℕ, List, Result, Ok, Err, sym, subst}
use Rattle.wf_model.specs.Task.{Task, IsTask}
use Rattle.wf_model.specs.Problem.{problem_of}
use Rattle.wf_model.specs.Outline.{outline}
use Rattle.wf_model.specs.Report.{Body}
use Rattle.wf_base.specs.Streams.Seen.{Reading}
use Rattle.wf_base.specs.Streams.Texts.{Gave, ReadsText}
use Rattle.wf_base.specs.declared.streams.source.ReadFault.{ReadFault}
use Rattle.wf_base.specs.declared.lines.form.Form.{Form}
use Rattle.wf_base.specs.declared.lines.form.Form.TheVariants as form
use Rattle.wf_run.specs.Run.{Judged, Next}
use Rattle.wf_run.specs.Texts.{text_of_report}
use Rattle.wf_run.specs.declared.fault.RunFault.{RunFault}
use Rattle.wf_run_solve.specs.declared.outcome.Outcome.{Outcome}
use Rattle.wf_run.proofs.Lemmas.{done}
use Rattle.wf_run_branches.specs.Joining.{AcceptsJoined, Gathered, GathersAll, JoinsText, ReadsParts, joined_body, most_parts_bytes}
use Rattle.wf_run_branches.specs.Laws.{JoinsOfSearchesAreWhole, PartsOfSearchesJoinToTheWhole}
use Rattle.wf_run_branches.specs.Searched.{AreTooMuch, HasPartsOf, IsWholeText}
use Rattle.wf_run_branches.proofs.CanonicalBranches.{one_text}
use Rattle.wf_run_branches.proofs.GatheredParts.{IsStopped}
use Rattle.wf_run_branches.proofs.Joinable.{IsWhole, comes}
use Rattle.wf_run_branches.proofs.JoinLimits.{as_parts}

module _ (t : Task) (r : ℕ) (asked : Form) (found : Outcome) (shows : asked ≢ form.Verdict) (given text : List ℕ) (parts : HasPartsOf asked t r found given) where
  -- the text of the whole question's report is the one text
  is_text : (body : Body) → IsTask t → IsWhole asked t r found body → text ≡ text_of_report t r body → IsWholeText asked t r found text
  is_text body is whole same =
      subst (IsWholeText asked t r found) (sym same)
      (record {
        solved = (whole.account, whole.solved);
        one = λ other more finds. one_text t r is asked found other (text_of_report t r body) more whole.solved.0 finds;
      })

  -- what the parts came to
  abbrev came_to : Gathered → Result Gathered RunFault
  came_to g = Ok g

  of_gathered : (gathered : Result Gathered RunFault) → GathersAll t r given gathered → Next (λ g. AcceptsJoined t r (joined_body (outline (problem_of t r)) g)) gathered (Ok (tt, text)) → IsWholeText asked t r found text
  of_gathered (Err e) gathers next = absurd (let bad : ⊥ = cc in bad)
  of_gathered (Ok g) gathers accepts =
      let within = accepts.1.within in
      let is = within.1.2.task in
      by_whole is (comes asked shows t r is within (AreTooMuch asked t r found) (as_parts t r asked found is within shows) found given (Ok g) parts gathers)
    where
      by_whole : (is : IsTask t) → ((h : Gathered) × (came_to g ≡ Ok h) × IsWhole asked t r found (joined_body (outline (problem_of t r)) h)) ⊎ IsStopped t r (AreTooMuch asked t r found) (came_to g) → IsWholeText asked t r found text
      by_whole is (inl (h, same, whole)) =
          let known : h ≡ g = cc in
          is_text (joined_body (outline (problem_of t r)) g) is (subst (λ x. IsWhole asked t r found (joined_body (outline (problem_of t r)) x)) known whole) accepts.2
      by_whole is (inr (e, same, stops)) = absurd (let bad : ⊥ = cc in bad)

pub parts_join : PartsOfSearchesJoinToTheWhole
parts_join t r asked found given text shows parts (gathered, gathers, next) = of_gathered t r asked found shows given text parts gathered gathers next

-- ---- of a run

module _ (t : Task) (r : ℕ) (old new : Reading) (text : List ℕ) where
  of_source : (given : Result (List ℕ) ReadFault) → ReadsText most_parts_bytes old new given → Judged (JoinsText t r) given (Ok (tt, text)) → (bytes : List ℕ) × Gave old new bytes 0 × JoinsText t r bytes (Ok (tt, text))
  of_source (Ok given) (bytes, gave, is) judged = (bytes, gave, subst (λ x. JoinsText t r x (Ok (tt, text))) is.0 judged)
  of_source (Err e) reads judged = absurd (let bad : ⊥ = cc in bad)

pub joins_whole : JoinsOfSearchesAreWhole
joins_whole r task task' parts parts' sink sink' ran =
    let end = done ReadsParts r task task' parts parts' sink sink' ran in
    let given = of_source end.t r parts parts' end.text end.read.0 end.read.1 end.read.2 in
    (end.t, given.0, end.text, end.given, given.1, end.wrote, λ asked found shows has. parts_join end.t r asked found given.0 end.text shows has given.2)
