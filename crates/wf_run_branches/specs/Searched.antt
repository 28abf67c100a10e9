-- The parts that searches of the branches of a task's question write, one behind another, and what
-- they are joined to.
use Rattle.std.specs.Prelude.{◌≡◌, ◌<◌, ℕ, suc, List, [], ◌∷◌, ◌++◌, length}
use Rattle.std.specs.List.{concat}
use Rattle.wf_model.specs.Limits.{most_bytes}
use Rattle.wf_model.specs.Task.{Task}
use Rattle.wf_model.specs.Report.{Body}
use Rattle.wf_sat_formula.specs.Branches.{branches}
use Rattle.wf_core.specs.declared.Account.{Account}
use Rattle.wf_report.specs.Reports.{AreNumbered}
use Rattle.wf_base.specs.declared.lines.form.Form.{Form}
use Rattle.wf_report.specs.declared.fault.CertFault.TheVariants as amiss
use Rattle.wf_run_solve.specs.Texts.{IsFound, IsSolved}
use Rattle.wf_run.specs.Texts.{text_of_report}
use Rattle.wf_run_solve.specs.declared.outcome.Outcome.{Outcome}
use Rattle.wf_run_solve.specs.declared.outcome.Outcome.TheVariants as outcome
use Rattle.wf_run.specs.declared.fault.PartFault.TheVariants as part
use Rattle.wf_run.specs.declared.fault.RunFault.{RunFault}
use Rattle.wf_run.specs.declared.fault.RunFault.TheVariants.{InPart, OutOfMemory, TooLong}
use Rattle.wf_run_branches.specs.Branches.{HasBranch}
use Rattle.wf_run_branches.specs.Solving.{IsSolvedIn, part_text}
use Rattle.wf_run_branches.specs.Joining.{lines_in}

-- what searches of the branches from branch i on write, a part for each: none of them has a map
abbrev pub HaveNoMapFrom : Form → Task → ℕ → ℕ → List (List ℕ) → Type 0
HaveNoMapFrom asked t r i [] = Unit {0}
HaveNoMapFrom asked t r i (part ∷ parts) = IsSolvedIn asked t r i outcome.Nothing part × HaveNoMapFrom asked t r (suc i) parts

-- The text has the parts that searches of the branches write, one behind another in the order of
-- the branches: up to the first that has a map, and then anything may stand behind it; or those of
-- all branches, where none has a map.
abbrev pub HasPartsOf : Form → Task → ℕ → Outcome → List ℕ → Type 0
HasPartsOf asked t r outcome.Map text =
    (parts : List (List ℕ)) × (last : List ℕ) × (behind : List ℕ) × HaveNoMapFrom asked t r 0 parts
    × HasBranch t r (length parts) × IsSolvedIn asked t r (length parts) outcome.Map last × (text ≡ concat parts ++ (last ++ behind))
HasPartsOf asked t r outcome.Nothing text =
    (parts : List (List ℕ)) × HaveNoMapFrom asked t r 0 parts × (length parts ≡ length (branches t r)) × (text ≡ concat parts)

-- it is the text of a search of the whole question, and no search of it writes another one
pub record IsWholeText (asked : Form) (t : Task) (r : ℕ) (found : Outcome) (text : List ℕ) : Type 0 where
  pub solved : (account : Account) × IsSolved asked t r (found, account) text
  pub one : (other : Outcome) (whole : List ℕ) → IsFound asked t r other whole → (other ≡ found) × (whole ≡ text)

-- Why such parts are not joined: memory ran out; the report that a search of the whole question
-- writes has more values and lines than can be numbered; or the report in the part of a branch has
-- more bytes than a text may have.
abbrev pub AreTooMuch : Form → Task → ℕ → Outcome → RunFault → Type 0
AreTooMuch asked t r found OutOfMemory = Unit {0}
AreTooMuch asked t r found TooLong =
    (body : Body) × (account : Account) × IsSolved asked t r (found, account) (text_of_report t r body) × (AreNumbered (lines_in body) → ⊥)
AreTooMuch asked t r found (InPart i (part.Report amiss.TooLong)) =
    (had : Outcome) × (body : Body) × HasBranch t r i × IsSolvedIn asked t r i had (part_text t r i body)
    × (most_bytes < length (text_of_report t r body))
AreTooMuch asked t r found e = ⊥
