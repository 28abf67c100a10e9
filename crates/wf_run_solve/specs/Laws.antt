-- What holds after every search, whatever it answers.
use Rattle.std.specs.Prelude.{ℕ, Result}
use Rattle.wf_core.specs.declared.Account.{Account}
use Rattle.wf_base.specs.Streams.Seen.{Reading, Writing}
use Rattle.wf_run_solve.specs.declared.outcome.Outcome.{Outcome}
use Rattle.wf_base.specs.declared.lines.form.Form.{Form}
use Rattle.wf_base.specs.declared.lines.form.Form.TheVariants as form
use Rattle.wf_run.specs.declared.fault.RunFault.{RunFault}
use Rattle.wf_run.specs.declared.fault.RunFault.TheVariants.{Write}
use Rattle.wf_run_solve.specs.Texts.{Finds, Solves, outcome_of}
use Rattle.wf_run.specs.Laws.{IsCounted}

abbrev pub SolvingIsCounted : Type 0
SolvingIsCounted =
    (rounds : ℕ) (form : Form) (source source' : Reading) (sink sink' : Writing) (result : Result (Outcome × Account) RunFault)
    → Solves rounds form source source' sink sink' result → IsCounted source source' sink sink' result

-- what is written where an account is kept is what is found
abbrev pub SolvingIsFinding : Type 0
SolvingIsFinding =
    (rounds : ℕ) (form : Form) (source source' : Reading) (sink sink' : Writing) (result : Result (Outcome × Account) RunFault)
    → Solves rounds form source source' sink sink' result → Finds rounds form source source' sink sink' (outcome_of result)

abbrev pub FindingIsCounted : Type 0
FindingIsCounted =
    (rounds : ℕ) (form : Form) (source source' : Reading) (sink sink' : Writing) (result : Result Outcome RunFault)
    → Finds rounds form source source' sink sink' result → IsCounted source source' sink sink' result
