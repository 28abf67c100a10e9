-- What holds after every run that looks for an obstruction.
use Rattle.std.specs.Prelude.{◌≡◌, ℕ, List, Result, Ok}
use Rattle.wf_model.specs.Task.{Task}
use Rattle.wf_base.specs.Streams.Seen.{Reading, Writing}
use Rattle.wf_base.specs.Streams.Texts.{Wrote}
use Rattle.wf_run.specs.Given.{GaveTask}
use Rattle.wf_run.specs.Laws.{IsCounted}
use Rattle.wf_run.specs.declared.fault.RunFault.{RunFault}
use Rattle.wf_run_obstruction.specs.declared.finding.Finding.{Finding}
use Rattle.wf_run_obstruction.specs.declared.finding.Finding.TheVariants.{Found, GaveUp}
use Rattle.wf_run_obstruction.specs.declared.finding.GaveUp as gave_up
use Rattle.wf_run_obstruction.specs.declared.search.ObstructionSpec.{ObstructionSpec}
use Rattle.wf_run_obstruction.specs.Finding.{FindsObstruction, IsWritten}

-- An obstruction is told to be found only if the source gave the bytes of a task, and the sink took
-- the text of an obstruction of that task.
abbrev pub FoundObstructionsAreTrue : Type 0
FoundObstructionsAreTrue =
    (wanted : ObstructionSpec) (source source' : Reading) (sink sink' : Writing)
    → FindsObstruction wanted source source' sink sink' (Ok Found)
    → (t : Task) × GaveTask source source' t × (text : List ℕ) × Wrote sink sink' text × IsWritten wanted t text

-- the calls are counted as in each run, and nothing is written if the search gave up
pub record IsSeekingCounted (source source' : Reading) (sink sink' : Writing) (result : Result Finding RunFault) : Type 0 where
  pub counted : IsCounted source source' sink sink' result
  pub untouched : (at : gave_up.GaveUp) → result ≡ Ok (GaveUp at) → sink' ≡ sink

abbrev pub SeekingIsCounted : Type 0
SeekingIsCounted =
    (wanted : ObstructionSpec) (source source' : Reading) (sink sink' : Writing) (result : Result Finding RunFault)
    → FindsObstruction wanted source source' sink sink' result → IsSeekingCounted source source' sink sink' result
