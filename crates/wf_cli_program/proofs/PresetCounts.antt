-- What is counted where a preset is written.
use Rattle.std.proofs.Common.{◌≡◌, ℕ, List, Result, Ok, Err, refl, sym, ap, ◌∙◌}
use Rattle.wf_base.specs.Streams.Seen.{Writing}
use Rattle.wf_task_presets.specs.declared.named.Preset.{Preset}
use Rattle.wf_run.specs.declared.fault.RunFault.{RunFault}
use Rattle.wf_run.specs.declared.fault.RunFault.TheVariants as run
use Rattle.wf_run.specs.Run.{failed_reads, failed_writes, by_result}
use Rattle.wf_run.proofs.Lemmas.{handed, quiet}
use Rattle.wf_cli_program.specs.Presets.{IsPreset, WritesPreset}
use Rattle.wf_cli_program.specs.Laws.{IsWritten}

-- a refused preset counts nowhere
preset_quiet : (p : Preset) (answer : Result (Unit {0} × List ℕ) RunFault) → IsPreset p answer → (by_result failed_reads answer ≡ 0) × (by_result failed_writes answer ≡ 0)
preset_quiet p (Ok answer) is = (refl, refl)
preset_quiet p (Err run.Read) (fault, refused, is) = (ap failed_reads is ∙ (quiet fault).0, refl)
preset_quiet p (Err run.Write) (fault, refused, is) = (refl, ap failed_writes is ∙ (quiet fault).1)
preset_quiet p (Err e) is = (refl, refl)

pub preset_counted : (p : Preset) (sink sink' : Writing) (result : Result (Unit {0}) RunFault) → WritesPreset p sink sink' result → IsWritten sink sink' result
preset_counted p sink sink' result (answer, is, h) =
    let none = preset_quiet p answer is in
    let told = handed sink sink' answer result h none.1 in
    record { reads = sym told.reads ∙ none.0; writes = told.writes; unwritten = told.unwritten }
