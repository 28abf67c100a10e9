-- What holds of each refusal, and of words that make no job.
use Rattle.std.specs.Prelude.{◌≡◌, ◌≢◌, ◌+◌, ◌≤◌, ◌==◌, ℕ, Result, Ok, Err, IfErr, if◌then◌else◌}
use Rattle.wf_base.specs.Streams.Seen.{Writing}
use Rattle.wf_cli.specs.declared.words.fault.WordsFault.{WordsFault}
use Rattle.wf_cli.specs.Service.Refusals.{refusal_status}
use Rattle.wf_cli.specs.Service.Showing.{Declines}
use Rattle.wf_cli.specs.declared.service.refusal.Program.{Program}
use Rattle.wf_cli.specs.declared.service.refusal.Refusal.{Refusal}

-- how many calls failed, by the status
abbrev pub calls_by_status : ℕ → ℕ
calls_by_status status = if status == 4 then 1 else 0

-- how many calls failed, by what was done
abbrev pub calls_by : {X : Type 0} → Result X Refusal → ℕ
calls_by (Ok x) = 0
calls_by (Err e) = calls_by_status (refusal_status e)

-- a refusal has status 2, 3 or 4
abbrev pub HasStatus : Refusal → Type 0
HasStatus e = (2 ≤ refusal_status e) × (refusal_status e ≤ 4)

-- each failed call of the sink is told by status 4, and after any other refusal the sink is as it
-- was
pub record IsDeclined (sink sink' : Writing) (done : Result (Unit {0}) Refusal) : Type 0 where
  pub failures : sink'.failures ≡ sink.failures + calls_by done
  pub unwritten : IfErr done (λ e. refusal_status e ≢ 4 → sink' ≡ sink)
  pub statuses : IfErr done HasStatus

abbrev pub DecliningIsCounted : Type 0
DecliningIsCounted =
    (program : Program) (e : WordsFault) (sink sink' : Writing) (done : Result (Unit {0}) Refusal)
    → Declines program e sink sink' done → IsDeclined sink sink' done
