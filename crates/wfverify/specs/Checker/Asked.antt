-- Which words of a command line ask for which check.
use Rattle.std.specs.Prelude.{ℕ, Bool, true, false, List, Option, Some, None, Result, Ok, Err, codes}
use Rattle.std.specs.List.{list_any}
use Rattle.clap.specs.Words.{Row, Text, fault_of, matches_of}
use Rattle.wf_cli.specs.Words.Asked.{Asked, is_negative, judged, on_task}
use Rattle.wf_cli.specs.Words.Given.{has_flag, rounds_of, task_of}
use Rattle.wf_cli.specs.declared.words.mistake.ArgName.{ArgName}
use Rattle.wf_cli.specs.declared.words.mistake.ArgName.TheVariants as piece
use Rattle.wf_cli.specs.declared.words.mistake.UsageError.{UsageError}
use Rattle.wf_cli.specs.declared.words.mistake.UsageError.TheVariants as mistake
use Rattle.wfverify.specs.Checker.CommandLine.{command_line}
use Rattle.wfverify.specs.declared.checker.job.Check.{Check}
use Rattle.wfverify.specs.declared.checker.job.Check.TheVariants.{Certificate, Proof, HintedProof}
use Rattle.wfverify.specs.declared.checker.job.CheckJob.{CheckJob}

-- a clausal proof of one kind, for the rounds that it needs
abbrev pub proof_for : ArgName → (ℕ → Check) → Option ℕ → Result Check UsageError
proof_for flag check (Some rounds) = Ok (check rounds)
proof_for flag check None = Err (mistake.Needs flag piece.Rounds)

-- what is checked, by `--proof`, `--lrat` and `--long`, of which one at most may be given
abbrev pub check_for : Bool → Bool → Bool → Option ℕ → Result Check UsageError
check_for false false long rounds = Ok (Certificate rounds long)
check_for true false false rounds = proof_for piece.Proof Proof rounds
check_for false true false rounds = proof_for piece.Lrat HintedProof rounds
check_for true true long rounds = Err (mistake.Conflict piece.Proof piece.Lrat)
check_for true false true rounds = Err (mistake.Conflict piece.Long piece.Proof)
check_for false true true rounds = Err (mistake.Conflict piece.Long piece.Lrat)

abbrev pub check_in : List Row → Result Check UsageError
check_in rows = check_for (has_flag (codes "proof") rows) (has_flag (codes "lrat") rows) (has_flag (codes "long") rows) (rounds_of rows)

-- what the options ask for
abbrev pub check_asked : List Row → Asked CheckJob
check_asked rows = on_task (λ check task. record { task = task; check = check }) (check_in rows) (task_of rows)

-- what the words ask for, of which the first is the program's own name
abbrev pub job_asked : List Text → Asked CheckJob
job_asked words = judged (fault_of command_line words) (list_any is_negative words) (check_asked (matches_of command_line words))
