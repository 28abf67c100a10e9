-- Which preset the options of the command line ask for.
use Rattle.std.specs.Prelude.{ℕ, List, Option, None, Some, Result, Ok, Err, codes, if◌then◌else◌}
use Rattle.std.specs.Str.{bytes_eq}
use Rattle.wf_task_presets.specs.declared.preset.Inputs.{Inputs}
use Rattle.wf_task_presets.specs.declared.preset.Inputs.TheVariants.{Own, All}
use Rattle.wf_task_presets.specs.declared.named.Preset.{Preset}
use Rattle.wf_task_presets.specs.declared.named.Preset.TheVariants as preset
use Rattle.wf_cli_args.specs.declared.presets.Options.{Options}
use Rattle.wf_cli.specs.declared.words.mistake.ArgName.TheVariants.{K, Names, Renaming, SetAgreement, Values}
use Rattle.wf_cli.specs.declared.words.mistake.UsageError.{UsageError}
use Rattle.wf_cli.specs.declared.words.mistake.UsageError.TheVariants.{Conflict, Needs, UnknownKind}

-- the processes have their own inputs, unless there is a number of values
abbrev pub inputs_asked : Option ℕ → Inputs
inputs_asked None = Own
inputs_asked (Some values) = All values

-- set agreement needs `--k`, takes `--values`, and has no `--names`
abbrev pub agreement_asked : ℕ → Option ℕ → Option ℕ → Option ℕ → Result Preset UsageError
agreement_asked n k values (Some names) = Err (Conflict Names SetAgreement)
agreement_asked n None values None = Err (Needs SetAgreement K)
agreement_asked n (Some k) values None = Ok (preset.SetAgreement n k (inputs_asked values))

-- renaming needs `--names`, and has neither `--k` nor `--values`
abbrev pub renaming_asked : ℕ → Option ℕ → Option ℕ → Option ℕ → Result Preset UsageError
renaming_asked n (Some k) values names = Err (Conflict K Renaming)
renaming_asked n None (Some values) names = Err (Conflict Values Renaming)
renaming_asked n None None None = Err (Needs Renaming Names)
renaming_asked n None None (Some names) = Ok (preset.Renaming n names)

-- another kind is no preset
abbrev pub preset_asked : List ℕ → Options → Result Preset UsageError
preset_asked kind o =
    if bytes_eq kind (codes "set-agreement") then agreement_asked o.processes o.k o.values o.names
    else (if bytes_eq kind (codes "renaming") then renaming_asked o.processes o.k o.values o.names else Err UnknownKind)
