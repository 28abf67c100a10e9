-- What building the command line comes to.
use Rattle.std.specs.Prelude.{◌≡◌, ℕ, take, Result, IfOk}
use Rattle.std.specs.declared.alloc.AllocError.{AllocError}
use Rattle.clap.specs.Simple.{App, Shape, app_of, with_subcommand}
use Rattle.clap.specs.declared.builder.command.Command.{Command}
use Rattle.wf_cli.specs.Words.Building.{IsLeaf}
use Rattle.wf_cli_args.specs.CommandLine.{command_line}

-- a command with one subcommand more, where both were made
abbrev pub Adds : Result Command AllocError → Result Command AllocError → Result Command AllocError → Type 0
Adds old sub result = (app : App) (shape : Shape) → IfOk old (λ c. app_of c ≡ app) → IfOk sub (IsLeaf shape)
    → IfOk result (λ new. app_of new ≡ with_subcommand app shape)

-- the command line with the first so many of its subcommands
abbrev pub with_first : ℕ → App
with_first count = record command_line { subs = take count command_line.subs }
