-- What building a command line comes to.
use Rattle.std.specs.Prelude.{◌≡◌, ◌∷◌, ◌++◌, [], false, Result, IfOk}
use Rattle.std.specs.declared.alloc.AllocError.{AllocError}
use Rattle.clap.specs.Simple.{Shape, app_of}
use Rattle.clap.specs.Walk.{Rule, rule_of}
use Rattle.clap.specs.declared.builder.arg.Arg.{Arg}
use Rattle.clap.specs.declared.builder.command.Command.{Command}
use Rattle.clap.specs.declared.builder.command.Command.TheViews.{out-Command as fields_of}

-- an option of one command
abbrev pub IsOption : Rule → Arg → Type 0
IsOption rule arg = (rule_of arg ≡ rule) × (arg.global ≡ false)

-- a command without subcommands
abbrev pub IsLeaf : Shape → Command → Type 0
IsLeaf shape c = (app_of c ≡ record { top = shape; subs = [] }) × ((fields_of c).has_globals ≡ false)

-- a command with one option more, where it was made
abbrev pub Takes : Result Command AllocError → Arg → Result Command AllocError → Type 0
Takes old option result = (shape : Shape) (rule : Rule) → IfOk old (IsLeaf shape) → IsOption rule option
    → IfOk result (IsLeaf (record shape { rules = shape.rules ++ rule ∷ [] }))
