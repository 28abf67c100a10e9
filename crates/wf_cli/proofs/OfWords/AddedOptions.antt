-- Adding an option to a command.
use Rattle.std.proofs.Common.{Result, ◌∙◌, ap₂, [], ◌∷◌, ◌++◌, ◌||◌}
use Rattle.std.specs.Prelude.{IfOk}
use Rattle.std.specs.declared.alloc.AllocError.{AllocError}
use Rattle.std.proofs.lemmas.Result.{IfOk-weaker}
use Rattle.clap.specs.Built.{AddsArg}
use Rattle.clap.specs.Simple.{Shape, with_rule}
use Rattle.clap.specs.Walk.{Rule}
use Rattle.clap.specs.declared.builder.arg.Arg.{Arg}
use Rattle.clap.specs.declared.builder.command.Command.{Command}
use Rattle.wf_cli.specs.Words.Building.{IsLeaf, IsOption}

-- one option more
pub with_option : (old new : Command) (arg : Arg) (shape : Shape) (rule : Rule) → AddsArg old arg new → IsOption rule arg → IsLeaf shape old
    → IsLeaf (record shape { rules = shape.rules ++ rule ∷ [] }) new
with_option old new arg shape rule adds option leaf =
    (adds.shape option.1 ∙ ap₂ with_rule leaf.0 option.0, adds.globals ∙ ap₂ (λ a b. a || b) leaf.1 option.1)

-- the same of a command that may not have been made
pub taken : (old : Command) (arg : Arg) (shape : Shape) (rule : Rule) (result : Result Command AllocError) → IfOk result (λ new. AddsArg old arg new) → IsOption rule arg
    → IsLeaf shape old → IfOk result (IsLeaf (record shape { rules = shape.rules ++ rule ∷ [] }))
taken old arg shape rule result adds option leaf =
    IfOk-weaker result (λ new. AddsArg old arg new) (IsLeaf (record shape { rules = shape.rules ++ rule ∷ [] })) (λ new h. with_option old new arg shape rule h option leaf) adds
