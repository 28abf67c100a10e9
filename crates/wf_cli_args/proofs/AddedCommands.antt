-- Adding a subcommand to the command line.
use Rattle.std.proofs.Common.{◌≡◌, ◌∙◌, ap, ap₂}
use Rattle.clap.specs.Built.{AddsSubcommand}
use Rattle.clap.specs.Simple.{App, Shape, app_of, with_subcommand}
use Rattle.clap.specs.declared.builder.command.Command.{Command}
use Rattle.wf_cli.specs.Words.Building.{IsLeaf}

-- one subcommand more
pub with_leaf : (old new sub : Command) (app : App) (shape : Shape) → AddsSubcommand old sub new → IsLeaf shape sub → app_of old ≡ app
    → app_of new ≡ with_subcommand app shape
with_leaf old new sub app shape adds leaf is =
    adds.shape leaf.1 ∙ ap₂ with_subcommand is (ap (λ (a : App). a.top) leaf.0)
