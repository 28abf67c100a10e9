-- The command line as it is read: its subcommands, with their options and what these take.
use Rattle.std.specs.Prelude.{ℕ, List, [], ◌∷◌, Some, true, false, codes, pos}
use Rattle.clap.specs.Simple.{App, Shape, new_rule, new_shape}
use Rattle.clap.specs.Walk.{Rule, Text}
use Rattle.clap.specs.declared.builder.action.ArgAction.TheVariants.{Set}
use Rattle.clap.specs.declared.builder.value_parser.ValueParser.TheVariants as parser
use Rattle.wf_model.specs.Limits.{most_workers}
use Rattle.wf_cli.specs.Words.Options.{flag_option, number_option, required, task_option}

-- ---- options

-- `--workers W`, from 1 to as many as a run may have
abbrev pub workers_option : Rule
workers_option = record (number_option (codes "workers")) { parser = Some (parser.Signed (pos 1) (pos most_workers)) }

-- the largest modulus that may be asked for
abbrev pub largest_modulus : ℕ
largest_modulus = 2147483647

-- `--modulus M`
abbrev pub modulus_option : Rule
modulus_option = record (number_option (codes "modulus")) { parser = Some (parser.Signed (pos 2) (pos largest_modulus)) }

-- the most covers above one another that may be asked for
abbrev pub most_cover_levels : ℕ
most_cover_levels = 8

-- `--covers N`
abbrev pub covers_option : Rule
covers_option = record (number_option (codes "covers")) { parser = Some (parser.Signed (pos 0) (pos most_cover_levels)) }

-- a word without a name
abbrev pub kind_word : Rule
kind_word = record (new_rule (codes "kind")) { action = Some Set; value_names = 1 }

abbrev pub rounds : Rule
rounds = required (number_option (codes "rounds"))

abbrev pub branch_option : Rule
branch_option = number_option (codes "branch")

-- ---- subcommands

abbrev pub subcommand : Text → List Rule → Shape
subcommand name options = record (new_shape name) { rules = options }

abbrev pub solve : Shape
solve = subcommand (codes "solve")
    (rounds ∷ required workers_option ∷ flag_option (codes "verdict") ∷ flag_option (codes "least")
    ∷ flag_option (codes "account") ∷ flag_option (codes "progress") ∷ branch_option ∷ [])

abbrev pub verify : Shape
verify =
    subcommand (codes "verify") (required task_option ∷ number_option (codes "rounds") ∷ branch_option ∷ flag_option (codes "long") ∷ [])

abbrev pub views : Shape
views = subcommand (codes "views") (rounds ∷ [])

abbrev pub points : Shape
points = subcommand (codes "points") (number_option (codes "rounds") ∷ task_option ∷ [])

abbrev pub branches : Shape
branches = subcommand (codes "branches") (rounds ∷ [])

abbrev pub join : Shape
join = subcommand (codes "join") (required task_option ∷ rounds ∷ [])

abbrev pub cnf : Shape
cnf = subcommand (codes "cnf") (rounds ∷ branch_option ∷ [])

abbrev pub model : Shape
model = subcommand (codes "model") (required task_option ∷ rounds ∷ [])

abbrev pub proof : Shape
proof = subcommand (codes "proof") (required task_option ∷ rounds ∷ branch_option ∷ flag_option (codes "lrat") ∷ flag_option (codes "progress") ∷ [])

abbrev pub trim : Shape
trim = subcommand (codes "trim") (required task_option ∷ [])

abbrev pub explain : Shape
explain = subcommand (codes "explain") (required task_option ∷ [])

abbrev pub lift : Shape
lift = subcommand (codes "lift") (required task_option ∷ number_option (codes "rounds") ∷ [])

abbrev pub executions : Shape
executions = subcommand (codes "executions") (rounds ∷ [])

abbrev pub obstruction : Shape
obstruction = subcommand (codes "obstruction") (modulus_option ∷ covers_option ∷ flag_option (codes "progress") ∷ [])

abbrev pub preset : Shape
preset = subcommand (codes "preset")
    (required kind_word ∷ required (number_option (codes "processes")) ∷ number_option (codes "k")
    ∷ number_option (codes "values") ∷ number_option (codes "names") ∷ [])

-- `wfcheck`, of which a subcommand has to be named
abbrev pub command_line : App
command_line = record {
  top = record (new_shape (codes "wfcheck")) { is_leaf = false; has_version = true; subcommand_required = true };
  subs = solve ∷ verify ∷ views ∷ points ∷ branches ∷ join ∷ cnf ∷ model ∷ proof ∷ trim ∷ explain ∷ lift ∷ executions ∷ obstruction
      ∷ preset ∷ [];
}
