-- The options of a command line, as they are read.
use Rattle.std.specs.Prelude.{Some, true, codes, pos}
use Rattle.clap.specs.Simple.{new_rule}
use Rattle.clap.specs.Walk.{Rule, Text}
use Rattle.clap.specs.declared.builder.action.ArgAction.TheVariants.{Set, SetTrue}
use Rattle.clap.specs.declared.builder.value_parser.ValueParser.TheVariants as parser

-- `--NAME N`, for a whole number below 2^32
abbrev pub number_option : Text → Rule
number_option name = record (new_rule name) {
  long = Some name;
  action = Some Set;
  parser = Some (parser.Signed (pos 0) (pos 4294967295));
}

-- `--NAME`
abbrev pub flag_option : Text → Rule
flag_option name = record (new_rule name) { long = Some name; action = Some SetTrue }

-- `--task FILE`
abbrev pub task_option : Rule
task_option = record (new_rule (codes "task")) { long = Some (codes "task"); action = Some Set; value_names = 1 }

-- what may not be left out
abbrev pub required : Rule → Rule
required option = record option { required = true }
