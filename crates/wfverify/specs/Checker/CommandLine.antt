-- The command line as it is read.
use Rattle.std.specs.Prelude.{[], ◌∷◌, true, codes}
use Rattle.clap.specs.Simple.{App, new_shape}
use Rattle.wf_cli.specs.Words.Options.{flag_option, number_option, required, task_option}

-- `wfverify --task FILE [--rounds R] [--proof] [--lrat] [--long]`
abbrev pub command_line : App
command_line = record {
  top = record (new_shape (codes "wfverify")) {
    rules = required task_option ∷ number_option (codes "rounds") ∷ flag_option (codes "proof") ∷ flag_option (codes "lrat")
        ∷ flag_option (codes "long") ∷ [];
    has_version = true;
  };
  subs = [];
}
