use Rattle.std.proofs.Common.{map, ◌≡◌}
use Rattle.std.specs.Prelude.{string_bytes}
use Rattle.std.proofs.lemmas.Result.{IfErr-weaker, IfOk-weaker}
use Rattle.clap.specs.Words.{app_of}
use Rattle.wf_cli_args.specs.CommandLine.{command_line}
use Rattle.wf_cli_args.proofs.ParsedWords.{refuses, taken}
use Rattle.wf_cli_args.proofs.parse.Goals as goal

pub returns : goal.returns
returns c =
    let texts = map string_bytes c.args.words.now in
    let app = app_of c.in_ok-whole_command.field-0 in
    let is : app ≡ command_line = c.in_ok-whole_command.ensures in
    record {
      ok = IfOk-weaker c.parse.result _ _ (λ m h. taken app texts m is h) c.parse.ensures.ok;
      err = IfErr-weaker c.parse.result _ _ (λ e h. refuses app texts e is h) c.parse.ensures.err;
    }
