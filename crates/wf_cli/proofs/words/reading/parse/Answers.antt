use Rattle.std.proofs.Common.{◌∙◌}
use Rattle.std.specs.Prelude.{map, string_bytes}
use Rattle.clap.specs.Words.{app_of}
use Rattle.clap.proofs.WalkLemmas.{list_any-map}
use Rattle.wf_cli.specs.Words.Asked.{is_negative}
use Rattle.wf_cli.proofs.OfWords.ParsedWords.{refuses, simple_of}
use Rattle.wf_cli.proofs.words.reading.parse.Goals as goal

pub returns-in-Ok-clause-ok : goal.returns-in-Ok-clause-ok
returns-in-Ok-clause-ok c =
    let app = app_of c.args.command in
    let rows = c.in-Ok.ensures.matches (simple_of app c.requires.simple) in
    (c.in-Ok.ensures.kinds c.requires.simple, rows.0, rows.1)

pub returns : goal.returns
returns c = record {
  ok = tt;
  err =
      let refusal = refuses (app_of c.args.command) (map string_bytes c.args.words.now) c.in-Err.error (c.in-Err.ensures.kinds c.requires.simple) (λ same. c.in_default.not-OutOfMemory (c.kind.ensures ∙ same)) in
      (refusal.0, refusal.1, c.has_negative.ensures ∙ list_any-map is_negative string_bytes c.args.words.now);
}
