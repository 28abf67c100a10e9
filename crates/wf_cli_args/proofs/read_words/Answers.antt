use Rattle.std.proofs.Common.{map, string_bytes}
use Rattle.wf_cli_args.proofs.ParsedWords.{refused_answered}
use Rattle.wf_cli_args.proofs.read_words.Goals as goal

pub returns-in-Err-clause-answer : goal.returns-in-Err-clause-answer
returns-in-Err-clause-answer c = refused_answered (map string_bytes c.args.words.now) c.in-Err.fault c.in-Err.ensures.err
