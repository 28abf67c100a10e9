use Rattle.std.specs.Str.Parse.{ParsesUnsigned, ExplainsUnsignedError, HasUnsignedDigitsIfOk}
use Rattle.clap.specs.Words.{found_of}
use Rattle.wf_cli.proofs.OfWords.MatchGetters.{number_found}
use Rattle.wf_cli.proofs.words.found.number.Goals as goal

pub returns : goal.returns
returns c =
    number_found (λ bs r. ParsesUnsigned 32 10 bs r × ExplainsUnsignedError 10 bs r × HasUnsignedDigitsIfOk bs r) (found_of c.args.found.now)
    c.args.name.now c.get_one.result (λ u x g. g.0) c.get_one.ensures.none c.get_one.ensures.value
