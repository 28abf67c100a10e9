use Rattle.std.proofs.Common.{map}
use Rattle.std.specs.Prelude.{string_bytes}
use Rattle.clap.specs.Words.{app_of}
use Rattle.wfverify.proofs.OfChecker.CheckWords.{answered, refused}
use Rattle.wfverify.proofs.checker.job.read_words.Goals as goal

pub returns-in-Ok : goal.returns-in-Ok
returns-in-Ok c =
    answered (app_of c.in_ok-whole_command.field-0) (map string_bytes c.args.words.now) c.in-Ok.found c.job_in.result c.in_ok-whole_command.ensures
    c.in-Ok.ensures.ok c.job_in.ensures

pub returns-in-Err : goal.returns-in-Err
returns-in-Err c =
    refused (app_of c.in_ok-whole_command.field-0) (map string_bytes c.args.words.now) c.in-Err.fault c.in_ok-whole_command.ensures c.in-Err.ensures.err
