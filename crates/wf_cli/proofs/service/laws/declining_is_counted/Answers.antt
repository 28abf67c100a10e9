use Rattle.wf_cli.proofs.OfService.DeclinedWords.{declined}
use Rattle.wf_cli.proofs.service.laws.declining_is_counted.Goals as goal

pub returns : goal.returns
returns c program e sink sink' done declines = declined sink sink' program e done declines
