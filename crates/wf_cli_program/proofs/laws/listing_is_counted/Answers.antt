use Rattle.wf_run.specs.Texts.{IsTextOf}
use Rattle.wf_run.proofs.Lemmas.{counted}
use Rattle.wf_cli_program.proofs.laws.listing_is_counted.Goals as goal

pub returns : goal.returns
returns c text_of rounds = counted (IsTextOf text_of) rounds
