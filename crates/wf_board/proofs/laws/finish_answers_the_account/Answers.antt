use Rattle.wf_board.proofs.SettledCounts.{finish_answers_the_account}
use Rattle.wf_board.proofs.laws.finish_answers_the_account.Goals as goal

pub returns : goal.returns
returns c = finish_answers_the_account
