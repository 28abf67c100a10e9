use Rattle.wf_core.proofs.Accounts.{accounts_have_all_branches, accounts_add_up, none_is_cut}
use Rattle.wf_core.proofs.laws.accounts_add_up.Goals as goal

pub returns : goal.returns
returns c = record { branches = accounts_have_all_branches; sum = accounts_add_up; no_post = none_is_cut }
