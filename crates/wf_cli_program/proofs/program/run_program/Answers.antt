use Rattle.std.proofs.Common.{rules}
use Rattle.wf_cli_program.proofs.program.run_program.Goals as goal

-- src/program.rt:39:1
pub returns : goal.returns
returns g c = (c.job_of.result, c.match-job_of.done, c.job_of.ensures.asked, search rules, c.end.ensures)
