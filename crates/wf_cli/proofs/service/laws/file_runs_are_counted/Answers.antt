use Rattle.wf_cli.proofs.OfService.FileCounts.{counted}
use Rattle.wf_cli.proofs.service.laws.file_runs_are_counted.Goals as goal

pub returns : goal.returns
returns g c most path opener' source source' sink sink' result checks did =
    let opener = c.args._folder.now in
    counted most (g.J.TaskRun.does c.args._run.now) (g.F.Files.opens opener.files path) opener opener' source source' sink sink' result checks did
