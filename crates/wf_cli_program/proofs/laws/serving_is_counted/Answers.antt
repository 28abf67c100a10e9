use Rattle.wf_cli_program.proofs.EveryRun.{served}
use Rattle.wf_cli_program.proofs.laws.serving_is_counted.Goals as goal

pub returns : goal.returns
returns g c words opener' source source' sink sink' errors errors' status (asked, done, judged, does, ends) =
    let opener = c.args._folder.now in
    (asked, judged, served (g.F.Files.opens opener.files) opener opener' source source' sink sink' errors errors' asked done status does ends)
