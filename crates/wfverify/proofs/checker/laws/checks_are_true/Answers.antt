use Rattle.wfverify.proofs.OfChecker.TrueChecks.{of_status}
use Rattle.wfverify.proofs.checker.laws.checks_are_true.Goals as goal

pub returns : goal.returns
returns g c words opener' source source' sink sink' errors errors' (asked, done, judged, does, ends) =
    let opener = c.args._folder.now in
    (asked, judged, of_status opener opener' source source' sink sink' (g.F.Files.opens opener.files) asked done errors errors' does ends)
