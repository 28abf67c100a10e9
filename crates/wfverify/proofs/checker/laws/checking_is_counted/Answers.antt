use Rattle.wfverify.proofs.OfChecker.CountedChecks.{served}
use Rattle.wfverify.proofs.checker.laws.checking_is_counted.Goals as goal

pub returns : goal.returns
returns g c words opener' source source' sink sink' errors errors' status (asked, done, judged, does, ends) =
    let opener = c.args._folder.now in
    (asked, judged, served (g.F.Files.opens opener.files) asked opener opener' source source' sink sink' errors errors' done status does ends)
