use Rattle.std.proofs.Common.{Ok, Err}
use Rattle.wf_run_verify.proofs.ModelsToReports.{map_few, passed}
use Rattle.wf_run_verify.proofs.model.ReadModelComplexAnswer.read_about.Goals as goal

pub returns-in_err-map : goal.returns-in_err-map
returns-in_err-map g c =
    let e = c.in_err-map.field-0.0 in
    (Err e, c.in_err-map.ensures, passed e c.from_residual.result c.from_residual.ensures)

pub report_map-requires-clause-few : goal.report_map-requires-clause-few
report_map-requires-clause-few g c κs within =
    map_few c.args.subject.now.task.now c.args.subject.now.protocol.now.rounds c.args.subject.now.protocol.now c.requires.protocol c.args.source.now c.read_model.new.source c.in_ok-map.map.items c.in_ok-map.ensures

pub returns : goal.returns
returns g c = (Ok c.in_ok-map.map.items, c.in_ok-map.ensures, c.report_map.ensures)
