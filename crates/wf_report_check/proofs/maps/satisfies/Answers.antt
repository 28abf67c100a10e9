use Rattle.std.proofs.Common.{◌<◌, All, sym, ◌∙◌, subst}
use Rattle.wf_complex.proofs.Lemmas.{known_points, right_there, rule_inside}
use Rattle.wf_report_check.proofs.maps.satisfies.Goals as goal

pub tuples-tuples-requires : goal.tuples-tuples-requires
tuples-tuples-requires c =
    let b = c.args.protocol.now in
    rule_inside c.args.task.now b.rounds b c.args.execution c.simplex_of.result c.requires.built c.requires.execution c.simplex_of.ensures

pub has_tuple-requires : goal.has_tuple-requires
has_tuple-requires c =
    let b = c.args.protocol.now in
    let known = known_points c.args.task.now b.rounds b c.args.execution c.simplex_of.result c.points_of.result.now c.requires.built c.requires.execution c.simplex_of.ensures c.points_of.ensures in
    subst (λ n. All (λ v. v < n) c.points_of.result.now) (sym c.requires.long) known.2

pub returns : goal.returns
returns c =
    let b = c.args.protocol.now in
    c.has_tuple.ensures
    ∙ right_there c.args.task.now b.rounds b c.args.execution c.simplex_of.result c.args.values.now c.points_of.result.now c.tuples-tuples.result.now
    c.requires.built c.requires.execution c.simplex_of.ensures c.points_of.ensures c.tuples-tuples.ensures
