use Rattle.std.proofs.Common.{◌∷◌, ◌++◌, [], zip, ap}
use Rattle.wf_base.specs.Set.Sets.{values_in}
use Rattle.wf_sat_cnf.specs.Patterns.{pattern_seen}
use Rattle.wf_sat_cnf.proofs.Steps.{one_more}
use Rattle.wf_sat_cnf.proofs.patterns.add_last.Goals as goal

pub values-preserved : goal.values-preserved
values-preserved c =
    let next = c.in-Some.next in
    let places = c.args.places in
    let begun = c.args.begun.now in
    one_more pattern_seen (λ a. zip places (begun ++ a ∷ [])) c.values.found.items c.push.new.self.items (record { places = places; values = c.longer-values.result }) next.0
    (values_in c.values.left) (values_in next.1) _ c.in_ok-push.ensures.items c.in-Some.ensures
    (ap (zip places) c.longer-values.ensures) c.values.invariant
