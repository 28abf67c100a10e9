use Rattle.std.proofs.Common.{◌∷◌, [], length, ap, arith, length-append}
use Rattle.wf_pool.proofs.Branches.{count_of_cover, filled_lead}
use Rattle.wf_pool.proofs.solving.join_lines_to_map.Goals as goal

pub fill_least-requires-clause-few : goal.fill_least-requires-clause-few
fill_least-requires-clause-few c =
    let count = count_of_cover c.args.problem.now c.args.cover.now c.requires.cover in
    let more = ap length c.in_ok-push.ensures.items in
    let one = length-append c.args.below.items (c.args.own ∷ []) in
    let inside = c.requires.branch in
    omega arith

pub returns : goal.returns
returns c =
    filled_lead c.args.problem.now c.args.cover.now c.args.below.items c.push.new.self.items c.args.own c.fill_least.result
    c.requires.cover c.in_ok-push.ensures.items c.requires.below c.fill_least.ensures.leads
