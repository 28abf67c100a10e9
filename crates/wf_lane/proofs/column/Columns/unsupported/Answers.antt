use Rattle.std.proofs.Common.{◌≡◌}
use Rattle.std.specs.Prelude.{slice_index}
use Rattle.wf_lane.specs.Words.{ors}
use Rattle.wf_lane.proofs.BlockLemmas.{all_unmet, none_from_test}
use Rattle.wf_lane.proofs.column.Columns.unsupported.Goals as goal

pub returns-then-not-has_some : goal.returns-then-not-has_some
returns-then-not-has_some c =
    let none : ors c.args.live ≡ 0 = none_from_test (ors c.args.live) c.has_some.result c.has_some.ensures c.if-not-has_some.true in
    record {
      first = all_unmet (slice_index c.args.values 0) c.args.live c.args.self.now.first.words.items c.args.start none;
      second = all_unmet (slice_index c.args.values 1) c.args.live c.args.self.now.second.words.items c.args.start none;
      third = all_unmet (slice_index c.args.values 2) c.args.live c.args.self.now.third.words.items c.args.start none;
      fourth = all_unmet (slice_index c.args.values 3) c.args.live c.args.self.now.fourth.words.items c.args.start none;
    }
