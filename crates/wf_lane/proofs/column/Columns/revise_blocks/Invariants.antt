use Rattle.std.proofs.Common.{◌≡◌, ◌*◌, take}
use Rattle.std.specs.Prelude.{count_by, slice_index}
use Rattle.wf_lane.specs.Rows.{is_among, rows_in}
use Rattle.wf_lane.proofs.BlockLemmas.{AreUnmet}
use Rattle.wf_lane.proofs.column.Columns.revise_blocks.Given as goal

abbrev pub invariant-loop-block : goal.invariant-loop-block
invariant-loop-block l =
    let rows = take (512 * l.block) (rows_in l.self) in
    record {
      first : AreUnmet (slice_index l.unmet 0) l.wanted (slice_index l.wanted 0) (λ r. r.first) rows;
      second : AreUnmet (slice_index l.unmet 1) l.wanted (slice_index l.wanted 1) (λ r. r.second) rows;
      third : AreUnmet (slice_index l.unmet 2) l.wanted (slice_index l.wanted 2) (λ r. r.third) rows;
      fourth : AreUnmet (slice_index l.unmet 3) l.wanted (slice_index l.wanted 3) (λ r. r.fourth) rows;
      counted : l.alive ≡ count_by (is_among l.wanted) rows;
    }
