use Rattle.std.proofs.Common.{◌≡◌, length, refl, ap, sym, ◌∙◌}
use Rattle.std.specs.Prelude.{bit_or}
use Rattle.std.specs.Simd.Lanes.{zip2}
use Rattle.std.proofs.lemmas.Simd.{length-zip2}
use Rattle.wf_lane.specs.Rows.{is_value}
use Rattle.wf_lane.proofs.RowLemmas.{length-row_sets}
use Rattle.wf_lane.proofs.BlockLemmas.{among, among_start, among_step, among_end, later_occur}
use Rattle.wf_lane.proofs.column.Column.rows_among.Goals as goal

pub values-init : goal.values-init
values-init c = record { lanes = refl; rest = among_start c.args.values c.args.self.now.words.items c.args.start; occur = c.requires.values }

pub values-preserved : goal.values-preserved
values-preserved c =
    let words = c.args.self.now.words.items in
    let split = c.in-Some.ensures.split in
    let got = c.rows_with-joined.ensures in
    let long : length c.rows_with-joined.result ≡ 8 = ap length got ∙ length-row_sets (is_value c.in-Some.value) words c.args.start 8 in
    record {
      lanes = length-zip2 bit_or c.values.joined c.rows_with-joined.result (c.values.invariant.lanes ∙ sym long) ∙ c.values.invariant.lanes;
      rest =
          ap (λ r. zip2 bit_or (zip2 bit_or c.values.joined r) (among c.in-Some.others words c.args.start)) got
          ∙ among_step c.values.joined c.values.left c.in-Some.value c.in-Some.others words c.args.start split
          ∙ c.values.invariant.rest;
      occur = later_occur c.args.self.now c.values.left c.in-Some.value c.in-Some.others split c.values.invariant.occur;
    }

pub returns : goal.returns
returns c =
    sym (among_end c.values.joined c.values.left c.args.self.now.words.items c.args.start c.values.invariant.lanes c.in_default.ensures.split) ∙ c.values.invariant.rest
