use Rattle.std.proofs.Common.{◌≡◌, ◌==◌, cond, filter, not, ap, sym, ◌∙◌}
use Rattle.std.specs.Prelude.{bit_and}
use Rattle.wf_base.specs.Set.Parts.{part_values}
use Rattle.wf_lane.specs.Rows.{is_met_early}
use Rattle.wf_lane.proofs.BlockLemmas.{unmet_start, unmet_step, unmet_end, later_occur}
use Rattle.wf_lane.proofs.column.Column.unmet_early.Goals as goal

pub values-init : goal.values-init
values-init c = record { rest = unmet_start (is_met_early c.args.live c.args.self.now.words.items) c.args.values; occur = c.requires.values }

pub values-preserved : goal.values-preserved
values-preserved c =
    let met = is_met_early c.args.live c.args.self.now.words.items in
    let unmet = part_values c.values.unmet in
    let taken = filter (λ x. not (x == c.in-Some.value)) unmet in
    let split = c.in-Some.ensures.split in
    let kept : part_values c.without_met-unmet.result ≡ cond (met c.in-Some.value) taken unmet =
    c.without_met-unmet.ensures ∙ ap (λ r. cond (not (bit_and c.args.live r == 0)) taken unmet) c.early_with.ensures in
    record {
      rest = λ v. unmet_step met c.values.unmet c.without_met-unmet.result c.values.left c.in-Some.value c.in-Some.others v split kept ∙ c.values.invariant.rest v;
      occur = later_occur c.args.self.now c.values.left c.in-Some.value c.in-Some.others split c.values.invariant.occur;
    }

pub returns : goal.returns
returns c = λ v.
    sym (unmet_end (is_met_early c.args.live c.args.self.now.words.items) c.values.unmet c.values.left v c.in_default.ensures.split)
    ∙ c.values.invariant.rest v
