use Rattle.std.proofs.Common.{◌≡◌, ◌==◌, cond, filter, not, ap, sym, ◌∙◌}
use Rattle.std.specs.Prelude.{bit_and}
use Rattle.std.specs.Simd.Lanes.{zip2}
use Rattle.wf_base.specs.Set.Parts.{part_values}
use Rattle.wf_lane.specs.Words.{ors}
use Rattle.wf_lane.specs.Rows.{is_met}
use Rattle.wf_lane.proofs.BlockLemmas.{unmet_start, unmet_step, unmet_end, later_occur}
use Rattle.wf_lane.proofs.column.Column.unsupported.Goals as goal

pub values-init : goal.values-init
values-init c = record { rest = unmet_start (is_met c.args.live c.args.self.now.words.items c.args.start) c.args.values; occur = c.requires.values }

pub values-preserved : goal.values-preserved
values-preserved c =
    let unmet = part_values c.values.unmet in
    let split = c.in-Some.ensures.split in
    let kept : part_values c.without_met-unmet.result ≡ cond (is_met c.args.live c.args.self.now.words.items c.args.start c.in-Some.value) (filter (λ x. not (x == c.in-Some.value)) unmet) unmet =
    c.without_met-unmet.ensures
    ∙ ap (λ b. cond b (filter (λ x. not (x == c.in-Some.value)) unmet) unmet) (c.has_some.ensures ∙ ap (λ r. not (ors (zip2 bit_and c.args.live r) == 0)) c.rows_with.ensures) in
    record {
      rest = λ v. unmet_step (is_met c.args.live c.args.self.now.words.items c.args.start) c.values.unmet c.without_met-unmet.result c.values.left c.in-Some.value c.in-Some.others v split kept ∙ c.values.invariant.rest v;
      occur = later_occur c.args.self.now c.values.left c.in-Some.value c.in-Some.others split c.values.invariant.occur;
    }

pub returns : goal.returns
returns c = λ v.
    sym (unmet_end (is_met c.args.live c.args.self.now.words.items c.args.start) c.values.unmet c.values.left v c.in_default.ensures.split)
    ∙ c.values.invariant.rest v
