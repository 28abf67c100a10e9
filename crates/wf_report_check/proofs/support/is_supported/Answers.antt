use Rattle.std.proofs.Common.{map, take, length, ◌∙◌, sym, ap}
use Rattle.wf_model.specs.Box.{is_supported}
use Rattle.wf_base.specs.Set.Sets.{values_in}
use Rattle.wf_report_check.proofs.BlockLemmas.{sets_there_are}
use Rattle.wf_report_check.proofs.SupportLemmas.{no_support}
use Rattle.wf_report_check.proofs.support.is_supported.Goals as goal

pub returns-then-is_candidate : goal.returns-then-is_candidate
returns-then-is_candidate c =
    let there = take (length c.args.points.now) c.sets_at-four.result in
    c.supports.ensures
    ∙ ap (λ sets. is_supported c.args.support.now sets c.args.place c.args.value) (sets_there_are c.args.sets.now there c.args.points.now c.sets_at-four.ensures.sets c.requires.inside)

pub returns-else-is_candidate : goal.returns-else-is_candidate
returns-else-is_candidate c =
    let there = take (length c.args.points.now) c.sets_at-four.result in
    c.if-is_candidate.false
    ∙ sym (no_support c.args.support.now (map values_in there) c.args.place c.args.value (sym c.is_candidate.ensures ∙ c.if-is_candidate.false))
    ∙ ap (λ sets. is_supported c.args.support.now sets c.args.place c.args.value) (sets_there_are c.args.sets.now there c.args.points.now c.sets_at-four.ensures.sets c.requires.inside)
