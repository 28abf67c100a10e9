use Rattle.std.proofs.Common.{nat_lt, map, ap, sym, ◌∙◌}
use Rattle.wf_base.specs.Set.Parts.{part_limit, part_values}
use Rattle.wf_base.specs.Set.Sets.{box_of}
use Rattle.wf_box.proofs.KeptLemmas.{each_stays}
use Rattle.wf_box.proofs.kept.KeptSets.of.Goals as goal

pub returns-in_ok-to_bytes-clause-sets : goal.returns-in_ok-to_bytes-clause-sets
returns-in_ok-to_bytes-clause-sets c =
    ap (map part_values) (c.in_ok-to_bytes.ensures ∙ c.deref-then-are_bytes.ensures.value) ∙ c.in_ok-parts.ensures
    ∙ each_stays (λ v. nat_lt v part_limit) (box_of c.args.sets.now) (sym c.are_narrow.ensures ∙ c.if-not-are_narrow.false)

pub returns-else-are_bytes-clause-sets : goal.returns-else-are_bytes-clause-sets
returns-else-are_bytes-clause-sets c =
    c.in_ok-parts.ensures ∙ each_stays (λ v. nat_lt v part_limit) (box_of c.args.sets.now) (sym c.are_narrow.ensures ∙ c.if-not-are_narrow.false)
