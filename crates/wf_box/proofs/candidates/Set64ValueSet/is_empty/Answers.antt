use Rattle.std.proofs.Common.{◌==◌, ap, length, sym, ◌∙◌}
use Rattle.wf_base.proofs.OfSet.Lemmas.{values_of_part}
use Rattle.wf_box.proofs.candidates.Set64ValueSet.is_empty.Goals as goal

pub returns : goal.returns
returns c = c.is_empty.ensures ∙ ap (λ vs. length vs == 0) (sym (values_of_part c.args.self))
