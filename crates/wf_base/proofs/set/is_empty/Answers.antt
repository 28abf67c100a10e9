use Rattle.std.proofs.Common.{◌≡◌, ◌&&◌, ◌∙◌, Bool}
use Rattle.wf_base.proofs.OfSet.SetLaws.{none_in_words}
use Rattle.wf_base.proofs.set.is_empty.Goals as goal

pub returns : goal.returns
returns c = all c.is_empty.ensures c.is_empty-2.ensures c.is_empty-3.ensures c.is_empty-4.ensures ∙ none_in_words c.args.set
  where
    all : {p q r s t u v w : Bool} → p ≡ t → q ≡ u → r ≡ v → s ≡ w → (((p && q) && r) && s) ≡ (((t && u) && v) && w)
    all a b c d = cc
