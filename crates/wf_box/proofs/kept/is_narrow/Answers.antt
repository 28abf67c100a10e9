use Rattle.std.proofs.Common.{◌≡◌, ◌&&◌, ◌∙◌, Bool}
use Rattle.wf_box.proofs.KeptLemmas.{others_empty}
use Rattle.wf_box.proofs.kept.is_narrow.Goals as goal

pub returns : goal.returns
returns c = all c.is_empty.ensures c.is_empty-2.ensures c.is_empty-3.ensures ∙ others_empty c.args.set
  where
    all : {p q r t u v : Bool} → p ≡ t → q ≡ u → r ≡ v → ((p && q) && r) ≡ ((t && u) && v)
    all a b c = cc
