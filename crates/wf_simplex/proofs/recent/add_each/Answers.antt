use Rattle.std.proofs.Common.{◌≡◌, ◌+◌, [], ◌∷◌, ◌++◌, take, take_all, sym, ap, ◌∙◌, subst}
use Rattle.std.proofs.lemmas.List.{take_more}
use Rattle.wf_simplex.specs.Adding.{AreAdded}
use Rattle.wf_simplex.proofs.Adding.{added-none, added-append}
use Rattle.wf_simplex.proofs.recent.add_each.Goals as goal

pub loop-simplex-init : goal.loop-simplex-init
loop-simplex-init c = record { among = c.requires; added = added-none c.args.simplices.now.items }

pub loop-simplex-preserved : goal.loop-simplex-preserved
loop-simplex-preserved c =
    let more = c.args.more.now in
    let i = c.loop-simplex.simplex-index in
    let s = c.simplex-item.result in
    let next : take (i + 1) more ≡ take i more ++ (s ∷ []) = take_more more i s c.loop-simplex-test.true ∙ ap (λ t. take i more ++ (t ∷ [])) (sym c.simplex-item.is) in
    record {
      among = c.in_ok-add.ensures.among;
      added = subst (λ ss. AreAdded c.args.simplices.now.items ss c.add.new.simplices.items) (sym next)
          (added-append c.args.simplices.now.items (take i more) c.loop-simplex.simplices.items (s ∷ []) c.add.new.simplices.items c.loop-simplex.invariant.added c.in_ok-add.ensures.added);
    }

pub returns : goal.returns
returns c =
    let inv = c.loop-simplex.invariant in
    record {
      among = inv.among;
      added = subst (λ ss. AreAdded c.args.simplices.now.items ss c.loop-simplex.simplices.items) (take_all c.loop-simplex.simplex-index c.args.more.now c.loop-simplex-test.false) inv.added;
    }
