use Rattle.std.proofs.Common.{◌≡◌, ◌<◌, [], ◌∷◌, ◌++◌, length, reverse, sym, ap, subst, ◌∙◌, arith}
use Rattle.std.proofs.lemmas.Bool.{false≢true}
use Rattle.wf_complex.specs.Renaming.{AreInside}
use Rattle.wf_complex.proofs.ViewsOnce.{apart_in_table}
use Rattle.wf_complex.proofs.CollectedViews.{IsCollecting, first_of, collected, collecting_more, collecting_none, greatest_low, greatest_there, reverse-push, empty_from}
use Rattle.wf_complex.proofs.views.Views.inside.Goals as goal

pub loop-greatest-init : goal.loop-greatest-init
loop-greatest-init c =
    let one : c.push_reserved.new.self.items ≡ c.args.id ∷ [] = c.push_reserved.ensures.items ∙ ap (λ xs. xs ++ c.args.id ∷ []) c.in_ok-open.ensures.items in
    subst (λ xs. IsCollecting c.args.self.now c.args.id xs (reverse c.in_ok-inside.inside.items)) (sym one)
    (subst (λ xs. IsCollecting c.args.self.now c.args.id (c.args.id ∷ []) (reverse xs)) (sym c.in_ok-inside.ensures.items) (collecting_none c.args.self.now c.args.id c.requires))

pub parts-requires : goal.parts-requires
parts-requires c =
    greatest_there c.args.self.now c.args.id c.loop-greatest.open.items c.pop.new.self.items (reverse c.loop-greatest.inside.items) c.in-Some.greatest c.loop-greatest.invariant c.in-Some.ensures.items

pub loop-greatest-smaller : goal.loop-greatest-smaller
loop-greatest-smaller c =
    let low = greatest_low c.args.self.now c.args.id c.loop-greatest.open.items c.pop.new.self.items (reverse c.loop-greatest.inside.items) c.in-Some.greatest c.loop-greatest.invariant c.in-Some.ensures.items in
    subst (λ ks. first_of (length c.args.self.now) ks < first_of (length c.args.self.now) (reverse c.loop-greatest.inside.items))
    (sym (reverse-push c.loop-greatest.inside.items c.push.new.self.items c.in-Some.greatest c.in_ok-push.ensures.items)) low

pub loop-greatest-preserved : goal.loop-greatest-preserved
loop-greatest-preserved c =
    subst (IsCollecting c.args.self.now c.args.id c.put_all.new.among.items)
    (sym (reverse-push c.loop-greatest.inside.items c.push.new.self.items c.in-Some.greatest c.in_ok-push.ensures.items))
    (collecting_more c.args.self.now c.args.id c.loop-greatest.open.items c.pop.new.self.items c.put_all.new.among.items (reverse c.loop-greatest.inside.items) c.parts.result.now c.in-Some.greatest
    c.loop-greatest.invariant c.in-Some.ensures.items c.parts.ensures.views c.parts.ensures.earlier c.in_ok-put_all.ensures)

pub returns : goal.returns
returns c =
    let none : c.loop-greatest.open.items ≡ [] = empty_from c.loop-greatest.open.items (λ h. false≢true (c.in_default.ensures.variant.1 (omega (arith, h, c.loop-greatest.open.ok.0)))) in
    subst (AreInside c.args.self.now c.args.id) (sym c.reverse.ensures.items)
    (collected c.args.self.now (apart_in_table c.self.inside.nodes.keys c.self.invariant.entries c.self.invariant.once c.args.self.now c.self.view_is)
    c.args.id c.loop-greatest.open.items (reverse c.loop-greatest.inside.items) c.loop-greatest.invariant none)
