use Rattle.std.proofs.Common.{◌≡◌, List, All, IfOk, Vec, Global, length, sym, ap, ◌∙◌, subst, refl, arith}
use Rattle.wf_complex.specs.Layout.{laid_out, place_total}
use Rattle.wf_complex.specs.Places.{IsOn, LieFrom, firsts_at, firsts_in}
use Rattle.wf_complex.specs.declared.firsts.First.{First}
use Rattle.wf_complex.specs.declared.layout.ExecutionSlot.{ExecutionSlot}
use Rattle.wf_complex.proofs.Cuts.{length-laid_out}
use Rattle.wf_complex.proofs.ExecutionsInOrder.{all_lie, all_on}
use Rattle.wf_complex.proofs.protocol.firsts_among.Goals as goal

pub firsts_of-requires : goal.firsts_of-requires
firsts_of-requires c =
    let m = c.args.first_block in
    let r = c.args.rounds in
    let inputs = c.args.inputs.now in
    let end = place_total m r inputs in
    let laid : c.deref.result.now ≡ laid_out m r 0 0 inputs = c.deref.ensures.value ∙ c.in_ok-spans.ensures in
    record {
      lying = (end, subst (LieFrom 0 end) (sym laid) (all_lie m r end inputs refl), c.requires.places);
      on = subst (All (IsOn inputs)) (sym laid) (all_on m r inputs);
      few = omega (arith, ap length laid, length-laid_out m r 0 0 inputs, c.requires.few);
      ascending = c.requires.ascending;
    }

pub returns : goal.returns
returns c =
    let m = c.args.first_block in
    let r = c.args.rounds in
    let inputs = c.args.inputs.now in
    let places = c.args.places.now in
    let laid : c.deref.result.now ≡ laid_out m r 0 0 inputs = c.deref.ensures.value ∙ c.in_ok-spans.ensures in
    subst (λ (es : List ExecutionSlot). IfOk c.firsts_of.result (λ (firsts : Vec First Global). firsts_in firsts.items ≡ firsts_at inputs es places)) laid c.firsts_of.ensures
