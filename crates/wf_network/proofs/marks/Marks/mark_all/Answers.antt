use Rattle.std.proofs.Common.{◌≡◌, arith, subst, sym}
use Rattle.wf_network.specs.Marks.{bit_of}
use Rattle.wf_network.proofs.MarkLemmas.{all_set}
use Rattle.wf_network.proofs.marks.Marks.mark_all.Goals as goal

pub returns-clause-marked : goal.returns-clause-marked
returns-clause-marked c = λ n low.
    let all = c.fill.ensures.items (λ y e. e) in
    subst (λ xs. bit_of xs n ≡ 1) (sym all) (all_set c.args.self.now.words.len n (omega (arith, low, c.args.self.now.words.ok.0)))

pub invariant_of-self-clause-tops_tell : goal.invariant_of-self-clause-tops_tell
invariant_of-self-clause-tops_tell c = λ i within none.
    let all = c.fill-2.ensures.items (λ y e. e) in
    let set = subst (λ xs. bit_of xs i ≡ 1) (sym all) (all_set c.args.self.now.tops.len i (omega (arith, within, c.fill.ensures.len, c.args.self.now.tops_within, c.args.self.now.tops.ok.0, c.args.self.now.words.ok.0))) in
    absurd (let bad : ⊥ = omega (arith, set, none) in bad)
