use Rattle.std.proofs.Common.{◌<◌, ◌≤◌, ◌+◌, get_or, length, sym, ap, ◌∙◌, arith}
use Rattle.wf_tree_refine.proofs.Ranks.{next_root, next_other, one_rank, pushed}
use Rattle.wf_tree_refine.specs.Forest.{rank}
use Rattle.std.proofs.lemmas.Grind.{get_or_default_zero}
use Rattle.wf_tree_refine.proofs.parts.ranks.Goals as goal
use Rattle.wf_tree_refine.proofs.parts.ranks.Goals.{then-parent-number, else-parent-number}

pub numbers-preserved : goal.numbers-preserved
numbers-preserved c =
    let ps = c.args.parents.now in
    let number = c.numbers.number in
    let inside = c.numbers-test.true in
    let before = c.numbers.invariant in
    elim c.if-parent-number.branch [
      | then-parent-number w ↦
          let items = ap (λ r. r.items) w.ranks-is ∙ w.push_reserved.ensures.items in
          let root = w.if-parent-number.true in
          record {
            count = ap length items ∙ pushed c.numbers.ranks.items c.numbers.roots number before.count;
            few = omega (arith, w.roots-is, before.few);
            room = ap (λ r. r.cap) w.ranks-is ∙ w.push_reserved.ensures.capacity ∙ before.room;
            roots = λ label f. w.roots-is ∙ ap (λ n. n + 1) (before.roots label f) ∙ next_root label number (f.root number inside root);
            ranks = λ label f. one_rank c.numbers.ranks.items c.if-parent-number.ranks.items label number c.numbers.roots before.count items (before.ranks label f) (before.roots label f ∙ ap (rank label) (sym (f.root number inside root)));
          }
      | else-parent-number w ↦
          let items = ap (λ r. r.items) w.ranks-is ∙ w.push_reserved-else-parent-number.ensures.items in
          let other = w.if-parent-number.false in
          let parent = get_or ps number 0 in
          let up : parent ≤ number = c.requires.parents number inside in
          let low : parent < number = omega (arith, up, other) in
          let small : parent < length ps = omega (arith, low, inside) in
          record {
            count = ap length items ∙ pushed c.numbers.ranks.items w.index.result.now number before.count;
            few = omega (arith, w.roots-is, before.few);
            room = ap (λ r. r.cap) w.ranks-is ∙ w.push_reserved-else-parent-number.ensures.capacity ∙ before.room;
            roots = λ label f. w.roots-is ∙ before.roots label f
                ∙ next_other label number (let a = f.above number inside in let b = f.low parent small in omega (arith, a, b, low));
            ranks = λ label f. one_rank c.numbers.ranks.items c.if-parent-number.ranks.items label number w.index.result.now before.count items (before.ranks label f)
                (w.index.ensures ∙ get_or_default_zero c.numbers.ranks.items parent w.index.result.now (let long = before.count in omega (arith, low, long)) ∙ before.ranks label f parent low ∙ ap (rank label) (f.above number inside));
          }
    ]
