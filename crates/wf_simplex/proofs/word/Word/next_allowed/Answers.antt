use Rattle.std.proofs.Common.{◌≡◌, ◌+◌, ◌-◌, length, true, false, sym, ap, ◌∙◌, arith}
use Rattle.wf_simplex.specs.WordTable.{end_of, IsInTable, length-word_at}
use Rattle.wf_simplex.proofs.Allowed.{allows, seek, seek_here, seek_on, seek_none, next_there, last_there}
use Rattle.wf_simplex.proofs.word.Word.next_allowed.Goals as goal

pub returns-then-allowed-clause-size : goal.returns-then-allowed-clause-size
returns-then-allowed-clause-size c =
    let n = c.self.inside.size in
    let h = c.self.invariant in
    let there : IsInTable n c.loop-index.index = record {
      some = h.some;
      few = h.few;
      from = omega (arith, h.from, c.loop-index.auto.index);
      upto = omega (arith, c.loop-index-test.true, c.end-index-end.ensures);
    } in
    length-word_at n c.loop-index.index there ∙ sym (length-word_at n c.self.inside.index h) ∙ ap length c.self.view_is

pub returns-then-allowed-clause-next : goal.returns-then-allowed-clause-next
unfolding allows
returns-then-allowed-clause-next c = λ k is _.
    let m = c.args.m in
    let n = c.self.inside.size in
    let from = c.self.inside.index + 1 in
    let end = c.end-index-end.ensures in
    let allowed : allows m n c.loop-index.index ≡ true = sym c.allowed.ensures ∙ c.if-allowed.true in
    let found : seek m n from (end_of n - from) ≡ c.loop-index.index =
    ap (λ e. seek m n from (e - from)) (sym end)
    ∙ c.loop-index.invariant.sought
    ∙ seek_here m n c.loop-index.index (c.end-index-end.result - c.loop-index.index) (omega (arith, c.loop-index-test.true)) allowed in
    next_there m n c.self.inside.index c.requires.one c.requires.most c.self.invariant c.args.self.now c.self.view_is k is c.loop-index.index found (omega (arith, c.loop-index-test.true, end))

pub loop-index-preserved : goal.loop-index-preserved
unfolding allows
loop-index-preserved c =
    let m = c.args.m in
    let n = c.self.inside.size in
    let i = c.loop-index.index in
    let e = c.end-index-end.result in
    let refused : allows m n c.loop-index.index ≡ false = sym c.allowed.ensures ∙ c.if-allowed.false in
    let left : e - i - 1 ≡ e - (i + 1) = omega arith in
    record {
      same = c.loop-index.invariant.same;
      sought = c.loop-index.invariant.sought ∙ seek_on m n i (e - i) (omega (arith, c.loop-index-test.true)) refused ∙ ap (seek m n (i + 1)) left;
    }

pub returns-clause-last : goal.returns-clause-last
returns-clause-last c = λ k is _.
    let m = c.args.m in
    let n = c.self.inside.size in
    let from = c.self.inside.index + 1 in
    let end = c.end-index-end.ensures in
    let past : c.loop-index.index ≡ end_of n = omega (arith, c.loop-index-test.false, c.loop-index.auto.index-end (omega (arith, end, c.self.invariant.upto)), end) in
    let found : seek m n from (end_of n - from) ≡ end_of n =
    ap (λ e. seek m n from (e - from)) (sym end)
    ∙ c.loop-index.invariant.sought
    ∙ seek_none m n c.loop-index.index (c.end-index-end.result - c.loop-index.index) (omega (arith, c.loop-index-test.false))
    ∙ past in
    last_there m n c.self.inside.index c.requires.one c.requires.most c.self.invariant c.args.self.now c.self.view_is k is found
