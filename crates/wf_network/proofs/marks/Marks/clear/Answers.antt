use Rattle.std.proofs.Common.{◌<◌, ◌≤◌, ℕ, length, sym, subst, arith}
use Rattle.std.proofs.Math.ListN.{length-set}
use Rattle.wf_network.specs.Limits.{most_words}
use Rattle.wf_network.specs.Marks.{IsLast, IsNext}
use Rattle.wf_network.proofs.MarkLemmas.{all_cleared, cleared_more, further, tells_less}
use Rattle.wf_network.proofs.marks.Marks.clear.Goals as goal

pub next_bit-requires-clause-few : goal.next_bit-requires-clause-few
next_bit-requires-clause-few c = subst (λ xs. length xs ≤ most_words) (sym c.deref.ensures.value) c.words.self.few_tops

pub next_bit-requires-clause-low : goal.next_bit-requires-clause-low
next_bit-requires-clause-low c = omega (arith, c.words.invariant.within, c.words.self.few)

pub returns-then-word-len-clause-cleared : goal.returns-then-word-len-clause-cleared
returns-then-word-len-clause-cleared c =
    let now = c.words.self in
    let found : IsNext now.tops.items c.words.next c.in-Some.word = subst (λ xs. IsNext xs c.words.next c.in-Some.word) c.deref.ensures.value c.in-Some.ensures.next in
    all_cleared now.words.items now.tops.items c.words.next c.in-Some.word now.tops_tell (omega (arith, c.if-word-len.true, c.len.ensures, now.words.ok.0)) c.words.invariant.cleared found.first

pub take_bit-requires : goal.take_bit-requires
take_bit-requires c =
    let now = c.words.self in
    let found : IsNext now.tops.items c.words.next c.in-Some.word = subst (λ xs. IsNext xs c.words.next c.in-Some.word) c.deref.ensures.value c.in-Some.ensures.next in
    found.within

pub invariant_of-self : goal.invariant_of-self
invariant_of-self c =
    let now = c.words.self in
    record {
      few = omega (arith, now.few, length-set {A = ℕ});
      few_tops = omega (arith, now.few_tops, c.take_bit.ensures.long);
      tops_within = omega (arith, now.tops_within, c.take_bit.ensures.long, length-set {A = ℕ});
      tops_tell = tells_less now.words.items now.tops.items c.take_bit.new.words.items c.in-Some.word now.tops_tell c.take_bit.ensures.others;
    }

pub words-smaller : goal.words-smaller
words-smaller c =
    let now = c.words.self in
    let found : IsNext now.tops.items c.words.next c.in-Some.word = subst (λ xs. IsNext xs c.words.next c.in-Some.word) c.deref.ensures.value c.in-Some.ensures.next in
    further (length now.words.items) _ c.words.next c.in-Some.word (length-set now.words.items c.in-Some.word 0) found.after (omega (arith, c.if-word-len.false, c.len.ensures, now.words.ok.0))

pub words-preserved : goal.words-preserved
words-preserved c =
    let now = c.words.self in
    let found : IsNext now.tops.items c.words.next c.in-Some.word = subst (λ xs. IsNext xs c.words.next c.in-Some.word) c.deref.ensures.value c.in-Some.ensures.next in
    let within : c.in-Some.word < length now.words.items = omega (arith, c.if-word-len.false, c.len.ensures, now.words.ok.0) in
    record {
      long = omega (arith, c.words.invariant.long, length-set {A = ℕ});
      within = omega (arith, within, length-set {A = ℕ});
      cleared = cleared_more now.words.items now.tops.items c.words.next c.in-Some.word now.tops_tell within c.words.invariant.cleared found.first;
    }

pub returns-clause-cleared : goal.returns-clause-cleared
returns-clause-cleared c =
    let now = c.words.self in
    let last : IsLast now.tops.items c.words.next = subst (λ xs. IsLast xs c.words.next) c.deref.ensures.value c.in_default.ensures.last in
    all_cleared now.words.items now.tops.items c.words.next (length now.words.items) now.tops_tell (omega arith) c.words.invariant.cleared (λ i late low. last i late)
