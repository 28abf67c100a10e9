use Rattle.std.proofs.Common.{◌≡◌, ◌<◌, arith, ◌∙◌, ◌+◌, ◌/◌, sym, subst, ℕ, ◌≤◌, length, IfSome}
use Rattle.wf_network.specs.Limits.{most_words}
use Rattle.wf_network.specs.Marks.{bit_of, IsLast, IsNext}
use Rattle.wf_network.proofs.MarkLemmas.{found_none, further_word, if_next_from, if_none, last_from, none_after, none_until}
use Rattle.wf_network.proofs.marks.Marks.next.Goals as goal

pub first_here-found-requires-clause-within : goal.first_here-found-requires-clause-within
first_here-found-requires-clause-within c = subst (λ xs. c.words.from / 64 < length xs) (sym c.deref.ensures.value) (omega (arith, c.words-test.true, c.len.ensures, c.args.self.now.words.ok.0))

pub first_here-found-requires-clause-low : goal.first_here-found-requires-clause-low
first_here-found-requires-clause-low c = c.words.invariant.1

pub returns-then-is_some-clause-next : goal.returns-then-is_some-clause-next
returns-then-is_some-clause-next c =
    let words = c.args.self.now.words.items in
    let o = c.first_here-found.result in
    let found = subst (λ xs. IfSome o (IsNext xs c.words.from)) c.deref.ensures.value c.first_here-found.ensures.next in
    if_next_from words c.args.from c.words.from o c.words.invariant.0 c.words.invariant.2 found

pub next_bit-requires-clause-few : goal.next_bit-requires-clause-few
next_bit-requires-clause-few c = subst (λ xs. length xs ≤ most_words) (sym c.deref-in-words.ensures.value) c.args.self.now.few_tops

pub next_bit-requires-clause-low : goal.next_bit-requires-clause-low
next_bit-requires-clause-low c = omega (arith, c.words.invariant.1)

pub returns-in_err-from-clause-last : goal.returns-in_err-from-clause-last
returns-in_err-from-clause-last c =
    let words = c.args.self.now.words.items in
    let tops = c.args.self.now.tops.items in
    let last : IsLast tops (c.words.from / 64 + 1) = subst (λ xs. IsLast xs (c.words.from / 64 + 1)) c.deref-in-words.ensures.value c.in_err-from.ensures.last in
    if_none (IsLast words c.args.from) c.from_residual.result
    (none_after words tops c.args.from c.words.from c.args.self.now.tops_within c.args.self.now.tops_tell c.words.invariant.2
    (subst (λ xs. (m : ℕ) → c.words.from ≤ m → m / 64 ≡ c.words.from / 64 → bit_of xs m ≡ 0) c.deref.ensures.value (found_none _ _ (sym c.is_some.ensures ∙ c.if-is_some.false) c.first_here-found.ensures.last)) last)

pub words-smaller : goal.words-smaller
words-smaller c =
    let found : IsNext c.args.self.now.tops.items (c.words.from / 64 + 1) c.in_ok-from.field-0 = subst (λ xs. IsNext xs (c.words.from / 64 + 1) c.in_ok-from.field-0) c.deref-in-words.ensures.value c.in_ok-from.ensures.next in
    further_word (length c.args.self.now.words.items) c.words.from c.in_ok-from.field-0 (omega (arith, c.words-test.true, c.len.ensures, c.args.self.now.words.ok.0)) found.after

pub words-preserved : goal.words-preserved
words-preserved c =
    let found : IsNext c.args.self.now.tops.items (c.words.from / 64 + 1) c.in_ok-from.field-0 = subst (λ xs. IsNext xs (c.words.from / 64 + 1) c.in_ok-from.field-0) c.deref-in-words.ensures.value c.in_ok-from.ensures.next in (
      omega (arith, found.after, c.words.invariant.0),
      omega (arith, found.within, c.args.self.now.few_tops),
      none_until c.args.self.now.words.items c.args.self.now.tops.items c.args.from c.words.from c.in_ok-from.field-0 c.args.self.now.tops_within c.args.self.now.tops_tell c.words.invariant.2
          (subst (λ xs. (m : ℕ) → c.words.from ≤ m → m / 64 ≡ c.words.from / 64 → bit_of xs m ≡ 0) c.deref.ensures.value (found_none _ _ (sym c.is_some.ensures ∙ c.if-is_some.false) c.first_here-found.ensures.last)) found.first,
    )

pub returns-clause-last : goal.returns-clause-last
returns-clause-last c = last_from c.args.self.now.words.items c.args.from c.words.from c.words.invariant.2 (omega (arith, c.words-test.false, c.len.ensures, c.args.self.now.words.ok.0))
