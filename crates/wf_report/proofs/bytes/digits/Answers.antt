use Rattle.std.proofs.Common.{◌+◌, ◌-◌, ◌*◌, ◌∙◌, drop, get_or, sym, ap, arith}
use Rattle.std.proofs.lemmas.List.{drop_more}
use Rattle.wf_report.specs.Numbers.{digits_upto}
use Rattle.wf_report.proofs.ByteLemmas.{digit_taken, too_large}
use Rattle.wf_report.proofs.bytes.digits.Goals as goal

pub returns-then-number-from : goal.returns-then-number-from
returns-then-number-from c =
    let word = c.args.word.now in
    let i = c.loop-byte.byte-index in
    let n = c.loop-byte.number in
    let d = get_or word i 0 in
    sym (sym c.loop-byte.invariant.0 ∙ ap (digits_upto c.args.most n) (drop_more word i 0 c.loop-byte-test.true) ∙ digit_taken c.args.most n d (drop (i + 1) word) (sym c.is_ascii_digit.ensures.value ∙ c.if-not-is_ascii_digit.false) ∙ too_large c.args.most (10 * n + (d - 48)) (drop (i + 1) word) (omega (arith, c.if-number-from.true, c.from.ensures, c.from-in-loop-byte.ensures)))
