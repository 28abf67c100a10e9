use Rattle.std.proofs.Common.{refl, arith}
use Rattle.wf_task_parse.proofs.CursorLemmas.{one_digit, two_digits, three_digits}
use Rattle.wf_task_parse.proofs.cursor.short_number.Goals as goal

pub returns-in-len1-up : goal.returns-in-len1-up
returns-in-len1-up c =
    let v = c.digit_value.ensures in
    (omega (arith, v.digit), one_digit c.args.text.now c.digit_value.result c.in-len1-up.len_at_least v.value v.digit, c.if-ends_word.ensures refl)

pub returns-in-len2-up : goal.returns-in-len2-up
returns-in-len2-up c =
    let lead = c.if-is_leading_digit.ensures refl in
    let t = c.digit_value-in-len2-up.ensures in
    let o = c.digit_value-in-len2-up-2.ensures in (
      omega (arith, t.digit, o.digit),
      two_digits c.args.text.now c.digit_value-in-len2-up.result c.digit_value-in-len2-up-2.result c.in-len2-up.len_at_least t.value o.value (omega (arith, t.value, lead.0)) t.digit o.digit,
      c.if-ends_word-2.ensures refl,
    )

pub returns-in-len3-up : goal.returns-in-len3-up
returns-in-len3-up c =
    let lead = c.if-is_leading_digit-2.ensures refl in
    let h = c.digit_value-in-len3-up.ensures in
    let t = c.digit_value-in-len3-up-2.ensures in
    let o = c.digit_value-in-len3-up-3.ensures in (
      omega (arith, h.digit, t.digit, o.digit),
      three_digits c.args.text.now c.digit_value-in-len3-up.result c.digit_value-in-len3-up-2.result c.digit_value-in-len3-up-3.result c.in-len3-up.len_at_least h.value t.value o.value (omega (arith, h.value, lead.0)) h.digit t.digit o.digit,
      c.if-ends_word-3.ensures refl,
    )
