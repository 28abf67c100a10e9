use Rattle.std.proofs.Common.{get_or, drop, ◌+◌, arith, refl, sym, ◌∙◌, inl, subst}
use Rattle.wf_sat_check.specs.Rup.Fed.{IsTurned}
use Rattle.wf_sat_text.specs.Drat.Text.{text_of, turn_of}
use Rattle.wf_sat_check.proofs.OfRup.FedLemmas.{fault-in, refuted-before, refuted-in, up-to_byte, up-to_next, up-to_unmoved}
use Rattle.wf_sat_check.proofs.OfRup.RatLemmas.{satisfiable-on}
use Rattle.wf_sat_check.proofs.rup.proof.Proof.feed.Goals as goal

pub returns-then-is_refuted-clause-read : goal.returns-then-is_refuted-clause-read
returns-then-is_refuted-clause-read c =
    inl (refuted-before (text_of c.args.self.now c.args.piece.now) c.args.checker.now (sym c.is_refuted.ensures.exact ∙ c.if-is_refuted.true))

pub returns-in-Ok-true-clause-kept : goal.returns-in-Ok-true-clause-kept
returns-in-Ok-true-clause-kept c = satisfiable-on c.args.checker.now c.bytes.checker c.read.new.checker c.bytes.invariant.0 c.read.ensures.kept

pub returns-in-Ok-true-clause-read : goal.returns-in-Ok-true-clause-read
returns-in-Ok-true-clause-read c =
    let bytes = c.args.piece.now in
    let text = text_of c.args.self.now bytes in
    let state = c.take_literal.new.self in
    let byte = get_or bytes c.bytes.at 0 in
    let old = c.args.checker.now in
    let now = c.bytes.checker in
    let left = up-to_unmoved text bytes c.bytes.at c.in-Ok-None.field-0 c.self.inside.reader state c.bytes.self old now c.in-Ok-None.field-0-is c.in-Ok-None.ensures c.self.view_is c.bytes.invariant.1 in
    inl (refuted-in (turn_of state byte) text state c.read.new.self byte (drop (c.bytes.at + 1) bytes) old now c.read.new.checker refl
    (up-to_byte text state bytes c.bytes.at old now c.bytes-test.true left)
    (subst (IsTurned (turn_of state byte) byte state c.read.new.self now c.read.new.checker) c.in-Ok-true.field-0-test c.in-Ok-true.ensures.read))

pub returns-in-Err-read-clause-kept : goal.returns-in-Err-read-clause-kept
returns-in-Err-read-clause-kept c = satisfiable-on c.args.checker.now c.bytes.checker c.read.new.checker c.bytes.invariant.0 c.read.ensures.kept

pub returns-in-Err-read-clause-refused : goal.returns-in-Err-read-clause-refused
returns-in-Err-read-clause-refused c =
    let bytes = c.args.piece.now in
    let text = text_of c.args.self.now bytes in
    let state = c.take_literal.new.self in
    let byte = get_or bytes c.bytes.at 0 in
    let old = c.args.checker.now in
    let now = c.bytes.checker in
    let left = up-to_unmoved text bytes c.bytes.at c.in-Ok-None.field-0 c.self.inside.reader state c.bytes.self old now c.in-Ok-None.field-0-is c.in-Ok-None.ensures c.self.view_is c.bytes.invariant.1 in
    fault-in (turn_of state byte) text state byte (drop (c.bytes.at + 1) bytes) old now c.read.new.checker c.in-Err-read.fault refl
    (up-to_byte text state bytes c.bytes.at old now c.bytes-test.true left)
    c.in-Err-read.ensures.refused

pub bytes-preserved : goal.bytes-preserved
bytes-preserved c =
    let bytes = c.args.piece.now in
    let text = text_of c.args.self.now bytes in
    let state = c.take_literal.new.self in
    let byte = get_or bytes c.bytes.at 0 in
    let old = c.args.checker.now in
    let now = c.bytes.checker in
    let left = up-to_unmoved text bytes c.bytes.at c.in-Ok-None.field-0 c.self.inside.reader state c.bytes.self old now c.in-Ok-None.field-0-is c.in-Ok-None.ensures c.self.view_is c.bytes.invariant.1 in
    let within = c.bytes-test.true in (
      satisfiable-on c.args.checker.now c.bytes.checker c.read.new.checker c.bytes.invariant.0 c.read.ensures.kept,
      up-to_next (turn_of state byte) text state c.read.new.self byte (drop (c.bytes.at + 1) bytes) old now c.read.new.checker refl
          (up-to_byte text state bytes c.bytes.at old now within left)
          (subst (IsTurned (turn_of state byte) byte state c.read.new.self now c.read.new.checker) c.in-Ok-false.field-0-test c.in-Ok-false.ensures.read),
      omega (arith, within),
    )
