use Rattle.std.proofs.Common.{◌+◌, ◌∙◌, arith, drop, inr, sym}
use Rattle.wf_sat_text.specs.Lrat.Text.{text_of}
use Rattle.wf_sat_check.specs.Lrat.Fed.{outcome_of}
use Rattle.wf_sat_check.proofs.OfLrat.FedLemmas.{refuted_outcome, to_byte}
use Rattle.wf_sat_check.proofs.OfLrat.ModelLemmas.{satisfiable_on}
use Rattle.wf_sat_check.proofs.lrat.proof.LratProof.feed.Goals as goal

pub returns-then-is_refuted-clause-read : goal.returns-then-is_refuted-clause-read
returns-then-is_refuted-clause-read c =
    inr (refuted_outcome (text_of c.args.self.now c.args.piece.now) c.args.checker.now (sym c.is_refuted.ensures.exact ∙ c.if-is_refuted.true))

pub returns-then-is_refuted-2-clause-kept : goal.returns-then-is_refuted-2-clause-kept
returns-then-is_refuted-2-clause-kept c = satisfiable_on c.args.checker.now c.bytes.checker c.read.new.checker c.bytes.invariant.kept c.read.ensures.kept

pub returns-then-is_refuted-2-clause-read : goal.returns-then-is_refuted-2-clause-read
returns-then-is_refuted-2-clause-read c =
    let bytes = c.args.piece.now in
    let left = drop (c.bytes.at + 1) bytes in
    inr (to_byte (outcome_of (text_of c.args.self.now bytes) c.args.checker.now) bytes c.bytes.at c.in-Ok-None.field-0 c.self.inside.reader c.take_word.new.self c.bytes.self c.bytes.checker
    c.bytes-test.true c.in-Ok-None.field-0-is c.in-Ok-None.ensures c.self.view_is c.bytes.invariant.same
    ∙ c.in-Ok.ensures.read left
    ∙ refuted_outcome (text_of c.read.new.self left) c.read.new.checker (sym c.is_refuted-in-Ok.ensures.exact ∙ c.if-is_refuted-2.true))

pub bytes-preserved : goal.bytes-preserved
bytes-preserved c =
    let bytes = c.args.piece.now in
    let left = drop (c.bytes.at + 1) bytes in
    let within = c.bytes-test.true in
    record {
      kept = satisfiable_on c.args.checker.now c.bytes.checker c.read.new.checker c.bytes.invariant.kept c.read.ensures.kept;
      same = to_byte (outcome_of (text_of c.args.self.now bytes) c.args.checker.now) bytes c.bytes.at c.in-Ok-None.field-0 c.self.inside.reader c.take_word.new.self c.bytes.self c.bytes.checker
          within c.in-Ok-None.field-0-is c.in-Ok-None.ensures c.self.view_is c.bytes.invariant.same
          ∙ c.in-Ok.ensures.read left;
      unrefuted = sym c.is_refuted-in-Ok.ensures.exact ∙ c.if-is_refuted-2.false;
      within = omega (arith, within);
    }

pub returns-in-Err-read-clause-kept : goal.returns-in-Err-read-clause-kept
returns-in-Err-read-clause-kept c = satisfiable_on c.args.checker.now c.bytes.checker c.read.new.checker c.bytes.invariant.kept c.read.ensures.kept
