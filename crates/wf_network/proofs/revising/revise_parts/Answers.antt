use Rattle.std.proofs.Common.{arith, subst, sym}
use Rattle.wf_lane.specs.Table.{HasSupported}
use Rattle.wf_network.specs.Problems.{constraints_in, rule_at}
use Rattle.wf_network.specs.Revising.{AreKnown, answers_in, widened}
use Rattle.wf_network.proofs.MemoLemmas.{known_now, lead_is, right_at}
use Rattle.wf_network.proofs.revising.revise_parts.Goals.{then-execution-execution_count, else-execution-execution_count}
use Rattle.wf_network.proofs.revising.revise_parts.Goals as goal

-- the new answer is right for the rule
new_answer : (c : goal.After-changed) → HasSupported (widened c.revised-supported.result) (rule_at c.args.network.now c.args.rule).table (widened c.args.candidates)
new_answer c = right_at c.args.network.now c.args.rule c.index.result.now (widened c.args.candidates) (widened c.revised-supported.result) c.requires.rule c.index.ensures c.revised-supported.ensures.supported

pub returns-clause-supported : goal.returns-clause-supported
returns-clause-supported c =
    subst (λ parts. HasSupported (widened parts) (rule_at c.args.network.now c.args.rule).table (widened c.args.candidates)) (sym c.changed.ensures.parts) (new_answer c)

pub returns-clause-known : goal.returns-clause-known
returns-clause-known c =
    let n = c.args.network.now in
    let lead = c.index-execution.result.now in
    elim c.if-execution-execution_count.branch [
      | then-execution-execution_count w ↦ subst (λ m. AreKnown (constraints_in n) (answers_in m)) (sym w.memo-is)
          (w.keep_narrow.ensures (constraints_in n)
          (known_now n c.args.rule lead (widened c.args.candidates) (widened c.revised-supported.result) c.requires.network c.requires.rule (lead_is n c.args.rule lead c.requires.network c.requires.rule c.index-execution.ensures) (omega (arith, w.if-execution-execution_count.true, c.execution_count.ensures)) (new_answer c)) c.requires.known)
      | else-execution-execution_count w ↦ subst (λ m. AreKnown (constraints_in n) (answers_in m)) (sym w.memo-is) c.requires.known
    ]
