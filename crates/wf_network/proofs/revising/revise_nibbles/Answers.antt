use Rattle.std.proofs.Common.{rules, ◌<◌, ◌^◌, ◌∙◌, All, arith, refl, subst, sym, Some, None, cond}
use Rattle.wf_network.specs.Revising.{IsKnown, nibbles_in, widened}
use Rattle.wf_network.specs.declared.memo.CacheEntry.{CacheEntry}
use Rattle.wf_network.specs.declared.revising.TheConstants.{TINY_LIMIT}
use Rattle.wf_network.specs.Problems.{constraints_in}
use Rattle.wf_network.proofs.MemoLemmas.{known_now, lead_is, lead_there, packed_right}
use Rattle.wf_network.proofs.PackedLemmas.{cut_low, nibbles_low}
use Rattle.wf_network.proofs.revising.revise_nibbles.Goals as goal

pub nibbles_of-supported-requires-clause-below : goal.nibbles_of-supported-requires-clause-below
nibbles_of-supported-requires-clause-below c = subst (All (λ p. p < TINY_LIMIT)) (sym c.cut.ensures) (cut_low TINY_LIMIT (omega arith) c.revised-parts.result)

pub returns-then-execution-execution_count-clause-supported : goal.returns-then-execution-execution_count-clause-supported
returns-then-execution-execution_count-clause-supported c =
    packed_right c.args.network.now c.args.rule c.index.result.now 4 (nibbles_in c.args.candidates) c.unpacked_nibbles.result c.revised-parts.result (nibbles_in c.nibbles_of-supported.result) c.requires.network c.requires.rule c.index.ensures c.unpacked_nibbles.ensures refl (nibbles_low c.args.candidates (let small : c.args.candidates < 2 ^ 16 = search rules in small)) c.revised-parts.ensures.long (c.nibbles_of-supported.ensures ∙ c.cut.ensures) c.revised-parts.ensures.supported

pub returns-else-execution-execution_count-clause-supported : goal.returns-else-execution-execution_count-clause-supported
returns-else-execution-execution_count-clause-supported c =
    packed_right c.args.network.now c.args.rule c.index.result.now 4 (nibbles_in c.args.candidates) c.unpacked_nibbles.result c.revised-parts.result (nibbles_in c.nibbles_of-supported.result) c.requires.network c.requires.rule c.index.ensures c.unpacked_nibbles.ensures refl (nibbles_low c.args.candidates (let small : c.args.candidates < 2 ^ 16 = search rules in small)) c.revised-parts.ensures.long (c.nibbles_of-supported.ensures ∙ c.cut.ensures) c.revised-parts.ensures.supported

pub returns-then-execution-execution_count-clause-known : goal.returns-then-execution-execution_count-clause-known
returns-then-execution-execution_count-clause-known c =
    let n = c.args.network.now in
    let lead = c.index-execution.result.now in
    let is = lead_is n c.args.rule lead c.requires.network c.requires.rule c.index-execution.ensures in
    let candidates = widened (nibbles_in c.args.candidates) in
    let supported = widened (nibbles_in c.nibbles_of-supported.result) in
    let known = known_now n c.args.rule lead candidates supported c.requires.network c.requires.rule is (omega (arith, c.if-execution-execution_count.true, c.execution_count.ensures))
    (packed_right c.args.network.now c.args.rule c.index.result.now 4 (nibbles_in c.args.candidates) c.unpacked_nibbles.result c.revised-parts.result (nibbles_in c.nibbles_of-supported.result) c.requires.network c.requires.rule c.index.ensures c.unpacked_nibbles.ensures refl (nibbles_low c.args.candidates (let small : c.args.candidates < 2 ^ 16 = search rules in small)) c.revised-parts.ensures.long (c.nibbles_of-supported.ensures ∙ c.cut.ensures) c.revised-parts.ensures.supported) in
    let seen : CacheEntry = record { execution = lead; candidates = candidates; supported = supported } in
    c.keep_nibbles.ensures (constraints_in n) (subst (λ b. IsKnown (constraints_in n) (cond b None (Some seen))) (sym (lead_there n c.args.rule lead c.requires.network c.requires.rule is)) known) c.requires.known
