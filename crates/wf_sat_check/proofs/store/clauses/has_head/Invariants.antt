use Rattle.std.proofs.Common.{◌≡◌, ℕ, ◌<◌, get_or}
use Rattle.wf_sat_check.specs.Store.Laid.{head_word}
use Rattle.wf_sat_check.proofs.store.clauses.has_head.Given as goal

abbrev pub invariant-loop-word : goal.invariant-loop-word
invariant-loop-word l = (place : ℕ) → place < l.word-index → get_or l.words place 0 ≡ head_word → ⊥
