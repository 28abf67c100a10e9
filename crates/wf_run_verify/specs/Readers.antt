-- How far a proof was read, piece by piece.
use Rattle.std.specs.Prelude.{ℕ, List}
use Rattle.wf_sat_text.specs.Drat.Text as clausal
use Rattle.wf_sat_text.specs.Lrat.Text as hinted
use Rattle.wf_sat_check.specs.Lrat.Fed.{IsReadTo}
use Rattle.wf_sat_check.specs.Lrat.Ledger.{Ledger}
use Rattle.wf_sat_check.specs.Lrat.Models as hints
use Rattle.wf_sat_check.specs.Rup.Rat as proofs
use Rattle.wf_sat_check.specs.Rup.Seen.{Known}
use Rattle.wf_sat_check.proofs.OfRup.Lemmas.{IsFed}
use Rattle.wf_run_verify.specs.Hints.{outcome_so_far}

-- what was read of a clausal proof: what is known has a model if what was known before these bytes
-- has one, and the proof's text is read in this state
abbrev pub HasReadProof : Known → List ℕ → clausal.State → Known → Type 0
HasReadProof posed given state known = proofs.KeepsSatisfiable posed known × IsFed posed given state known

-- what was read of a proof with hints: what is left has a model if these clauses have one, and the
-- bytes come to it, with the proof's text read in this state
abbrev pub HasReadHints : Ledger → List ℕ → hinted.State → Ledger → Type 0
HasReadHints posed given state left = hints.KeepsSatisfiable posed left × IsReadTo (outcome_so_far posed given) state left
