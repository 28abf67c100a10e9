use Rattle.std.proofs.Common.{[], ap, sym, ◌∙◌, inr}
use Rattle.std.proofs.lemmas.Result.{IfErr-weaker, IfOk-weaker}
use Rattle.wf_sat_check.specs.Rup.Fed.{proof_start}
use Rattle.wf_sat_check.proofs.OfRup.ProofPieces.{fed_more, nothing_fed, refusal_at_end, refusal_fed}
use Rattle.wf_sat_check.proofs.OfRup.RatLemmas.{no-model-before}
use Rattle.wf_sat_check.proofs.rup.whole.check_proof.Goals as goal

pub returns-in-Err-clause-refused : goal.returns-in-Err-clause-refused
returns-in-Err-clause-refused c =
    let posed = c.in-Ok.checker in
    let start = c.new-reading.result in
    let same = c.new-reading.ensures ∙ ap proof_start (sym c.in-Ok.ensures.variables) in
    inr (posed, c.in-Ok.ensures, refusal_fed posed [] start posed c.args.proof.now c.feed.new.checker c.in-Err.fault (nothing_fed posed start same) c.in-Err.ensures.refused)

pub returns-clause-accepted : goal.returns-clause-accepted
returns-clause-accepted c = IfOk-weaker c.finish.result _ _
    (λ accepted none a model. no-model-before c.in-Ok.checker c.feed.new.checker c.feed.ensures.kept none a (c.in-Ok.ensures.models.follows a model))
    c.finish.ensures.accepted

pub returns-clause-refused : goal.returns-clause-refused
returns-clause-refused c =
    let posed = c.in-Ok.checker in
    let start = c.new-reading.result in
    let same = c.new-reading.ensures ∙ ap proof_start (sym c.in-Ok.ensures.variables) in
    let fed = fed_more posed [] start posed c.args.proof.now c.feed.new.self c.feed.new.checker (nothing_fed posed start same) c.in_default-feed.ensures.read in
    IfErr-weaker c.finish.result _ _
    (λ fault why. inr (posed, c.in-Ok.ensures, refusal_at_end posed c.args.proof.now c.feed.new.self c.feed.new.checker c.finish.new.checker fault fed why))
    c.finish.ensures.refused
