use Rattle.std.proofs.Common.{◌∙◌}
use Rattle.std.proofs.lemmas.Result.{IfOk-weaker}
use Rattle.wf_sat_check.proofs.OfRup.LiteralLemmas.{keeps-models_of}
use Rattle.wf_sat_check.proofs.OfRup.StoredLemmas.{is-kept, knows-alone, knows-still}
use Rattle.wf_sat_check.proofs.rup.checker.Checker.add.Goals as goal

pub returns-clause-sound : goal.returns-clause-sound
returns-clause-sound c = keeps-models_of c.self.inside.variables c.self.inside.database c.add.new.self c.args.self.now c.args.clause.now _ c.self.view_is
    (c.deref.ensures.value ∙ c.in_ok-put_codes.ensures) c.add.ensures.sound

pub returns-clause-kept : goal.returns-clause-kept
returns-clause-kept c = IfOk-weaker c.add.result _ _
    (λ done stored. is-kept c.self.inside.variables c.add.new.self c.args.clause.now _ (c.deref.ensures.value ∙ c.in_ok-put_codes.ensures) stored) c.add.ensures.kept

pub returns-clause-still : goal.returns-clause-still
returns-clause-still c = IfOk-weaker c.add.result _ _ (λ done still. knows-still c.self.inside.variables c.self.inside.database c.add.new.self c.args.self.now c.self.view_is still) c.add.ensures.still

pub returns-clause-alone : goal.returns-clause-alone
returns-clause-alone c = IfOk-weaker c.add.result _ _
    (λ done stored. knows-alone c.self.inside.variables c.self.inside.database c.add.new.self c.args.self.now c.args.clause.now _ c.self.view_is
    (c.deref.ensures.value ∙ c.in_ok-put_codes.ensures) stored)
    c.add.ensures.alone
