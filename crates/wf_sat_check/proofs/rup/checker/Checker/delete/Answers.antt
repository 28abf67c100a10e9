use Rattle.std.proofs.Common.{◌∙◌}
use Rattle.std.proofs.lemmas.Result.{IfOk-weaker}
use Rattle.wf_sat_check.proofs.OfRup.DeletedLemmas.{deletes-known, stored-alike, without-known}
use Rattle.wf_sat_check.proofs.OfRup.LiteralLemmas.{keeps-models}
use Rattle.wf_sat_check.proofs.rup.checker.Checker.delete.Goals as goal

pub returns-clause-exact : goal.returns-clause-exact
returns-clause-exact c = deletes-known c.self.inside.variables c.self.inside.database c.delete.new.self c.args.self.now c.args.clause.now _ c.self.view_is
    (c.deref.ensures.value ∙ c.in_ok-put_codes.ensures) c.delete.ensures.exact

pub returns-clause-found : goal.returns-clause-found
returns-clause-found c = IfOk-weaker c.delete.result _ _
    (λ done found there. without-known c.self.inside.variables c.self.inside.database c.delete.new.self c.args.self.now c.args.clause.now _ c.self.view_is
    (c.deref.ensures.value ∙ c.in_ok-put_codes.ensures)
    (found (stored-alike c.self.inside.variables c.self.inside.database c.args.self.now c.args.clause.now _ c.self.view_is (c.deref.ensures.value ∙ c.in_ok-put_codes.ensures) there)))
    c.delete.ensures.found

pub returns-clause-kept : goal.returns-clause-kept
returns-clause-kept c = keeps-models c.self.inside.variables c.self.inside.database c.delete.new.self c.args.self.now c.self.view_is c.delete.ensures.kept
