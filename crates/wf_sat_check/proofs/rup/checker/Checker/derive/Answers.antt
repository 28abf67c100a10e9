use Rattle.std.proofs.Common.{◌∙◌, ap}
use Rattle.std.proofs.lemmas.Result.{IfOk-weaker}
use Rattle.wf_sat_check.specs.Rup.Seen.{known_of}
use Rattle.wf_sat_check.proofs.OfRup.RatLemmas.{is-redundant, is-unjustified, keeps-satisfiable}
use Rattle.wf_sat_check.proofs.OfRup.StoredLemmas.{is-kept, knows-alone, knows-still}
use Rattle.wf_sat_check.proofs.rup.checker.Checker.derive.Goals as goal

pub returns-clause-redundant : goal.returns-clause-redundant
returns-clause-redundant c = IfOk-weaker c.derive.result _ _
    (λ taken redundant yes. is-redundant c.self.inside.variables c.self.inside.database c.args.self.now c.args.lemma.now _ c.self.view_is
    (c.deref.ensures.value ∙ c.in_ok-put_codes.ensures) (redundant yes))
    c.derive.ensures.redundant

pub returns-clause-refused : goal.returns-clause-refused
returns-clause-refused c = IfOk-weaker c.derive.result _ _
    (λ follows refuses no. is-unjustified c.self.inside.variables c.self.inside.database c.args.self.now c.args.lemma.now _ c.self.view_is
    (c.deref.ensures.value ∙ c.in_ok-put_codes.ensures) (refuses no))
    c.derive.ensures.refused

pub returns-clause-unchanged : goal.returns-clause-unchanged
returns-clause-unchanged c = IfOk-weaker c.derive.result _ _
    (λ follows same no. ap (known_of c.self.inside.variables) (same no) ∙ c.self.view_is)
    c.derive.ensures.unchanged

pub returns-clause-kept : goal.returns-clause-kept
returns-clause-kept c = keeps-satisfiable c.self.inside.variables c.self.inside.database c.derive.new.self c.args.self.now c.self.view_is c.derive.ensures.kept

pub returns-clause-added : goal.returns-clause-added
returns-clause-added c = IfOk-weaker c.derive.result _ _
    (λ follows stored yes. is-kept c.self.inside.variables c.derive.new.self c.args.lemma.now _ (c.deref.ensures.value ∙ c.in_ok-put_codes.ensures) (stored yes))
    c.derive.ensures.stored

pub returns-clause-still : goal.returns-clause-still
returns-clause-still c = IfOk-weaker c.derive.result _ _ (λ follows still. knows-still c.self.inside.variables c.self.inside.database c.derive.new.self c.args.self.now c.self.view_is still) c.derive.ensures.still

pub returns-clause-alone : goal.returns-clause-alone
returns-clause-alone c = IfOk-weaker c.derive.result _ _
    (λ follows stored. knows-alone c.self.inside.variables c.self.inside.database c.derive.new.self c.args.self.now c.args.lemma.now _ c.self.view_is
    (c.deref.ensures.value ∙ c.in_ok-put_codes.ensures) stored)
    c.derive.ensures.alone
