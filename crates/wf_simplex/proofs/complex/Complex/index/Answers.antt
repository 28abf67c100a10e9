use Rattle.std.proofs.Common.{◌∙◌, subst}
use Rattle.std.specs.List.Sorted.{IsStrictlySortedBy}
use Rattle.wf_model.specs.Simplex.{simplex_cmp}
use Rattle.wf_simplex.proofs.Search.{found_at, not_found}
use Rattle.wf_simplex.proofs.complex.Complex.index.Goals as goal

pub returns-in-Ok-clause-place : goal.returns-in-Ok-clause-place
returns-in-Ok-clause-place c = found_at c.args.self.now c.deref.result.now c.args.simplex.now c.in-Ok.place (c.deref.ensures.value ∙ c.self.view_is) c.in-Ok.ensures.bound c.in-Ok.ensures.ok

pub returns-in-Err-clause-absent : goal.returns-in-Err-clause-absent
returns-in-Err-clause-absent c =
    λ _ here. not_found c.args.self.now c.deref.result.now c.args.simplex.now c.in-Err.field-0 (c.deref.ensures.value ∙ c.self.view_is)
    (subst (IsStrictlySortedBy simplex_cmp) c.self.view_is c.self.invariant.ascending) c.in-Err.ensures.position here
