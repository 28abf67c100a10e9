use Rattle.std.proofs.Common.{sym, subst, ap, ◌∙◌, inr}
use Rattle.wf_sat_text.specs.Drat.Codes.{is_model_of_codes}
use Rattle.wf_sat_check.specs.Store.Index.{IsTaken}
use Rattle.wf_sat_check.specs.Rup.Stored.{IsModelOfStored, kept_of}
use Rattle.wf_sat_check.proofs.OfRup.DeletedLemmas.{deletes-taken, none-stored}
use Rattle.wf_sat_check.proofs.OfRup.KeptLemmas.{model-less}
use Rattle.wf_sat_check.proofs.rup.database.Database.delete.Goals as goal

pub returns-then-branch-clause-exact : goal.returns-then-branch-clause-exact
returns-then-branch-clause-exact c =
    inr (deletes-taken c.args.self.now c.self.inside.trail c.self.inside.clauses c.delete.new.self c.self.inside.is_refuted c.args.clause.now c.self.view_is
    (c.in_ok-delete.ensures.taken c.if-branch.true))

pub returns-then-branch-clause-found : goal.returns-then-branch-clause-found
returns-then-branch-clause-found c = λ there.
    deletes-taken c.args.self.now c.self.inside.trail c.self.inside.clauses c.delete.new.self c.self.inside.is_refuted c.args.clause.now c.self.view_is
    (c.in_ok-delete.ensures.taken c.if-branch.true)

pub returns-then-branch-clause-kept : goal.returns-then-branch-clause-kept
returns-then-branch-clause-kept c = λ a model.
    let stored : IsModelOfStored a _ = subst (IsModelOfStored a) (sym c.self.view_is) model in
    let taken : IsTaken c.args.clause.now c.self.inside.clauses c.delete.new.self = c.in_ok-delete.ensures.taken c.if-branch.true in
    record {
      literals = stored.literals;
      clauses = ap (λ f. is_model_of_codes a (kept_of f)) taken.is ∙ model-less a c.self.inside.clauses taken.number stored.clauses;
      unrefuted = stored.unrefuted;
    }

pub returns-else-branch-clause-found : goal.returns-else-branch-clause-found
returns-else-branch-clause-found c = λ there.
    absurd (none-stored c.args.self.now c.self.inside.trail c.self.inside.clauses c.self.inside.is_refuted c.args.clause.now c.self.view_is
    (c.in_ok-delete.ensures.none c.if-branch.false) there)
