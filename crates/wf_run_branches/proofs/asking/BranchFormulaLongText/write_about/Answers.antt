use Rattle.std.proofs.Common.{ap, map, subst, ◌∙◌}
use Rattle.wf_base.specs.Set.Sets.{values_in}
use Rattle.wf_sat_formula.specs.Branches.{box_text, branch_text}
use Rattle.wf_run.specs.Run.{HasComplex}
use Rattle.wf_run.proofs.Lemmas.{beyond_build}
use Rattle.wf_run_branches.specs.Branches.{HasBranch, IsNoBranch}
use Rattle.wf_run_branches.proofs.BranchRuns.{beyond_branches, beyond_limits, broken, refused, text_is, written}
use Rattle.wf_run_branches.proofs.asking.BranchFormulaLongText.write_about.Goals as goal

pub returns-in_err-protocol : goal.returns-in_err-protocol
returns-in_err-protocol g c =
    refused branch_text c.args.task.now c.args.self.now.rounds c.args.self.now.branch c.args.sink.now c.args.sink.now _ c.from_residual.result
    (beyond_limits c.args.task.now c.args.self.now.rounds c.args.self.now.branch _ (beyond_build c.args.task.now c.args.self.now.rounds c.in_err-protocol.field-0.0 c.in_err-protocol.ensures)) c.from_residual.ensures

pub returns-in_err-found : goal.returns-in_err-found
returns-in_err-found g c =
    let built = c.in_ok-protocol.ensures in
    let has : HasComplex c.args.task.now c.args.self.now.rounds = (c.in_ok-protocol.protocol, built) in
    refused branch_text c.args.task.now c.args.self.now.rounds c.args.self.now.branch c.args.sink.now c.args.sink.now _ c.from_residual-in_err-found.result
    (beyond_branches c.args.task.now c.args.self.now.rounds c.args.self.now.branch _ has
    (subst (λ r. IsNoBranch c.args.task.now r c.args.self.now.branch c.in_err-found.field-0.0) built.2.rounds_are c.in_err-found.ensures.refused)) c.from_residual-in_err-found.ensures

pub returns-in_err-question : goal.returns-in_err-question
returns-in_err-question g c =
    refused branch_text c.args.task.now c.args.self.now.rounds c.args.self.now.branch c.args.sink.now c.args.sink.now _ c.from_residual-in_err-question.result tt c.from_residual-in_err-question.ensures

pub returns-in_err-write : goal.returns-in_err-write
returns-in_err-write g c =
    let built = c.in_ok-protocol.ensures in
    let has : HasComplex c.args.task.now c.args.self.now.rounds = (c.in_ok-protocol.protocol, built) in
    let found = c.in_ok-found.ensures.found in
    broken branch_text c.args.task.now c.args.self.now.rounds c.args.self.now.branch c.args.sink.now c.write.new.sink c.in_ok-question.question c.in_err-write.field-0.0 c.from_residual-in_err-write.result
    has (subst (λ r. HasBranch c.args.task.now r c.args.self.now.branch) built.2.rounds_are found.there)
    (c.in_ok-question.ensures ∙ ap (λ sets. box_text c.args.task.now c.in_ok-protocol.protocol.rounds c.in_ok-found.found.number c.in_ok-found.found.count (map values_in sets)) c.deref.ensures.value
    ∙ text_is c.args.task.now c.in_ok-protocol.protocol.rounds c.args.self.now.branch c.in_ok-found.found found
    ∙ ap (λ r. branch_text c.args.task.now r c.args.self.now.branch) built.2.rounds_are) c.in_err-write.ensures c.from_residual-in_err-write.ensures

pub returns : goal.returns
returns g c =
    let built = c.in_ok-protocol.ensures in
    let has : HasComplex c.args.task.now c.args.self.now.rounds = (c.in_ok-protocol.protocol, built) in
    let found = c.in_ok-found.ensures.found in
    written branch_text c.args.task.now c.args.self.now.rounds c.args.self.now.branch c.args.sink.now c.write.new.sink c.in_ok-question.question
    has (subst (λ r. HasBranch c.args.task.now r c.args.self.now.branch) built.2.rounds_are found.there)
    (c.in_ok-question.ensures ∙ ap (λ sets. box_text c.args.task.now c.in_ok-protocol.protocol.rounds c.in_ok-found.found.number c.in_ok-found.found.count (map values_in sets)) c.deref.ensures.value
    ∙ text_is c.args.task.now c.in_ok-protocol.protocol.rounds c.args.self.now.branch c.in_ok-found.found found
    ∙ ap (λ r. branch_text c.args.task.now r c.args.self.now.branch) built.2.rounds_are) c.in_ok-write.ensures
