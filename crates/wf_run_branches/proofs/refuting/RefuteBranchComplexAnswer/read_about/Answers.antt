use Rattle.std.proofs.Common.{ℕ, Err, ap, refl, ◌∙◌}
use Rattle.wf_sat_formula.specs.Branches.{branch_question}
use Rattle.wf_run.specs.Sources.{ReadsAbout}
use Rattle.wf_run.specs.Run.{answered}
use Rattle.wf_run.specs.declared.fault.RunFault.TheVariants.{OutOfMemory}
use Rattle.wf_run_verify.proofs.Lemmas.{refused, refused_so, told, untold}
use Rattle.wf_run_branches.specs.Refuting.{IsAcceptedBranch}
use Rattle.wf_run_branches.proofs.BranchProofs.{found_in, missing_in, none_in, posed_in, told_of}
use Rattle.wf_run_branches.proofs.refuting.RefuteBranchComplexAnswer.read_about.Goals as goal

pub returns-in_err-branch : goal.returns-in_err-branch
returns-in_err-branch g c =
    let reads : ℕ → ReadsAbout = λ i t r. g.P.ProofFormat.reads (branch_question t r i) (IsAcceptedBranch i t r) in
    missing_in reads c.args.self.now.number c.args.subject.now.task.now c.args.subject.now.protocol.now.rounds c.args.source.now c.in_err-branch.field-0.0 c.from_residual.result c.in_err-branch.ensures.refused c.from_residual.ensures

pub returns-in_err-checker : goal.returns-in_err-checker
returns-in_err-checker g c =
    let t = c.args.subject.now.task.now in
    let r = c.args.subject.now.protocol.now.rounds in
    let i = c.args.self.now.number in
    let old = c.args.source.now in
    let result = c.from_residual-in_err-checker.result in
    let reads : ℕ → ReadsAbout = λ i t r. g.P.ProofFormat.reads (branch_question t r i) (IsAcceptedBranch i t r) in
    found_in reads i t r old i old (answered result) refl c.in_ok-branch.ensures.found.there
    (refused_so (reads i t r old old) OutOfMemory result c.from_residual-in_err-checker.ensures (g.P.ProofFormat.is_unread (branch_question t r i) (IsAcceptedBranch i t r) old))

pub returns-in_err-read_from : goal.returns-in_err-read_from
returns-in_err-read_from g c =
    let t = c.args.subject.now.task.now in
    let r = c.args.subject.now.protocol.now.rounds in
    let i = c.args.self.now.number in
    let checker = c.in_ok-checker.checker in
    let old = c.args.source.now in
    let new = c.read_from.new.source in
    let e = c.in_err-read_from.field-0.0 in
    let result = c.from_residual-in_err-read_from.result in
    let found = c.in_ok-branch.ensures.found in
    let reads : ℕ → ReadsAbout = λ i t r. g.P.ProofFormat.reads (branch_question t r i) (IsAcceptedBranch i t r) in
    let posed = posed_in g.P.ProofFormat.is_posed t r i c.in_ok-branch.branch c.deref.result.now checker found c.deref.ensures.value (g.met.P.ProofFormat.is_known _ checker c.in_ok-checker.ensures) in
    found_in reads i t r old i new (answered result) refl found.there
    (refused_so (reads i t r old new) e result c.from_residual-in_err-read_from.ensures
    (g.P.ProofFormat.is_read (branch_question t r i) checker (IsAcceptedBranch i t r) old new (Err e) posed
    (refused (g.P.ProofFormat.is_accepted checker) (IsAcceptedBranch i t r) (g.P.ProofFormat.is_refused checker) old new e c.in_err-read_from.ensures)))

pub returns-in_err-text : goal.returns-in_err-text
returns-in_err-text g c =
    let t = c.args.subject.now.task.now in
    let r = c.args.subject.now.protocol.now.rounds in
    let i = c.args.self.now.number in
    let checker = c.in_ok-checker.checker in
    let old = c.args.source.now in
    let new = c.read_from.new.source in
    let result = c.from_residual-in_err-text.result in
    let found = c.in_ok-branch.ensures.found in
    let reads : ℕ → ReadsAbout = λ i t r. g.P.ProofFormat.reads (branch_question t r i) (IsAcceptedBranch i t r) in
    let posed = posed_in g.P.ProofFormat.is_posed t r i c.in_ok-branch.branch c.deref.result.now checker found c.deref.ensures.value (g.met.P.ProofFormat.is_known _ checker c.in_ok-checker.ensures) in
    found_in reads i t r old i new (answered result) refl found.there
    (refused_so (reads i t r old new) OutOfMemory result c.from_residual-in_err-text.ensures
    (g.P.ProofFormat.is_read (branch_question t r i) checker (IsAcceptedBranch i t r) old new (Err OutOfMemory) posed
    (untold (g.P.ProofFormat.is_accepted checker) (IsAcceptedBranch i t r) (g.P.ProofFormat.is_refused checker) old new c.in_ok-read_from.ensures)))

pub returns : goal.returns
returns g c =
    let t = c.args.subject.now.task.now in
    let r = c.args.subject.now.protocol.now.rounds in
    let i = c.args.self.now.number in
    let checker = c.in_ok-checker.checker in
    let old = c.args.source.now in
    let new = c.read_from.new.source in
    let found = c.in_ok-branch.ensures.found in
    let reads : ℕ → ReadsAbout = λ i t r. g.P.ProofFormat.reads (branch_question t r i) (IsAcceptedBranch i t r) in
    let posed = posed_in g.P.ProofFormat.is_posed t r i c.in_ok-branch.branch c.deref.result.now checker found c.deref.ensures.value (g.met.P.ProofFormat.is_known _ checker c.in_ok-checker.ensures) in
    found_in reads i t r old i new _ refl found.there
    (g.P.ProofFormat.is_read (branch_question t r i) checker (IsAcceptedBranch i t r) old new _ posed
    (told (g.P.ProofFormat.is_accepted checker) (IsAcceptedBranch i t r) (g.P.ProofFormat.is_refused checker) old new c.into_bytes.result.items c.in_ok-read_from.ensures
    (λ given accepted. (
      none_in t r i c.requires.protocol.2.task (g.met.P.ProofFormat.is_sound (branch_question t r i) checker given posed accepted),
      told_of t r i c.in_ok-branch.branch c.index-index.result.number c.index-index.result.count c.rounds.result c.into_bytes.result.items found c.index-index.ensures.number c.index-index.ensures.count
          c.rounds.ensures (ap (λ v. v.items) c.into_bytes.ensures.value ∙ c.in_ok-text.ensures),
    ))))
