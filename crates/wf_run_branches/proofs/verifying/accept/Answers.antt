use Rattle.std.proofs.Common.{ap, ◌∙◌, length}
use Rattle.wf_sat_formula.specs.Branches.{branches}
use Rattle.wf_report.specs.Reports.{body_of}
use Rattle.wf_run_verify.specs.Verify.{accepted_words}
use Rattle.wf_run_branches.specs.Refuting.{accepted_in}
use Rattle.wf_run_branches.proofs.verifying.accept.Goals as goal

pub returns : goal.returns
returns g c =
    let t = c.args.judge.now.task.now in
    let r = c.args.judge.now.protocol.now.rounds in
    let index = c.index-index.ensures in
    let branch = c.requires.branch in
    let i = c.args.branch.number in
    let words = accepted_words (body_of c.args.report.now.body) in (
      c.in_ok-check_part.ensures,
      ap (λ v. v.items) c.into_bytes.ensures.value ∙ c.in_ok-text.ensures
          ∙ ap (λ w. accepted_in w c.index-index.result.number c.index-index.result.count c.rounds-rounds.result) c.accepted_words.ensures
          ∙ ap (λ k. accepted_in words k c.index-index.result.count c.rounds-rounds.result) index.number
          ∙ ap (λ n. accepted_in words i n c.rounds-rounds.result) (index.count ∙ branch.count)
          ∙ ap (accepted_in words i (length (branches t r))) c.rounds-rounds.ensures,
    )
