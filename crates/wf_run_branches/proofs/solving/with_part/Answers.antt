use Rattle.std.proofs.Common.{ap, subst, ◌∙◌}
use Rattle.wf_model.specs.Problem.{problem_of}
use Rattle.wf_pool.specs.Answers.{IsAnswerAt}
use Rattle.wf_run_solve.specs.Texts.{lines_kept}
use Rattle.wf_run_branches.specs.Solving.{part_text}
use Rattle.wf_run_branches.proofs.BranchAnswers.{map_part, none_part}
use Rattle.wf_run_branches.proofs.solving.with_part.Goals as goal

pub returns-in_ok-part_text-in-Map : goal.returns-in_ok-part_text-in-Map
returns-in_ok-part_text-in-Map c =
    let t = c.args.task.now in
    let r = c.args.wanted.rounds in
    let i = c.args.head.index.number in
    let answer = subst (IsAnswerAt (problem_of t r) (lines_kept c.args.wanted.form) i) c.in-Map.is c.requires.answer in
    map_part t r i c.args.wanted.form c.in-Map.values.items c.in-Map.lines.items c.in_ok-part_text-in-Map.field-0.items c.requires.header.task answer
    (c.in_ok-part_text-in-Map.ensures ∙ ap (part_text t r i) c.body_of_map-body.ensures)

pub returns-in_ok-part_text-in-Nothing : goal.returns-in_ok-part_text-in-Nothing
returns-in_ok-part_text-in-Nothing c =
    let t = c.args.task.now in
    let r = c.args.wanted.rounds in
    let i = c.args.head.index.number in
    let answer = subst (IsAnswerAt (problem_of t r) (lines_kept c.args.wanted.form) i) c.in-Nothing.is c.requires.answer in
    none_part t r i c.args.wanted.form c.in-Nothing.lines.items c.in_ok-part_text-in-Nothing.field-0.items c.requires.header.task answer
    c.in_ok-part_text-in-Nothing.ensures
