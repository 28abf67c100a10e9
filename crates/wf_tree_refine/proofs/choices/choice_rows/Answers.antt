use Rattle.std.proofs.Common.{ap, ◌∙◌}
use Rattle.std.proofs.lemmas.Result.{err_from_is_err_and}
use Rattle.wf_model.specs.Simplex.{processes_of}
use Rattle.wf_tree_model.specs.Tuples.{choices_of}
use Rattle.wf_tree_refine.specs.Choices.{chosen_by}
use Rattle.wf_tree_refine.proofs.Making.{rows_counted, rows_made, too_many_more}
use Rattle.wf_tree_refine.proofs.choices.choice_rows.Goals as goal

pub rows-preserved : goal.rows-preserved
rows-preserved c =
    let f = choices_of (chosen_by c.args.sets.now) (processes_of c.args.simplex.now) in
    let processes = c.deref.ensures.value ∙ c.in_ok-processes.ensures.processes in
    record {
      within = c.in_ok-push_choices.ensures.within;
      made = rows_made f c.args.rows.now c.rows.row-index c.row-item.result c.rows.found.items c.push_choices.new.found.items _ c.rows-test.true c.row-item.is
          (ap (λ ps. choices_of (chosen_by c.args.sets.now) ps c.row-item.result) processes) c.in_ok-push_choices.ensures.pushed c.rows.invariant.made;
    }

pub returns-in_err-push_choices-clause-refused : goal.returns-in_err-push_choices-clause-refused
returns-in_err-push_choices-clause-refused c =
    let f = choices_of (chosen_by c.args.sets.now) (processes_of c.args.simplex.now) in
    let processes = c.deref.ensures.value ∙ c.in_ok-processes.ensures.processes in
    let p = err_from_is_err_and c.from_residual-in_err-push_choices.result c.from_residual-in_err-push_choices.ensures.1 in
    rw (p.1, p.2)
    (too_many_more c.in_err-push_choices.field-0.0 _ _ _
    (rows_counted f c.args.rows.now c.rows.row-index c.row-item.result c.rows.found.items _ c.rows-test.true c.row-item.is
    (ap (λ ps. choices_of (chosen_by c.args.sets.now) ps c.row-item.result) processes) c.rows.invariant.made)
    c.in_err-push_choices.ensures.refused)
