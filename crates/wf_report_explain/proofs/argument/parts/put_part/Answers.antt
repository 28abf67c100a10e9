use Rattle.std.proofs.Common.{◌∷◌, ◌++◌, ◌+◌, suc, Some, drop, length, map, string_bytes, sym, ap, ◌∙◌, arith}
use Rattle.wf_model.specs.Check.{place_of}
use Rattle.wf_model.specs.Problem.{constraint_at}
use Rattle.wf_base.specs.Lines.Lines.{line_of}
use Rattle.wf_report_explain.specs.Argument.Parts.{takes, closes, splits, parts_of}
use Rattle.wf_report_explain.specs.Argument.ArgumentState.{after_taking, cases_at, entered}
use Rattle.wf_report_explain.specs.Words.Subject.{executions_in, problem_in}
use Rattle.wf_report_explain.specs.Argument.Subject.{same_values, steps_to_come, to_come}
use Rattle.wf_report_explain.specs.Argument.Text.{split_text, told_taking}
use Rattle.wf_report_explain.specs.Argument.Trail.{state_of}
use Rattle.wf_report_explain.proofs.OfArgument.TextParts.{after_one, counted_part, first_line, one_run, steps_after_one, told_part}
use Rattle.wf_report_explain.proofs.OfArgument.PartSteps.{few_steps, numbered}
use Rattle.wf_report_explain.proofs.argument.parts.put_part.Goals as goal

pub returns-in_ok-put_taking-in-Remove-clause-text : goal.returns-in_ok-put_taking-in-Remove-clause-text
returns-in_ok-put_taking-in-Remove-clause-text c =
    let x = c.args.subject.now in let p = problem_in x in let es = executions_in x in
    let s = state_of c.args.state.now in let lines = c.args.lines.now in
    let run = c.in-Remove in let e = run.execution in let process = run.process in
    let set = c.in_ok-count-in-Remove in let taking = c.in_ok-put_taking-in-Remove.ensures in
    let rest = map line_of (drop 1 lines) in
    let is = c.of-run.ensures in
    let values = is.values ∙ c.deref.ensures.value ∙ set.ensures.values in
    told_part p es s (Some (state_of c.put_taking.new.state)) (takes e process (run.value ∷ same_values e process rest)) (parts_of (map line_of lines)) (parts_of (map line_of (drop set.count lines))) (string_bytes c.args.text.now) (string_bytes c.put_taking.new.text)
    (ap parts_of (first_line lines _ _ c.requires.some run.is) ∙ one_run e process run.value rest ∙ ap (λ ls. takes e process (run.value ∷ same_values e process rest) ∷ parts_of ls) (sym set.ensures.after))
    (taking.text ∙ (λ i. string_bytes c.args.text.now ++ told_taking p es s (is.execution i) (values i) (place_of 0 (is.process i) (constraint_at p (is.execution i)).scope)))
    (ap (λ s. Some s) (taking.state ∙ (λ i. after_taking p s (is.execution i) (values i) (place_of 0 (is.process i) (constraint_at p (is.execution i)).scope))))

pub returns-in_ok-put_end-in-Empty-clause-text : goal.returns-in_ok-put_end-in-Empty-clause-text
returns-in_ok-put_end-in-Empty-clause-text c =
    let x = c.args.subject.now in let p = problem_in x in let es = executions_in x in
    let s = state_of c.args.state.now in let lines = c.args.lines.now in
    let ended = c.in_ok-put_end-in-Empty in
    ap (λ xs. string_bytes c.put_end.new.text ++ xs) (ap (to_come x lines c.put_end.new.state) c.one_if.ensures ∙ after_one x lines c.put_end.new.state ended.field-0)
    ∙ told_part p es s _ (closes c.in-Empty.point) (parts_of (map line_of lines)) (parts_of (map line_of (drop 1 lines))) (string_bytes c.args.text.now) (string_bytes c.put_end.new.text)
    (ap parts_of (first_line lines _ _ c.requires.some c.in-Empty.is)) ended.ensures.text ended.ensures.state

pub returns-in_ok-put_split-in-Branch-clause-text : goal.returns-in_ok-put_split-in-Branch-clause-text
returns-in_ok-put_split-in-Branch-clause-text c =
    let x = c.args.subject.now in let p = problem_in x in let es = executions_in x in
    let s = state_of c.args.state.now in let lines = c.args.lines.now in let v = c.in-Branch.point in
    let split = c.in_ok-put_split-in-Branch in
    ap (λ xs. string_bytes c.put_split.new.text ++ xs) (ap (to_come x lines c.put_split.new.state) c.one_if-in-Branch.ensures ∙ after_one x lines c.put_split.new.state split.field-0)
    ∙ told_part p es s _ (splits v) (parts_of (map line_of lines)) (parts_of (map line_of (drop 1 lines))) (string_bytes c.args.text.now) (string_bytes c.put_split.new.text)
    (ap parts_of (first_line lines _ _ c.requires.some c.in-Branch.is))
    (split.ensures.text ∙ ap (λ values. string_bytes c.args.text.now ++ split_text values s v) c.requires.values)
    (split.ensures.state ∙ ap (λ values. entered (suc s.number) (cases_at values s v ++ s.later)) c.requires.values)

pub put_taking-requires-clause-few : goal.put_taking-requires-clause-few
put_taking-requires-clause-few c = let set = c.in_ok-count-in-Remove in omega (arith, c.requires.few, set.ensures.count, set.ensures.within, ap length c.of-run.ensures.values, ap length c.deref.ensures.value)

pub returns-in_ok-put_taking-in-Remove-clause-steps : goal.returns-in_ok-put_taking-in-Remove-clause-steps
returns-in_ok-put_taking-in-Remove-clause-steps c =
    let x = c.args.subject.now in let p = problem_in x in
    let s = state_of c.args.state.now in let lines = c.args.lines.now in
    let run = c.in-Remove in let e = run.execution in let process = run.process in
    let set = c.in_ok-count-in-Remove in let taking = c.in_ok-put_taking-in-Remove.ensures in
    let rest = map line_of (drop 1 lines) in
    let is = c.of-run.ensures in
    let values = is.values ∙ c.deref.ensures.value ∙ set.ensures.values in
    let at = place_of 0 process (constraint_at p e).scope in
    let taken = taking.state ∙ (λ i. after_taking p s (is.execution i) (values i) (place_of 0 (is.process i) (constraint_at p (is.execution i)).scope)) in
    counted_part p s (Some (state_of c.put_taking.new.state)) (takes e process (run.value ∷ same_values e process rest)) (parts_of (map line_of lines)) (parts_of (map line_of (drop set.count lines))) _ _
    (ap parts_of (first_line lines _ _ c.requires.some run.is) ∙ one_run e process run.value rest ∙ ap (λ ls. takes e process (run.value ∷ same_values e process rest) ∷ parts_of ls) (sym set.ensures.after))
    (ap (λ s. s.number) taken ∙ numbered p s e (run.value ∷ same_values e process rest) at)
    (ap (λ s. Some s) taken)

pub returns-in_ok-put_taking-in-Remove-clause-number : goal.returns-in_ok-put_taking-in-Remove-clause-number
returns-in_ok-put_taking-in-Remove-clause-number c =
    let p = problem_in c.args.subject.now in let s = state_of c.args.state.now in
    let run = c.of-run.result in let e = run.execution in let values = run.values.now in
    let at = place_of 0 run.process (constraint_at p e).scope in
    let set = c.in_ok-count-in-Remove in let taking = c.in_ok-put_taking-in-Remove.ensures in
    omega (arith, ap (λ s. s.number) taking.state, numbered p s e values at, few_steps p s e values at, ap length c.of-run.ensures.values, ap length c.deref.ensures.value, set.ensures.count)

pub returns-in_ok-put_end-in-Empty-clause-steps : goal.returns-in_ok-put_end-in-Empty-clause-steps
returns-in_ok-put_end-in-Empty-clause-steps c =
    let x = c.args.subject.now in let p = problem_in x in
    let s = state_of c.args.state.now in let lines = c.args.lines.now in
    let ended = c.in_ok-put_end-in-Empty in
    ap (λ n. c.put_end.new.state.number + n) (ap (steps_to_come x lines c.put_end.new.state) c.one_if.ensures ∙ steps_after_one x lines c.put_end.new.state ended.field-0)
    ∙ counted_part p s _ (closes c.in-Empty.point) (parts_of (map line_of lines)) (parts_of (map line_of (drop 1 lines))) _ _
    (ap parts_of (first_line lines _ _ c.requires.some c.in-Empty.is)) (omega (arith, ended.ensures.number)) ended.ensures.state

pub returns-in_ok-put_split-in-Branch-clause-steps : goal.returns-in_ok-put_split-in-Branch-clause-steps
returns-in_ok-put_split-in-Branch-clause-steps c =
    let x = c.args.subject.now in let p = problem_in x in
    let s = state_of c.args.state.now in let lines = c.args.lines.now in let v = c.in-Branch.point in
    let split = c.in_ok-put_split-in-Branch in
    ap (λ n. c.put_split.new.state.number + n) (ap (steps_to_come x lines c.put_split.new.state) c.one_if-in-Branch.ensures ∙ steps_after_one x lines c.put_split.new.state split.field-0)
    ∙ counted_part p s _ (splits v) (parts_of (map line_of lines)) (parts_of (map line_of (drop 1 lines))) _ _
    (ap parts_of (first_line lines _ _ c.requires.some c.in-Branch.is)) split.ensures.number
    (split.ensures.state ∙ ap (λ values. entered (suc s.number) (cases_at values s v ++ s.later)) c.requires.values)
