use Rattle.std.proofs.Common.{◌≡◌, ◌<◌, ◌++◌, codes, decimal, flat_map, length, map, slice_get, refl, sym, ap, ◌∙◌, arith}
use Rattle.wf_base.proofs.OfStreams.Lemmas.{went_on, stopped, last_put}
use Rattle.wf_model.specs.Execution.{executions}
use Rattle.wf_model.specs.Problem.{problem_of, constraint_at}
use Rattle.wf_complex.proofs.Lemmas.{scope_is}
use Rattle.wf_report_explain.specs.Words.Listing.{spaced}
use Rattle.wf_report_explain.specs.Words.Text.{points_in, execution_text, plain_names}
use Rattle.wf_report_explain.proofs.OfWords.ExecutionPlaces.{as_many}
use Rattle.wf_report_explain.proofs.OfWords.Pieces.{first_failed, first_put}
use Rattle.wf_report_explain.proofs.words.listed.put_execution.Goals as goal

pub points_of-requires : goal.points_of-requires
points_of-requires g c = omega (arith, c.requires.execution, as_many c.args.subject.now.task.now c.args.subject.now.protocol.now.rounds c.args.subject.now.protocol.now c.requires.subject.protocol)

pub returns-in_err-put_number : goal.returns-in_err-put_number
returns-in_err-put_number g c =
    let p = problem_of c.args.subject.now.task.now c.args.subject.now.protocol.now.rounds in
    let e = c.args.execution in
    let told = execution_text plain_names (slice_get (executions c.args.subject.now.task.now c.args.subject.now.protocol.now.rounds) e) in
    first_failed _ _ _ _ _ (decimal e ++ codes " ") (told ++ (codes " :" ++ (flat_map spaced (points_in (constraint_at p e)) ++ codes "\n"))) c.from_residual.result c.from_residual.ensures.0 c.in_err-put_number.ensures refl

pub returns-in_err-put_words : goal.returns-in_err-put_words
returns-in_err-put_words g c =
    let p = problem_of c.args.subject.now.task.now c.args.subject.now.protocol.now.rounds in
    let e = c.args.execution in
    let told = execution_text plain_names (slice_get (executions c.args.subject.now.task.now c.args.subject.now.protocol.now.rounds) e) in
    let end = codes " :" ++ (flat_map spaced (points_in (constraint_at p e)) ++ codes "\n") in
    let first = first_put _ _ _ _ _ (decimal e ++ codes " ") (told ++ end) c.in_ok-put_number.ensures refl in
    stopped _ _ _ _ _ _ _ _ (told ++ end) end c.from_residual-in_err-put_words.result c.from_residual-in_err-put_words.ensures.0 first c.in_err-put_words.ensures (ap (λ bs. bs ++ end) (sym (c.find-found.ensures.text plain_names)))

pub returns : goal.returns
returns g c =
    let t = c.args.subject.now.task.now in
    let r = c.args.subject.now.protocol.now.rounds in
    let p = problem_of t r in
    let e = c.args.execution in
    let told = execution_text plain_names (slice_get (executions t r) e) in
    let end = codes " :" ++ (flat_map spaced (points_in (constraint_at p e)) ++ codes "\n") in
    let inside : e < length c.args.subject.now.protocol.now.scopes = omega (arith, c.requires.execution, as_many t r c.args.subject.now.protocol.now c.requires.subject.protocol) in
    let points : c.points_of.result.now ≡ points_in (constraint_at p e) = c.points_of.ensures ∙ ap (map (λ at. at.1)) (scope_is t r c.args.subject.now.protocol.now e c.requires.subject.protocol inside) in
    let first = first_put _ _ _ _ _ (decimal e ++ codes " ") (told ++ end) c.in_ok-put_number.ensures refl in
    let second = went_on _ _ _ _ _ _ _ _ (told ++ end) end first c.in_ok-put_words.ensures (ap (λ bs. bs ++ end) (sym (c.find-found.ensures.text plain_names))) in
    last_put _ _ _ _ _ _ _ _ end c.put_end.result second c.put_end.ensures (ap (λ vs. codes " :" ++ (flat_map spaced vs ++ codes "\n")) (sym points))
