use Rattle.std.proofs.Common.{◌≡◌, Ok, IfSome, subst, arith}
use Rattle.serde_json.specs.View.{view}
use Rattle.wf_task_parse.specs.DraftSeen.{draft_seen}
use Rattle.wf_task_parse.specs.Text.{draft_in}
use Rattle.wf_task_parse.specs.Parts.{IsOfText}
use Rattle.wf_task_parse.proofs.Counts.{parts-json_of, found_value}
use Rattle.wf_task_parse.proofs.DraftLists.{vertices_of_value, few_of_value, vertices_of_text, few_of_text}
use Rattle.wf_task_parse.proofs.text.draft_in.Goals as goal

pub of-requires : goal.of-requires
of-requires c = let parts = parts-json_of c.args.bytes.now (view c.in_ok-value.value) (found_value _ _ c.in_ok-value.ensures) in omega (arith, parts, c.requires)

pub returns-in-Some-clause-vertices : goal.returns-in-Some-clause-vertices
returns-in-Some-clause-vertices c =
    vertices_of_text c.args.bytes.now (draft_seen c.in-Some.draft)
    (subst (λ o. IfSome o (λ draft. draft_in c.args.bytes.now ≡ Ok (draft_seen draft))) c.in-Some.is c.in_ok-draft.ensures)

pub returns-in-Some-clause-few : goal.returns-in-Some-clause-few
returns-in-Some-clause-few c =
    few_of_text c.args.bytes.now (draft_seen c.in-Some.draft) c.requires
    (subst (λ o. IfSome o (λ draft. draft_in c.args.bytes.now ≡ Ok (draft_seen draft))) c.in-Some.is c.in_ok-draft.ensures)

pub returns-clause-vertices : goal.returns-clause-vertices
returns-clause-vertices c = vertices_of_value (view c.in_ok-value.value) c.of.result c.of.ensures

pub returns-clause-few : goal.returns-clause-few
returns-clause-few c =
    let parts = parts-json_of c.args.bytes.now (view c.in_ok-value.value) (found_value _ _ c.in_ok-value.ensures) in
    few_of_value (view c.in_ok-value.value) c.of.result (let part : IsOfText (view c.in_ok-value.value) = omega (arith, parts, c.requires) in part) c.of.ensures
