use Rattle.std.proofs.Common.{◌≡◌, Some, Err, map, option_map, sym, ap, ◌∙◌, subst, arith}
use Rattle.serde_json.specs.View.{view, items_view}
use Rattle.wf_task_parse.specs.Shape.{each, list_seen}
use Rattle.wf_task_parse.specs.Parts.{IsPart}
use Rattle.wf_task_parse.proofs.Counts.{small_place}
use Rattle.wf_task_parse.proofs.draft.read_list_member.Goals as goal

pub overflow_cast-result : goal.overflow_cast-result
overflow_cast-result g c =
    let part : IsPart (Some (view c.in-Some.value.now)) = subst (λ o. IsPart (option_map (λ v. view v.now) o)) c.in-Some.is c.requires in
    let read : each g.T.Shape.reading (items_view c.in-Some-as_array.items.now.items) ≡ Err c.in-Err.place =
    ap (λ vs. each g.T.Shape.reading (items_view vs)) (sym c.deref.ensures.value) ∙ sym c.in_ok-found.ensures ∙ ap (list_seen (λ l. map g.T.Shape.seen l.items)) c.in-Err.is in
    let small = small_place g.T.Shape.reading (view c.in-Some.value.now) (items_view c.in-Some-as_array.items.now.items) c.in-Err.place (sym c.in-Some-as_array.ensures) part read in
    omega (arith, small)
