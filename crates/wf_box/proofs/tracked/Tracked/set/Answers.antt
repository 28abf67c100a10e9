use Rattle.std.proofs.Common.{[], ap, sym, ◌∙◌, ◌≤◌, length, subst, arith, vec_capacity}
use Rattle.std.specs.List.{slice_set}
use Rattle.std.proofs.lemmas.List.{get_or_read}
use Rattle.wf_base.specs.Set.Sets.{box_of, values_in}
use Rattle.wf_box.specs.Changes.{IsTracked}
use Rattle.wf_box.proofs.BoxLemmas.{point_there}
use Rattle.wf_box.proofs.ChangeLemmas.{decided_already, grown_one, set_back}
use Rattle.wf_box.proofs.tracked.Tracked.set.Goals as goal
use Rattle.wf_base.proofs.OfSet.Lemmas.{one_value, set_at}

pub note-requires-clause-kept : goal.note-requires-clause-kept
note-requires-clause-kept c =
    let words = c.args.self.now.words.items in
    let here = get_or_read words c.args.point c.index-before.result.now (point_there words c.args.point c.args.value c.requires.there) c.index-before.ensures [] in
    subst (λ ws. IsTracked ws c.args.self.now.trail.items (vec_capacity c.args.self.now.trail) c.args.self.now.open_from) (sym (set_back words c.args.point c.singleton.result c.index-before.result.now here)) c.requires.kept

pub returns-then-has_two-clause-decided : goal.returns-then-has_two-clause-decided
returns-then-has_two-clause-decided c = ap box_of c.note.ensures.words ∙ one_value c.args.self.now.words.items c.args.point c.args.value c.singleton.result c.singleton.ensures

pub returns-then-has_two-clause-grown : goal.returns-then-has_two-clause-grown
returns-then-has_two-clause-grown c =
    let words = c.args.self.now.words.items in
    let here = get_or_read words c.args.point c.index-before.result.now (point_there words c.args.point c.args.value c.requires.there) c.index-before.ensures [] in
    grown_one words c.args.self.now.trail.items c.note.new.self.words.items c.note.new.self.trail.items _ c.note.ensures.trail (ap (λ ws. slice_set ws c.args.point c.index-before.result.now) c.note.ensures.words ∙ set_back words c.args.point c.singleton.result c.index-before.result.now here)

pub returns-else-has_two-clause-decided : goal.returns-else-has_two-clause-decided
returns-else-has_two-clause-decided c =
    let words = c.args.self.now.words.items in
    let within = point_there words c.args.point c.args.value c.requires.there in
    let set = set_at words c.args.point within ∙ ap values_in (sym (get_or_read words c.args.point c.index-before.result.now within c.index-before.ensures [])) in
    let few : length (values_in c.index-before.result.now) ≤ 1 = grind (arith, c.if-has_two.ensures) in
    decided_already (box_of words) c.args.point c.args.value c.requires.there (omega (arith, few, ap length set))
