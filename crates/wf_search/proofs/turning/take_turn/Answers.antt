use Rattle.std.proofs.Common.{◌≡◌, ◌<◌, length, ◌∙◌, [], ◌∷◌, ◌++◌, Some, None, sym, ap, subst, refl}
use Rattle.wf_model.specs.Box.{branches_at, candidates, first_empty}
use Rattle.wf_model.specs.Refutation.{branch, found}
use Rattle.wf_model.specs.Closing.{closing}
use Rattle.wf_model.proofs.Lemmas.{closed_branch, open_point}
use Rattle.wf_base.specs.declared.lines.line.Line.TheVariants as line
use Rattle.wf_box.specs.Closes.{Leaves}
use Rattle.wf_box.specs.Least.{least_values}
use Rattle.wf_search.specs.SearchStack.{Boxes, first, first_branched, others}
use Rattle.wf_search.specs.Turning.{AreBoxesOf}
use Rattle.wf_search.proofs.TurnCounts.{emptied_turn, opened_turn}
use Rattle.wf_search.proofs.SearchLemmas.{after_branching, emptied_whole, ended_whole, first_is_box, line_added, opened_whole}
use Rattle.wf_search.proofs.turning.take_turn.Goals as goal

pub least_values-requires : goal.least_values-requires
least_values-requires c =
    let old = c.args.pending.now in
    let b = first c.close.new.self.boxes in
    let left : (closing old.problem (first old.boxes)).left ≡ Some b = subst (Leaves _ _) c.in-Open.is c.in_ok-close.ensures.leaves in
    let boxes = first_is_box old.problem old.boxes c.close.ensures.before c.requires in
    record { filled = ap (λ (b : Boxes). first_empty (first b.boxes)) c.advance_to_open.ensures.same ∙ (closed_branch old.problem (first old.boxes) b boxes.0 left).filled }

pub branch-pending-requires : goal.branch-pending-requires
branch-pending-requires c =
    subst (λ (b : Boxes). 1 < length (candidates (first b.boxes) c.in-Some.point)) (sym c.advance_to_open.ensures.same) (open_point (first c.close.new.self.boxes) c.in-Some.point (sym c.advance_to_open.ensures.found ∙ c.in-Some.is))

pub returns-then-next-clause-turn : goal.returns-then-next-clause-turn
returns-then-next-clause-turn c =
    let old = c.args.pending.now in
    let left : (closing old.problem (first old.boxes)).left ≡ None = subst (Leaves _ _) c.in-Empty.is c.in_ok-close.ensures.leaves in
    let boxes = first_is_box old.problem old.boxes c.close.ensures.before c.requires in
    let rest : c.next.new.self.boxes ≡ others old.boxes = c.if-next.ensures.some ∙ c.in_ok-close.ensures.others in
    record {
      added = (closing old.problem (first old.boxes)).lines;
      lines = c.in_ok-close.ensures.lines;
      one = emptied_turn old.problem (first old.boxes) left;
      found = emptied_whole old.problem old.boxes c.next.new.self.boxes c.close.ensures.before left rest;
      boxes_left = subst (AreBoxesOf old.problem) (sym rest) boxes.1;
    }

pub returns-else-next-clause-turn : goal.returns-else-next-clause-turn
returns-else-next-clause-turn c =
    let old = c.args.pending.now in
    let left : (closing old.problem (first old.boxes)).left ≡ None = subst (Leaves _ _) c.in-Empty.is c.in_ok-close.ensures.leaves in
    record {
      added = (closing old.problem (first old.boxes)).lines;
      lines = c.in_ok-close.ensures.lines;
      one = emptied_turn old.problem (first old.boxes) left;
      found = emptied_whole old.problem old.boxes [] c.close.ensures.before left (sym (sym c.in_ok-close.ensures.others ∙ c.if-next.ensures.none));
      boxes_left = tt;
    }

pub returns-in_ok-values-in-None-clause-turn : goal.returns-in_ok-values-in-None-clause-turn
returns-in_ok-values-in-None-clause-turn c =
    let old = c.args.pending.now in
    let b = first c.close.new.self.boxes in
    let left : (closing old.problem (first old.boxes)).left ≡ Some b = subst (Leaves _ _) c.in-Open.is c.in_ok-close.ensures.leaves in
    record {
      added = (closing old.problem (first old.boxes)).lines ++ found ∷ [];
      lines = line_added c.args.lines.now.items c.close.new.lines.items c.push.new.self.items line.Found (closing old.problem (first old.boxes)).lines c.in_ok-close.ensures.lines c.in_ok-push-in-None.ensures.items;
      one = opened_turn old.problem (first old.boxes) b found left refl;
      found = ended_whole old.problem old.boxes b c.in_ok-values-in-None.values.items c.close.ensures.before left (sym c.advance_to_open.ensures.found ∙ c.in-None.is)
          (c.in_ok-values-in-None.ensures.values ∙ ap (λ (b : Boxes). least_values (first b.boxes)) c.advance_to_open.ensures.same);
      boxes_left = tt;
    }

pub returns-in_ok-branch-in-Some-clause-turn : goal.returns-in_ok-branch-in-Some-clause-turn
returns-in_ok-branch-in-Some-clause-turn c =
    let old = c.args.pending.now in
    let b = first c.close.new.self.boxes in
    let v = c.in-Some.point in
    let left : (closing old.problem (first old.boxes)).left ≡ Some b = subst (Leaves _ _) c.in-Open.is c.in_ok-close.ensures.leaves in
    let boxes = first_is_box old.problem old.boxes c.close.ensures.before c.requires in
    let next : c.branch-pending.new.self.boxes ≡ branches_at b v ++ others old.boxes =
    c.in_ok-branch-in-Some.ensures.branches ∙ ap (λ (b : Boxes). first_branched b.boxes v) c.advance_to_open.ensures.same ∙ ap (λ bs. branches_at b v ++ bs) c.in_ok-close.ensures.others in
    record {
      added = (closing old.problem (first old.boxes)).lines ++ branch v ∷ [];
      lines = line_added c.args.lines.now.items c.close.new.lines.items c.push-in-Some.new.self.items (line.Branch v) (closing old.problem (first old.boxes)).lines c.in_ok-close.ensures.lines c.in_ok-push-in-Some.ensures.items;
      one = opened_turn old.problem (first old.boxes) b (branch v) left refl;
      found = opened_whole old.problem old.boxes c.branch-pending.new.self.boxes c.close.ensures.before b v left (sym c.advance_to_open.ensures.found ∙ c.in-Some.is) next;
      boxes_left = after_branching old.problem old.boxes c.branch-pending.new.self.boxes b v boxes.1 (closed_branch old.problem (first old.boxes) b boxes.0 left).is_box next;
    }
