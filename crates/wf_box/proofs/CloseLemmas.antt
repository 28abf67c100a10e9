-- What the sweeps come to.
use Rattle.std.proofs.Common.{◌≡◌, ℕ, suc, ◌<◌, ◌==◌, true, List, [], ◌∷◌, length, Option, Some, None, sym, ap, ◌∙◌, subst, eqb-true, arith}
use Rattle.std.specs.List.{AllByRecursion}
use Rattle.std.proofs.lemmas.List.{drop_all, length-map, nil_from_length}
use Rattle.std.proofs.lemmas.List.Elements.{All-from_recursion}
use Rattle.std.proofs.lemmas.List.Quantifiers.{position-Some}
use Rattle.wf_model.specs.Simplex.{is_ascending}
use Rattle.wf_model.specs.Problem.{Problem}
use Rattle.wf_model.specs.Box.{Box, candidates, count, first_empty}
use Rattle.wf_model.specs.Refutation as refutation
use Rattle.wf_model.specs.Closing.{Step, and_then, closing, closing_at, sweep, sweeps}
use Rattle.wf_model.specs.Laws.{IsBoxOf}
use Rattle.wf_model.proofs.Lemmas.{is_ascending_from, closed_branch}
use Rattle.wf_base.specs.declared.lines.line.Line.{Line}
use Rattle.wf_base.specs.Set.Sets.{box_of, values_in}
use Rattle.wf_base.proofs.OfSet.Lemmas.{values_ascend}
use Rattle.wf_box.specs.Changes.{taken_back, words_after}
use Rattle.wf_box.specs.Quiet.{WasClosed}
use Rattle.wf_box.specs.declared.tracked.Change.{Change}
use Rattle.wf_box.specs.Steps.{left_by, reached}
use Rattle.wf_box.specs.Closes.{Leaves, emptied_by}
use Rattle.wf_box.specs.declared.closing.Closed.{Closed}
use Rattle.wf_box.specs.declared.closing.Closed.TheVariants.{Empty, Open}

-- the values of each set ascend
sets_ascend : (words : List (List ℕ)) → AllByRecursion (λ set. is_ascending set ≡ true) (box_of words)
sets_ascend [] = tt
sets_ascend (w ∷ words) = (is_ascending_from (values_in w) (values_ascend w), sets_ascend words)

pub is_box : (p : Problem) (words : List (List ℕ)) → length words ≡ p.points → IsBoxOf p (box_of words)
is_box p words long = record { long = length-map words values_in ∙ long; ascending = All-from_recursion (λ set. is_ascending set ≡ true) (box_of words) (sets_ascend words) }

-- ---- a point that is empty at the start

pub closing_empty : (p : Problem) (box : Box) (v : ℕ) → first_empty box ≡ Some v → closing p box ≡ record { lines = refutation.empty v ∷ []; left = None }
closing_empty p box v is = ap (λ o. closing_at o p box) is

pub empty_there : (box : Box) (v : ℕ) → first_empty box ≡ Some v → candidates box v ≡ []
empty_there box v is = nil_from_length (candidates box v) (eqb-true (length (candidates box v)) 0 (position-Some (λ set. length set == 0) box v [] is).1)

pub point_there : (box : Box) (v : ℕ) → first_empty box ≡ Some v → v < length box
point_there box v is = (position-Some (λ set. length set == 0) box v [] is).0

-- ---- sweeps

pub closing_sweeps : (p : Problem) (box : Box) → first_empty box ≡ None → closing p box ≡ sweeps (suc (count box)) p box
closing_sweeps p box is = ap (λ o. closing_at o p box) is

pub leaves_by : (closed : Closed) (o : Option Box) (box : Box) → left_by (emptied_by closed) box ≡ o → Leaves o box closed
leaves_by (Empty v) o box is = sym is
leaves_by (Open n) o box is = sym is

-- what is reached is what closing leaves
pub left_of : (p : Problem) (old new : List Line) (before after : List (List ℕ)) (closed : Closed) → reached new (emptied_by closed) after ≡ and_then (reached old None before) (closing p) → Leaves (closing p (box_of before)).left (box_of after) closed
left_of p old new before after closed is = leaves_by closed (closing p (box_of before)).left (box_of after) (ap (λ (s : Step). s.left) is)

-- what closing left was closed after all changes
pub was_closed : (p : Problem) (old : Box) (words : List (List ℕ)) (trail : List Change) (n : ℕ) → IsBoxOf p old → Leaves (closing p old).left (box_of words) (Open n) → WasClosed p trail words (length trail)
was_closed p old words trail n is left =
    let branch = closed_branch p old (box_of words) is left in
    let now : words ≡ words_after (length trail) trail words = sym (ap (λ cs. taken_back cs words) (drop_all (length trail) trail (omega arith))) in
    record {
      within = omega arith;
      filled = subst (λ ws. first_empty (box_of ws) ≡ None) now branch.filled;
      closed = subst (λ ws. (sweep p (box_of ws)).lines ≡ []) now branch.closed;
    }
