-- What is found in a branch says whether the branch has a map.
use Rattle.std.proofs.Common.{◌≡◌, ℕ, zero, suc, ◌<◌, length, true, false, List, [], ◌∷◌, ◌++◌, map, ap, sym, ◌∙◌, subst, arith, ◌⊎◌, ⊎_elim}
use Rattle.std.specs.Prelude.{All, IfOk, Vec, Result, Ok, Err, is_some}
use Rattle.std.specs.List.{AllZip}
use Rattle.std.proofs.lemmas.List.Elements.{All-weaker}
use Rattle.wf_model.specs.Problem.{Problem, IsWellFormed}
use Rattle.wf_model.specs.Box.{Box, root}
use Rattle.wf_model.specs.Refutation as refutation
use Rattle.wf_model.specs.Closing.{Trace, canonical}
use Rattle.wf_model.specs.Split.{split}
use Rattle.wf_model.specs.Outline.{Item, outline, boxes_left_out}
use Rattle.wf_model.specs.Laws.{HasCanonicalLines, HasCanonicalMap, IsBoxOf, IsClosedBranch, LeadToMap}
use Rattle.wf_base.specs.declared.lines.line.Line.{Line}
use Rattle.wf_base.specs.Lines.Lines.{line_of}
use Rattle.wf_search.specs.Cover.{LeadsToMapInRoot}
use Rattle.wf_search.specs.declared.searching.Found.{Found}
use Rattle.wf_search.specs.declared.searching.Found.TheVariants as found
use Rattle.wf_pool.specs.declared.answer.KeptLines.{KeptLines}
use Rattle.wf_pool.specs.declared.answer.KeptLines.TheVariants as keep
use Rattle.wf_pool.specs.Branches.{has_map, branch_count, box_at, lines_at, map_lines, refuting_lines, IsCoverOf, IsMapAt, IsMapOf, AreLinesAt, AreLinesOf, HasEachLines, LeadIfKept, LeadInBox, LeadInRoot}
use Rattle.wf_pool.specs.Work.{IsFoundAt, IsFoundIn}

-- what keeps the lines that refute, and what drops those that lead to a map
abbrev pub KeepsRefuting : KeptLines → Type 0
KeepsRefuting kept = (kept ≡ keep.All) ⊎ (kept ≡ keep.Refuting)

abbrev pub DropsMapLines : KeptLines → Type 0
DropsMapLines kept = (kept ≡ keep.Refuting) ⊎ (kept ≡ keep.Neither)

kept_refuting : (kept : KeptLines) (ls : List refutation.Line) → KeepsRefuting kept → refuting_lines kept ls ≡ ls
kept_refuting kept ls keeps = ⊎_elim (λ (e : kept ≡ keep.All). ap (λ k. refuting_lines k ls) e) (λ (e : kept ≡ keep.Refuting). ap (λ k. refuting_lines k ls) e) keeps

dropped_map : (kept : KeptLines) (ls : List refutation.Line) → DropsMapLines kept → map_lines kept ls ≡ []
dropped_map kept ls drops = ⊎_elim (λ (e : kept ≡ keep.Refuting). ap (λ k. map_lines k ls) e) (λ (e : kept ≡ keep.Neither). ap (λ k. map_lines k ls) e) drops

pub map_is : (p : Problem) (kept : KeptLines) (i : ℕ) (m : List ℕ) (ls : List Line) → IsMapAt p kept i m ls → has_map p i ≡ true
unfolding IsMapAt has_map
map_is p _ i m ls h = ap is_some h.1

pub lines_are : (p : Problem) (kept : KeptLines) (i : ℕ) (ls : List Line) → AreLinesAt p kept i ls → has_map p i ≡ false
unfolding AreLinesAt has_map
lines_are p _ i ls h = ap is_some h.1.0

-- what is cut from the root is a cover
cover_of : (p : Problem) (c : List Item) → IsWellFormed p → c ≡ outline p → boxes_left_out c ≡ split p → All (IsClosedBranch p (root p)) (boxes_left_out c) → IsCoverOf p c
cover_of p c well is boxes closed = record {
  outline = is;
  branches = boxes;
  boxes = All-weaker (IsClosedBranch p (root p)) (IsBoxOf p) (λ b h. h.is_box) (boxes_left_out c) closed;
  well_formed = well;
}

pub covers : {E : Type 0} (p : Problem) (r : Result (List Item) E) → IsWellFormed p → IfOk r (λ c. c ≡ outline p) → IfOk r (λ c. boxes_left_out c ≡ split p)
    → IfOk r (λ c. All (IsClosedBranch p (root p)) (boxes_left_out c)) → IfOk r (IsCoverOf p)
covers p (Ok c) well is boxes closed = cover_of p c well is boxes closed
covers p (Err e) well is boxes closed = tt

inside_cover : (p : Problem) (c : List Item) (i : ℕ) → IsCoverOf p c → i < length (boxes_left_out c) → i < branch_count p
unfolding branch_count
inside_cover p c i cover inside = subst (λ (boxes : List Box). i < length boxes) cover.branches inside

-- what is found in a branch of a cover
map_in_cover : (p : Problem) (kept : KeptLines) (c : List Item) (i : ℕ) (m : List ℕ) (ls : List Line) → IsCoverOf p c → i < length (boxes_left_out c)
    → IsMapOf p (box_at (boxes_left_out c) i) m → LeadInBox p kept (box_at (boxes_left_out c) i) ls → IsMapAt p kept i m ls
unfolding IsMapAt
map_in_cover p kept c i m ls cover inside found lead = (
  inside_cover p c i cover inside,
  subst (λ boxes. IsMapOf p (box_at boxes i) m) cover.branches found,
  subst (λ boxes. LeadInBox p kept (box_at boxes i) ls) cover.branches lead,
)

lines_in_cover : (p : Problem) (kept : KeptLines) (c : List Item) (i : ℕ) (ls : List Line) → IsCoverOf p c → i < length (boxes_left_out c) → AreLinesOf p kept (box_at (boxes_left_out c) i) ls → AreLinesAt p kept i ls
unfolding AreLinesAt
lines_in_cover p kept c i ls cover inside found = (inside_cover p c i cover inside, subst (λ boxes. AreLinesOf p kept (box_at boxes i) ls) cover.branches found)

-- what a search found in a branch of a cover
pub found_at : (p : Problem) (kept : KeptLines) (c : List Item) (i : ℕ) (box : Box) (f : Found)
    → IsCoverOf p c → i < length (boxes_left_out c) → box ≡ box_at (boxes_left_out c) i → IsFoundIn p kept box f → IsFoundAt p kept i f
found_at p kept c i box (found.Map m ls) cover inside is h = map_in_cover p kept c i m.items ls.items cover inside (subst (λ b. IsMapOf p b m.items) is h.0) (subst (λ b. LeadInBox p kept b ls.items) is h.1)
found_at p kept c i box (found.Refuted ls) cover inside is h = lines_in_cover p kept c i ls.items cover inside (subst (λ b. AreLinesOf p kept b ls.items) is h)
found_at p kept c i box found.Stopped cover inside is h = tt

pub count_of_cover : (p : Problem) (c : List Item) → IsCoverOf p c → length (boxes_left_out c) ≡ branch_count p
unfolding branch_count
count_of_cover p c cover = ap (λ (boxes : List Box). length boxes) cover.branches

canonical_lines : (p : Problem) (box : Box) (ls : List Line) → AreLinesOf p keep.All box ls → HasCanonicalLines p box (map line_of ls)
canonical_lines p box ls h =
    let lines = sym h.1 in
    λ k. record { lines = lines k; map = h.0 k }

zipped : {A : Type 0} (p : Problem) (boxes : List Box) (lists : List (Vec Line A)) → length lists ≡ length boxes
    → ((i : ℕ) → i < length boxes → AreLinesOf p keep.All (box_at boxes i) (lines_at (map (λ l. l.items) lists) i))
    → AllZip (HasCanonicalLines p) boxes (map (λ l. map line_of l.items) lists)
zipped p [] [] same each = tt
zipped p [] (ls ∷ lists) same each = absurd (omega arith)
zipped p (b ∷ boxes) [] same each = absurd (omega arith)
zipped p (b ∷ boxes) (ls ∷ lists) same each = (canonical_lines p b ls.items (each zero (omega arith)), zipped p boxes lists (omega arith) (λ i lt. each (suc i) (omega arith)))

-- the lines of all branches, in order
pub lists_of_cover : {A : Type 0} (p : Problem) (lists : List (Vec Line A)) → length lists ≡ branch_count p
    → HasEachLines p keep.All (branch_count p) lists
    → AllZip (HasCanonicalLines p) (split p) (map (λ l. map line_of l.items) lists)
unfolding AreLinesAt branch_count
lists_of_cover p lists same has = zipped p (split p) lists same (λ i inside. (has i inside).1)

leading : {A : Type 0} (p : Problem) (m : List ℕ) (boxes : List Box) (below : List (Vec Line A)) (own : Vec Line A) → length below < length boxes
    → ((i : ℕ) → i < length below → AreLinesOf p keep.All (box_at boxes i) (lines_at (map (λ l. l.items) below) i))
    → HasCanonicalMap p m (box_at boxes (length below)) (map line_of own.items)
    → LeadToMap p m boxes (map (λ l. map line_of l.items) (below ++ own ∷ []))
leading p m [] below own inside each last = absurd (omega arith)
leading p m (b ∷ boxes) [] own inside each last = last
leading p m (b ∷ boxes) (ls ∷ []) own inside each last = (canonical_lines p b ls.items (each zero (omega arith)), leading p m boxes [] own (omega arith) (λ i lt. absurd (omega arith)) last)
leading p m (b ∷ boxes) (ls ∷ ks ∷ below) own inside each last = (canonical_lines p b ls.items (each zero (omega arith)), leading p m boxes (ks ∷ below) own (omega arith) (λ i lt. each (suc i) (omega arith)) last)

-- the lines of the branches below one with a map, in order, and its own
pub lists_lead : {A : Type 0} (p : Problem) (m : List ℕ) (below : List (Vec Line A)) (own : Vec Line A) → HasEachLines p keep.All (length below) below
    → IsMapAt p keep.All (length below) m own.items
    → LeadToMap p m (split p) (map (λ l. map line_of l.items) (below ++ own ∷ []))
unfolding AreLinesAt IsMapAt branch_count
lists_lead p m below own has at =
    let lines = sym at.2 in
    let is_map = at.1 in
    leading p m (split p) below own at.0 (λ i inside. (has i inside).1) (λ k. record { lines = lines k; map = is_map k })

-- and so what is filled with them leads to the root's map
pub filled_lead : {A E : Type 0} (p : Problem) (c : List Item) (below lists : List (Vec Line A)) (own : Vec Line A) (r : Result (Vec Line A) E) → IsCoverOf p c → lists ≡ below ++ own ∷ []
    → HasEachLines p keep.All (length below) below → IfOk r (LeadsToMapInRoot c lists) → IfOk r (λ ls. LeadInRoot p (length below) own.items ls.items)
filled_lead p c below lists own (Ok ls) cover are has leads = λ m at.
    leads p m cover.outline (subst (λ xs. LeadToMap p m (split p) (map (λ l. map line_of l.items) xs)) (sym are) (lists_lead p m below own has at))
filled_lead p c below lists own (Err e) cover are has leads = tt

-- the lines that lead to the root's map, as far as they are kept
pub lead_kept : (p : Problem) (n : ℕ) (own ls : List Line) → LeadInRoot p n own ls → LeadIfKept p keep.All n own ls
lead_kept p n own ls h m at = sym (ap (λ (t : Trace). t.lines) (h m at))

pub lead_dropped : (p : Problem) (kept : KeptLines) (n : ℕ) (own : List Line) → DropsMapLines kept → LeadIfKept p kept n own own
unfolding IsMapAt
lead_dropped p kept n own drops m at = at.2 ∙ dropped_map kept (canonical p (box_at (split p) n)).lines drops ∙ sym (dropped_map kept (canonical p (root p)).lines drops)

-- where lines that refute are kept
pub all_lines : (p : Problem) (kept : KeptLines) (i : ℕ) (ls : List Line) → KeepsRefuting kept → AreLinesAt p kept i ls → AreLinesAt p keep.All i ls
unfolding AreLinesAt
all_lines p kept i ls keeps h = (h.0, (h.1.0, h.1.1 ∙ kept_refuting kept _ keeps))

-- lines that the canonical search of a box ends with, where they are kept
pub lines_of_box : (p : Problem) (kept : KeptLines) (box : Box) (ls : List Line) → KeepsRefuting kept → HasCanonicalLines p box (map line_of ls) → AreLinesOf p kept box ls
lines_of_box p kept box ls keeps h = (ap (λ (t : Trace). t.map) h, sym (ap (λ (t : Trace). t.lines) h) ∙ sym (kept_refuting kept _ keeps))
