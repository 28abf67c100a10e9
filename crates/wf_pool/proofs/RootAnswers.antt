-- What the branches have says what the root has.
use Rattle.std.proofs.Common.{◌≡◌, ℕ, zero, suc, ◌+◌, ◌<◌, ◌≤◌, length, map, false, true≢false, List, [], ◌∷◌, refl, sym, subst, ap, ◌∙◌, arith}
use Rattle.std.specs.Prelude.{All, Err, IfOk, None, Ok, Option, Result, Some, Vec, is_some}
use Rattle.std.specs.List.{AllZip}
use Rattle.wf_model.specs.Problem.{Problem, IsSolution, IsWellFormed}
use Rattle.wf_model.specs.Box.{Box, LiesIn, root}
use Rattle.wf_model.specs.Closing.{Trace, canonical}
use Rattle.wf_model.specs.Split.{split}
use Rattle.wf_model.specs.Outline.{Item}
use Rattle.wf_model.specs.Laws.{HasCanonicalLines, IsLeastIn, IsClosedBranch}
use Rattle.wf_model.proofs.Lemmas.{canonical_none_refutes, none_refutes, canonical_least, root_is_box, first_least, one_least, split_covers, split_closed, filled_canonical}
use Rattle.wf_core.specs.declared.event.Account.{Account}
use Rattle.wf_pool.specs.Answers.{HasAccountOfMap, HasAccountOfNone}
use Rattle.wf_base.specs.declared.lines.line.Line.{Line}
use Rattle.wf_base.specs.Lines.Lines.{line_of}
use Rattle.wf_search.specs.Cover.{IsCanonicalInRoot}
use Rattle.wf_pool.specs.declared.answer.KeptLines.{KeptLines}
use Rattle.wf_pool.specs.declared.answer.KeptLines.TheVariants as keep
use Rattle.wf_pool.specs.Branches.{box_at, branch_of, branch_count, has_map, refuting_lines, AreLinesOf, HasEachLines, IsCoverOf, IsMapAt, IsMapOf, LeadIfKept, LeadInBox, LeadInRoot, NoneBelow}
use Rattle.wf_pool.proofs.Branches.{DropsMapLines, KeepsRefuting, all_lines, lead_dropped, lead_kept, lines_of_box, lists_of_cover}

no_some : {X : Type 0} (o : Option X) → is_some o ≡ false → o ≡ None
no_some None e = refl
no_some (Some x) e = absurd (true≢false e)

-- a box whose search ends with no map holds no solution
pub none_in : (p : Problem) (box : Box) (m : List ℕ) → IsWellFormed p → (canonical p box).map ≡ None → IsSolution p m → LiesIn m box → ⊥
none_in p box m well none solves lies =
    let t = canonical_none_refutes p box none in
    none_refutes p well.in_range m solves t.0 box t.2 lies

none_at : (p : Problem) (j : ℕ) → has_map p j ≡ false → (canonical p (branch_of p j)).map ≡ None
unfolding has_map
none_at p j e = no_some (canonical p (branch_of p j)).map e

by_cases : (p : Problem) (box : Box) (P : Type 0) → ((m : List ℕ) → (canonical p box).map ≡ Some m → P) → ((canonical p box).map ≡ None → P) → P
by_cases p box P some none = go (canonical p box).map refl
  where
    go : (o : Option (List ℕ)) → (canonical p box).map ≡ o → P
    go None e = none e
    go (Some m) e = some m e

-- the map of the first branch that has one is that of the root
pub first_map : (p : Problem) (kept : KeptLines) (i : ℕ) (m : List ℕ) (ls : List Line) → IsWellFormed p → IsMapAt p kept i m ls → NoneBelow p i → IsMapOf p (root p) m
unfolding IsMapAt branch_count
first_map p _ i m ls well found below =
    let cover = split_covers p well in
    let closed : All (IsClosedBranch p (root p)) (split p) = split_closed p well in
    let here = closed i [] found.0 in
    let in_branch : IsLeastIn p (branch_of p i) m = canonical_least p (branch_of p i) m well here.is_box found.1 in
    let in_root : IsLeastIn p (root p) m =
    first_least p (root p) (split p) cover i m found.0 in_branch (here.within m in_branch.lies)
    (λ j n before solves there. none_in p (branch_of p j) n well (none_at p j (below j before)) solves there.1) in
    by_cases p (root p) (IsMapOf p (root p) m)
    (λ n e. e ∙ ap Some (one_least p (root p) n m (canonical_least p (root p) n well (root_is_box p well) e) in_root))
    (λ e. absurd (none_in p (root p) m well e in_root.solves in_root.lies))

-- and the lines that lead to it are the root's, as far as they are kept
pub first_answer : (p : Problem) (kept : KeptLines) (i : ℕ) (m : List ℕ) (own ls : List Line) → IsWellFormed p → IsMapAt p kept i m own → NoneBelow p i → LeadIfKept p kept i own ls
    → IsMapOf p (root p) m × LeadInBox p kept (root p) ls
first_answer p kept i m own ls well found below lead = (first_map p kept i m own well found below, lead m found)

pub kept_answer : (p : Problem) (kept : KeptLines) (i n : ℕ) (m : List ℕ) (own ls : List Line) → IsWellFormed p → kept ≡ keep.All → n ≡ i → IsMapAt p kept i m own → NoneBelow p i
    → LeadInRoot p n own ls → IsMapOf p (root p) m × LeadInBox p kept (root p) ls
kept_answer p kept i n m own ls well is same found below lead = first_answer p kept i m own ls well found below
    (subst (λ k. LeadIfKept p k i own ls) (sym is) (lead_kept p i own ls (subst (λ k. LeadInRoot p k own ls) same lead)))

pub dropped_answer : (p : Problem) (kept : KeptLines) (i : ℕ) (m : List ℕ) (own : List Line) → IsWellFormed p → DropsMapLines kept → IsMapAt p kept i m own → NoneBelow p i
    → IsMapOf p (root p) m × LeadInBox p kept (root p) own
dropped_answer p kept i m own well drops found below = first_answer p kept i m own own well found below (lead_dropped p kept i own drops)

-- where no branch has a map the root has none
canonical_each : (p : Problem) (boxes : List Box) → ((i : ℕ) → i < length boxes → (canonical p (box_at boxes i)).map ≡ None) → AllZip (HasCanonicalLines p) boxes (map (λ b. (canonical p b).lines) boxes)
canonical_each p [] none = tt
canonical_each p (b ∷ boxes) none =
    let here = none zero (omega arith) in
    (λ k. record { lines = (canonical p b).lines; map = here k }, canonical_each p boxes (λ i lt. none (suc i) (omega arith)))

pub none_in_root : (p : Problem) → NoneBelow p (branch_count p) → (canonical p (root p)).map ≡ None
unfolding branch_count
none_in_root p none = ap (λ (t : Trace). t.map) (filled_canonical p (map (λ b. (canonical p b).lines) (split p)) (canonical_each p (split p) (λ i inside. none_at p i (none i inside))))

-- and its lines are those of the branches in their places, where they are kept; or there are none
pub filled_answer : {A B : Type 0} (p : Problem) (kept : KeptLines) (c : List Item) (lists : List (Vec Line A)) (ls : Vec Line B) → IsCoverOf p c → KeepsRefuting kept
    → length lists ≡ branch_count p → HasEachLines p kept (branch_count p) lists → IsCanonicalInRoot c lists ls → AreLinesOf p kept (root p) ls.items
filled_answer p kept c lists ls cover keeps same has is = lines_of_box p kept (root p) ls.items keeps
    (is p cover.outline (lists_of_cover p lists same (λ i inside. all_lines p kept i _ keeps (has i inside))))

pub filled_lines : {A B E : Type 0} (p : Problem) (kept : KeptLines) (c : List Item) (lists : List (Vec Line A)) (r : Result (Vec Line B) E) → IsCoverOf p c → KeepsRefuting kept
    → length lists ≡ branch_count p → HasEachLines p kept (branch_count p) lists → IfOk r (IsCanonicalInRoot c lists) → IfOk r (λ ls. AreLinesOf p kept (root p) ls.items)
filled_lines p kept c lists (Ok ls) cover keeps same has is = filled_answer p kept c lists ls cover keeps same has is
filled_lines p kept c lists (Err e) cover keeps same has is = tt

pub bare_answer : (p : Problem) (kept : KeptLines) (ls : List Line) → kept ≡ keep.Neither → ls ≡ [] → NoneBelow p (branch_count p) → AreLinesOf p kept (root p) ls
bare_answer p kept ls is empty none = (none_in_root p none, ap (map line_of) empty ∙ sym (ap (λ k. refuting_lines k (canonical p (root p)).lines) is))

-- the account of a run whose least branch has this map
pub account_of_map : (p : Problem) (kept : KeptLines) (m : List ℕ) (ls : List Line) (a : Account) → IsWellFormed p → a.branches ≡ branch_count p → IsMapAt p kept a.least m ls
    → a.least + 1 ≤ a.searched → a.searched + a.cut ≡ a.branches → HasAccountOfMap p m a
unfolding IsMapAt branch_count
account_of_map p _ m ls a well count found enough all =
    let closed : All (IsClosedBranch p (root p)) (split p) = split_closed p well in
    let here = closed a.least [] found.0 in
    let in_branch : IsLeastIn p (branch_of p a.least) m = canonical_least p (branch_of p a.least) m well here.is_box found.1 in record {
      branches = count;
      holds = (found.0, in_branch.lies);
      least = found.1;
      enough = enough;
      all = all;
    }

-- the account of a run that searched every branch
pub account_of_none : (p : Problem) (a : Account) → a.branches ≡ branch_count p → a.least ≡ a.branches → a.searched ≡ a.branches → a.cut ≡ 0 → HasAccountOfNone p a
unfolding branch_count
account_of_none p a count least searched cut = record { branches = count; least = least; searched = searched; cut = cut }
