-- The lines of parts, branch by branch.
use Rattle.std.proofs.Common.{◌≡◌, ◌≢◌, ◌∙◌, ◌+◌, ℕ, suc, List, [], ◌∷◌, ◌++◌, drop, length, length-drop, refl, sym, ap, subst, arith}
use Rattle.std.specs.List.{AllZip, concat}
use Rattle.std.proofs.Math.Seq.{drop-cons}
use Rattle.std.proofs.lemmas.List.{nil_from_length}
use Rattle.wf_model.specs.Task.{Task, IsTask}
use Rattle.wf_model.specs.Problem.{Problem, problem_of}
use Rattle.wf_model.specs.Box.{Box}
use Rattle.wf_model.specs.Refutation.{Line}
use Rattle.wf_model.specs.Report.{none}
use Rattle.wf_model.specs.Laws.{AreCanonicalForBranches, HasCanonicalLines, HasCanonicalMap, LeadToMap}
use Rattle.wf_sat_formula.specs.Branches.{branch_at, branches}
use Rattle.wf_base.specs.declared.lines.form.Form.{Form}
use Rattle.wf_base.specs.declared.lines.form.Form.TheVariants as form
use Rattle.wf_run_solve.specs.Texts.{body_of_none}
use Rattle.wf_run_branches.specs.Branches.{HasBranch}
use Rattle.wf_run_branches.specs.Solving.{IsRefutationIn, part_text}
use Rattle.wf_run_branches.specs.Searched.{HaveNoMapFrom}
use Rattle.wf_run_branches.proofs.CanonicalBranches.{refuted_lines}

-- lines that refute the branches from branch i on
abbrev pub AreRefutationsFrom : Task → ℕ → ℕ → List (List Line) → Type 0
AreRefutationsFrom t r i [] = Unit {0}
AreRefutationsFrom t r i (ls ∷ lists) = IsRefutationIn t r i ls × AreRefutationsFrom t r (suc i) lists

-- the parts that say so, one behind another
abbrev pub none_parts : Task → ℕ → ℕ → List (List Line) → List ℕ
none_parts t r i [] = []
none_parts t r i (ls ∷ lists) = part_text t r i (none ls) ++ none_parts t r (suc i) lists

-- ---- from the texts to the lines

-- the texts are the parts of such lines
pub record HaveLinesFrom (t : Task) (r i : ℕ) (parts : List (List ℕ)) : Type 0 where
  pub lists : List (List Line)
  pub refuted : AreRefutationsFrom t r i lists
  pub text_is : concat parts ≡ none_parts t r i lists
  pub long : length lists ≡ length parts

-- these forms show the lines
pub shown : (asked : Form) → asked ≢ form.Verdict → (ls : List Line) → body_of_none asked ls ≡ none ls
shown form.Full shows ls = refl
shown form.Verdict shows ls = absurd (shows refl)
shown form.Least shows ls = refl

module _ (asked : Form) (shows : asked ≢ form.Verdict) (t : Task) (r : ℕ) where
  pub lines_of_parts : (i : ℕ) (parts : List (List ℕ)) → HaveNoMapFrom asked t r i parts → HaveLinesFrom t r i parts
  lines_of_parts i [] h = record { lists = []; refuted = tt; text_is = refl; long = refl }
  lines_of_parts i (part ∷ parts) ((ls, refuted, same), h) =
      let rest = lines_of_parts (suc i) parts h in
      let first : part ≡ part_text t r i (none ls) = same ∙ ap (part_text t r i) (shown asked shows ls) in
      record { lists = ls ∷ rest.lists; refuted = (refuted, rest.refuted); text_is = λ j. first j ++ rest.text_is j; long = ap suc rest.long }

-- ---- in the order of the branches

-- the branches from branch i on
abbrev from_branch : Task → ℕ → ℕ → List Box
from_branch t r i = drop i (branches t r)

-- a list more leads to the map by the next box
one_more : (p : Problem) (m : List ℕ) (box : Box) (boxes : List Box) (ls : List Line) (lists : List (List Line)) → HasCanonicalLines p box ls → LeadToMap p m boxes lists → LeadToMap p m (box ∷ boxes) (ls ∷ lists)
one_more p m box [] ls lists first rest = absurd rest
one_more p m box (next ∷ boxes) ls [] first rest = absurd rest
one_more p m box (next ∷ boxes) ls (more ∷ lists) first rest = (first, rest)

module _ (t : Task) (r : ℕ) (is : IsTask t) where
  next_branch : (i : ℕ) → HasBranch t r i → from_branch t r i ≡ branch_at t r i ∷ from_branch t r (suc i)
  next_branch i there = drop-cons (branches t r) i [] there

  each_canonical : (i : ℕ) (lists : List (List Line)) → AreRefutationsFrom t r i lists → i + length lists ≡ length (branches t r) → AllZip (HasCanonicalLines (problem_of t r)) (from_branch t r i) lists
  each_canonical i [] h all =
      let none_left : length (from_branch t r i) ≡ 0 = let k = length-drop i (branches t r) in omega (arith, k, all) in
      subst (λ boxes. AllZip (HasCanonicalLines (problem_of t r)) boxes []) (sym (nil_from_length (from_branch t r i) none_left)) tt
  each_canonical i (ls ∷ lists) h all =
      let there : HasBranch t r i = omega (arith, all) in
      subst (λ boxes. AllZip (HasCanonicalLines (problem_of t r)) boxes (ls ∷ lists)) (sym (next_branch i there))
      (refuted_lines t r is i there ls h.0, each_canonical (suc i) lists h.1 (omega (arith, all)))

  -- the lines of all branches
  pub are_canonical : (lists : List (List Line)) → AreRefutationsFrom t r 0 lists → length lists ≡ length (branches t r) → AreCanonicalForBranches (problem_of t r) lists
  are_canonical lists h all = each_canonical 0 lists h (omega (arith, all))

  each_leads : (m : List ℕ) (i : ℕ) (lists : List (List Line)) (ls : List Line) → AreRefutationsFrom t r i lists → HasBranch t r (i + length lists) → HasCanonicalMap (problem_of t r) m (branch_at t r (i + length lists)) ls
      → LeadToMap (problem_of t r) m (from_branch t r i) (lists ++ ls ∷ [])
  each_leads m i [] ls h there found =
      let here : i + 0 ≡ i = omega arith in
      subst (λ boxes. LeadToMap (problem_of t r) m boxes (ls ∷ [])) (sym (next_branch i (subst (HasBranch t r) here there)))
      (subst (λ k. HasCanonicalMap (problem_of t r) m (branch_at t r k) ls) here found)
  each_leads m i (first ∷ lists) ls h there found =
      let next : i + suc (length lists) ≡ suc i + length lists = omega arith in
      let low : HasBranch t r i = omega (arith, there) in
      subst (λ boxes. LeadToMap (problem_of t r) m boxes (first ∷ (lists ++ ls ∷ []))) (sym (next_branch i low))
      (one_more (problem_of t r) m (branch_at t r i) (from_branch t r (suc i)) first (lists ++ ls ∷ []) (refuted_lines t r is i low first h.0)
      (each_leads m (suc i) lists ls h.1 (subst (HasBranch t r) next there) (subst (λ k. HasCanonicalMap (problem_of t r) m (branch_at t r k) ls) next found)))

  -- the lines of the branches up to the first with a map
  pub lead_to_map : (m : List ℕ) (lists : List (List Line)) (ls : List Line) → AreRefutationsFrom t r 0 lists → HasBranch t r (length lists) → HasCanonicalMap (problem_of t r) m (branch_at t r (length lists)) ls
      → LeadToMap (problem_of t r) m (branches t r) (lists ++ ls ∷ [])
  lead_to_map m lists ls h there found =
      let same : length lists ≡ 0 + length lists = omega arith in
      each_leads m 0 lists ls h (subst (HasBranch t r) same there) (subst (λ k. HasCanonicalMap (problem_of t r) m (branch_at t r k) ls) same found)
