-- The parts of searches are joined to the text of a search of the whole question.
use Rattle.std.proofs.Common.{◌≡◌, ◌≢◌, ◌∙◌, ◌⊎◌, inl, inr, ◌+◌, ◌-◌, ◌≤◌, ℕ, suc, List, [], ◌∷◌, ◌++◌, append-nil, length, length-append, None, Some, Result, Ok, Err, refl, sym, ap, subst, arith}
use Rattle.std.specs.List.{AllByRecursion}
use Rattle.wf_core.specs.declared.Account.{Account}
use Rattle.wf_model.specs.Limits.{most_number}
use Rattle.wf_model.specs.Task.{Task, IsTask}
use Rattle.wf_model.specs.View.{View}
use Rattle.wf_model.specs.DecisionMap.{IsDecisionMap, listed}
use Rattle.wf_model.specs.Problem.{problem_of}
use Rattle.wf_model.specs.Box.{root}
use Rattle.wf_model.specs.Closing.{Trace, canonical}
use Rattle.wf_model.specs.Laws.{HasCanonicalLines, HasCanonicalMap}
use Rattle.wf_model.specs.Outline.{Item, filled, filled_up_to, outline}
use Rattle.wf_model.specs.Refutation.{Line}
use Rattle.wf_model.specs.Report.{Body, least, none, report_about}
use Rattle.wf_model.specs.Check.{report_fault}
use Rattle.wf_model.proofs.Lemmas.{canonical_least_accepted, canonical_none_accepted, map_accepted, filled_canonical, filled_leads}
use Rattle.wf_sat_formula.specs.Branches.{branches}
use Rattle.wf_pool.specs.Answers.{HasAccountOfMap, map_lines, refuting_lines}
use Rattle.wf_base.specs.declared.lines.form.Form.{Form}
use Rattle.wf_base.specs.declared.lines.form.Form.TheVariants as form
use Rattle.wf_run.specs.Run.{HasComplex}
use Rattle.wf_run_solve.specs.Texts.{IsSolved, lines_kept, body_of_map}
use Rattle.wf_run.specs.Texts.{text_of_report}
use Rattle.wf_run.specs.declared.fault.RunFault.{RunFault}
use Rattle.wf_run.specs.declared.fault.RunFault.TheVariants.{OutOfMemory, TooManyParts}
use Rattle.wf_run_solve.specs.declared.outcome.Outcome.{Outcome}
use Rattle.wf_run_solve.specs.declared.outcome.Outcome.TheVariants as outcome
use Rattle.wf_run_solve.proofs.Lemmas.{kept_shown, map_account, map_verdict, none_shown, none_verdict}
use Rattle.wf_run_branches.specs.Branches.{HasBranch}
use Rattle.wf_run_branches.specs.Solving.{IsLeastInBranch, IsRefutationIn, LeadsToMapIn, part_text}
use Rattle.wf_run_branches.specs.Joining.{EndsAll, Gathered, Gathers, GathersAll, GoesOn, joined_body, with_least, with_map, without_map}
use Rattle.wf_run_branches.specs.Searched.{HasPartsOf}
use Rattle.wf_run_branches.proofs.CanonicalBranches.{finds_map, leading_lines}
use Rattle.wf_run_branches.proofs.FewBranches.{branches_few}
use Rattle.wf_run_branches.proofs.GatheredParts.{AreTakenFrom, IsStopped, IsTaken, nones, one_part}
use Rattle.wf_run_branches.proofs.PartLists.{AreRefutationsFrom, are_canonical, lead_to_map, lines_of_parts, none_parts, shown}
use Rattle.wf_run_branches.proofs.PartsWithin.{AreWithin, IsWithin, map_within, nones_within}

-- ---- what all parts come to

module _ (t : Task) (r : ℕ) (Stops : RunFault → Type 0) (memory : Stops OutOfMemory) (few : length (branches t r) ≤ most_number) where
  ended : (n : ℕ) (lists : List (List Line)) (result : Result Gathered RunFault) → EndsAll n lists [] result → (result ≡ Ok (without_map lists)) ⊎ IsStopped t r Stops result
  ended n lists (Ok g) ends = inl (ap Ok ends.1)
  ended n lists (Err (TooManyParts k)) ends = absurd (ends.0 refl)
  ended n lists (Err OutOfMemory) ends = inr (OutOfMemory, refl, memory)
  ended n lists (Err e) ends = absurd ends

  -- those of all branches
  pub all_gathered : (lists : List (List Line)) (result : Result Gathered RunFault) → length lists ≡ length (branches t r) → AreTakenFrom t r Stops 0 lists → GathersAll t r (none_parts t r 0 lists) result
      → (result ≡ Ok (without_map lists)) ⊎ IsStopped t r Stops result
  all_gathered lists result long taken gathers =
      elim (nones t r Stops few lists (length (branches t r)) 0 0 [] [] result (omega (arith, long)) (omega (arith, long)) taken
      (subst (λ text. GathersAll t r text result) (sym (append-nil (none_parts t r 0 lists))) gathers)) [
        | inl ends ↦ ended (0 + length lists) lists result ends
        | inr stopped ↦ inr stopped
      ]

  -- those up to the first with a map
  pub first_gathered : (lists : List (List Line)) (body : Body) (behind : List ℕ) (result : Result Gathered RunFault) → HasBranch t r (length lists) → AreTakenFrom t r Stops 0 lists → IsTaken t r Stops (length lists) body
      → GathersAll t r (none_parts t r 0 lists ++ (part_text t r (length lists) body ++ behind)) result
      → ((left : ℕ) × GoesOn (λ more. Gathers t r left (suc (length lists)) more behind) lists body result) ⊎ IsStopped t r Stops result
  first_gathered lists body behind result there taken last gathers =
      let left = length (branches t r) - suc (length lists) in
      let here : 0 + length lists ≡ length lists = omega arith in
      elim (nones t r Stops few lists (length (branches t r)) (suc left) 0 [] (part_text t r (length lists) body ++ behind) result (omega (arith, there)) (omega (arith, there)) taken gathers) [
        | inr stopped ↦ inr stopped
        | inl goes ↦ elim (one_part t r Stops few (length lists) left body lists behind result there last
            (subst (λ j. Gathers t r (suc left) j lists (part_text t r (length lists) body ++ behind) result) here goes)) [
              | inr stopped ↦ inr stopped
              | inl more ↦ inl (left, more)
            ]
      ]

-- what they come to where one has a map
abbrev pub found_as : Form → List ℕ → List (List Line) → Gathered
found_as form.Full m lists = with_map m
found_as form.Verdict m lists = with_map m
found_as form.Least m lists = with_least m lists

pub goes_to : (asked : Form) (m : List ℕ) (ls : List Line) (next : List (List Line) → Result Gathered RunFault → Type 0) (lists : List (List Line)) (result : Result Gathered RunFault)
    → GoesOn next lists (body_of_map asked m ls) result → result ≡ Ok (found_as asked m (lists ++ ls ∷ []))
goes_to form.Full m ls next lists result goes = goes
goes_to form.Verdict m ls next lists result goes = goes
goes_to form.Least m ls next lists result goes = goes

-- ---- what that says of the whole question

-- the report with this answer is without a fault, and is what a search of the whole question writes
pub record IsWhole (asked : Form) (t : Task) (r : ℕ) (found : Outcome) (body : Body) : Type 0 where
  pub account : Account
  pub solved : IsSolved asked t r (found, account) (text_of_report t r body)
  pub clear : report_fault t r (report_about t r body) ≡ None

joined_found : (asked : Form) (m : List ℕ) (cover : List Item) (lists : List (List Line)) → joined_body cover (found_as asked m lists) ≡ body_of_map asked m (filled_up_to cover lists)
joined_found form.Full m cover lists = refl
joined_found form.Verdict m cover lists = refl
joined_found form.Least m cover lists = refl

-- the report of a map that a search finds has no fault, in any form
map_clear : (asked : Form) (t : Task) (r : ℕ) (m : View → ℕ) (ls : List Line) → IsTask t → IsDecisionMap t r m → HasCanonicalMap (problem_of t r) (listed t r m) (root (problem_of t r)) ls
    → report_fault t r (report_about t r (body_of_map asked (listed t r m) ls)) ≡ None
map_clear form.Full t r m ls is decides whole = map_accepted t r m decides
map_clear form.Verdict t r m ls is decides whole = map_accepted t r m decides
map_clear form.Least t r m ls is decides whole =
    subst (λ x. report_fault t r (report_about t r (least (listed t r m) x)) ≡ None) (ap (λ (s : Trace). s.lines) whole)
    (canonical_least_accepted t r (listed t r m) is (ap (λ (s : Trace). s.map) whole))

module _ (asked : Form) (shows : asked ≢ form.Verdict) (t : Task) (r : ℕ) (is : IsTask t) where
  -- the lines of the canonical search of the root
  abbrev all_lines : List Line
  all_lines = (canonical (problem_of t r) (root (problem_of t r))).lines

  whole_lines : (lists : List (List Line)) → AreRefutationsFrom t r 0 lists → length lists ≡ length (branches t r) → HasCanonicalLines (problem_of t r) (root (problem_of t r)) (filled (outline (problem_of t r)) lists)
  whole_lines lists refuted long = filled_canonical (problem_of t r) lists (are_canonical t r is lists refuted long)

  none_whole : (lists : List (List Line)) → AreRefutationsFrom t r 0 lists → length lists ≡ length (branches t r) → IsWhole asked t r outcome.Nothing (none (filled (outline (problem_of t r)) lists))
  none_whole lists refuted long =
      let whole = whole_lines lists refuted long in
      let nothing : (canonical (problem_of t r) (root (problem_of t r))).map ≡ None = ap (λ (s : Trace). s.map) whole in
      let same : all_lines ≡ filled (outline (problem_of t r)) lists = ap (λ (s : Trace). s.lines) whole in
      let n = length (branches t r) in
      let kept : List Line = refuting_lines (lines_kept asked) all_lines in
      record {
        account = record { branches = n; least = n; searched = n; cut = 0 };
        solved = (
          none_verdict t r asked kept (text_of_report t r (none (filled (outline (problem_of t r)) lists))) is nothing refl
              (ap (λ x. text_of_report t r (none x)) (sym same) ∙ ap (text_of_report t r) (sym (none_shown asked kept all_lines refl ∙ shown asked shows all_lines))),
          record { branches = refl; least = refl; searched = refl; cut = refl },
        );
        clear = subst (λ x. report_fault t r (report_about t r (none x)) ≡ None) same (canonical_none_accepted t r is nothing);
      }

  module _ (lists : List (List Line)) (refuted : AreRefutationsFrom t r 0 lists) (there : HasBranch t r (length lists)) (m : View → ℕ) (ls : List Line)
      (is_least : IsLeastInBranch t r (length lists) m) (leads : LeadsToMapIn t r (length lists) (listed t r m) ls) where
    whole_map : HasCanonicalMap (problem_of t r) (listed t r m) (root (problem_of t r)) (filled_up_to (outline (problem_of t r)) (lists ++ ls ∷ []))
    whole_map = filled_leads (problem_of t r) (listed t r m) (lists ++ ls ∷ []) (lead_to_map t r is (listed t r m) lists ls refuted there (leading_lines t r is (length lists) there m ls is_least leads))

    -- the account of one that searches the branches in order
    in_order : Account
    in_order = record { branches = length (branches t r); least = length lists; searched = length lists + 1; cut = length (branches t r) - (length lists + 1) }

    has_account : HasAccountOfMap (problem_of t r) (listed t r m) in_order
    unfolding in_order
    has_account = record {
      branches = refl;
      holds = (there, is_least.lies);
      least = finds_map t r is (length lists) there m is_least;
      enough = omega arith;
      all = omega (arith, there);
    }

    map_whole : IsWhole asked t r outcome.Map (joined_body (outline (problem_of t r)) (found_as asked (listed t r m) (lists ++ ls ∷ [])))
    map_whole =
        let p = problem_of t r in
        let lists_all = lists ++ ls ∷ [] in
        let lines : List Line = filled_up_to (outline p) lists_all in
        let same : all_lines ≡ lines = ap (λ (s : Trace). s.lines) whole_map in
        let kept : List Line = map_lines (lines_kept asked) all_lines in
        let body = joined_found asked (listed t r m) (outline p) lists_all in
        let found : (canonical p (root p)).map ≡ Some (listed t r m) = ap (λ (s : Trace). s.map) whole_map in
        record {
          account = in_order;
          solved = (
            map_verdict t r asked (listed t r m) kept _ is found refl
                (ap (text_of_report t r) (body ∙ ap (body_of_map asked (listed t r m)) (sym same) ∙ sym (kept_shown asked (listed t r m) kept all_lines refl))),
            map_account t r (listed t r m) in_order is found has_account,
          );
          clear = subst (λ x. report_fault t r (report_about t r x) ≡ None) (sym body) (map_clear asked t r m lines is is_least.decides whole_map);
        }

-- ---- what is taken

-- each part that a search writes is taken as what it says, unless this stops it
pub record AreParts (asked : Form) (t : Task) (r : ℕ) (Stops : RunFault → Type 0) : Type 0 where
  pub memory : Stops OutOfMemory
  pub nones : (i : ℕ) (ls : List Line) → HasBranch t r i → IsRefutationIn t r i ls → IsWithin t r (none ls) → IsTaken t r Stops i (none ls)
  pub maps : (i : ℕ) (m : View → ℕ) (ls : List Line) → HasBranch t r i → IsLeastInBranch t r i m → LeadsToMapIn t r i (listed t r m) ls → IsWithin t r (body_of_map asked (listed t r m) ls)
      → IsTaken t r Stops i (body_of_map asked (listed t r m) ls)

module _ (asked : Form) (shows : asked ≢ form.Verdict) (t : Task) (r : ℕ) (is : IsTask t) (within : HasComplex t r) (Stops : RunFault → Type 0) (takes : AreParts asked t r Stops) where
  each_taken : (i : ℕ) (lists : List (List Line)) → i + length lists ≤ length (branches t r) → AreRefutationsFrom t r i lists → AllByRecursion (λ ls. IsWithin t r (none ls)) lists → AreTakenFrom t r Stops i lists
  each_taken i [] low refuted h = tt
  each_taken i (ls ∷ lists) low refuted h = (takes.nones i ls (omega (arith, low)) refuted.0 h.0, each_taken (suc i) lists (omega (arith, low)) refuted.1 h.1)

  -- what the parts come to is the answer of the whole question
  abbrev pub ComesToWhole : Outcome → Result Gathered RunFault → Type 0
  ComesToWhole found gathered = (g : Gathered) × (gathered ≡ Ok g) × IsWhole asked t r found (joined_body (outline (problem_of t r)) g)

  all_come : (lists : List (List Line)) (gathered : Result Gathered RunFault) → AreRefutationsFrom t r 0 lists → length lists ≡ length (branches t r) → GathersAll t r (none_parts t r 0 lists) gathered
      → ComesToWhole outcome.Nothing gathered ⊎ IsStopped t r Stops gathered
  all_come lists gathered refuted long gathers =
      let each = nones_within t r is within lists refuted (omega (arith, long)) (whole_lines asked shows t r is lists refuted long) in
      elim (all_gathered t r Stops takes.memory (branches_few t r is) lists gathered long (each_taken 0 lists (omega (arith, long)) refuted each) gathers) [
        | inl same ↦ inl (without_map lists, same, none_whole asked shows t r is lists refuted long)
        | inr stopped ↦ inr stopped
      ]

  -- the report of the map is in the grammar, in any form
  of_form : (form' : Form) (m : List ℕ) (lists : List (List Line)) (ls : List Line) → AreWithin t r is within m lists ls → IsWithin t r (body_of_map form' m ls)
  of_form form.Full m lists ls h = h.alone
  of_form form.Verdict m lists ls h = h.alone
  of_form form.Least m lists ls h = h.with_lines

  first_comes : (lists : List (List Line)) (m : View → ℕ) (ls : List Line) (rest : List ℕ) (gathered : Result Gathered RunFault) → AreRefutationsFrom t r 0 lists → HasBranch t r (length lists)
      → IsLeastInBranch t r (length lists) m → LeadsToMapIn t r (length lists) (listed t r m) ls
      → GathersAll t r (none_parts t r 0 lists ++ (part_text t r (length lists) (body_of_map asked (listed t r m) ls) ++ rest)) gathered
      → ComesToWhole outcome.Map gathered ⊎ IsStopped t r Stops gathered
  first_comes lists m ls rest gathered refuted there is_least leads gathers =
      let many : length (lists ++ ls ∷ []) ≤ length (branches t r) = let k = length-append lists (ls ∷ []) in omega (arith, k, there) in
      let each = map_within t r is within m lists ls is_least.decides refuted many (whole_map asked shows t r is lists refuted there m ls is_least leads) in
      let body = body_of_map asked (listed t r m) ls in
      elim (first_gathered t r Stops takes.memory (branches_few t r is) lists body rest gathered there (each_taken 0 lists (omega (arith, there)) refuted each.nones)
      (takes.maps (length lists) m ls there is_least leads (of_form asked (listed t r m) lists ls each)) gathers) [
        | inr stopped ↦ inr stopped
        | inl goes ↦ inl (found_as asked (listed t r m) (lists ++ ls ∷ []), goes_to asked (listed t r m) ls (λ more. Gathers t r goes.0 (suc (length lists)) more rest) lists gathered goes.1, map_whole asked shows t r is lists refuted there m ls is_least leads)
      ]

  pub comes : (found : Outcome) (given : List ℕ) (gathered : Result Gathered RunFault) → HasPartsOf asked t r found given → GathersAll t r given gathered → ComesToWhole found gathered ⊎ IsStopped t r Stops gathered
  comes outcome.Nothing given gathered (parts, solved, long, text) gathers =
      let has = lines_of_parts asked shows t r 0 parts solved in
      all_come has.lists gathered has.refuted (has.long ∙ long) (subst (λ x. GathersAll t r x gathered) (text ∙ has.text_is) gathers)
  comes outcome.Map given gathered (parts, last, behind, solved, there, (m, ls, is_least, leads, same), text) gathers =
      let has = lines_of_parts asked shows t r 0 parts solved in
      let n : length parts ≡ length has.lists = sym has.long in
      let shape : given ≡ none_parts t r 0 has.lists ++ (part_text t r (length has.lists) (body_of_map asked (listed t r m) ls) ++ behind) =
      text ∙ (λ j. has.text_is j ++ ((same ∙ ap (λ k. part_text t r k (body_of_map asked (listed t r m) ls)) n) j ++ behind)) in
      first_comes has.lists m ls behind gathered has.refuted (subst (HasBranch t r) n there) (subst (λ k. IsLeastInBranch t r k m) n is_least)
      (subst (λ k. LeadsToMapIn t r k (listed t r m) ls) n leads) (subst (λ x. GathersAll t r x gathered) shape gathers)
