-- What is written for the parts of all branches is true and accepted; and the counts of a joining.
use Rattle.std.proofs.Common.{◌≡◌, ◌+◌, ◌++◌, ◌∙◌, ℕ, zero, suc, List, [], ◌∷◌, length, Some, Result, Ok, Err, refl, sym, ap, subst, arith}
use Rattle.std.specs.List.{AllByRecursion}
use Rattle.wf_model.specs.Task.{Task, IsTask}
use Rattle.wf_model.specs.Box.{root}
use Rattle.wf_model.specs.Problem.{problem_of}
use Rattle.wf_model.specs.Outline.{filled, filled_up_to, outline}
use Rattle.wf_model.specs.Refutation.{Line}
use Rattle.wf_model.specs.Report.{Report, Body, a_map, none, least, report_about}
use Rattle.wf_model.specs.Check.{body_fault, first_least_fault, header_fault, map_fault}
use Rattle.wf_model.specs.LeastTree.{IsLeastTree}
use Rattle.wf_model.proofs.Lemmas.{weaker, root_accepted, each_append, accepted_leads, root_is_box, task_well_formed, no_fault}
use Rattle.wf_sat_formula.specs.Branches.{branches}
use Rattle.wf_base.specs.Streams.Seen.{Reading}
use Rattle.wf_base.specs.Streams.Texts as io
use Rattle.wf_base.specs.Streams.Texts.{Wrote}
use Rattle.wf_base.specs.declared.streams.source.ReadFault.{ReadFault}
use Rattle.wf_base.specs.declared.streams.source.ReadFault.TheVariants as read
use Rattle.wf_report.specs.Grammar.{IsInGrammar, IsBodyWithin, IsLineWithin, IsStepWithin}
use Rattle.wf_report.proofs.Lemmas.{read_written}
use Rattle.wf_run.specs.Run.{HasComplex, Judged, Next, by_result, failed_reads, failed_writes}
use Rattle.wf_run.specs.Texts.{text_of_report}
use Rattle.wf_run_verify.specs.Verify.{IsFaultless}
use Rattle.wf_run.specs.declared.fault.RunFault.{RunFault}
use Rattle.wf_run.specs.declared.fault.RunFault.TheVariants as run
use Rattle.wf_run_verify.proofs.Lemmas.{body_accepted, HasSmallValue, line_small, map_within, root_small, small_least_within, small_none_within, step_small}
use Rattle.wf_run.proofs.Lemmas.{IsReadCounted, done, few}
use Rattle.wf_run.proofs.Lemmas as both
use Rattle.wf_run_branches.specs.Joining.{AcceptsBody, AcceptsJoined, EndsAll, Gathered, with_map, with_least, without_map, Gathers, GathersAll, GoesOn, IsBodyIn, JoinsText, ReadsParts, TakesPart, among_parts, in_part, joined_body, most_parts_bytes, next_part}
use Rattle.wf_run_branches.specs.Laws.{JoinsAreAccepted, JoinsAreTrue, JoiningIsCounted}
use Rattle.wf_run_branches.specs.Verifying.{IsPartOf}
use Rattle.wf_run_branches.proofs.SmallValues.{AreSmallLines, filled_small, filled_up_small}

-- ---- what was joined

-- the parts came to this, and the report of it has no fault
pub record IsJoined (t : Task) (r : ℕ) (text : List ℕ) : Type 0 where
  pub given : List ℕ
  pub gathered : Gathered
  pub gathers : GathersAll t r given (Ok gathered)
  pub faultless : IsFaultless t (report_about t r (joined_body (outline (problem_of t r)) gathered))
  pub is : text ≡ text_of_report t r (joined_body (outline (problem_of t r)) gathered)

module _ (t : Task) (r : ℕ) (old new : Reading) (text : List ℕ) where
  of_gathered : (given : List ℕ) (gathered : Result Gathered RunFault) → GathersAll t r given gathered
      → Next (λ g. AcceptsJoined t r (joined_body (outline (problem_of t r)) g)) gathered (Ok (tt, text)) → IsJoined t r text
  of_gathered given (Ok g) gathers accepts = record { given = given; gathered = g; gathers = gathers; faultless = accepts.1; is = accepts.2 }
  of_gathered given (Err e) gathers next = absurd (let bad : ⊥ = cc in bad)

  of_text : (given : Result (List ℕ) ReadFault) → Judged (JoinsText t r) given (Ok (tt, text)) → IsJoined t r text
  of_text (Ok given) (gathered, gathers, next) = of_gathered given gathered gathers next
  of_text (Err e) judged = absurd (let bad : ⊥ = cc in bad)

pub joins_true : JoinsAreTrue
joins_true r task task' parts parts' sink sink' ran =
    let end = done ReadsParts r task task' parts parts' sink sink' ran in
    let joined = of_text end.t r parts parts' end.text end.read.0 end.read.2 in
    (end.t, joined_body (outline (problem_of end.t r)) joined.gathered, end.given, joined.faultless.holds, subst (λ text. Wrote sink sink' text) joined.is end.wrote)

-- ---- the values in the lines of parts

-- the lines of an answer have small values
abbrev HasSmallLines : Body → Type 0
HasSmallLines (a_map m) = Unit {0}
HasSmallLines (none ls) = AreSmallLines ls
HasSmallLines (least m ls) = AreSmallLines ls

abbrev AreSmallIn : Gathered → Type 0
AreSmallIn (without_map lists) = AllByRecursion AreSmallLines lists
AreSmallIn (with_map m) = Unit {0}
AreSmallIn (with_least m lists) = AllByRecursion AreSmallLines lists

module _ (t : Task) (r : ℕ) where
  body_small : (body : Body) → (report : Report) → IsInGrammar report → body ≡ report.body → HasSmallLines body
  body_small (a_map m) report grammar same = tt
  body_small (none ls) report grammar same =
      weaker IsLineWithin HasSmallValue line_small ls (subst IsBodyWithin (sym same) grammar.body)
  body_small (least m ls) report grammar same =
      weaker IsStepWithin HasSmallValue step_small ls (subst IsBodyWithin (sym same) grammar.body).1

  report_small : (i : ℕ) (text : List ℕ) (report : Result Report RunFault) (body : Body) → IsPartOf i (length (branches t r)) text report → Next (AcceptsBody i t r) report (Ok body) → HasSmallLines body
  report_small i text (Ok report) body (rest, begins, few, is) accepts = body_small body report (read_written rest report is).1 accepts.1
  report_small i text (Err e) body is next = absurd (let bad : ⊥ = cc in bad)

  alone_small : (i : ℕ) (text : List ℕ) (alone : Result Body RunFault) (body : Body) → IsBodyIn i t r text alone → Ok body ≡ among_parts i alone → HasSmallLines body
  alone_small i text (Ok alone) body (report, is, accepts) same =
      let known : alone ≡ body = cc in
      subst HasSmallLines known (report_small i text report alone is accepts)
  alone_small i text (Err e) body is same = absurd (let bad : ⊥ = cc in bad)

  one_more : (lists : List (List Line)) (ls : List Line) → AllByRecursion AreSmallLines lists → AreSmallLines ls → AllByRecursion AreSmallLines (lists ++ ls ∷ [])
  one_more lists ls h k = each_append AreSmallLines lists (ls ∷ []) h (k, tt)

  end_small : (n : ℕ) (lists : List (List Line)) (g : Gathered) → AllByRecursion AreSmallLines lists → g ≡ without_map lists → AreSmallIn g
  end_small n lists g h same = subst AreSmallIn (sym same) h

  going_small : (body : Body) (next : List (List Line) → Result Gathered RunFault → Type 0) (lists : List (List Line)) (g : Gathered) → AllByRecursion AreSmallLines lists → HasSmallLines body
      → ((more : List (List Line)) → AllByRecursion AreSmallLines more → next more (Ok g) → AreSmallIn g) → GoesOn next lists body (Ok g) → AreSmallIn g
  going_small (a_map m) next lists g h k keeps is = let same : g ≡ with_map m = cc in subst AreSmallIn (sym same) tt
  going_small (none ls) next lists g h k keeps goes = keeps (lists ++ ls ∷ []) (one_more lists ls h k) goes
  going_small (least m ls) next lists g h k keeps is = let same : g ≡ with_least m (lists ++ ls ∷ []) = cc in subst AreSmallIn (sym same) (one_more lists ls h k)

  next_small : (i left : ℕ) (lists : List (List Line)) (text : List ℕ) (body : Result Body RunFault) (g : Gathered) → AllByRecursion AreSmallLines lists → TakesPart i t r (next_part text).0 body
      → ((more : List (List Line)) → AllByRecursion AreSmallLines more → Gathers t r left (suc i) more (next_part text).1 (Ok g) → AreSmallIn g)
      → Next (GoesOn (λ more. Gathers t r left (suc i) more (next_part text).1) lists) body (Ok g) → AreSmallIn g
  next_small i left lists text (Ok body) g h (alone, is, same) keeps goes =
      going_small body (λ more. Gathers t r left (suc i) more (next_part text).1) lists g h (alone_small i (next_part text).0 alone body is same) keeps goes
  next_small i left lists text (Err e) g h takes keeps next = absurd (let bad : ⊥ = cc in bad)

  -- the lines that are gathered have small values
  gathered_small : (left i : ℕ) (lists : List (List Line)) (text : List ℕ) (g : Gathered) → AllByRecursion AreSmallLines lists → Gathers t r left i lists text (Ok g) → AreSmallIn g
  gathered_small zero i lists text g h gathers = end_small i lists g h gathers.1
  gathered_small (suc left) i lists text g h (body, takes, goes) =
      next_small i left lists text body g h takes (λ more k gathers. gathered_small left (suc i) more (next_part text).1 g k gathers) goes

-- ---- what was joined is in the grammar

module _ (t : Task) (r : ℕ) (is : IsTask t) (within : HasComplex t r) where
  joined_within : (g : Gathered) → AreSmallIn g → IsFaultless t (report_about t r (joined_body (outline (problem_of t r)) g)) → IsInGrammar (report_about t r (joined_body (outline (problem_of t r)) g))
  joined_within (with_map m) small faultless =
      let (f, decides, same) = faultless.holds in
      subst (λ x. IsInGrammar (report_about t r (a_map x))) same (map_within t r is within f decides)
  joined_within (without_map lists) small faultless =
      let p = problem_of t r in
      let ls : List Line = filled (outline p) lists in
      let tree = root_accepted p 7 ls (no_fault (header_fault t r p (report_about t r (none ls))) (body_fault p (none ls)) faultless.faultless).1 in
      small_none_within t r is within tree.0 ls tree.1 tree.2 (filled_small p lists (root_small t r is) small)
  joined_within (with_least m lists) small faultless =
      let p = problem_of t r in
      let ls : List Line = filled_up_to (outline p) lists in
      let (f, is_least, same) = faultless.holds in
      let clear = (no_fault (header_fault t r p (report_about t r (least m ls))) (body_fault p (least m ls)) faultless.faultless).1 in
      let leads = (no_fault (map_fault p m) (first_least_fault p m (7 + length m) ls (root p ∷ [])) clear).1 in
      let tree = accepted_leads p (root p) m (7 + length m) ls (root_is_box p (task_well_formed t r is)) leads in
      subst (λ x. IsInGrammar (report_about t r (least x ls))) same
      (small_least_within t r is within f is_least.decides tree.0 ls tree.1 (subst (λ x. IsLeastTree p x tree.0 (root p)) (sym same) tree.2) (filled_up_small p lists (root_small t r is) small))

pub joins_accepted : JoinsAreAccepted
joins_accepted r task task' parts parts' sink sink' ran =
    let end = done ReadsParts r task task' parts parts' sink sink' ran in
    let t = end.t in
    let joined = of_text t r parts parts' end.text end.read.0 end.read.2 in
    let body = joined_body (outline (problem_of t r)) joined.gathered in
    let within = joined.faultless.within in
    let is = within.1.2.task in
    let grammar = joined_within t r is within joined.gathered (gathered_small t r (length (branches t r)) 0 [] joined.given joined.gathered tt joined.gathers) joined.faultless in
    (t, body, end.text, end.given, joined.is, end.wrote, λ short answer checks. body_accepted t r (Some r) body end.text answer refl grammar within joined.faultless.faultless joined.is short checks)

-- ---- counts

module _ (t : Task) (r : ℕ) where
  quiet_part : (i : ℕ) (text : List ℕ) (report : Result Report RunFault) (e : RunFault) → IsPartOf i (length (branches t r)) text report → Next (AcceptsBody i t r) report (Err e) → (failed_reads e ≡ 0) × (failed_writes e ≡ 0)
  quiet_part i text (Ok report) (run.Cert e) is next = (refl, refl)
  quiet_part i text (Ok report) run.Read is next = absurd next
  quiet_part i text (Ok report) run.Write is next = absurd next
  quiet_part i text (Ok report) e is next = (refl, refl)
  quiet_part i text (Err run.Read) e is next = absurd is.2
  quiet_part i text (Err run.Write) e is next = absurd is.2
  quiet_part i text (Err f) e is next = (ap (by_result failed_reads) next, ap (by_result failed_writes) next)

  -- a refusal among others counts as often
  quiet_among : (i : ℕ) (e : RunFault) → (failed_reads e ≡ 0) × (failed_writes e ≡ 0) → (failed_reads (in_part i e) ≡ 0) × (failed_writes (in_part i e) ≡ 0)
  quiet_among i run.OtherPart h = (refl, refl)
  quiet_among i run.TooLong h = (refl, refl)
  quiet_among i (run.Cert e) h = (refl, refl)
  quiet_among i run.NotInBranch h = (refl, refl)
  quiet_among i e h = h

  quiet_taken : (i : ℕ) (text : List ℕ) (alone : Result Body RunFault) (e : RunFault) → IsBodyIn i t r text alone → Err e ≡ among_parts i alone → (failed_reads e ≡ 0) × (failed_writes e ≡ 0)
  quiet_taken i text (Ok body) e is same = absurd (let bad : ⊥ = cc in bad)
  quiet_taken i text (Err f) e (report, is, next) same =
      let known : in_part i f ≡ e = cc in
      subst (λ x. (failed_reads x ≡ 0) × (failed_writes x ≡ 0)) known (quiet_among i f (quiet_part i text report f is next))

  quiet_end : (n : ℕ) (lists : List (List Line)) (text : List ℕ) (e : RunFault) → EndsAll n lists text (Err e) → (failed_reads e ≡ 0) × (failed_writes e ≡ 0)
  quiet_end n lists text (run.TooManyParts k) ends = (refl, refl)
  quiet_end n lists text run.Read ends = absurd ends
  quiet_end n lists text run.Write ends = absurd ends
  quiet_end n lists text e ends = (refl, refl)

  quiet_body : (body : Body) (next : List (List Line) → Result Gathered RunFault → Type 0) (lists : List (List Line)) (e : RunFault) → ((more : List (List Line)) → next more (Err e) → (failed_reads e ≡ 0) × (failed_writes e ≡ 0))
      → GoesOn next lists body (Err e) → (failed_reads e ≡ 0) × (failed_writes e ≡ 0)
  quiet_body (a_map m) next lists e keeps goes = absurd (let bad : ⊥ = cc in bad)
  quiet_body (none ls) next lists e keeps goes = keeps (lists ++ ls ∷ []) goes
  quiet_body (least m ls) next lists e keeps goes = absurd (let bad : ⊥ = cc in bad)

  quiet_next : (i left : ℕ) (lists : List (List Line)) (text : List ℕ) (body : Result Body RunFault) (e : RunFault) → TakesPart i t r (next_part text).0 body
      → ((more : List (List Line)) → Gathers t r left (suc i) more (next_part text).1 (Err e) → (failed_reads e ≡ 0) × (failed_writes e ≡ 0))
      → Next (GoesOn (λ more. Gathers t r left (suc i) more (next_part text).1) lists) body (Err e) → (failed_reads e ≡ 0) × (failed_writes e ≡ 0)
  quiet_next i left lists text (Ok body) e takes keeps goes = quiet_body body (λ more. Gathers t r left (suc i) more (next_part text).1) lists e keeps goes
  quiet_next i left lists text (Err f) e (alone, is, same) keeps next = let known : Err e ≡ among_parts i alone = cc in quiet_taken i (next_part text).0 alone e is known

  quiet_gathered : (left i : ℕ) (lists : List (List Line)) (text : List ℕ) (e : RunFault) → Gathers t r left i lists text (Err e) → (failed_reads e ≡ 0) × (failed_writes e ≡ 0)
  quiet_gathered zero i lists text e ends = quiet_end i lists text e ends
  quiet_gathered (suc left) i lists text e (body, takes, goes) =
      quiet_next i left lists text body e takes (λ more gathers. quiet_gathered left (suc i) more (next_part text).1 e gathers) goes

  quiet_accepts : (body : Body) (answer : Result (Unit {0} × List ℕ) RunFault) → AcceptsJoined t r body answer → (by_result failed_reads answer ≡ 0) × (by_result failed_writes answer ≡ 0)
  quiet_accepts body (Ok a) accepts = (refl, refl)
  quiet_accepts body (Err (run.Cert e)) accepts = (refl, refl)
  quiet_accepts body (Err run.Read) accepts = absurd accepts
  quiet_accepts body (Err run.Write) accepts = absurd accepts
  quiet_accepts body (Err e) accepts = (refl, refl)

  quiet_joins : (text : List ℕ) (gathered : Result Gathered RunFault) (answer : Result (Unit {0} × List ℕ) RunFault) → GathersAll t r text gathered
      → Next (λ g. AcceptsJoined t r (joined_body (outline (problem_of t r)) g)) gathered answer → (by_result failed_reads answer ≡ 0) × (by_result failed_writes answer ≡ 0)
  quiet_joins text (Ok g) answer gathers next = quiet_accepts (joined_body (outline (problem_of t r)) g) answer next
  quiet_joins text (Err e) answer gathers next =
      let quiet = quiet_gathered (length (branches t r)) 0 [] text e gathers in
      (ap (by_result failed_reads) next ∙ quiet.0, ap (by_result failed_writes) next ∙ quiet.1)

  judged_parts : (text : Result (List ℕ) ReadFault) (answer : Result (Unit {0} × List ℕ) RunFault) → Judged (JoinsText t r) text answer
      → (io.failed_reads text ≡ by_result failed_reads answer) × (by_result failed_writes answer ≡ 0)
  judged_parts (Ok text) answer (gathered, gathers, next) = let none = quiet_joins text gathered answer gathers next in (sym none.0, none.1)
  judged_parts (Err read.TooLong) answer j = (sym (ap (by_result failed_reads) j), ap (by_result failed_writes) j)
  judged_parts (Err read.OutOfMemory) answer j = (sym (ap (by_result failed_reads) j), ap (by_result failed_writes) j)
  judged_parts (Err read.Read) answer j = (sym (ap (by_result failed_reads) j), ap (by_result failed_writes) j)

parts_counted : (t : Task) (r : ℕ) (old new : Reading) (answer : Result (Unit {0} × List ℕ) RunFault) → ReadsParts t r old new answer → IsReadCounted most_parts_bytes old new answer
parts_counted t r old new answer (text, (given, gave, read), judged) =
    let counts = judged_parts t r text answer judged in
    let bound = few most_parts_bytes given new.left text read in
    let reads = counts.0 in
    let fails = gave.failures in
    record { taken = omega (arith, gave.taken, bound); failures = omega (arith, fails, reads); writes = counts.1 }

pub joining_counted : JoiningIsCounted
joining_counted r = both.counted_over_two most_parts_bytes ReadsParts r (λ t old new answer reads. parts_counted t r old new answer reads)
