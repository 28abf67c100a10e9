-- The steps of putting parts together.
use Rattle.std.proofs.Common.{◌≡◌, ◌≢◌, ◌==◌, ◌∙◌, true, false, eqb-true, ◌+◌, ◌-◌, ◌<◌, ◌≤◌, ℕ, zero, suc, List, [], ◌∷◌, ◌++◌, length, length-append, map, None, Result, Ok, Err, Vec, refl, sym, ap, subst, arith}
use Rattle.std.proofs.lemmas.List.{length-map, map-append, nil_from_length}
use Rattle.wf_model.specs.Task.{Task}
use Rattle.wf_model.specs.Problem.{problem_of}
use Rattle.wf_model.specs.Outline.{outline}
use Rattle.wf_model.specs.Refutation as refutation
use Rattle.wf_model.specs.Report.{Report, Body, a_map, none, least, report_about, report_text}
use Rattle.wf_model.specs.Check.{report_fault}
use Rattle.wf_sat_formula.specs.Branches.{branches}
use Rattle.wf_base.specs.Lines.Lines.{line_of}
use Rattle.wf_base.specs.declared.lines.line.Line as code
use Rattle.wf_complex.specs.Protocol.{Built, Builds}
use Rattle.wf_search.specs.Cover.{each_seen}
use Rattle.wf_report_check.specs.Faults.{Fails}
use Rattle.wf_report_check.specs.Truth.{HoldsOf}
use Rattle.wf_report.specs.Reports.{AreNumbered, body_length, body_of}
use Rattle.wf_report.specs.declared.fault.CertFault.{CertFault}
use Rattle.wf_report.specs.declared.fault.CertFault.TheVariants as amiss
use Rattle.wf_report.specs.declared.report.Body as found
use Rattle.wf_report.specs.declared.report.Body.TheVariants.{Map, Nothing, Least}
use Rattle.wf_run.specs.Faults.{of_report_fault}
use Rattle.wf_run.specs.Run.{Next, answered}
use Rattle.wf_run.specs.Texts.{text_of_report}
use Rattle.wf_run.specs.declared.fault.RunFault.{RunFault}
use Rattle.wf_run.specs.declared.fault.RunFault.TheVariants.{OutOfMemory, TooManyParts}
use Rattle.wf_run.proofs.Lemmas.{IsRefusal}
use Rattle.wf_run_branches.specs.Branches.{IsBranch}
use Rattle.wf_run_branches.specs.declared.branch.BranchCandidates.{BranchCandidates}
use Rattle.wf_run_branches.specs.declared.joining.Gathered as kept
use Rattle.wf_run_branches.specs.Verifying.{ChecksIn, IsPartOf}
use Rattle.wf_run_branches.specs.Joining.{AcceptsJoined, Gathered, with_map, with_least, without_map, Gathers, GathersAll, GoesOn, IsBodyIn, JoinsText, TakesPart, body_seen, gathered_seen, in_part, joined_body, lines_in, next_part}

-- ---- one part

module _ (i : ℕ) (t : Task) (r : ℕ) (text : List ℕ) where
  -- a text that is no part about the branch
  pub no_body : (e : RunFault) (result : Result found.Body RunFault) → IsPartOf i (length (branches t r)) text (Err e) → IsRefusal e result → IsBodyIn i t r text (body_seen result)
  no_body e (Ok x) is refused = absurd (let ended = refused.0 in let bad : ⊥ = cc in bad)
  no_body e (Err found) is refused = (Err e, is, ap Err refused.1)

  -- a part that is not accepted
  pub no_report : (report : Report) (e : RunFault) (result : Result found.Body RunFault) → IsPartOf i (length (branches t r)) text (Ok report) → ChecksIn i t r report (Err e) → IsRefusal e result
      → IsBodyIn i t r text (body_seen result)
  no_report report e (Ok x) is checks refused = absurd (let ended = refused.0 in let bad : ⊥ = cc in bad)
  no_report report e (Err found) is checks refused = (Ok report, is, subst (λ f. ChecksIn i t r report (Err f)) (sym refused.1) checks)

  -- a part that is taken, or refused as one among others
  pub taken : (alone : Result found.Body RunFault) (body : found.Body) → alone ≡ Ok body → IsBodyIn i t r text (body_seen alone) → TakesPart i t r text (Ok (body_of body))
  taken alone body same is = (Ok (body_of body), subst (λ found. IsBodyIn i t r text (body_seen found)) same is, refl)

  pub untaken : (alone : Result found.Body RunFault) (e told : RunFault) → alone ≡ Err e → told ≡ in_part i e → IsBodyIn i t r text (body_seen alone) → TakesPart i t r text (Err told)
  untaken alone e told same known is = (Err e, subst (λ found. IsBodyIn i t r text (body_seen found)) same is, ap Err known)

-- a text as a part about the branch that the code keeps
pub same_part : (i : ℕ) (t : Task) (r : ℕ) (text : List ℕ) (branch : BranchCandidates) → IsBranch t r i branch → (report : Result Report RunFault) → IsPartOf branch.number branch.count text report
    → IsPartOf i (length (branches t r)) text report
same_part i t r text branch is report read =
    subst (λ n. IsPartOf i n text report) is.count (subst (λ k. IsPartOf k branch.count text report) is.number read)

-- ---- all parts

-- out of memory is an answer wherever the going through stands
pub never_gathered : (t : Task) (r left i : ℕ) (lists : List (List refutation.Line)) (text : List ℕ) → Gathers t r left i lists text (Err OutOfMemory)
never_gathered t r zero i lists text = tt
never_gathered t r (suc left) i lists text = (Err OutOfMemory, (Err OutOfMemory, (Err OutOfMemory, tt, refl), refl), refl)

module _ (t : Task) (r : ℕ) (text : List ℕ) where
  -- nothing comes of the parts
  pub unjoined : {A : Type 0} (e : RunFault) (result : Result (Unit {0} × Vec ℕ A) RunFault) → GathersAll t r text (Err e) → IsRefusal e result → JoinsText t r text (answered result)
  unjoined e (Ok x) gathers is = absurd (let ended = is.0 in let bad : ⊥ = cc in bad)
  unjoined e (Err found) gathers is = (Err e, gathers, ap Err is.1)

  -- the same where the code answers what they come to
  pub ungathered : (e : RunFault) (result : Result kept.Gathered RunFault) → GathersAll t r text (Err e) → IsRefusal e result → GathersAll t r text (gathered_seen result)
  ungathered e (Ok x) gathers is = absurd (let ended = is.0 in let bad : ⊥ = cc in bad)
  ungathered e (Err found) gathers is = subst (λ f. GathersAll t r text (Err f)) (sym is.1) gathers

  -- they come to this
  pub joins : (gathered : Gathered) (result : Result (Unit {0} × List ℕ) RunFault) → GathersAll t r text (Ok gathered) → AcceptsJoined t r (joined_body (outline (problem_of t r)) gathered) result → JoinsText t r text result
  joins gathered result gathers accepts = (Ok gathered, gathers, accepts)

-- whether something is left of a text
pub some_left : (rest : List ℕ) → (length rest == 0) ≡ false → rest ≢ []
some_left rest some = λ nil.
    let whole : (length rest == 0) ≡ true = ap (λ x. length x == 0) nil in
    absurd (let bad : ⊥ = cc in bad)

pub none_left : (rest : List ℕ) → (length rest == 0) ≡ true → rest ≡ []
none_left rest whole = nil_from_length rest (eqb-true (length rest) 0 whole)

-- what is kept on the way: what the rest of the text comes to is what all of it does
pub record IsGoing {A : Type 0} (t : Task) (r : ℕ) (text : List ℕ) (number : ℕ) (lists : List (Vec code.Line A)) (rest : List ℕ) : Type 0 where
  pub goes : (left : ℕ) (result : Result Gathered RunFault) → left + number ≡ length (branches t r) → Gathers t r left number (each_seen lists) rest result → GathersAll t r text result
  pub long : length lists ≡ number

module _ {A : Type 0} (t : Task) (r : ℕ) (text : List ℕ) where
  pub begins : IsGoing {A = A} t r text 0 [] text
  begins = record {
    goes = λ left result all gathers.
        let same : left ≡ length (branches t r) = omega (arith, all) in
        subst (λ k. Gathers t r k 0 [] text result) same gathers;
    long = refl;
  }

  module _ (number : ℕ) (lists : List (Vec code.Line A)) (rest : List ℕ) (going : IsGoing t r text number lists rest) where
    -- memory ran out
    pub forgotten : number ≤ length (branches t r) → GathersAll t r text (Err OutOfMemory)
    forgotten low = going.goes (length (branches t r) - number) (Err OutOfMemory) (omega (arith, low)) (never_gathered t r (length (branches t r) - number) number (each_seen lists) rest)

    -- all parts are taken
    pub ended : length (branches t r) ≡ number → rest ≡ [] → GathersAll t r text (Ok (without_map (each_seen lists)))
    ended all empty = going.goes 0 _ (omega (arith, all)) (empty, refl)

    pub longer : (n : ℕ) → n ≡ length (branches t r) → length (branches t r) ≡ number → rest ≢ [] → GathersAll t r text (Err (TooManyParts n))
    longer n is all some = going.goes 0 _ (omega (arith, all)) (some, is ∙ all)

    module _ (low : number < length (branches t r)) (part : List ℕ) (is_part : part ≡ (next_part rest).0) where
      -- one more part, whatever comes of it
      next : (body : Result Body RunFault) (result : Result Gathered RunFault) → TakesPart number t r part body
          → Next (GoesOn (λ more. Gathers t r (length (branches t r) - suc number) (suc number) more (next_part rest).1) (each_seen lists)) body result → GathersAll t r text result
      next body result takes goes =
          going.goes (suc (length (branches t r) - suc number)) result (omega (arith, low)) (body, subst (λ x. TakesPart number t r x body) is_part takes, goes)

      pub refuses : (e : RunFault) → TakesPart number t r part (Err e) → GathersAll t r text (Err e)
      refuses e takes = next (Err e) (Err e) takes refl

      pub finds_map : (m : List ℕ) → TakesPart number t r part (Ok (a_map m)) → GathersAll t r text (Ok (with_map m))
      finds_map m takes = next (Ok (a_map m)) (Ok (with_map m)) takes refl

      module _ (lines : Vec code.Line A) (more : List (Vec code.Line A)) (kept : more ≡ lists ++ lines ∷ []) where
        seen : each_seen lists ++ map line_of lines.items ∷ [] ≡ each_seen more
        seen = sym (map-append (λ (list : Vec code.Line A). map line_of list.items) lists (lines ∷ [])) ∙ ap each_seen (sym kept)

        pub finds_least : (m : List ℕ) → TakesPart number t r part (Ok (least m (map line_of lines.items))) → GathersAll t r text (Ok (with_least m (each_seen more)))
        finds_least m takes = next _ (Ok (with_least m (each_seen more))) takes (ap (λ all. Ok (with_least m all)) (sym seen))

        pub goes_on : (behind : List ℕ) → behind ≡ (next_part rest).1 → TakesPart number t r part (Ok (none (map line_of lines.items))) → IsGoing t r text (number + 1) more behind
        goes_on behind is_rest takes = record {
          goes = λ left result all gathers.
              let after : number + 1 ≡ suc number = omega arith in
              let same : left ≡ length (branches t r) - suc number = omega (arith, all) in
              let there : Gathers t r left (number + 1) (each_seen more) behind result ≡ Gathers t r (length (branches t r) - suc number) (suc number) (each_seen lists ++ map line_of lines.items ∷ []) (next_part rest).1 result =
              λ i. Gathers t r (same i) (after i) (sym seen i) (is_rest i) result in
              next _ result takes (subst (λ (X : Type 0). X) there gathers);
          long = ap length kept ∙ length-append lists (lines ∷ []) ∙ ap (λ n. n + 1) going.long;
        }

-- ---- the whole question

-- how many values and lines there are
pub as_many : (body : found.Body) → lines_in (body_of body) ≡ body_length body
as_many (Map values) = refl
as_many (Nothing lines) = length-map lines.items line_of
as_many (Least values lines) = ap (λ n. length values.items + n) (length-map lines.items line_of)

module _ (t : Task) (r : ℕ) (body : Body) where
  -- a report without a fault
  pub right : (b : Built) (report : Report) (text : List ℕ) → Builds t r (Ok b) → AreNumbered (lines_in body) → report ≡ report_about t r body → report_fault t r report ≡ None → HoldsOf t r body → text ≡ report_text report
      → AcceptsJoined t r body (Ok (tt, text))
  unfolding text_of_report
  right b report text built few same clear holds is =
      (few, record { within = (b, built); faultless = ap (report_fault t r) (sym same) ∙ clear; holds = holds }, is ∙ ap report_text same)

  -- one with a fault
  wrong : (e : CertFault) → AreNumbered (lines_in body) → Fails e (report_fault t r (report_about t r body)) → AcceptsJoined t r body (Err (of_report_fault e))
  wrong amiss.TooLong few fails = absurd fails
  wrong (amiss.Syntax k) few fails = absurd fails
  wrong amiss.OutOfMemory few fails = tt
  wrong e few fails = (few, fails)

  pub faulty : {A : Type 0} (report : Report) (e : CertFault) (result : Result (Unit {0} × Vec ℕ A) RunFault) → AreNumbered (lines_in body) → report ≡ report_about t r body → Fails e (report_fault t r report)
      → IsRefusal (of_report_fault e) result → AcceptsJoined t r body (answered result)
  faulty report e (Ok x) few same fails is = absurd (let ended = is.0 in let bad : ⊥ = cc in bad)
  faulty report e (Err found) few same fails is =
      subst (λ f. AcceptsJoined t r body (Err f)) (sym is.1) (wrong e few (subst (λ x. Fails e (report_fault t r x)) same fails))
