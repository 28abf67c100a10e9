-- Reports with some of their lines, which are checked again.
use Rattle.std.proofs.Common.{◌≡◌, ◌≤◌, ◌+◌, ℕ, List, map, length, None, refl, sym, ap, subst, ◌∙◌, arith}
use Rattle.std.proofs.lemmas.List.{length-map}
use Rattle.wf_model.specs.Task.{Task}
use Rattle.wf_model.specs.Refutation as model
use Rattle.wf_model.specs.Report.{Body, Report, a_map, none, least, body_lines, body_values}
use Rattle.wf_model.specs.Check.{report_fault}
use Rattle.wf_base.specs.declared.lines.line.Line.{Line}
use Rattle.wf_base.specs.Lines.Lines.{line_of}
use Rattle.wf_report.specs.declared.report.Body as code
use Rattle.wf_report.specs.declared.report.Body.TheVariants.{Map, Nothing, Least}
use Rattle.wf_report.specs.declared.report.Report as whole
use Rattle.wf_report.specs.Reports.{AreNumbered, body_length, body_of, report_seen}
use Rattle.wf_report_check.specs.Truth.{HoldsOf}
use Rattle.wf_run.specs.Run.{HasComplex}
use Rattle.wf_run_verify.specs.Verify.{IsFaultless}
use Rattle.wf_report_trim.specs.Among.{AreAmong}
use Rattle.wf_run_report.specs.Trimming.{IsShortened, IsShorter, report_with, with_body, with_lines}
use Rattle.wf_run_report.proofs.SomeOfLists.{few_among, made_among}
use Rattle.wf_run_report.proofs.TrimmedTexts.{unchanged}

-- ---- how many values and lines there are

length_seen : (body : code.Body) → body_length body ≡ length (body_values (body_of body)) + length (body_lines (body_of body))
length_seen (Map values) = omega arith
length_seen (Nothing lines) = let same : length (map line_of lines.items) ≡ length lines.items = length-map lines.items line_of in omega (arith, same)
length_seen (Least values lines) = let same : length (map line_of lines.items) ≡ length lines.items = length-map lines.items line_of in omega (arith, same)

no_more : (body : Body) (ls : List model.Line) → length ls ≤ length (body_lines body)
    → length (body_values (with_lines body ls)) + length (body_lines (with_lines body ls)) ≤ length (body_values body) + length (body_lines body)
no_more (a_map m) ls few = omega arith
no_more (none old) ls few = omega (arith, few)
no_more (least m old) ls few = omega (arith, few)

-- ---- a report with some of its lines

module _ (report shorter : whole.Report) (kept lines : List Line) (among : AreAmong kept lines) (all : map line_of lines ≡ body_lines (body_of report.body))
    (is : report_seen shorter ≡ report_with (report_seen report) (map line_of kept)) where
  some : AreAmong (map line_of kept) (body_lines (body_of report.body))
  some = subst (AreAmong (map line_of kept)) all (made_among line_of kept lines among)

  pub stays_numbered : AreNumbered (body_length report.body) → AreNumbered (body_length shorter.body)
  stays_numbered few =
      let same : body_of shorter.body ≡ with_lines (body_of report.body) (map line_of kept) = ap (λ (x : Report). x.body) is in
      let new : body_length shorter.body ≡ length (body_values (body_of shorter.body)) + length (body_lines (body_of shorter.body)) = length_seen shorter.body in
      let old : body_length report.body ≡ length (body_values (body_of report.body)) + length (body_lines (body_of report.body)) = length_seen report.body in
      let fewer : length (body_values (body_of shorter.body)) + length (body_lines (body_of shorter.body)) ≤ length (body_values (body_of report.body)) + length (body_lines (body_of report.body)) =
      subst (λ b. length (body_values b) + length (body_lines b) ≤ length (body_values (body_of report.body)) + length (body_lines (body_of report.body))) (sym same)
      (no_more (body_of report.body) (map line_of kept) (few_among _ _ some)) in
      omega (arith, new, old, fewer, few)

  -- where the checker finds no fault in it
  pub is_shortened : (t : Task) (rounds : ℕ) → rounds ≡ report.header.rounds → IsFaultless t (report_seen report)
      → report_fault t rounds (report_seen shorter) ≡ None → HoldsOf t rounds (body_of shorter.body) → IsShortened t (report_seen report) (report_seen shorter)
  is_shortened t rounds same faultless clear holds =
      let own : shorter.header.rounds ≡ rounds = ap (λ (x : Report). x.rounds) is ∙ sym same in
      record {
        numbers = subst (λ (x : Report). x ≡ with_body (report_seen report) x.body) (sym is) refl;
        shorter = subst (λ (x : Report). IsShorter (body_of report.body) x.body) (sym is) (map line_of kept, some, refl);
        faultless = record {
          within = subst (HasComplex t) (sym (own ∙ same)) faultless.within;
          faultless = subst (λ n. report_fault t n (report_seen shorter) ≡ None) (sym own) clear;
          holds = subst (λ n. HoldsOf t n (body_of shorter.body)) (sym own) holds;
        };
      }

-- ---- a report whose lines are put back

module _ (report back : whole.Report) (is : report_seen back ≡ report_seen report) where
  pub back_numbered : AreNumbered (body_length report.body) → AreNumbered (body_length back.body)
  back_numbered few =
      let same : body_of back.body ≡ body_of report.body = ap (λ (x : Report). x.body) is in
      let counts : length (body_values (body_of back.body)) + length (body_lines (body_of back.body)) ≡ length (body_values (body_of report.body)) + length (body_lines (body_of report.body)) =
      ap (λ b. length (body_values b) + length (body_lines b)) same in
      let new : body_length back.body ≡ length (body_values (body_of back.body)) + length (body_lines (body_of back.body)) = length_seen back.body in
      let old : body_length report.body ≡ length (body_values (body_of report.body)) + length (body_lines (body_of report.body)) = length_seen report.body in
      omega (arith, new, old, counts, few)

  pub back_whole : (t : Task) → IsFaultless t (report_seen report) → IsShortened t (report_seen report) (report_seen back)
  back_whole t faultless = subst (IsShortened t (report_seen report)) (sym is) (unchanged t (report_seen report) faultless)
