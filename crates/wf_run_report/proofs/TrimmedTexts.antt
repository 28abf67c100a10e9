-- Shorter reports: no longer a text, and in the grammar where the longer one is.
use Rattle.std.proofs.Common.{◌≡◌, ◌≤◌, ◌++◌, ℕ, List, [], ◌∷◌, flat_map, length, codes, refl, sym, ap, subst, ◌∙◌, arith}
use Rattle.wf_model.specs.Task.{Task}
use Rattle.wf_model.specs.Refutation.{Line}
use Rattle.wf_model.specs.Report.{Body, Report, a_map, none, least, answer_line, body_lines, body_text, line, line_text, report_text, value_line}
use Rattle.wf_report.specs.Grammar.{IsBodyWithin, IsInGrammar, IsLineWithin, IsStepWithin}
use Rattle.wf_run_verify.specs.Verify.{IsFaultless}
use Rattle.wf_report_trim.specs.Among.{AreAmong}
use Rattle.wf_run_report.specs.Trimming.{IsShortened, IsShorter, with_body, with_lines}
use Rattle.wf_run_report.proofs.SomeOfLists.{among_self, each_among, flat_among, no_longer_after, no_longer_before}

own_lines : (body : Body) → body ≡ with_lines body (body_lines body)
own_lines (a_map m) = refl
own_lines (none ls) = refl
own_lines (least m ls) = refl

-- a report without a fault is one of its own shorter reports
pub unchanged : (t : Task) (r : Report) → IsFaultless t r → IsShortened t r r
unchanged t r faultless = record { numbers = refl; shorter = (body_lines r.body, among_self (body_lines r.body), own_lines r.body); faultless = faultless }

-- the last lines of a text, from the line of the answer on
abbrev answer_text : Body → List ℕ
answer_text body = answer_line body ++ (body_text body ++ line (codes "end") [])

answer_no_longer : (body : Body) (ls : List Line) → AreAmong ls (body_lines body) → length (answer_text (with_lines body ls)) ≤ length (answer_text body)
answer_no_longer (a_map m) ls among = omega arith
answer_no_longer (none old) ls among =
    no_longer_after (answer_line (none old)) _ _ (no_longer_before (flat_map line_text ls) (flat_map line_text old) (line (codes "end") []) (flat_among line_text ls old among))
answer_no_longer (least m old) ls among =
    no_longer_after (answer_line (least m old)) _ _
    (no_longer_before _ _ (line (codes "end") [])
    (no_longer_after (flat_map value_line m) (flat_map line_text ls) (flat_map line_text old) (flat_among line_text ls old among)))

after_five : (a b c d e xs ys : List ℕ) → length xs ≤ length ys → length (a ++ (b ++ (c ++ (d ++ (e ++ xs))))) ≤ length (a ++ (b ++ (c ++ (d ++ (e ++ ys)))))
after_five a b c d e xs ys few =
    no_longer_after a (b ++ (c ++ (d ++ (e ++ xs)))) (b ++ (c ++ (d ++ (e ++ ys))))
    (no_longer_after b (c ++ (d ++ (e ++ xs))) (c ++ (d ++ (e ++ ys)))
    (no_longer_after c (d ++ (e ++ xs)) (d ++ (e ++ ys))
    (no_longer_after d (e ++ xs) (e ++ ys) (no_longer_after e xs ys few))))

lines_no_longer : (r : Report) (ls : List Line) → AreAmong ls (body_lines r.body) → length (report_text (with_body r (with_lines r.body ls))) ≤ length (report_text r)
lines_no_longer r ls among =
    after_five
    (line (codes "wfcheck report 1") [])
    (line (codes "processes") (r.processes ∷ []))
    (line (codes "rounds") (r.rounds ∷ []))
    (line (codes "points") (r.points ∷ []))
    (line (codes "executions") (r.executions ∷ []))
    (answer_text (with_lines r.body ls))
    (answer_text r.body)
    (answer_no_longer r.body ls among)

body_within : (body : Body) (ls : List Line) → AreAmong ls (body_lines body) → IsBodyWithin body → IsBodyWithin (with_lines body ls)
body_within (a_map m) ls among h = h
body_within (none old) ls among h = each_among IsLineWithin ls old among h
body_within (least m old) ls among h = (h.0, each_among IsStepWithin ls old among h.1)

module _ (r shorter : Report) (numbers : shorter ≡ with_body r shorter.body) (is : IsShorter r.body shorter.body) where
  whole : shorter ≡ with_body r (with_lines r.body is.0)
  whole = numbers ∙ ap (with_body r) is.2

  pub no_longer : length (report_text shorter) ≤ length (report_text r)
  no_longer = subst (λ x. length (report_text x) ≤ length (report_text r)) (sym whole) (lines_no_longer r is.0 is.1)

  pub stays_within : IsInGrammar r → IsInGrammar shorter
  stays_within grammar =
      subst IsInGrammar (sym whole)
      (record { processes = grammar.processes; rounds = grammar.rounds; points = grammar.points; executions = grammar.executions; body = body_within r.body is.0 is.1 grammar.body })
