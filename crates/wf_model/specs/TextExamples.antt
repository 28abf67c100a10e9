-- Worked reports, by computation.
use Rattle.std.specs.Prelude.{◌≡◌, ℕ, ◌++◌, false, List, [], ◌∷◌, map, Option, Some, None, Ok, Err, codes, refl}
use Rattle.std.specs.Fmt.{digits}
use Rattle.wf_model.specs.ExampleTasks.{path, consensus, renaming_2_2, alone}
use Rattle.wf_model.specs.Problem.{problem_of}
use Rattle.wf_model.specs.Box.{root}
use Rattle.wf_model.specs.Refutation.{Line, remove, empty, branch, found}
use Rattle.wf_model.specs.Closing.{canonical}
use Rattle.wf_model.specs.Report.{Report, Reading, Body, a_map, none, least, report_text, report_of}
use Rattle.wf_model.specs.ViewsText.{views_text}
use Rattle.wf_model.specs.PointsText.{points_text, view_text}
use Rattle.wf_model.specs.View.{base, seen, views_of}
use Rattle.wf_model.specs.Check.{first_fault, first_least_fault, map_fault, report_fault, Refusal, wrong_header, wrong_length, unfinished, trailing, unsound, not_empty, not_open, no_such, violates, not_first, not_the_map}

abbrev path_3_report : Report
path_3_report = record { processes = 2; rounds = 1; points = 4; executions = 5; body = a_map (0 ∷ 3 ∷ 2 ∷ 1 ∷ []) }

pub path_3_text : report_text path_3_report
    ≡ codes "wfcheck report 1\nprocesses 2\nrounds 1\npoints 4\nexecutions 5\nanswer map\nm 0\nm 3\nm 2\nm 1\nend\n"
unfolding digits
path_3_text = refl

pub path_3_reads : report_of (codes "wfcheck report 1\nprocesses 2\nrounds 1\npoints 4\nexecutions 5\nanswer map\nm 0\nm 3\nm 2\nm 1\nend\n") ≡ Ok path_3_report
path_3_reads = refl

-- the least map of path 2, with the lines of the search up to it
abbrev path_2_least_report : Report
path_2_least_report =
    record {
      processes = 2;
      rounds = 1;
      points = 4;
      executions = 5;
      body = least (0 ∷ 2 ∷ 1 ∷ 0 ∷ []) (remove 0 0 1 ∷ remove 0 0 2 ∷ remove 1 1 0 ∷ remove 1 1 1 ∷ remove 3 1 2 ∷ remove 4 0 0
          ∷ branch 2 ∷ branch 3 ∷ found ∷ []);
    }

pub path_2_least_text : report_text path_2_least_report
    ≡ codes "wfcheck report 1\nprocesses 2\nrounds 1\npoints 4\nexecutions 5\nanswer least\nm 0\nm 2\nm 1\nm 0\np 0 0 1\np 0 0 2\np 1 1 0\np 1 1 1\np 3 1 2\np 4 0 0\nb 2\nb 3\nf\nend\n"
unfolding digits
path_2_least_text = refl

pub path_2_least_holds : report_fault (path 2) 1 path_2_least_report ≡ None
path_2_least_holds = refl

pub leading_zero : report_of (codes "wfcheck report 1\nprocesses 2\nrounds 1\npoints 4\nexecutions 5\nanswer none\np 03 1 0\nend\n") ≡ Err 7
leading_zero = refl

pub no_end : report_of (codes "wfcheck report 1\nprocesses 2\n") ≡ Err 3
no_end = refl

pub after_end : report_of (codes "wfcheck report 1\nprocesses 2\nrounds 1\npoints 4\nexecutions 5\nanswer map\nm 0\nend\nend\n") ≡ Err 9
after_end = refl

pub no_feed : report_of (codes "wfcheck report 1\nprocesses 2\nrounds 1\npoints 4\nexecutions 5\nanswer map\nm 0\nend") ≡ Err 8
no_feed = refl

pub no_text : report_of [] ≡ Err 1
no_text = refl

pub too_large_a_number : report_of (codes "wfcheck report 1\nprocesses 2\nrounds 1\npoints 4294967296\n") ≡ Err 4
too_large_a_number = refl

pub a_carriage_return : report_of (codes "wfcheck report 1\nprocesses 2\nrounds 1\npoints 4\r\n") ≡ Err 4
a_carriage_return = refl

-- what a text reads as that goes on so after line 5
abbrev reads : List ℕ → Reading Report
reads rest = report_of (codes "wfcheck report 1\nprocesses 2\nrounds 1\npoints 4\nexecutions 5\n" ++ rest)

abbrev report_with : Body → Report
report_with body = record { processes = 2; rounds = 1; points = 4; executions = 5; body = body }

pub two_spaces : reads (codes "answer none\nz  0\nend\n") ≡ Err 7
two_spaces = refl

pub a_value_above_63 : reads (codes "answer map\nm 64\nend\n") ≡ Ok (report_with (a_map (64 ∷ [])))
a_value_above_63 = refl

pub a_value_above_255 : reads (codes "answer map\nm 256\nend\n") ≡ Err 7
a_value_above_255 = refl

pub a_fifth_process : reads (codes "answer none\np 0 4 0\nend\n") ≡ Err 7
a_fifth_process = refl

pub a_value_in_a_refutation : reads (codes "answer none\nz 0\nm 0\nend\n") ≡ Err 8
a_value_in_a_refutation = refl

pub a_step_in_a_map : reads (codes "answer map\nm 0\nz 0\nend\n") ≡ Err 8
a_step_in_a_map = refl

pub a_least_report : reads (codes "answer least\nm 0\nz 0\nf\nend\n") ≡ Ok (report_with (least (0 ∷ []) (empty 0 ∷ found ∷ [])))
a_least_report = refl

pub a_value_after_the_lines : reads (codes "answer least\nm 0\nz 0\nm 0\nend\n") ≡ Err 9
a_value_after_the_lines = refl

pub found_in_a_refutation : reads (codes "answer none\nf\nend\n") ≡ Err 7
found_in_a_refutation = refl

-- ---- reports about path 3 after one round

pub path_3_report_holds : report_fault (path 3) 1 path_3_report ≡ None
path_3_report_holds = refl

-- the first header line that differs
pub other_header : map (report_fault (path 3) 1)
    (record path_3_report { processes = 3; rounds = 2 } ∷ record path_3_report { rounds = 2; points = 5 }
    ∷ record path_3_report { points = 5; executions = 6 } ∷ record path_3_report { executions = 6; body = a_map [] } ∷ [])
    ≡ Some (wrong_header 2) ∷ Some (wrong_header 3) ∷ Some (wrong_header 4) ∷ Some (wrong_header 5) ∷ []
other_header = refl

pub a_value_too_few : report_fault (path 3) 1 (record path_3_report { body = a_map (0 ∷ 2 ∷ 1 ∷ []) }) ≡ Some wrong_length
a_value_too_few = refl

-- the least execution that is violated, 2 and 3 are here
pub the_first_violated : report_fault (path 3) 1 (record path_3_report { body = a_map (0 ∷ 3 ∷ 0 ∷ 2 ∷ []) }) ≡ Some (violates 2)
the_first_violated = refl

pub no_lines : report_fault (path 3) 1 (record path_3_report { body = none [] }) ≡ Some unfinished
no_lines = refl

-- the lines of a refutation begin at line 7, those of a search after its map
pub lines_are_numbered : map (report_fault (path 3) 1)
    (record path_3_report { body = none (empty 0 ∷ []) } ∷ record path_3_report { body = least (0 ∷ 3 ∷ 2 ∷ 1 ∷ []) (empty 0 ∷ []) } ∷ [])
    ≡ Some (not_empty 7) ∷ Some (not_empty 11) ∷ []
lines_are_numbered = refl

pub lines_after_one_value :
    report_fault (alone ((5 ∷ []) ∷ []) (((0, 5) ∷ []) ∷ [])) 1 (record {
      processes = 1;
      rounds = 1;
      points = 1;
      executions = 1;
      body = least (5 ∷ []) (empty 0 ∷ []);
    }) ≡ Some (not_empty 8)
lines_after_one_value = refl

pub no_decision_map_is_least : report_fault (path 3) 1 (record path_3_report {
  body = least (0 ∷ 3 ∷ 2
      ∷ 2 ∷ []) (found ∷ []);
}) ≡ Some (violates 3)
no_decision_map_is_least = refl

abbrev checked : List Line → List Line → Option Refusal
checked before after =
    let p = problem_of renaming_2_2 1 in first_fault p 7 (before ++ ((canonical p (root p)).lines ++ after)) (root p ∷ [])

pub canonical_lines_hold : checked [] [] ≡ None
canonical_lines_hold = refl

pub a_line_too_many : checked [] (empty 0 ∷ []) ≡ Some (trailing 16)
a_line_too_many = refl

pub a_supported_value : checked (remove 2 0 0 ∷ []) [] ≡ Some (unsound 7)
a_supported_value = refl

pub a_point_with_candidates : checked (empty 0 ∷ []) [] ≡ Some (not_empty 7)
a_point_with_candidates = refl

pub a_branch_with_one_candidate : let p = problem_of consensus 0 in first_fault p 7 (remove 0 0 1 ∷ remove 1 1 0
    ∷ branch 0 ∷ []) (root p ∷ []) ≡ Some (not_open 9)
a_branch_with_one_candidate = refl

pub no_such_execution : checked (remove 9 0 0 ∷ []) [] ≡ Some (no_such 7)
no_such_execution = refl

pub a_violated_execution : map_fault (problem_of (path 3) 1) (0 ∷ 3 ∷ 2 ∷ 2 ∷ []) ≡ Some (violates 3)
a_violated_execution = refl

pub unfinished_lines : let p = problem_of renaming_2_2 1 in first_fault p 7 [] (root p ∷ []) ≡ Some unfinished
unfinished_lines = refl

-- the lines of the search of path 2 up to its least map, with other lines from the branches on
abbrev least_checked : List ℕ → List Line → Option Refusal
least_checked m ls =
    let p = problem_of (path 2) 1 in
    first_least_fault p m 11 (remove 0 0 1 ∷ remove 0 0 2 ∷ remove 1 1 0 ∷ remove 1 1 1 ∷ remove 3 1 2 ∷ remove 4 0 0 ∷ ls) (root p ∷ [])

pub least_lines_hold : least_checked (0 ∷ 2 ∷ 1 ∷ 0 ∷ []) (branch 2 ∷ branch 3 ∷ found ∷ []) ≡ None
least_lines_hold = refl

pub branch_at_a_later_point : least_checked (0 ∷ 2 ∷ 1 ∷ 0 ∷ []) (branch 3 ∷ branch 2 ∷ found ∷ []) ≡ Some (not_first 17)
branch_at_a_later_point = refl

-- that a point has one candidate comes before that it is not the first open one
pub branch_with_one_candidate_at_a_later_point : least_checked (0 ∷ 2 ∷ 1 ∷ 0 ∷ []) (branch 2 ∷ branch 2 ∷ found ∷ []) ≡ Some (not_open 18)
branch_with_one_candidate_at_a_later_point = refl

pub found_too_early : least_checked (0 ∷ 2 ∷ 1 ∷ 0 ∷ []) (branch 2 ∷ found ∷ []) ≡ Some (not_the_map 18)
found_too_early = refl

pub another_map : least_checked (0 ∷ 2 ∷ 1 ∷ 1 ∷ []) (branch 2 ∷ branch 3 ∷ found ∷ []) ≡ Some (not_the_map 19)
another_map = refl

pub no_found : least_checked (0 ∷ 2 ∷ 1 ∷ 0 ∷ []) (branch 2 ∷ branch 3 ∷ []) ≡ Some unfinished
no_found = refl

pub after_found : least_checked (0 ∷ 2 ∷ 1 ∷ 0 ∷ []) (branch 2 ∷ branch 3 ∷ found ∷ empty 0 ∷ []) ≡ Some (trailing 20)
after_found = refl

pub renaming_views : views_text renaming_2_2 1
    ≡ codes "wfcheck views 1\nprocesses 2\nrounds 1\nsimplices 3\nviews 4\npoints 3\nexecutions 5\nv 0 0 0\nv 1 2 0\nv 2 2 1\nend\n"
unfolding digits
renaming_views = refl

-- ---- points in words

pub path_3_points : points_text (path 3) 1 (0 ∷ 3 ∷ 2 ∷ 1 ∷ [])
    ≡ codes "0 p0 saw {p0=0} decides 0\n1 p1 saw {p1=0} decides 3\n2 p0 saw {p0=0, p1=0} decides 2\n3 p1 saw {p0=0, p1=0} decides 1\n"
unfolding digits
path_3_points = refl

pub points_by_ranks : points_text renaming_2_2 1 [] ≡ codes "0 #0 saw {#0=0}\n1 #0 saw {#0=0, #1=0}\n2 #1 saw {#0=0, #1=0}\n"
unfolding digits
points_by_ranks = refl

-- a view of two rounds
pub a_view_of_views : view_text false (seen 1 (views_of (seen 0 (views_of (base 0 7 ∷ []))
    ∷ seen 1 (views_of (base 0 7 ∷ base 1 12 ∷ [])) ∷ []))) ≡ codes "p1 saw {p0 saw {p0=7}, p1 saw {p0=7, p1=12}}"
unfolding digits
a_view_of_views = refl
