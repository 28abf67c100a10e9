-- Laws of whole reports: that those in which a checker finds no fault are true, and that it finds
-- none in true ones.
use Rattle.std.specs.Prelude.{◌≡◌, ℕ, List, length, None, Some}
use Rattle.wf_model.specs.View.{View}
use Rattle.wf_model.specs.Task.{Task, IsTask}
use Rattle.wf_model.specs.Execution.{executions}
use Rattle.wf_model.specs.Points.{points}
use Rattle.wf_model.specs.DecisionMap.{IsDecisionMap, IsLeast, HasNoDecisionMap, listed}
use Rattle.wf_model.specs.Problem.{problem_of, map_by_number}
use Rattle.wf_model.specs.Box.{root}
use Rattle.wf_model.specs.Refutation.{Tree, Line, lines, Refutes}
use Rattle.wf_model.specs.LeastTree.{IsLeastTree}
use Rattle.wf_model.specs.Closing.{canonical_answer}
use Rattle.wf_model.specs.Report.{Report, a_map, none, least, report_about}
use Rattle.wf_model.specs.Check.{report_fault}

-- a report without a fault says how many processes the task has
abbrev pub AcceptedReportsCountTheProcesses : Type 0
AcceptedReportsCountTheProcesses = (t : Task) (r : ℕ) (report : Report)
    → report_fault t r report ≡ None → report.processes ≡ t.processes

-- a report without a fault says how many rounds it is about
abbrev pub AcceptedReportsCountTheRounds : Type 0
AcceptedReportsCountTheRounds = (t : Task) (r : ℕ) (report : Report)
    → report_fault t r report ≡ None → report.rounds ≡ r

-- a report without a fault says how many points there are
abbrev pub AcceptedReportsCountThePoints : Type 0
AcceptedReportsCountThePoints = (t : Task) (r : ℕ) (report : Report)
    → report_fault t r report ≡ None → report.points ≡ length (points t r)

-- a report without a fault says how many executions there are
abbrev pub AcceptedReportsCountTheExecutions : Type 0
AcceptedReportsCountTheExecutions = (t : Task) (r : ℕ) (report : Report)
    → report_fault t r report ≡ None → report.executions ≡ length (executions t r)

-- the map of a report without a fault, read by the numbers of the points, is a decision map
abbrev pub AcceptedMapsAreDecisionMaps : Type 0
AcceptedMapsAreDecisionMaps = (t : Task) (r : ℕ) (report : Report) (m : List ℕ)
    → report_fault t r report ≡ None → report.body ≡ a_map m
    → IsDecisionMap t r (map_by_number t r m)

-- the map of a report without a fault is listed over the points
abbrev pub AcceptedMapsAreListed : Type 0
AcceptedMapsAreListed = (t : Task) (r : ℕ) (report : Report) (m : List ℕ)
    → report_fault t r report ≡ None → report.body ≡ a_map m
    → listed t r (map_by_number t r m) ≡ m

-- no function on the views is a decision map, if a report without a fault is lines alone
abbrev pub AcceptedRefutationsLeaveNoMap : Type 0
AcceptedRefutationsLeaveNoMap = (t : Task) (r : ℕ) (report : Report) (ls : List Line)
    → IsTask t → report_fault t r report ≡ None → report.body ≡ none ls
    → HasNoDecisionMap t r

-- the map with lines of a report without a fault is, by the numbers of the points, the least of all
-- decision maps
abbrev pub AcceptedLeastMapsAreTheLeast : Type 0
AcceptedLeastMapsAreTheLeast = (t : Task) (r : ℕ) (report : Report) (m : List ℕ) (ls : List Line)
    → IsTask t → report_fault t r report ≡ None → report.body ≡ least m ls
    → IsLeast t r (map_by_number t r m)

-- the map with lines of a report without a fault is listed over the points
abbrev pub AcceptedLeastMapsAreListed : Type 0
AcceptedLeastMapsAreListed = (t : Task) (r : ℕ) (report : Report) (m : List ℕ) (ls : List Line)
    → report_fault t r report ≡ None → report.body ≡ least m ls
    → listed t r (map_by_number t r m) ≡ m

-- a checker finds no fault in a report of any decision map, listed over the points
abbrev pub DecisionMapsAreAccepted : Type 0
DecisionMapsAreAccepted = (t : Task) (r : ℕ) (m : View → ℕ)
    → IsDecisionMap t r m → report_fault t r (report_about t r (a_map (listed t r m))) ≡ None

-- a checker finds no fault in a report of the lines of any refutation of the root
abbrev pub RefutationsAreAccepted : Type 0
RefutationsAreAccepted = (t : Task) (r : ℕ) (refutation : Tree)
    → IsTask t → Refutes (problem_of t r) refutation (root (problem_of t r))
    → report_fault t r (report_about t r (none (lines refutation))) ≡ None

-- a checker finds no fault in a report of a decision map with the lines of any tree that leads to
-- it
abbrev pub LeastTreesAreAccepted : Type 0
LeastTreesAreAccepted = (t : Task) (r : ℕ) (m : View → ℕ) (tree : Tree)
    → IsTask t → IsDecisionMap t r m
    → IsLeastTree (problem_of t r) (listed t r m) tree (root (problem_of t r))
    → report_fault t r (report_about t r (least (listed t r m) (lines tree))) ≡ None

-- a checker finds no fault in a report of the lines of the canonical search, if that finds no map
abbrev pub CanonicalRefutationsAreAccepted : Type 0
CanonicalRefutationsAreAccepted = (t : Task) (r : ℕ)
    → IsTask t → (canonical_answer t r).map ≡ None
    → report_fault t r (report_about t r (none (canonical_answer t r).lines)) ≡ None

-- a checker finds no fault in a report of the map and the lines of a canonical search
abbrev pub CanonicalLeastMapsAreAccepted : Type 0
CanonicalLeastMapsAreAccepted = (t : Task) (r : ℕ) (m : List ℕ)
    → IsTask t → (canonical_answer t r).map ≡ Some m
    → report_fault t r (report_about t r (least m (canonical_answer t r).lines)) ≡ None
