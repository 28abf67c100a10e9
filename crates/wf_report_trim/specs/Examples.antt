-- Worked examples, by computation.
use Rattle.std.specs.Prelude.{◌≡◌, ℕ, [], ◌∷◌, map, refl}
use Rattle.wf_model.specs.Execution.{Execution}
use Rattle.wf_model.specs.View.{View, base, seen, no_views, view, normal}
use Rattle.wf_model.specs.ExampleTasks.{edge, path, renaming_2_3}
use Rattle.wf_model.specs.Points.{execution_points}
use Rattle.wf_model.specs.DecisionMap.{listed}
use Rattle.wf_model.specs.Problem.{map_by_number}
use Rattle.wf_report_trim.specs.Lift.{own_before, point_before, lifted, lifted_by, numbers_before, lifted_list}

pub own_view_of_the_round_before : own_before (seen 1 (view (base 0 5) (view (base 1 6) no_views))) ≡ base 1 6
own_view_of_the_round_before = refl

pub an_input_stays : own_before (base 1 5) ≡ base 1 5
an_input_stays = refl

pub no_own_view : own_before (seen 1 no_views) ≡ base 1 0
no_own_view = refl

-- a class whose own view of the round before is no class: process 1 is process 0 where it is alone
pub ranks_anew : own_before (normal (seen 1 (view (base 0 0) (view (base 1 0) no_views)))) ≡ base 1 0
ranks_anew = refl

pub point_before_has_its_ranks_anew : point_before renaming_2_3 (normal (seen 1 (view (base 0 0) (view (base 1 0) no_views)))) ≡ base 0 0
point_before_has_its_ranks_anew = refl

-- points 0 and 1 alone, 2 and 3 having seen both: processes 0 and 1 again
pub path_before_a_round : numbers_before (path 3) 0 ≡ 0 ∷ 1 ∷ 0 ∷ 1 ∷ []
path_before_a_round = refl

pub renaming_before_a_round : numbers_before renaming_2_3 0 ≡ 0 ∷ 0 ∷ 0 ∷ []
renaming_before_a_round = refl

-- a round more, with numbers that a plain program found
pub path_before_two_rounds : numbers_before (path 3) 1 ≡ 0 ∷ 1 ∷ 2 ∷ 3 ∷ 2 ∷ 3 ∷ 0 ∷ 3 ∷ 2 ∷ 1 ∷ []
path_before_two_rounds = refl

pub renaming_before_two_rounds : numbers_before renaming_2_3 1 ≡ 0 ∷ 1 ∷ 2 ∷ 1 ∷ 2 ∷ 0 ∷ 2 ∷ 1 ∷ 0 ∷ []
renaming_before_two_rounds = refl

-- the map of the path with three edges, a round later
pub path_3_a_round_later : lifted_list (path 3) 1 (0 ∷ 3 ∷ 2 ∷ 1 ∷ []) ≡ 0 ∷ 3 ∷ 2 ∷ 1 ∷ 2 ∷ 1 ∷ 0 ∷ 1 ∷ 2 ∷ 3 ∷ []
path_3_a_round_later = refl

-- without ranks anew a map may fail: process 1 is alone first, and then both see both
abbrev one_alone_first : Execution
one_alone_first = record { rule = record { input = edge 0 0; tuples = [] }; words = (1 ∷ 0 ∷ []) ∷ (0 ∷ 0 ∷ []) ∷ [] }

abbrev three_names : View → ℕ
three_names = map_by_number renaming_2_3 1 (2 ∷ 0 ∷ 1 ∷ [])

pub two_names_with_ranks_anew : map (lifted renaming_2_3 three_names) (execution_points renaming_2_3 one_alone_first) ≡ 0 ∷ 2 ∷ []
two_names_with_ranks_anew = refl

pub one_name_twice_without : map (λ v. three_names (own_before v)) (execution_points renaming_2_3 one_alone_first) ≡ 0 ∷ 0 ∷ []
one_name_twice_without = refl

-- two rounds later each process decides what it decides without a round: 4 is
-- process 0's and 7 process 1's
pub lifted_by_two_rounds : listed (path 3) 2 (lifted_by (path 3) 2 (map_by_number (path 3) 0 (4 ∷ 7 ∷ [])))
    ≡ 4 ∷ 7 ∷ 4 ∷ 7 ∷ 4 ∷ 7 ∷ 4 ∷ 7 ∷ 4 ∷ 7 ∷ []
lifted_by_two_rounds = refl
