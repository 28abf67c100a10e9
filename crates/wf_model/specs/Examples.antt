-- Worked examples, by computation.
use Rattle.std.specs.Prelude.{◌≡◌, ℕ, true, false, List, [], ◌∷◌, map, length, Option, Some, None, refl}
use Rattle.wf_model.specs.Simplex.{is_face, complex_of}
use Rattle.wf_model.specs.Word.{words}
use Rattle.wf_model.specs.Task.{Task}
use Rattle.wf_model.specs.Execution.{executions}
use Rattle.wf_model.specs.Points.{points}
use Rattle.wf_model.specs.ExampleTasks.{path, consensus, renaming_2_2, renaming_2_3, alone}
use Rattle.wf_model.specs.Problem.{Problem, problem_of}
use Rattle.wf_model.specs.Box.{root}
use Rattle.wf_model.specs.Refutation.{Line, remove, empty, branch, found}
use Rattle.wf_model.specs.Closing.{closing, canonical}
use Rattle.wf_model.specs.Split.{split}
use Rattle.wf_model.specs.AllSolutions.{all_solutions}

-- the faces of a triangle: by size, and then as lists
pub faces_of_a_triangle : complex_of (((0, 0) ∷ (1, 1) ∷ (2, 2) ∷ []) ∷ []) ≡ ((0, 0) ∷ []) ∷ ((1, 1) ∷ []) ∷ ((2, 2) ∷ [])
    ∷ ((0, 0) ∷ (1, 1) ∷ []) ∷ ((0, 0) ∷ (2, 2) ∷ []) ∷ ((1, 1) ∷ (2, 2) ∷ []) ∷ ((0, 0) ∷ (1, 1) ∷ (2, 2) ∷ []) ∷ []
faces_of_a_triangle = refl

pub vertices_by_process : complex_of (((1, 0) ∷ []) ∷ ((0, 1) ∷ []) ∷ ((0, 0) ∷ []) ∷ [])
    ≡ ((0, 0) ∷ []) ∷ ((0, 1) ∷ []) ∷ ((1, 0) ∷ []) ∷ []
vertices_by_process = refl

-- an edge, itself, nothing, and an edge with another value
pub faces_of_an_edge : map (λ t. is_face t ((0, 0) ∷ (2, 5) ∷ [])) (((2, 5) ∷ []) ∷ ((0, 0) ∷ (2, 5) ∷ []) ∷ []
    ∷ ((0, 0) ∷ (2, 4) ∷ []) ∷ []) ≡ true ∷ true ∷ false ∷ false ∷ []
faces_of_an_edge = refl

pub words_of_three : words 1 3 ≡ (0 ∷ 0 ∷ 0 ∷ []) ∷ (0 ∷ 0 ∷ 1 ∷ []) ∷ (0 ∷ 1 ∷ 0 ∷ []) ∷ (0 ∷ 1 ∷ 1 ∷ []) ∷ (0 ∷ 1 ∷ 2 ∷ [])
    ∷ (0 ∷ 2 ∷ 1 ∷ []) ∷ (1 ∷ 0 ∷ 0 ∷ []) ∷ (1 ∷ 0 ∷ 1 ∷ []) ∷ (1 ∷ 0 ∷ 2 ∷ []) ∷ (1 ∷ 1 ∷ 0 ∷ []) ∷ (1 ∷ 2 ∷ 0 ∷ [])
    ∷ (2 ∷ 0 ∷ 1 ∷ []) ∷ (2 ∷ 1 ∷ 0 ∷ []) ∷ []
words_of_three = refl

-- 1, 3, 13 and 75 words of one to four participants
pub numbers_of_words : map (λ n. length (words 1 n)) (1 ∷ 2 ∷ 3 ∷ 4 ∷ []) ≡ 1 ∷ 3 ∷ 13 ∷ 75 ∷ []
numbers_of_words = refl

abbrev sizes : Task → ℕ → ℕ × ℕ
sizes t r = (length (points t r), length (executions t r))

pub path_3_sizes : sizes (path 3) 1 ≡ (4, 5)
path_3_sizes = refl

pub path_3_sizes_without_rounds : sizes (path 3) 0 ≡ (2, 3)
path_3_sizes_without_rounds = refl

pub renaming_sizes : sizes renaming_2_2 1 ≡ (3, 5)
renaming_sizes = refl

pub renaming_sizes_without_rounds : sizes renaming_2_3 0 ≡ (1, 3)
renaming_sizes_without_rounds = refl

pub alone_sizes_after_eight_rounds : sizes (alone ((5 ∷ []) ∷ []) (((0, 5) ∷ []) ∷ [])) 8 ≡ (1, 1)
alone_sizes_after_eight_rounds = refl

abbrev answer : Task → ℕ → List Line × Option (List ℕ)
answer t r = let p = problem_of t r in ((canonical p (root p)).lines, (canonical p (root p)).map)

pub path_3_map : (answer (path 3) 1).1 ≡ Some (0 ∷ 3 ∷ 2 ∷ 1 ∷ [])
path_3_map = refl

pub path_3_refuted_without_rounds : answer (path 3) 0
    ≡ (remove 0 0 1 ∷ remove 0 0 2 ∷ remove 0 0 3 ∷ remove 1 1 0 ∷ remove 1 1 1 ∷ remove 1 1 2 ∷ remove 2 0 0 ∷ empty 0 ∷ [], None)
path_3_refuted_without_rounds = refl

pub path_2_map : (answer (path 2) 1).1 ≡ Some (0 ∷ 2 ∷ 1 ∷ 0 ∷ [])
path_2_map = refl

pub consensus_refuted_without_rounds : answer consensus 0 ≡ (remove 0 0 1 ∷ remove 1 1 0 ∷ remove 2 0 0 ∷ empty 0 ∷ [], None)
consensus_refuted_without_rounds = refl

pub consensus_refuted : answer consensus 1 ≡ (remove 0 0 1 ∷ remove 1 1 0 ∷ remove 3 1 1 ∷ remove 4 0 0 ∷ remove 2 0 1 ∷ empty 2 ∷ [], None)
consensus_refuted = refl

pub renaming_with_two_names_refuted : answer renaming_2_2 1
    ≡ (branch 0 ∷ remove 3 1 0 ∷ remove 4 0 0 ∷ remove 2 0 1 ∷ empty 1 ∷ remove 3 1 1 ∷ remove 4 0 1 ∷ remove 2 0 0 ∷ empty 1 ∷ [], None)
renaming_with_two_names_refuted = refl

pub renaming_with_three_names_refuted_without_rounds : answer renaming_2_3 0
    ≡ (branch 0 ∷ remove 2 0 0 ∷ empty 0 ∷ remove 2 0 1 ∷ empty 0 ∷ remove 2 0 2 ∷ empty 0 ∷ [], None)
renaming_with_three_names_refuted_without_rounds = refl

pub path_2_has_three_branches : length (split (problem_of (path 2) 1)) ≡ 3
path_2_has_three_branches = refl

pub path_2_search : answer (path 2) 1 ≡ (
  remove 0 0 1 ∷ remove 0 0 2 ∷ remove 1 1 0 ∷ remove 1 1 1 ∷ remove 3 1 2
      ∷ remove 4 0 0 ∷ branch 2 ∷ branch 3 ∷ found ∷ [],
  Some (0 ∷ 2 ∷ 1 ∷ 0 ∷ []),
)
path_2_search = refl

-- one point at both places of an execution: the value that both lose has one line
abbrev one_point_twice : Problem
one_point_twice =
    record {
      points = 1;
      values = 0 ∷ 1 ∷ 2 ∷ [];
      constraints = record { scope = (0, 0) ∷ (1, 0) ∷ []; tuples = (0 ∷ 0 ∷ []) ∷ (1 ∷ 1 ∷ []) ∷ [] } ∷ [];
    }

pub a_candidate_has_one_line : (closing one_point_twice (root one_point_twice)).lines ≡ remove 0 0 2 ∷ []
a_candidate_has_one_line = refl

pub a_point_is_empty_at_the_start : (closing (problem_of consensus 0) ((0 ∷ []) ∷ [] ∷ [])).lines ≡ empty 1 ∷ []
a_point_is_empty_at_the_start = refl

abbrev consensus_of_blocks : Task
consensus_of_blocks = record consensus { least_block = Some 2 }

pub sizes_by_blocks : sizes consensus_of_blocks 1 ≡ (4, 3)
sizes_by_blocks = refl

pub consensus_of_blocks_map : (answer consensus_of_blocks 1).1 ≡ Some (0 ∷ 1 ∷ 0 ∷ 0 ∷ [])
consensus_of_blocks_map = refl

-- words whose first block has two participants at least
pub words_by_blocks : map (λ n. length (words 2 n)) (1 ∷ 2 ∷ 3 ∷ 4 ∷ []) ≡ 1 ∷ 1 ∷ 4 ∷ 23 ∷ []
words_by_blocks = refl

-- by trying each list of values
pub path_3_has_one_solution : all_solutions (problem_of (path 3) 1) ≡ (0 ∷ 3 ∷ 2 ∷ 1 ∷ []) ∷ []
path_3_has_one_solution = refl

pub path_2_has_three_solutions : all_solutions (problem_of (path 2) 1)
    ≡ (0 ∷ 2 ∷ 1 ∷ 0 ∷ []) ∷ (0 ∷ 2 ∷ 1 ∷ 1 ∷ []) ∷ (0 ∷ 2 ∷ 2 ∷ 1 ∷ []) ∷ []
path_2_has_three_solutions = refl

pub consensus_has_no_solution : all_solutions (problem_of consensus 1) ≡ []
consensus_has_no_solution = refl

pub renaming_has_no_solution_without_rounds : all_solutions (problem_of renaming_2_3 0) ≡ []
renaming_has_no_solution_without_rounds = refl
