-- Worked examples, by computation.
use Rattle.std.specs.Prelude.{◌≡◌, ◌+◌, ◌*◌, ◌%◌, ℕ, Bool, true, false, List, [], ◌∷◌, ◌++◌, drop, flat_map, map, take, refl}
use Rattle.std.specs.List.{list_all}
use Rattle.wf_model.specs.Task.{Task, Tuple}
use Rattle.wf_model.specs.ExampleTasks.{consensus, renaming_2_2}
use Rattle.wf_tree_model.specs.Counting.Rules.{rule_at}
use Rattle.wf_tree_model.specs.KnownResults.{symmetry_breaking}
use Rattle.wf_tree_model.specs.Alike.{are_alike}
use Rattle.wf_tree_model.specs.Balance.{Multiplier, counts_nothing, weight_of_vertices, weight_with, weight_without}
use Rattle.wf_tree_model.specs.Cases.{components, in_case}
use Rattle.wf_tree_model.specs.Covers.{Covering, covered, is_flat, lifts}
use Rattle.wf_tree_model.specs.KnownResults.{changed, each_with, hourglass, hourglass_by_cases, loop_agreement, one_decides_0, punctured_torus, three_bits, torus_moves}
use Rattle.wf_tree_model.specs.Parts.{parts}
use Rattle.wf_tree_model.specs.Splits.{Splitting, by_stars, choices, hang_together, names_of, split, stars}
use Rattle.wf_tree_model.specs.Trees.{Move, Node, balance_node, by_sheets, case_node, cover_node, move_by, new_name, nodes_of, split_node}
use Rattle.wf_tree_model.specs.Tuples.{are_adjacent, choices_of, is_part, mask_of}

abbrev tuples_of : Task → List (List Tuple)
tuples_of t = map (λ rule. rule.tuples) t.delta

-- whether each allowed tuple of the simplices of I counts nothing, in order
abbrev settled : Task → ℕ → List Multiplier → List Bool
settled t modulus xs = map (λ rule. list_all (counts_nothing t modulus xs rule.input) rule.tuples) t.delta

-- ---- consensus of two, by three equations

-- The process with input 0 decides 0 alone: this counts 1 in its own equation, and is taken away
-- once where the other takes part.
pub zero_alone : weight_with consensus (one_decides_0 2) ((0, 0) ∷ []) (0 ∷ [])
    ∷ weight_without consensus (one_decides_0 2) ((0, 0) ∷ []) (0 ∷ []) ∷ [] ≡ 1 ∷ 1 ∷ []
zero_alone = refl

-- both decide 0: counts twice, once for each
pub zero_together : weight_with consensus (one_decides_0 2) ((0, 0) ∷ (1, 1) ∷ []) (0 ∷ 0 ∷ [])
    ∷ weight_without consensus (one_decides_0 2) ((0, 0) ∷ (1, 1) ∷ []) (0 ∷ 0 ∷ []) ∷ [] ≡ 2 ∷ 0 ∷ []
zero_together = refl

pub consensus_settled : settled consensus 2 (one_decides_0 2) ≡ true ∷ true ∷ true ∷ []
consensus_settled = refl

pub consensus_sum : weight_of_vertices consensus (one_decides_0 2) ≡ 1
consensus_sum = refl

-- modulo 3 both counts of the edge are left
pub consensus_by_three : settled consensus 3 (one_decides_0 2) ≡ true ∷ true ∷ false ∷ []
consensus_by_three = refl

-- ---- weak symmetry breaking of three, modulo 3

-- in a symmetric task vertices and edges are alike
pub alike_edges : are_alike (symmetry_breaking 3) ((0, 0) ∷ (1, 0) ∷ []) ((1, 0) ∷ (2, 0) ∷ [])
    ∷ are_alike consensus ((0, 0) ∷ []) ((1, 0) ∷ []) ∷ [] ≡ true ∷ false ∷ []
alike_edges = refl

pub breaking_settled : settled (symmetry_breaking 3) 3 three_bits ≡ true ∷ true ∷ true ∷ true ∷ true ∷ true ∷ true ∷ []
breaking_settled = refl

pub breaking_sum : weight_of_vertices (symmetry_breaking 3) three_bits % 3 ≡ 1
breaking_sum = refl

-- with one wrong weight, 1 in place of 2, tuples of edges and of the triangle are left
abbrev with_a_wrong_weight : List Multiplier
with_a_wrong_weight = each_with 0 0 1 ([] ∷ [])
    ++ each_with 3 0 1 ((1 ∷ []) ∷ [])
    ++ each_with 3 1 1 ((0 ∷ []) ∷ [])
    ++ each_with 6 0 1 ((1 ∷ 1 ∷ []) ∷ [])
    ++ each_with 6 1 1 ((0 ∷ 1 ∷ []) ∷ [])
    ++ each_with 6 2 1 ((0 ∷ 0 ∷ []) ∷ [])

pub breaking_with_a_wrong_weight : settled (symmetry_breaking 3) 3 with_a_wrong_weight
    ≡ true ∷ true ∷ true ∷ false ∷ false ∷ false ∷ false ∷ []
breaking_with_a_wrong_weight = refl

-- ---- two names for two processes

pub naming_settled : settled renaming_2_2 2 (each_with 0 0 1 ([] ∷ []) ++ each_with 2 0 1 ((1 ∷ []) ∷ []) ++ each_with 2 1 1 ((0 ∷ []) ∷ [])) ≡ true ∷ true ∷ true ∷ []
naming_settled = refl

-- ---- parts

-- a triangle that joins two others makes one part of all three, and a fourth stays alone
pub joined_by_the_first : parts (are_adjacent 3) ((0 ∷ 0 ∷ 0 ∷ []) ∷ (0 ∷ 0 ∷ 1 ∷ []) ∷ (0 ∷ 1 ∷ 2 ∷ []) ∷ (1 ∷ 0 ∷ 0 ∷ []) ∷ [])
    ≡ ((0 ∷ 0 ∷ 0 ∷ []) ∷ (0 ∷ 0 ∷ 1 ∷ []) ∷ (1 ∷ 0 ∷ 0 ∷ []) ∷ []) ∷ ((0 ∷ 1 ∷ 2 ∷ []) ∷ []) ∷ []
joined_by_the_first = refl

-- The hourglass: the two triangles on the edge differ at process 0 alone, and the third touches
-- them in a vertex.
pub triangles_of_the_hourglass : components (rule_at (hourglass 1) 6)
    ≡ ((0 ∷ 2 ∷ 2 ∷ []) ∷ (1 ∷ 2 ∷ 2 ∷ []) ∷ []) ∷ ((1 ∷ 1 ∷ 1 ∷ []) ∷ []) ∷ []
triangles_of_the_hourglass = refl

-- ---- cases

-- alone a process decides one value
pub each_name_alone : components (rule_at renaming_2_2 0) ≡ ((0 ∷ []) ∷ []) ∷ ((1 ∷ []) ∷ []) ∷ []
each_name_alone = refl

-- in a symmetric task the two vertices are one point, so the case is one of both
pub renaming_with_name_1 : tuples_of (in_case (rule_at renaming_2_2 0) ((1 ∷ []) ∷ []) renaming_2_2)
    ≡ ((1 ∷ []) ∷ []) ∷ ((1 ∷ []) ∷ []) ∷ ((0 ∷ 1 ∷ []) ∷ (1 ∷ 0 ∷ []) ∷ []) ∷ []
renaming_with_name_1 = refl

-- the third triangle alone
pub one_triangle : drop 5 (tuples_of (in_case (rule_at (hourglass 1) 6) ((1 ∷ 1 ∷ 1 ∷ []) ∷ []) (hourglass 1)))
    ≡ ((1 ∷ 1 ∷ []) ∷ []) ∷ ((1 ∷ 1 ∷ 1 ∷ []) ∷ []) ∷ []
one_triangle = refl

-- ---- splits

-- where process 0 decides 1 the triangles fall apart, but at the other end of the edge they hang
-- together
pub stars_of_the_hourglass : map (stars (rule_at (hourglass 1) 6)) (0 ∷ 1 ∷ [])
    ≡ (((0 ∷ 2 ∷ 2 ∷ []) ∷ []) ∷ ((1 ∷ 1 ∷ 1 ∷ []) ∷ []) ∷ ((1 ∷ 2 ∷ 2 ∷ []) ∷ []) ∷ [])
    ∷ (((0 ∷ 2 ∷ 2 ∷ []) ∷ (1 ∷ 2 ∷ 2 ∷ []) ∷ []) ∷ ((1 ∷ 1 ∷ 1 ∷ []) ∷ []) ∷ []) ∷ []
stars_of_the_hourglass = refl

-- tuples that agree at the place and differ at two others don't hang together
pub apart_at_two : map (hang_together 3 0 (1 ∷ 1 ∷ 1 ∷ [])) ((1 ∷ 2 ∷ 2 ∷ []) ∷ (1 ∷ 1 ∷ 2 ∷ []) ∷ (0 ∷ 1 ∷ 1 ∷ []) ∷ [])
    ≡ false ∷ true ∷ false ∷ []
apart_at_two = refl

-- the first part with a value keeps it
pub names_of_parts : names_of 0 5 [] (((1 ∷ []) ∷ []) ∷ ((0 ∷ []) ∷ []) ∷ ((1 ∷ []) ∷ []) ∷ ((1 ∷ []) ∷ []) ∷ []) ≡ 1 ∷ 0 ∷ 5 ∷ 6 ∷ []
names_of_parts = refl

abbrev halves : Splitting
halves = by_stars (rule_at (hourglass 1) 6) (new_name (hourglass 1))

-- so process 0 decides 0 or the new name 3 with 2, and 1 with 1
pub hourglass_in_halves : tuples_of (split halves (hourglass 1))
    ≡ ((0 ∷ []) ∷ []) ∷ ((1 ∷ []) ∷ []) ∷ ((1 ∷ []) ∷ [])
    ∷ ((0 ∷ 2 ∷ []) ∷ (1 ∷ 1 ∷ []) ∷ (3 ∷ 2 ∷ []) ∷ []) ∷ ((0 ∷ 2 ∷ []) ∷ (1 ∷ 1 ∷ []) ∷ (3 ∷ 2 ∷ []) ∷ []) ∷ ((1 ∷ 1 ∷ []) ∷ [])
    ∷ ((0 ∷ 2 ∷ 2 ∷ []) ∷ (1 ∷ 1 ∷ 1 ∷ []) ∷ (3 ∷ 2 ∷ 2 ∷ []) ∷ []) ∷ []
hourglass_in_halves = refl

-- on a simplex that is no face any name may stand for the value
pub any_name : choices_of (choices halves) (0 ∷ 1 ∷ []) (1 ∷ 1 ∷ []) ≡ (1 ∷ 1 ∷ []) ∷ (3 ∷ 1 ∷ []) ∷ []
any_name = refl

-- processes 0 and 2 are a face of three; with another input they are none
pub outer_two : mask_of ((0, 5) ∷ (2, 7) ∷ []) ((0, 5) ∷ (1, 6) ∷ (2, 7) ∷ []) ≡ true ∷ false ∷ true ∷ []
outer_two = refl

pub faces_by_input : map (λ face. is_part face ((0, 5) ∷ (1, 6) ∷ (2, 7) ∷ [])) (((0, 5) ∷ (2, 7) ∷ []) ∷ ((0, 5) ∷ (2, 6) ∷ []) ∷ [])
    ≡ true ∷ false ∷ []
faces_by_input = refl

-- ---- covers

-- two processes in a square of the values 0 and 1, on two sheets that change between 1 and 1
abbrev square : List Move → Covering
square moves = record {
  rule = record { input = (0, 0) ∷ (1, 0) ∷ []; tuples = (0 ∷ 0 ∷ []) ∷ (0 ∷ 1 ∷ []) ∷ (1 ∷ 0 ∷ []) ∷ (1 ∷ 1 ∷ []) ∷ [] };
  corner = 0;
  sheets = 2;
  move = move_by moves;
  name = λ value sheet. value + sheet * 2;
}

-- the values 2 and 3 are 0 and 1 on the other sheet
pub square_becomes_octagon : flat_map (lifts (square (changed 0 1 1 1 ∷ []))) (square []).rule.tuples
    ≡ (0 ∷ 0 ∷ []) ∷ (2 ∷ 2 ∷ []) ∷ (0 ∷ 1 ∷ []) ∷ (2 ∷ 3 ∷ []) ∷ (1 ∷ 0 ∷ []) ∷ (3 ∷ 2 ∷ []) ∷ (1 ∷ 3 ∷ []) ∷ (3 ∷ 1 ∷ []) ∷ []
square_becomes_octagon = refl

-- going back leads each sheet to itself, unless both go to one
pub flat_moves : map (λ sheets. is_flat (square (record { first = 0; value = 1; second = 1; other = 1; sheets = sheets } ∷ []))) ((1 ∷ 0 ∷ []) ∷ (0 ∷ 1 ∷ []) ∷ (1 ∷ 1 ∷ []) ∷ []) ≡ true ∷ true ∷ false ∷ []
flat_moves = refl

-- three sheets in a circle: forth from the first to the second, and back to the third
pub forth_and_back : move_by (record { first = 0; value = 5; second = 1; other = 6; sheets = 1 ∷ 2 ∷ 0 ∷ [] } ∷ []) 0 5 1 6 0
    ∷ move_by (record { first = 0; value = 5; second = 1; other = 6; sheets = 1 ∷ 2 ∷ 0 ∷ [] } ∷ []) 1 6 0 5 0 ∷ [] ≡ 1 ∷ 2 ∷ []
forth_and_back = refl

-- the torus turns sheets round a triangle as a whole
abbrev torus_cover : List Move → Covering
torus_cover moves = by_sheets (loop_agreement punctured_torus) (rule_at (loop_agreement punctured_torus) 6) 2 0 moves

pub flat_round_triangles : map (λ moves. is_flat (torus_cover moves)) (torus_moves ∷ drop 1 torus_moves ∷ []) ≡ true ∷ false ∷ []
flat_round_triangles = refl

-- alone process 0 is on sheet 0, and each other process on any; with process 1 both are on one
pub torus_on_sheets : take 4 (tuples_of (covered (torus_cover torus_moves) (loop_agreement punctured_torus)))
    ≡ ((0 ∷ []) ∷ []) ∷ ((1 ∷ []) ∷ (4 ∷ []) ∷ []) ∷ ((1 ∷ []) ∷ (4 ∷ []) ∷ []) ∷ ((0 ∷ 1 ∷ []) ∷ (3 ∷ 4 ∷ []) ∷ []) ∷ []
torus_on_sheets = refl

-- ---- trees

-- the first simplex that a node names
abbrev first_simplex : Node → ℕ
first_simplex (balance_node modulus sum []) = 0
first_simplex (balance_node modulus sum (x ∷ xs)) = x.simplex
first_simplex (case_node simplex) = simplex
first_simplex (split_node simplex) = simplex
first_simplex (cover_node simplex sheets corner moves) = simplex

pub nodes_of_the_hourglass : map first_simplex (nodes_of hourglass_by_cases) ≡ 6 ∷ 2 ∷ 0 ∷ []
nodes_of_the_hourglass = refl
