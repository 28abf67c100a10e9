-- What is known of the tasks of the field: consensus, set agreement, weak symmetry breaking and
-- renaming with too few names have no decision map, whatever the number of rounds, by one balance
-- each. The hourglass, majority consensus and loops on a punctured torus have none by trees.
use Rattle.std.specs.Prelude.{ℕ, ◌%◌, ◌==◌, ◌&&◌, ◌||◌, nat_le, nat_lt, not, true, false, Bool, List, [], ◌∷◌, ◌++◌, filter, length, map, sum_by, take, zip, None, if◌then◌else◌}
use Rattle.std.specs.List.{count_by, list_all}
use Rattle.std.specs.Ordering.{nat_cmp}
use Rattle.std.specs.Cmp.Lexicographic.{slice_cmp}
use Rattle.wf_model.specs.Lists.{below, has, in_order, lists_of}
use Rattle.wf_model.specs.Simplex.{Simplex, complex_of, processes_of, values_of}
use Rattle.wf_model.specs.Task.{Task, Tuple}
use Rattle.wf_model.specs.DecisionMap.{HasNoDecisionMap}
use Rattle.wf_model.specs.Presets.{different}
use Rattle.wf_tree_model.specs.Counting.Signs.{keep}
use Rattle.wf_tree_model.specs.Counting.Rules.{same_numbers}
use Rattle.wf_tree_model.specs.Balance.{Multiplier}
use Rattle.wf_tree_model.specs.Tuples.{mask_of}
use Rattle.wf_tree_model.specs.Trees.{Move, Tree, balance, by_cases, by_cover, by_split, no_tree, tree_before}

-- no function on the views is a decision map, after any number of rounds
abbrev pub HasNoMap : Task → Type 0
HasNoMap t = (r : ℕ) → HasNoDecisionMap t r

-- ---- weak symmetry breaking (Gafni, Rajsbaum and Herlihy 2006)

-- the lists of so many values 0 and 1, and both values are there if all n processes decide
abbrev pub breakings : ℕ → ℕ → List Tuple
breakings n size = filter (λ tuple. nat_lt size n || nat_le 2 (different tuple)) (lists_of (below 2) size)

-- each process decides 0 or 1, by rank and not by process; if all decide, not all decide the same
abbrev pub symmetry_breaking : ℕ → Task
symmetry_breaking n = record {
  processes = n;
  symmetric = true;
  least_block = None;
  delta = map (λ s. record { input = s; tuples = breakings n (length s) }) (complex_of (map (λ p. (p, 0)) (below n) ∷ []));
  outputs = complex_of (map (zip (below n)) (breakings n n));
}

-- ---- balances

-- the equations of a place of an input simplex with these values of the others, each with this
-- weight
abbrev pub each_with : ℕ → ℕ → ℕ → List Tuple → List Multiplier
each_with simplex place weight values = map (λ y. record { simplex = simplex; place = place; others = y; weight = weight }) values

-- the process with input 0 alone decides 0, and an edge tells its decisions and the other's apart:
-- each decides 0 as often with the other one as alone
abbrev pub one_decides_0 : ℕ → List Multiplier
one_decides_0 edge = each_with 0 0 1 ([] ∷ []) ++ each_with edge 0 1 ((0 ∷ []) ∷ []) ++ each_with edge 1 1 ((0 ∷ []) ∷ [])

-- as in Sperner's lemma: alone 0 is decided, by two 0 and 1, and by three all three values
abbrev pub two_decided : List Multiplier
two_decided = each_with 0 0 1 ([] ∷ [])
    ++ each_with 3 0 1 ((0 ∷ []) ∷ [])
    ++ each_with 3 1 1 ((0 ∷ []) ∷ [])
    ++ each_with 6 0 1 ((0 ∷ 1 ∷ []) ∷ (1 ∷ 0 ∷ []) ∷ [])
    ++ each_with 6 1 1 ((0 ∷ 1 ∷ []) ∷ (1 ∷ 0 ∷ []) ∷ [])
    ++ each_with 6 2 1 ((0 ∷ 1 ∷ []) ∷ (1 ∷ 0 ∷ []) ∷ [])

abbrev pub three_decided : List Multiplier
three_decided = each_with 0 0 1 ([] ∷ [])
    ++ each_with 4 0 1 ((0 ∷ []) ∷ [])
    ++ each_with 4 1 1 ((0 ∷ []) ∷ [])
    ++ each_with 10 0 1 ((0 ∷ 1 ∷ []) ∷ (1 ∷ 0 ∷ []) ∷ [])
    ++ each_with 10 1 1 ((0 ∷ 1 ∷ []) ∷ (1 ∷ 0 ∷ []) ∷ [])
    ++ each_with 10 2 1 ((0 ∷ 1 ∷ []) ∷ (1 ∷ 0 ∷ []) ∷ [])
    ++ each_with 14 0 1 ((0 ∷ 1 ∷ 2 ∷ []) ∷ (0 ∷ 2 ∷ 1 ∷ []) ∷ (1 ∷ 0 ∷ 2 ∷ []) ∷ (1 ∷ 2 ∷ 0 ∷ []) ∷ (2 ∷ 0 ∷ 1 ∷ []) ∷ (2 ∷ 1 ∷ 0 ∷ []) ∷ [])
    ++ each_with 14 1 1 ((0 ∷ 1 ∷ 2 ∷ []) ∷ (0 ∷ 2 ∷ 1 ∷ []) ∷ (1 ∷ 0 ∷ 2 ∷ []) ∷ (1 ∷ 2 ∷ 0 ∷ []) ∷ (2 ∷ 0 ∷ 1 ∷ []) ∷ (2 ∷ 1 ∷ 0 ∷ []) ∷ [])
    ++ each_with 14 2 1 ((0 ∷ 1 ∷ 2 ∷ []) ∷ (0 ∷ 2 ∷ 1 ∷ []) ∷ (1 ∷ 0 ∷ 2 ∷ []) ∷ (1 ∷ 2 ∷ 0 ∷ []) ∷ (2 ∷ 0 ∷ 1 ∷ []) ∷ (2 ∷ 1 ∷ 0 ∷ []) ∷ [])
    ++ each_with 14 3 1 ((0 ∷ 1 ∷ 2 ∷ []) ∷ (0 ∷ 2 ∷ 1 ∷ []) ∷ (1 ∷ 0 ∷ 2 ∷ []) ∷ (1 ∷ 2 ∷ 0 ∷ []) ∷ (2 ∷ 0 ∷ 1 ∷ []) ∷ (2 ∷ 1 ∷ 0 ∷ []) ∷ [])

-- processes known by their ranks break symmetry: those of low ranks decide 0, and the others 1
abbrev pub three_bits : List Multiplier
three_bits = each_with 0 0 1 ([] ∷ [])
    ++ each_with 3 0 1 ((1 ∷ []) ∷ [])
    ++ each_with 3 1 1 ((0 ∷ []) ∷ [])
    ++ each_with 6 0 1 ((1 ∷ 1 ∷ []) ∷ [])
    ++ each_with 6 1 2 ((0 ∷ 1 ∷ []) ∷ [])
    ++ each_with 6 2 1 ((0 ∷ 0 ∷ []) ∷ [])

abbrev pub four_bits : List Multiplier
four_bits = each_with 0 0 1 ([] ∷ [])
    ++ each_with 4 0 1 ((1 ∷ []) ∷ [])
    ++ each_with 4 1 1 ((0 ∷ []) ∷ [])
    ++ each_with 10 0 1 ((1 ∷ 1 ∷ []) ∷ [])
    ++ each_with 10 2 1 ((0 ∷ 0 ∷ []) ∷ [])
    ++ each_with 14 0 1 ((1 ∷ 1 ∷ 1 ∷ []) ∷ [])
    ++ each_with 14 1 1 ((0 ∷ 1 ∷ 1 ∷ []) ∷ [])
    ++ each_with 14 2 1 ((0 ∷ 0 ∷ 1 ∷ []) ∷ [])
    ++ each_with 14 3 1 ((0 ∷ 0 ∷ 0 ∷ []) ∷ [])

-- three take names: those of low ranks 0 or 1, and the others 2 or 3
abbrev pub four_names : List Multiplier
four_names = each_with 0 0 1 ([] ∷ [])
    ++ each_with 3 0 1 ((2 ∷ []) ∷ (3 ∷ []) ∷ [])
    ++ each_with 3 1 1 ((0 ∷ []) ∷ (1 ∷ []) ∷ [])
    ++ each_with 6 0 1 ((2 ∷ 3 ∷ []) ∷ (3 ∷ 2 ∷ []) ∷ [])
    ++ each_with 6 1 2 ((0 ∷ 2 ∷ []) ∷ (0 ∷ 3 ∷ []) ∷ (1 ∷ 2 ∷ []) ∷ (1 ∷ 3 ∷ []) ∷ [])
    ++ each_with 6 2 1 ((0 ∷ 1 ∷ []) ∷ (1 ∷ 0 ∷ []) ∷ [])

-- ---- the hourglass

-- The hourglass (Herlihy, Kozlov and Rajsbaum 2013): two triangles on one edge, and a third one,
-- meet in the vertex where process 0 decides 1. Without process 0 the others decide this value: 1
-- is across that vertex from where process 0 is alone.
abbrev pub hourglass : ℕ → Task
hourglass value = record {
  processes = 3;
  symmetric = false;
  least_block = None;
  delta = record { input = (0, 0) ∷ []; tuples = (0 ∷ []) ∷ [] }
      ∷ record { input = (1, 0) ∷ []; tuples = (value ∷ []) ∷ [] }
      ∷ record { input = (2, 0) ∷ []; tuples = (value ∷ []) ∷ [] }
      ∷ record { input = (0, 0) ∷ (1, 0) ∷ []; tuples = (0 ∷ 2 ∷ []) ∷ (1 ∷ 1 ∷ []) ∷ (1 ∷ 2 ∷ []) ∷ [] }
      ∷ record { input = (0, 0) ∷ (2, 0) ∷ []; tuples = (0 ∷ 2 ∷ []) ∷ (1 ∷ 1 ∷ []) ∷ (1 ∷ 2 ∷ []) ∷ [] }
      ∷ record { input = (1, 0) ∷ (2, 0) ∷ []; tuples = (value ∷ value ∷ []) ∷ [] }
      ∷ record { input = (0, 0) ∷ (1, 0) ∷ (2, 0) ∷ []; tuples = (0 ∷ 2 ∷ 2 ∷ []) ∷ (1 ∷ 1 ∷ 1 ∷ []) ∷ (1 ∷ 2 ∷ 2 ∷ []) ∷ [] } ∷ [];
  outputs = complex_of (((0, 0) ∷ (1, 2) ∷ (2, 2) ∷ []) ∷ ((0, 1) ∷ (1, 1) ∷ (2, 1) ∷ []) ∷ ((0, 1) ∷ (1, 2) ∷ (2, 2) ∷ []) ∷ []);
}

-- Process 0 decides 1 alone in the two triangles on one edge, and a new name 3 stands for this
-- value in the one that the edge's other end has not: the first triangle with 1 keeps it. Then 1 is
-- not joined to what process 0 decides alone.
abbrev pub hourglass_tree : Tree
hourglass_tree = by_split 6 (balance 2 1 (each_with 1 0 1 ([] ∷ []) ++ each_with 3 0 1 ((1 ∷ []) ∷ []) ++ each_with 3 1 1 ((1 ∷ []) ∷ [])))

-- The same by cases: where all decide it is one of the two triangles on an edge, and processes 1
-- and 2 don't decide 1 as without process 0; or it is the third one, and process 0 doesn't decide 0
-- as it does alone.
abbrev pub hourglass_by_cases : Tree
hourglass_by_cases =
    by_cases 6
    (tree_before (balance 2 1 (each_with 2 0 1 ([] ∷ []) ++ each_with 5 0 1 ((1 ∷ []) ∷ []) ++ each_with 6 0 1 ((1 ∷ 1 ∷ []) ∷ [])))
    (tree_before (balance 2 1 (each_with 0 0 1 ([] ∷ []) ++ each_with 4 1 1 ((0 ∷ []) ∷ []) ++ each_with 6 1 1 ((0 ∷ 2 ∷ []) ∷ [])))
    no_tree))

-- ---- majority consensus

-- values of the input, and of three processes not two decide 1
abbrev pub majorities : Simplex → List Tuple
majorities s = filter (λ tuple. list_all (has (values_of s)) tuple && (nat_lt (length s) 3 || not (sum_by (λ x. x) tuple == 2))) (lists_of (below 2) (length s))

abbrev pub with_inputs : Tuple → Simplex
with_inputs xs = zip (below (length xs)) xs

-- Majority consensus: three processes with these inputs decide an input of a participant; all
-- decide the same, or two of them decide 0 and one decides 1.
abbrev pub majority_consensus : Tuple → Task
majority_consensus xs = record {
  processes = 3;
  symmetric = false;
  least_block = None;
  delta = map (λ s. record { input = s; tuples = majorities s }) (complex_of (with_inputs xs ∷ []));
  outputs = complex_of (map with_inputs (filter (λ tuple. not (sum_by (λ x. x) tuple == 2)) (lists_of (below 2) 3)));
}

-- Where all three decide 1 they decide the new name 2. So process 2 decides 0 or 1 with process 0
-- wherever process 0 does, but 2 with process 1.
abbrev pub majority_tree : Tree
majority_tree = by_split 6 (balance 2 1 (each_with 0 0 1 ([] ∷ []) ++ each_with 4 0 1 ((0 ∷ []) ∷ (1 ∷ []) ∷ []) ++ each_with 4 1 1 ((0 ∷ []) ∷ (1 ∷ []) ∷ []) ++ each_with 5 0 1 ((1 ∷ []) ∷ [])))

-- ---- one of three

-- One of processes 0, 1 and 2 decides 0 and the other two 1, whatever process 3 decides; or all
-- three decide 1, and process 3 decides 0. So where process 3 decides 1 the others can't move: each
-- two of these tuples agree at one more place, but differ at two.
abbrev pub one_zero : List Tuple
one_zero = filter (λ tuple. (count_by (λ x. x == 0) (take 3 tuple) == 1) || same_numbers tuple (1 ∷ 1 ∷ 1 ∷ 0 ∷ [])) (lists_of (below 2) 4)

-- alone process 1, 2 or 3 decides 0, and processes 1 and 3 without the others don't both
abbrev pub is_left_out : List ℕ → Tuple → Bool
is_left_out ps tuple =
    ((length ps == 1) && (not (has ps 0) && not (same_numbers tuple (0 ∷ []))))
    || (same_numbers ps (1 ∷ 3 ∷ []) && same_numbers tuple (0 ∷ 0 ∷ []))

abbrev pub everyone : Simplex
everyone = map (λ p. (p, 0)) (below 4)

-- what the processes have of one_zero
abbrev pub of_one_zero : Simplex → List Tuple
of_one_zero s =
    filter (λ tuple. not (is_left_out (processes_of s) tuple)) (in_order (slice_cmp nat_cmp) (map (keep (mask_of s everyone)) one_zero))

abbrev pub one_of_three : Task
one_of_three = record {
  processes = 4;
  symmetric = false;
  least_block = None;
  delta = map (λ s. record { input = s; tuples = of_one_zero s }) (complex_of (everyone ∷ []));
  outputs = complex_of (map with_inputs one_zero);
}

-- process 3 decides the new name 2 with process 1 at 0, which decides 0 alone
abbrev pub one_of_three_tree : Tree
one_of_three_tree =
    by_split 14 (balance 2 1 (each_with 1 0 1 ([] ∷ []) ++ each_with 8 0 1 ((2 ∷ []) ∷ []) ++ each_with 8 1 1 ((0 ∷ []) ∷ [])))

-- ---- a torus without a triangle

-- a torus of 18 triangles: three numbers below 3 whose sum isn't divided by 3
abbrev pub torus : List Tuple
torus = filter (λ tuple. not (sum_by (λ x. x) tuple % 3 == 0)) (lists_of (below 3) 3)

-- what the processes of the simplex decide of 0, 1 and 1
abbrev pub corners_of : Simplex → Tuple
corners_of s = map (λ v. if v.0 == 0 then 0 else 1) s

abbrev pub around : List Tuple → Simplex → List Tuple
around triangles s = if length s == 3 then triangles else corners_of s ∷ []

-- Loop agreement (Herlihy and Rajsbaum 1999), with the boundary of the triangle 0, 1 and 1 as the
-- loop: all three decide one of these triangles, and fewer decide what is theirs of 0, 1 and 1.
abbrev pub loop_agreement : List Tuple → Task
loop_agreement triangles = record {
  processes = 3;
  symmetric = false;
  least_block = None;
  delta = map (λ s. record { input = s; tuples = around triangles s }) (complex_of (((0, 0) ∷ (1, 0) ∷ (2, 0) ∷ []) ∷ []));
  outputs = complex_of (((0, 0) ∷ (1, 1) ∷ []) ∷ ((0, 0) ∷ (2, 1) ∷ []) ∷ ((1, 1) ∷ (2, 1) ∷ []) ∷ map with_inputs triangles);
}

-- Without the triangle the loop isn't filled. But it bounds the rest of the torus.
abbrev pub punctured_torus : List Tuple
punctured_torus = filter (λ tuple. not (same_numbers tuple (0 ∷ 1 ∷ 1 ∷ []))) torus

-- two values between which the sheets are changed
abbrev pub changed : ℕ → ℕ → ℕ → ℕ → Move
changed first value second other = record { first = first; value = value; second = second; other = other; sheets = 1 ∷ 0 ∷ [] }

-- on two sheets the torus has two such loops, and one of them doesn't bound
abbrev pub one_loop : List Multiplier
one_loop = each_with 2 0 1 ([] ∷ [])
    ++ each_with 3 1 1 ((0 ∷ []) ∷ [])
    ++ each_with 4 0 1 ((1 ∷ []) ∷ [])
    ++ each_with 4 1 1 ((0 ∷ []) ∷ [])
    ++ each_with 5 0 1 ((4 ∷ []) ∷ [])
    ++ each_with 6 0 1 ((2 ∷ 0 ∷ []) ∷ (4 ∷ 4 ∷ []) ∷ [])
    ++ each_with 6 1 1 ((0 ∷ 0 ∷ []) ∷ (2 ∷ 4 ∷ []) ∷ [])
    ++ each_with 6 2 1 ((0 ∷ 1 ∷ []) ∷ (2 ∷ 2 ∷ []) ∷ [])

abbrev pub torus_moves : List Move
torus_moves = changed 0 1 1 2 ∷ changed 0 1 2 2 ∷ changed 0 2 1 1 ∷ changed 0 2 2 1 ∷ changed 1 1 2 2 ∷ changed 1 2 2 1 ∷ []

abbrev pub torus_tree : Tree
torus_tree = by_cover 6 2 0 torus_moves (balance 2 1 one_loop)
