-- Larger worked examples, by computation.
use Rattle.std.specs.Prelude.{◌≡◌, ℕ, ◌+◌, List, [], ◌∷◌, map, length, Option, Some, None, refl}
use Rattle.wf_model.specs.Lists.{below}
use Rattle.wf_model.specs.Task.{Task}
use Rattle.wf_model.specs.Execution.{executions}
use Rattle.wf_model.specs.Points.{points}
use Rattle.wf_model.specs.Presets.{set_agreement, renaming, own, all}
use Rattle.wf_model.specs.Problem.{Problem, problem_of}
use Rattle.wf_model.specs.Box.{root}
use Rattle.wf_model.specs.Closing.{canonical}
use Rattle.wf_model.specs.Split.{split}

abbrev sizes : Task → ℕ → ℕ × ℕ
sizes t r = (length (points t r), length (executions t r))

abbrev map_of : Task → ℕ → Option (List ℕ)
map_of t r = let p = problem_of t r in (canonical p (root p)).map

pub renaming_3_sizes : sizes (renaming 3 6) 1 ≡ (6, 25)
renaming_3_sizes = refl

pub renaming_3_with_six_names : map_of (renaming 3 6) 1 ≡ Some (0 ∷ 1 ∷ 2 ∷ 3 ∷ 4 ∷ 5 ∷ [])
renaming_3_with_six_names = refl

pub agreement_3_sizes : sizes (set_agreement 3 2 own) 1 ≡ (12, 25)
agreement_3_sizes = refl

pub agreement_3_on_three_values : map_of (set_agreement 3 3 own) 0 ≡ Some (0 ∷ 1 ∷ 2 ∷ [])
agreement_3_on_three_values = refl

pub consensus_sizes_after_two_rounds : sizes (set_agreement 2 1 (all 2)) 2 ≡ (36, 40)
consensus_sizes_after_two_rounds = refl

pub agreement_3_sizes_after_two_rounds : sizes (set_agreement 3 2 own) 2 ≡ (99, 199)
agreement_3_sizes_after_two_rounds = refl

pub consensus_refuted_after_two_rounds : map_of (set_agreement 2 1 (all 2)) 2 ≡ None
consensus_refuted_after_two_rounds = refl

pub agreement_4_points : length (points (set_agreement 4 3 own) 1) ≡ 32
agreement_4_points = refl

-- ---- where the cutting into branches stops

-- at two points: the first may have any of n values, the second 0 or 1
abbrev free_and_bit : ℕ → Problem
free_and_bit n =
    record { points = 2; values = below n; constraints = record { scope = (0, 1) ∷ []; tuples = (0 ∷ []) ∷ (1 ∷ []) ∷ [] } ∷ [] }

pub sixty_three_boxes_are_cut_on : length (split (free_and_bit 63)) ≡ 126
sixty_three_boxes_are_cut_on = refl

pub sixty_four_boxes_are_enough : length (split (free_and_bit 64)) ≡ 64
sixty_four_boxes_are_enough = refl

-- each of n points has 0 or 1, and no later one has more: a level decides one
-- box, and leaves one open
abbrev falling : ℕ → Problem
falling n =
    record {
      points = n + 1;
      values = 0 ∷ 1 ∷ [];
      constraints = map (λ v. record {
        scope = (0, v) ∷ (1, v + 1) ∷ [];
        tuples = (0 ∷ 0 ∷ []) ∷ (1 ∷ 0 ∷ [])
            ∷ (1 ∷ 1 ∷ []) ∷ [];
      }) (below n);
    }

pub eight_levels_are_made : length (split (falling 9)) ≡ 9
eight_levels_are_made = refl
