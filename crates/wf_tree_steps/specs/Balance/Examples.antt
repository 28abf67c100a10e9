-- Worked examples, by computation: consensus of two, by three equations.
use Rattle.std.specs.Prelude.{◌≡◌, ℕ, [], ◌∷◌, ◌++◌, Option, None, Some, refl}
use Rattle.wf_model.specs.Task.{Tuple}
use Rattle.wf_model.specs.ExampleTasks.{consensus}
use Rattle.wf_tree_model.specs.KnownResults.{one_decides_0}
use Rattle.wf_tree_refine.specs.AtHand.{at_hand}
use Rattle.wf_tree_steps.specs.Balance.Judge.{balance_fault}
use Rattle.wf_tree_steps.specs.declared.balance.fault.BalanceFault.{BalanceFault}
use Rattle.wf_tree_steps.specs.declared.balance.fault.BalanceFault.TheVariants.{SumRange, NoSimplex, NoPlace, OthersLength, WeightRange, OtherSum, NotBalanced}

pub accepted : balance_fault consensus 2 1 (one_decides_0 2) ≡ None
accepted = refl

-- modulo 3 it is left over that both decide 0, which counts 2
pub by_three : balance_fault consensus 3 1 (one_decides_0 2) ≡ Some (NotBalanced 2 0)
by_three = refl

-- without the tuples of the edge nothing is left over
pub at_vertices : balance_fault (at_hand consensus (((0 ∷ []) ∷ []) ∷ ((1 ∷ []) ∷ []) ∷ [] ∷ [])) 3 1 (one_decides_0 2) ≡ None
at_vertices = refl

pub sum_of_2 : balance_fault consensus 3 2 (one_decides_0 2) ≡ Some OtherSum
sum_of_2 = refl

pub sum_above : balance_fault consensus 2 2 (one_decides_0 2) ≡ Some SumRange
sum_above = refl

-- ---- a fourth multiplier with several faults: the first one is told, and before what is left over

abbrev with_fourth : ℕ → ℕ → Tuple → ℕ → Option BalanceFault
with_fourth simplex place others weight =
    balance_fault consensus 3 2 (one_decides_0 2 ++ record { simplex = simplex; place = place; others = others; weight = weight } ∷ [])

pub fourth_simplex : with_fourth 3 2 [] 0 ≡ Some (NoSimplex 3)
fourth_simplex = refl

pub fourth_place : with_fourth 2 2 [] 0 ≡ Some (NoPlace 3)
fourth_place = refl

pub fourth_others : with_fourth 2 1 [] 0 ≡ Some (OthersLength 3)
fourth_others = refl

pub fourth_weight : with_fourth 2 1 (1 ∷ []) 0 ≡ Some (WeightRange 3)
fourth_weight = refl

pub fourth_fits : with_fourth 2 1 (1 ∷ []) 2 ≡ Some OtherSum
fourth_fits = refl
