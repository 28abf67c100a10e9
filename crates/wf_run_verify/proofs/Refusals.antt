-- What is told of a fault is why the obstruction is refused.
use Rattle.std.proofs.Common.{◌≡◌, None, Err, length, refl}
use Rattle.std.proofs.lemmas.Bool.{eq-eqb}
use Rattle.wf_model.specs.Task.{Task}
use Rattle.wf_tree_steps.specs.declared.balance.fault.BalanceFault.TheVariants as balance
use Rattle.wf_tree_text.specs.Text.{Obstruction}
use Rattle.wf_tree_check.specs.Judge.{Judges, fault_of}
use Rattle.wf_tree_check.specs.declared.fault.TreeFault.{TreeFault}
use Rattle.wf_tree_check.specs.declared.fault.TreeFault.TheVariants as tree
use Rattle.wf_run_verify.specs.Obstructions.{IsRefusalOf, front_fault, told}

pub refusal_told : (t : Task) (o : Obstruction) (fault : TreeFault) → front_fault t o ≡ None → Judges (Err fault) (fault_of t o.nodes) → IsRefusalOf t o (told o.nodes fault)
refusal_told t o tree.OutOfMemory front is = tt
refusal_told t o (tree.NoBalance k balance.OutOfMemory) front is = tt
refusal_told t o tree.FirstBlock front is = (front, (tree.FirstBlock, is, refl))
refusal_told t o (tree.NoNode k) front is = (front, ((tree.NoNode k), is, refl))
refusal_told t o (tree.Behind k) front is = (front, ((tree.Behind k), is, refl))
refusal_told t o (tree.NoSimplex k) front is = (front, ((tree.NoSimplex k), is, refl))
refusal_told t o (tree.Symmetric k) front is = (front, ((tree.Symmetric k), is, refl))
refusal_told t o (tree.NoCover k fault) front is = (front, ((tree.NoCover k fault), is, refl))
refusal_told t o (tree.TooLarge k limit) front is = (front, ((tree.TooLarge k limit), is, refl))
refusal_told t o (tree.NoBalance k balance.SumRange) front is = (front, ((tree.NoBalance k balance.SumRange), is, refl))
refusal_told t o (tree.NoBalance k (balance.NoSimplex place)) front is = (front, ((tree.NoBalance k (balance.NoSimplex place)), is, refl))
refusal_told t o (tree.NoBalance k (balance.NoPlace place)) front is = (front, ((tree.NoBalance k (balance.NoPlace place)), is, refl))
refusal_told t o (tree.NoBalance k (balance.OthersLength place)) front is = (front, ((tree.NoBalance k (balance.OthersLength place)), is, refl))
refusal_told t o (tree.NoBalance k (balance.WeightRange place)) front is = (front, ((tree.NoBalance k (balance.WeightRange place)), is, refl))
refusal_told t o (tree.NoBalance k balance.OtherSum) front is = (front, ((tree.NoBalance k balance.OtherSum), is, refl))
refusal_told t o (tree.NoBalance k (balance.NotBalanced simplex tuple)) front is = (front, ((tree.NoBalance k (balance.NotBalanced simplex tuple)), is, refl))

pub front_settled : (t : Task) (o : Obstruction) → o.processes ≡ t.processes → o.simplices ≡ length t.delta → front_fault t o ≡ None
front_settled t o processes simplices = rw (eq-eqb o.processes t.processes processes, eq-eqb o.simplices (length t.delta) simplices) refl
