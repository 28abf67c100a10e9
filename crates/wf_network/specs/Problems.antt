-- What a clause sees of the program's problems, and what each of them keeps.
use Rattle.std.specs.Prelude.{◌≡◌, ◌<◌, ◌≤◌, ℕ, List, [], map, zip, length, get_or, slice_index, All}
use Rattle.wf_model.specs.Simplex.{Simplex, processes_of}
use Rattle.wf_model.specs.Task.{IsTaskSimplex}
use Rattle.wf_model.specs.Task as task
use Rattle.wf_model.specs.Problem.{Problem, Constraint, IsWellFormed}
use Rattle.wf_base.specs.Set.Sets.{values_in}
use Rattle.wf_model.specs.Limits.{most_executions, most_points}
use Rattle.wf_network.specs.Users.{AreTold, AreUsers, no_execution}
use Rattle.wf_network.specs.declared.problem.Rule.{Rule}
use Rattle.wf_complex.specs.declared.packed.PackedExecution.{PackedExecution}
use Rattle.wf_network.specs.declared.problem.Network.{Network}
use Rattle.wf_network.specs.declared.problem.Problem.TheInside.{Inside}

-- no input simplex at all
abbrev pub no_rule : Rule
no_rule = record { simplex = []; places = 0; processes = []; table = record { width = 0; rows = [] }; like = 0 }

-- the rule as the definitions have it
abbrev pub rule_seen : Rule → task.Rule
rule_seen rule = record { input = rule.simplex; tuples = rule.table.rows }

-- the table is as wide as the simplex has processes
abbrev pub IsWide : Rule → Type 0
IsWide rule = rule.table.width ≡ length rule.simplex

-- it keeps how many processes its simplex has, four at most, and which ones
pub record KeepsProcesses (rule : Rule) : Type 0 where
  pub simplex : IsTaskSimplex rule.simplex
  pub narrow : length rule.simplex ≤ 4
  pub places : rule.places ≡ length rule.simplex
  pub long : length rule.processes ≡ 4
  pub processes : (i : ℕ) → i < length rule.simplex → slice_index rule.processes i ≡ slice_index (processes_of rule.simplex) i

-- it names a rule that has the same table
pub record IsAlike (rules : List Rule) (rule : Rule) : Type 0 where
  pub there : rule.like < length rules
  pub same : (get_or rules rule.like no_rule).table ≡ rule.table

-- so does each of them
abbrev pub AreAlike : List Rule → Type 0
AreAlike rules = All (IsAlike rules) rules

-- the rule of this number has the table of these tuples of a simplex
abbrev pub HasTable : Simplex → List task.Tuple → List Rule → ℕ → Type 0
HasTable simplex tuples rules number = (get_or rules number no_rule).table ≡ record { width = length simplex; rows = tuples }

-- the rule of an execution
abbrev pub rule_of : List Rule → PackedExecution → Rule
rule_of rules e = get_or rules e.simplex no_rule

-- the execution of this number has a rule with the same table; or it is how many there are
pub record IsLead (rules : List Rule) (es : List PackedExecution) (rule : Rule) (lead : ℕ) : Type 0 where
  pub low : lead ≤ length es
  pub same : lead < length es → (rule_of rules (get_or es lead no_execution)).table ≡ rule.table

-- each of these numbers is such a one for the rule at its position
abbrev pub AreLeads : List Rule → List PackedExecution → List ℕ → Type 0
AreLeads rules es leads = (r : ℕ) → r < length leads → IsLead rules es (get_or rules r no_rule) (slice_index leads r)

-- the processes of the execution's simplex, each with its point, and the tuples of that simplex
abbrev pub constraint_seen : List Rule → PackedExecution → Constraint
constraint_seen rules e = record { scope = zip (processes_of (rule_of rules e).simplex) e.points; tuples = (rule_of rules e).table.rows }

-- the constraint of each execution in turn
abbrev pub constraints_seen : List Rule → List PackedExecution → List Constraint
constraints_seen rules es = map (constraint_seen rules) es

-- the executions, which are shared
abbrev pub executions_in : Network → List PackedExecution
executions_in n = n.executions.value.items

abbrev pub problem_seen : Inside → Problem
problem_seen p = record { points = p.network.points; values = values_in p.values; constraints = map (constraint_seen p.network.rules.items) (executions_in p.network) }

-- an execution with a rule that is there and four points that are there, of
-- which those past its size are not used
pub record IsWithin (rules points : ℕ) (e : PackedExecution) : Type 0 where
  pub rule : e.simplex < rules
  pub long : length e.points ≡ 4
  pub points_within : All (λ v. v < points) e.points

-- the rule is that of the simplex, with these tuples
abbrev pub IsRuleOf : Simplex → List task.Tuple → Rule → Type 0
IsRuleOf simplex tuples rule = rule_seen rule ≡ record { input = simplex; tuples = tuples }

-- the rule of this number
abbrev pub rule_at : Network → ℕ → Rule
rule_at n number = get_or n.rules.items number no_rule

-- the number of an execution's rule
abbrev pub rule_number : Network → ℕ → ℕ
rule_number n e = (get_or (executions_in n) e no_execution).simplex

-- the rule of an execution
abbrev pub rule_in : Network → ℕ → Rule
rule_in n e = rule_at n (rule_number n e)

-- the constraint of an execution
abbrev pub constraint_in : Network → ℕ → Constraint
constraint_in n e = constraint_seen n.rules.items (get_or (executions_in n) e no_execution)

-- the constraints of all executions
abbrev pub constraints_in : Network → List Constraint
constraints_in n = constraints_seen n.rules.items (executions_in n)

-- each execution has a rule and points that are there, and each of its points knows it
pub record IsNetwork (n : Network) : Type 0 where
  pub few_points : n.points ≤ most_points
  pub few_executions : length (executions_in n) ≤ most_executions
  pub wide : All IsWide n.rules.items
  pub processes : All KeepsProcesses n.rules.items
  pub alike : AreAlike n.rules.items
  pub as_many_leads : length n.leads.items ≡ length n.rules.items
  pub leads : AreLeads n.rules.items (executions_in n) n.leads.items
  pub within : All (IsWithin (length n.rules.items) n.points) (executions_in n)
  pub users : AreUsers n.users n.points (length (executions_in n))
  pub told : AreTold n.users (executions_in n)

pub record IsKept (p : Inside) : Type 0 where
  pub network : IsNetwork p.network
  pub well_formed : IsWellFormed (problem_seen p)
