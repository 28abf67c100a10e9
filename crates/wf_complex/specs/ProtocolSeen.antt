-- What a clause sees of the program's protocol complexes, and what each of them keeps.
use Rattle.std.specs.Prelude.{◌≡◌, ◌<◌, ◌≤◌, ℕ, List, map, length, All, refl}
use Rattle.std.specs.Coded.{Coded, code_by, coded×, coded_list, coded_ℕ}
use Rattle.wf_model.specs.Limits.{most_executions, most_points}
use Rattle.wf_model.specs.Simplex.{Simplex}
use Rattle.wf_model.specs.View.{View}
use Rattle.wf_model.specs.ViewCode.{view_list_code}
use Rattle.wf_complex.specs.Rounds.{views_at}
use Rattle.wf_complex.specs.Places.{firsts_in, scope_on}
use Rattle.wf_complex.specs.Protocol.{Built}
use Rattle.wf_complex.specs.Packed.{IsPackedOn, scope_in}
use Rattle.wf_complex.specs.declared.packed.PackedExecution.{PackedExecution}
use Rattle.wf_complex.specs.declared.layout.ExecutionSlot.{ExecutionSlot}
use Rattle.wf_complex.specs.declared.protocol.Protocol.TheInside.{Inside}

-- a protocol complex is stored as the tuple of its fields
abbrev pub built_code : Coded Built
built_code =
    code_by (ℕ × (List View × (List View × (ℕ × (List (ℕ × ℕ) × (List ℕ × List (List (ℕ × ℕ))))))))
    (coded× coded_ℕ (coded× view_list_code (coded× view_list_code (coded× coded_ℕ (coded× (coded_list (coded× coded_ℕ coded_ℕ)) (coded× (coded_list coded_ℕ) (coded_list (coded_list (coded× coded_ℕ coded_ℕ)))))))))
    (λ b. (b.rounds, (b.table, (b.points, (b.view_count, (b.firsts, (b.simplices, b.scopes)))))))
    (λ p. record { rounds = p.0; table = p.1.0; points = p.1.1.0; view_count = p.1.1.1.0; firsts = p.1.1.1.1.0; simplices = p.1.1.1.1.1.0; scopes = p.1.1.1.1.1.1 })
    (λ _. refl)

-- the class of each point
abbrev pub points_seen : List View → List ℕ → List View
points_seen table classes = views_at table classes

-- the processes of each execution, each with its point
abbrev pub scopes_seen : List Simplex → List ℕ → List ExecutionSlot → List (List (ℕ × ℕ))
scopes_seen inputs numbers executions = map (scope_on inputs numbers) executions

-- the executions as they are packed
abbrev pub executions_in : Inside → List PackedExecution
executions_in p = p.executions.value.items

abbrev pub built_seen : Inside → Built
built_seen p = record {
  rounds = p.rounds;
  table = p.views;
  points = points_seen p.views p.classes.items;
  view_count = p.view_count;
  firsts = firsts_in p.firsts.items;
  simplices = map (λ e. e.simplex) (executions_in p);
  scopes = map (scope_in p.inputs.items) (executions_in p);
}

-- the executions are on the input simplices, and each point has a view and appears somewhere first
pub record IsKept (p : Inside) : Type 0 where
  pub packed : All (IsPackedOn p.inputs.items) (executions_in p)
  pub few_executions : length (executions_in p) ≤ most_executions
  pub few_points : length p.classes.items ≤ most_points
  pub viewed : All (λ id. id < length p.views) p.classes.items
  pub appearing : length p.firsts.items ≡ length p.classes.items
