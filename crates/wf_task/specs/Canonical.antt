-- The canonical text of a task.
use Rattle.std.specs.Prelude.{ℕ, ◌≤◌, ◌&&◌, nat_lt, Bool, not, List, [], ◌∷◌, map, filter, length, Option, Some, None, codes}
use Rattle.std.specs.List.{list_any}
use Rattle.serde_json.specs.Data.{Data, number, unsigned, boolean, array, object, Members, no_members, member}
use Rattle.serde_json.specs.View.{items_of}
use Rattle.serde_json.specs.Written.{compact_text}
use Rattle.wf_model.specs.Limits.{most_outputs}
use Rattle.wf_model.specs.Simplex.{Simplex, Vertex, is_face}
use Rattle.wf_model.specs.Task.{Task, Rule, Tuple, IsTask, inputs}
use Rattle.wf_simplex.specs.Faces.{IsComplex}
use Rattle.wf_task_parse.specs.RawTask.{Listed}

-- ---- what it lists

abbrev pub version_of : Option ℕ → ℕ
version_of None = 1
version_of (Some m) = 2

-- whether a simplex is a proper face of one of these
abbrev pub is_inner : List Simplex → Simplex → Bool
is_inner complex s = list_any (λ t. is_face s t && nat_lt (length s) (length t)) complex

-- the simplices that are no proper face of another one
abbrev pub facets : List Simplex → List Simplex
facets complex = filter (λ s. not (is_inner complex s)) complex

-- no more of them than a task may list outputs
abbrev pub HasFewFacets : List Simplex → Type 0
HasFewFacets complex = length (facets complex) ≤ most_outputs

-- the facets of the inputs and outputs, and an entry for each input simplex
abbrev pub listed_of : Task → Listed
listed_of t = record {
  version = version_of t.least_block;
  least_block = t.least_block;
  processes = t.processes;
  symmetric = t.symmetric;
  inputs = facets (inputs t);
  outputs = facets t.outputs;
  delta = t.delta;
}

-- ---- its JSON value

abbrev pub number_data : ℕ → Data
number_data n = number (unsigned n)

abbrev pub list_data : {X : Type 0} → (X → Data) → List X → Data
list_data f xs = array (items_of (map f xs))

abbrev pub vertex_data : Vertex → Data
vertex_data v = list_data number_data (v.0 ∷ v.1 ∷ [])

abbrev pub simplex_data : Simplex → Data
simplex_data s = list_data vertex_data s

abbrev pub tuple_data : Tuple → Data
tuple_data tuple = list_data number_data tuple

abbrev pub rule_data : Rule → Data
rule_data rule = object (member (codes "in") (simplex_data rule.input) (member (codes "out") (list_data tuple_data rule.tuples) no_members))

-- `first_block`, where the task has it, before the other members
abbrev pub with_first_block : Option ℕ → Members → Members
with_first_block None ms = ms
with_first_block (Some m) ms = member (codes "first_block") (number_data m) ms

-- the value of a task by the values of its parts, its keys in alphabetical order
abbrev pub keyed : Option ℕ → ℕ → Bool → Data → Data → Data → Data
keyed least_block n symmetric inputs outputs delta =
    object (member (codes "delta") delta
    (with_first_block least_block
    (member (codes "inputs") inputs
    (member (codes "outputs") outputs
    (member (codes "processes") (number_data n)
    (member (codes "symmetric") (boolean symmetric)
    (member (codes "version") (number_data (version_of least_block)) no_members)))))))

-- the value of the canonical text
abbrev pub task_data : Task → Data
task_data t =
    keyed t.least_block t.processes t.symmetric (list_data simplex_data (facets (inputs t)))
    (list_data simplex_data (facets t.outputs)) (list_data rule_data t.delta)

-- compact JSON: no space anywhere
unfoldable pub canonical_text : Task → List ℕ
canonical_text t = compact_text (task_data t)

-- a task that a text can list: with no more outputs than a text may list
pub record IsListable (t : Task) : Type 0 where
  pub task : IsTask t
  pub few : HasFewFacets t.outputs
  pub outputs : IsComplex t.outputs
