-- The JSON value of a task has no float.
use Rattle.std.proofs.Common.{◌≡◌, ℕ, List, [], ◌∷◌, map, false, Option, None, Some, refl}
use Rattle.serde_json.specs.Data.{Data, Members}
use Rattle.serde_json.specs.View.{items_of}
use Rattle.serde_json.specs.Written.{has_float, items_have_float, members_have_float}
use Rattle.wf_model.specs.Simplex.{Simplex}
use Rattle.wf_model.specs.Task.{Task, Rule, inputs}
use Rattle.wf_task.specs.Canonical.{facets, number_data, vertex_data, simplex_data, tuple_data, rule_data, with_first_block, task_data}

list_has_none : {X : Type 0} (f : X → Data) → ((x : X) → has_float (f x) ≡ false) → (xs : List X) → items_have_float (items_of (map f xs)) ≡ false
list_has_none f none [] = refl
list_has_none f none (x ∷ xs) = rw (none x) (list_has_none f none xs)

simplices_have_none : (ss : List Simplex) → items_have_float (items_of (map simplex_data ss)) ≡ false
simplices_have_none ss = list_has_none simplex_data (λ s. list_has_none vertex_data (λ v. refl) s) ss

rules_have_none : (rules : List Rule) → items_have_float (items_of (map rule_data rules)) ≡ false
rules_have_none rules =
    list_has_none rule_data
    (λ rule. rw (list_has_none vertex_data (λ v. refl) rule.input) (rw (list_has_none tuple_data (λ t. list_has_none number_data (λ n. refl) t) rule.tuples) refl)) rules

block_has_none : (o : Option ℕ) (ms : Members) → members_have_float ms ≡ false → members_have_float (with_first_block o ms) ≡ false
block_has_none None ms h = h
block_has_none (Some m) ms h = h

pub task_has_no_float : (t : Task) → has_float (task_data t) ≡ false
task_has_no_float t =
    rw (rules_have_none t.delta)
    (block_has_none t.least_block _ (rw (simplices_have_none (facets (inputs t))) (rw (simplices_have_none (facets t.outputs)) refl)))
