-- How many bytes the canonical text of a task has at most, and how deep its value nests.
use Rattle.std.proofs.Common.{ℕ, ◌+◌, ◌*◌, ◌≤◌, Bool, true, false, List, [], ◌∷◌, ◌++◌, length, map, sum_by, Option, None, Some, inl, inr, refl, subst, arith, length-append, codes}
use Rattle.std.proofs.Math.Nat.{suc-mul, max-le}
use Rattle.std.proofs.lemmas.Fmt.{length-decimal-le}
use Rattle.std.proofs.lemmas.List.Sums.{sum_by-cons}
use Rattle.json.specs.Print.{quoted, escape_byte}
use Rattle.serde_json.specs.Data.{Data, boolean, object, Members, no_members, member, depth, items_depth, members_depth}
use Rattle.serde_json.specs.View.{items_of}
use Rattle.serde_json.specs.Written.{comma_if, compact_text, items_text, members_text}
use Rattle.wf_model.specs.Simplex.{Simplex, Vertex}
use Rattle.wf_model.specs.Task.{Task, Rule, Tuple, IsFirstBlock, inputs}
use Rattle.wf_simplex.proofs.Lemmas.{Has}
use Rattle.wf_task.specs.Canonical.{facets, number_data, list_data, vertex_data, simplex_data, tuple_data, rule_data, with_first_block, version_of, task_data}

-- ---- how long

comma-long : (later : Bool) → length (comma_if later) ≤ 1
comma-long true = omega arith
comma-long false = omega arith

-- one item more
item-long : {X : Type 0} (f : X → Data) (w rest : ℕ) (later : Bool) (x : X) (xs : List X) → length (compact_text (f x)) ≤ w → length (items_text true (items_of (map f xs))) ≤ rest
    → length (items_text later (items_of (map f (x ∷ xs)))) ≤ 1 + w + rest
item-long f w rest later x xs first others =
    let comma = comma-long later in
    omega (arith, length-append (comma_if later) (compact_text (f x) ++ items_text true (items_of (map f xs))), length-append (compact_text (f x)) (items_text true (items_of (map f xs))), comma, first, others)

items-long : {X : Type 0} (f : X → Data) (w : ℕ) (later : Bool) (xs : List X) → ((x : X) → Has x xs → length (compact_text (f x)) ≤ w) → length (items_text later (items_of (map f xs))) ≤ 1 + length xs * (w + 1)
items-long f w later [] h = omega arith
items-long f w later (x ∷ xs) h =
    let more = item-long f w (1 + length xs * (w + 1)) later x xs (h x (inl refl)) (items-long f w true xs (λ y k. h y (inr k))) in
    omega (arith, more, suc-mul (length xs) (w + 1))

-- a list of texts of at most so many bytes
list-long : {X : Type 0} (f : X → Data) (w : ℕ) (xs : List X) → ((x : X) → Has x xs → length (compact_text (f x)) ≤ w) → length (compact_text (list_data f xs)) ≤ 2 + length xs * (w + 1)
list-long f w xs h = let items = items-long f w false xs h in omega (arith, items)

number-long : (n : ℕ) → n ≤ 255 → length (compact_text (number_data n)) ≤ 3
number-long n low = length-decimal-le 3 n (omega arith) (omega (arith, low)) (omega (arith, low))

vertex-long : (v : Vertex) → v.0 ≤ 255 → v.1 ≤ 255 → length (compact_text (vertex_data v)) ≤ 10
vertex-long v process value = let long = list-long number_data 3 (v.0 ∷ v.1 ∷ []) small in omega (arith, long)
  where
    small : (x : ℕ) → Has x (v.0 ∷ v.1 ∷ []) → length (compact_text (number_data x)) ≤ 3
    small x (inl e) = number-long x (subst (λ n. n ≤ 255) e process)
    small x (inr (inl e)) = number-long x (subst (λ n. n ≤ 255) e value)
    small x (inr (inr none)) = absurd none

pub simplex-long : (s : Simplex) → length s ≤ 4 → ((v : Vertex) → Has v s → (v.0 ≤ 255) × (v.1 ≤ 255)) → length (compact_text (simplex_data s)) ≤ 46
simplex-long s few small = let long = list-long vertex_data 10 s (λ v k. vertex-long v (small v k).0 (small v k).1) in omega (arith, long, few)

pub tuple-long : (tuple : Tuple) → length tuple ≤ 4 → ((x : ℕ) → Has x tuple → x ≤ 255) → length (compact_text (tuple_data tuple)) ≤ 18
tuple-long tuple few small = let long = list-long number_data 3 tuple (λ x k. number-long x (small x k)) in omega (arith, long, few)

-- one member more
member-long : (later : Bool) (key : List ℕ) (k : ℕ) (d : Data) (ms : Members) → length (quoted key) ≤ k → length (members_text later (member key d ms)) ≤ 2 + k + length (compact_text d) + length (members_text true ms)
member-long later key k d ms name =
    let comma = comma-long later in
    omega (arith, length-append (comma_if later) (quoted key ++ 58 ∷ (compact_text d ++ members_text true ms)), length-append (quoted key) (58 ∷ (compact_text d ++ members_text true ms)), length-append (compact_text d) (members_text true ms), comma, name)

in-long : length (quoted (codes "in")) ≤ 4
unfolding escape_byte
in-long = omega arith

out-long : length (quoted (codes "out")) ≤ 5
unfolding escape_byte
out-long = omega arith

-- an object of two members
pair-long : (a b : List ℕ) (d e : Data) → length (quoted a) ≤ 4 → length (quoted b) ≤ 5 → length (compact_text (object (member a d (member b e no_members)))) ≤ 15 + length (compact_text d) + length (compact_text e)
pair-long a b d e first second =
    let last = member-long true b 5 e no_members second in
    let both = member-long false a 4 d (member b e no_members) first in
    omega (arith, last, both)

pub rule-long : (rule : Rule) → length (compact_text (simplex_data rule.input)) ≤ 46 → ((tuple : Tuple) → Has tuple rule.tuples → length (compact_text (tuple_data tuple)) ≤ 18)
    → length (compact_text (rule_data rule)) ≤ 63 + 19 * length rule.tuples
rule-long rule input tuples =
    let all = list-long tuple_data 18 rule.tuples tuples in
    let both = pair-long (codes "in") (codes "out") (simplex_data rule.input) (list_data tuple_data rule.tuples) in-long out-long in
    omega (arith, all, both, input)

-- the entries: so much for each, and so much for each of its tuples
rules-long : (later : Bool) (rules : List Rule) → ((rule : Rule) → Has rule rules → length (compact_text (rule_data rule)) ≤ 63 + 19 * length rule.tuples)
    → length (items_text later (items_of (map rule_data rules))) ≤ 1 + 64 * length rules + 19 * sum_by (λ rule. length rule.tuples) rules
rules-long later [] h = omega arith
rules-long later (rule ∷ rules) h =
    let others = rules-long true rules (λ r k. h r (inr k)) in
    let more = item-long rule_data (63 + 19 * length rule.tuples) (1 + 64 * length rules + 19 * sum_by (λ (r : Rule). length r.tuples) rules) later rule rules (h rule (inl refl)) others in
    omega (arith, more, sum_by-cons (λ (r : Rule). length r.tuples) rule rules)

name-long : (later : Bool) (key : List ℕ) (d : Data) (ms : Members) (most : ℕ) → length (quoted key) ≤ 11 → length (compact_text d) ≤ most → length (members_text later (member key d ms)) ≤ 13 + most + length (members_text true ms)
name-long later key d ms most name value = let all = member-long later key 11 d ms name in omega (arith, all, value)

first_block-long : length (quoted (codes "first_block")) ≤ 13
unfolding escape_byte
first_block-long = omega arith

delta-long : length (quoted (codes "delta")) ≤ 11
unfolding escape_byte
delta-long = omega arith

inputs-long : length (quoted (codes "inputs")) ≤ 11
unfolding escape_byte
inputs-long = omega arith

outputs-long : length (quoted (codes "outputs")) ≤ 11
unfolding escape_byte
outputs-long = omega arith

processes-long : length (quoted (codes "processes")) ≤ 11
unfolding escape_byte
processes-long = omega arith

symmetric-long : length (quoted (codes "symmetric")) ≤ 11
unfolding escape_byte
symmetric-long = omega arith

version-long : length (quoted (codes "version")) ≤ 11
unfolding escape_byte
version-long = omega arith

bool-long : (b : Bool) → length (compact_text (boolean b)) ≤ 5
bool-long true = omega arith
bool-long false = omega arith

-- what bounds the parts of a task's text
pub record HasShortParts (t : Task) : Type 0 where
  pub processes : t.processes ≤ 255
  pub least_block : IsFirstBlock t.least_block
  pub input_count : length (facets (inputs t)) ≤ 4096
  pub output_count : length (facets t.outputs) ≤ 65536
  pub rule_count : length t.delta ≤ 4096
  pub tuple_count : sum_by (λ rule. length rule.tuples) t.delta ≤ 65536
  pub input_parts : (s : Simplex) → Has s (facets (inputs t)) → length (compact_text (simplex_data s)) ≤ 46
  pub output_parts : (s : Simplex) → Has s (facets t.outputs) → length (compact_text (simplex_data s)) ≤ 46
  pub rule_parts : (rule : Rule) → Has rule t.delta → length (compact_text (rule_data rule)) ≤ 63 + 19 * length rule.tuples

-- `first_block` before the other members
block-long : (least_block : Option ℕ) (ms : Members) → IsFirstBlock least_block → length (members_text true (with_first_block least_block ms)) ≤ 18 + length (members_text true ms)
block-long None ms h = omega arith
block-long (Some m) ms h = let all = member-long true (codes "first_block") 13 (number_data m) ms first_block-long in omega (arith, all, number-long m (omega (arith, h.1)))

version-few : (least_block : Option ℕ) → version_of least_block ≤ 255
version-few None = omega arith
version-few (Some m) = omega arith

pub task-long : (t : Task) → HasShortParts t → length (compact_text (task_data t)) ≤ 16777216
task-long t h =
    let inner = list-long simplex_data 46 (facets (inputs t)) h.input_parts in
    let outer = list-long simplex_data 46 (facets t.outputs) h.output_parts in
    let rules = rules-long false t.delta h.rule_parts in
    let d = list_data rule_data t.delta in
    let i = list_data simplex_data (facets (inputs t)) in
    let o = list_data simplex_data (facets t.outputs) in
    let version : Members = member (codes "version") (number_data (version_of t.least_block)) no_members in
    let symmetric : Members = member (codes "symmetric") (boolean t.symmetric) version in
    let processes : Members = member (codes "processes") (number_data t.processes) symmetric in
    let outputs : Members = member (codes "outputs") o processes in
    let inputs' : Members = member (codes "inputs") i outputs in
    let block : Members = with_first_block t.least_block inputs' in
    let a = name-long true (codes "version") (number_data (version_of t.least_block)) no_members 3 version-long (number-long (version_of t.least_block) (version-few t.least_block)) in
    let b = name-long true (codes "symmetric") (boolean t.symmetric) version 5 symmetric-long (bool-long t.symmetric) in
    let c = name-long true (codes "processes") (number_data t.processes) symmetric 3 processes-long (number-long t.processes h.processes) in
    let e = name-long true (codes "outputs") o processes 3080194 outputs-long (omega (arith, outer, h.output_count)) in
    let f = name-long true (codes "inputs") i outputs 192514 inputs-long (omega (arith, inner, h.input_count)) in
    let first = block-long t.least_block inputs' h.least_block in
    let g = name-long false (codes "delta") d block 1507330 delta-long (omega (arith, rules, h.rule_count, h.tuple_count)) in
    omega (arith, a, b, c, e, f, first, g)

-- ---- how deep

list-deep : {X : Type 0} (f : X → Data) (k : ℕ) (xs : List X) → ((x : X) → depth (f x) ≤ k) → items_depth (items_of (map f xs)) ≤ k
list-deep f k [] h = omega arith
list-deep f k (x ∷ xs) h = max-le (h x) (list-deep f k xs h)

simplices-deep : (ss : List Simplex) → depth (list_data simplex_data ss) ≤ 3
simplices-deep ss =
    let vertices : (s : Simplex) → items_depth (items_of (map vertex_data s)) ≤ 1 = λ s. list-deep vertex_data 1 s (λ v. omega arith) in
    let all = list-deep simplex_data 2 ss (λ s. (let one = vertices s in omega (arith, one))) in
    omega (arith, all)

tuples-deep : (tuples : List Tuple) → depth (list_data tuple_data tuples) ≤ 2
tuples-deep tuples =
    let all = list-deep tuple_data 1 tuples (λ tuple. (let one = list-deep number_data 0 tuple (λ n. omega arith) in omega (arith, one))) in
    omega (arith, all)

rule-deep : (rule : Rule) → depth (rule_data rule) ≤ 4
rule-deep rule =
    let vertices = list-deep vertex_data 1 rule.input (λ v. omega arith) in
    let tuples = tuples-deep rule.tuples in
    let deepest : members_depth (member (codes "in") (simplex_data rule.input) (member (codes "out") (list_data tuple_data rule.tuples) no_members)) ≤ 3 =
    max-le (omega (arith, vertices)) (max-le (omega (arith, tuples)) (omega arith)) in
    omega (arith, deepest)

member-deep : (key : List ℕ) (d : Data) (ms : Members) → depth d ≤ 5 → members_depth ms ≤ 5 → members_depth (member key d ms) ≤ 5
member-deep key d ms value others = max-le value others

block-deep : (least_block : Option ℕ) (ms : Members) → members_depth ms ≤ 5 → members_depth (with_first_block least_block ms) ≤ 5
block-deep None ms h = h
block-deep (Some m) ms h = member-deep (codes "first_block") (number_data m) ms (omega arith) h

pub task-deep : (t : Task) → depth (task_data t) ≤ 127
task-deep t =
    let rules = list-deep rule_data 4 t.delta rule-deep in
    let inner = simplices-deep (facets (inputs t)) in
    let outer = simplices-deep (facets t.outputs) in
    let version : Members = member (codes "version") (number_data (version_of t.least_block)) no_members in
    let symmetric : Members = member (codes "symmetric") (boolean t.symmetric) version in
    let processes : Members = member (codes "processes") (number_data t.processes) symmetric in
    let outputs : Members = member (codes "outputs") (list_data simplex_data (facets t.outputs)) processes in
    let inputs' : Members = member (codes "inputs") (list_data simplex_data (facets (inputs t))) outputs in
    let a = member-deep (codes "outputs") (list_data simplex_data (facets t.outputs)) processes (omega (arith, outer)) (omega arith) in
    let b = member-deep (codes "inputs") (list_data simplex_data (facets (inputs t))) outputs (omega (arith, inner)) a in
    let c = member-deep (codes "delta") (list_data rule_data t.delta) (with_first_block t.least_block inputs') (omega (arith, rules)) (block-deep t.least_block inputs' b) in
    omega (arith, c)
