-- What a draft of the right shape lists: each of its simplices has a vertex.
use Rattle.std.proofs.Common.{◌≡◌, ℕ, ◌==◌, Bool, true, false, List, [], ◌∷◌, All, Option, None, Some, option_and_then, Result, Ok, Err, cond, codes, refl, ap, subst}
use Rattle.std.proofs.lemmas.List.Elements.{All-nil, All-cons}
use Rattle.serde_json.specs.Data.{Data, Items, no_items, item}
use Rattle.serde_json.specs.Find.{get, as_bool, as_array, as_object}
use Rattle.serde_json.specs.Events.{members_len}
use Rattle.wf_model.specs.Simplex.{Simplex, is_nonempty}
use Rattle.wf_model.specs.Task.{Rule, Tuple}
use Rattle.wf_task_parse.specs.declared.fault.Key.{Key}
use Rattle.wf_task_parse.specs.declared.fault.Key.TheVariants.{Whole, Version, Processes, Symmetric, Inputs, Outputs, Delta, Other}
use Rattle.wf_task_parse.specs.declared.fault.TaskFault.{TaskFault}
use Rattle.wf_task_parse.specs.declared.fault.TaskFault.TheVariants as fault
use Rattle.wf_task_parse.specs.Shape.{whole_of, pair_of, list_of, nonempty, simplex_of, tuples_of, rule_of, entry_of, with_first, each}
use Rattle.wf_task_parse.specs.RawTask.{Listed, ◌>>=◌, or_fault, value_at, least_block_at, key_count, placed, list_at, draft_of}
use Rattle.wf_task_parse.specs.Listed.{ListsVertices}

-- ---- a chain that came to its end

pub chained : {A B : Type 0} (r : Result A TaskFault) (next : A → Result B TaskFault) (y : B) → (r >>= next) ≡ Ok y → (x : A) × (r ≡ Ok x) × (next x ≡ Ok y)
chained (Ok x) next y h = (x, refl, h)
chained (Err e) next y h = cc

pub found_both : {A B : Type 0} (next : A → Option B) (o : Option A) (y : B) → option_and_then next o ≡ Some y → (x : A) × (o ≡ Some x) × (next x ≡ Some y)
found_both next None y h = cc
found_both next (Some x) y h = (x, refl, h)

-- ---- each item

pub first_and_rest : {A : Type 0} (o : Option A) (rest : Result (List A) ℕ) (ys : List A) → with_first o rest ≡ Ok ys → (x : A) × (xs : List A) × (o ≡ Some x) × (rest ≡ Ok xs) × (x ∷ xs ≡ ys)
first_and_rest None rest ys h = cc
first_and_rest {A = A} (Some x) (Ok xs) ys h = (x, xs, refl, refl, ended h)
  where
    ended : ◌≡◌ {A = Result (List A) ℕ} (Ok (x ∷ xs)) (Ok ys) → x ∷ xs ≡ ys
    ended e = cc
first_and_rest (Some x) (Err i) ys h = cc

each-all : {A : Type 0} (f : Data → Option A) (P : A → Type 0) → ((d : Data) (x : A) → f d ≡ Some x → P x) → (items : Items) (xs : List A) → each f items ≡ Ok xs → All P xs
each-all {A = A} f P known no_items xs h = by xs h
  where
    by : (xs : List A) → ◌≡◌ {A = Result (List A) ℕ} (Ok []) (Ok xs) → All P xs
    by [] e = All-nil P
    by (x ∷ xs) e = cc
each-all f P known (item d ds) ys h =
    let parts = first_and_rest (f d) (each f ds) ys h in
    subst (All P) parts.4 (All-cons P parts.0 parts.1 (known d parts.0 parts.2) (each-all f P known ds parts.1 parts.3))

pub placed-ok : {A : Type 0} (key : Key) (r : Result A ℕ) (x : A) → placed key r ≡ Ok x → r ≡ Ok x
placed-ok {A = A} key (Ok y) x h = by h
  where
    by : ◌≡◌ {A = Result A TaskFault} (Ok y) (Ok x) → ◌≡◌ {A = Result A ℕ} (Ok y) (Ok x)
    by e = cc
placed-ok key (Err i) x h = cc

list_at-all : {A : Type 0} (key : Key) (f : Data → Option A) (P : A → Type 0) → ((d : Data) (x : A) → f d ≡ Some x → P x) → (found : Option Data) (xs : List A) → list_at key f found ≡ Ok xs → All P xs
list_at-all key f P known found xs h =
    let items = chained (or_fault (fault.Shape key 0) (option_and_then as_array found)) (λ items. placed key (each f items)) xs h in
    each-all f P known items.0 xs (placed-ok key (each f items.0) xs items.2)

-- ---- simplices and entries

nonempty-vertex : (s t : Simplex) → nonempty s ≡ Some t → is_nonempty t ≡ true
nonempty-vertex [] t h = cc
nonempty-vertex (v ∷ s) [] h = cc
nonempty-vertex (v ∷ s) (w ∷ t) h = refl

simplex-vertex : (d : Data) (s : Simplex) → simplex_of d ≡ Some s → is_nonempty s ≡ true
simplex-vertex d s h = let list = found_both nonempty (list_of pair_of d) s h in nonempty-vertex list.0 s list.2

ended_rule : (b : Bool) (s : Simplex) (ts : List Tuple) (rule : Rule) → cond b (Some (rule_of s ts)) None ≡ Some rule → s ≡ rule.input
ended_rule true s ts rule h = by h
  where
    by : Some (rule_of s ts) ≡ Some rule → s ≡ rule.input
    by e = let same : rule_of s ts ≡ rule = cc in ap (λ (r : Rule). r.input) same
ended_rule false s ts rule h = cc

entry-vertex : (d : Data) (rule : Rule) → entry_of d ≡ Some rule → is_nonempty rule.input ≡ true
entry-vertex d rule h =
    let object = found_both _ (as_object d) rule h in
    let input = found_both _ (option_and_then simplex_of (get (codes "in") d)) rule object.2 in
    let tuples = found_both _ (option_and_then tuples_of (get (codes "out") d)) rule input.2 in
    let value = found_both simplex_of (get (codes "in") d) input.0 input.1 in
    subst (λ s. is_nonempty s ≡ true) (ended_rule (members_len object.0 == 2) input.0 tuples.0 rule tuples.2) (simplex-vertex value.0 input.0 value.2)

-- ---- the draft

pub ended_draft : (b : Bool) (made listed : Listed) → cond b (Ok made) (Err (fault.Shape Other 0)) ≡ Ok listed → made ≡ listed
ended_draft true made listed h = by h
  where
    by : ◌≡◌ {A = Result Listed TaskFault} (Ok made) (Ok listed) → made ≡ listed
    by e = cc
ended_draft false made listed h = cc

pub vertices_listed : (d : Data) (listed : Listed) → draft_of d ≡ Ok listed → ListsVertices listed
unfolding draft_of
vertices_listed d listed h =
    let object = chained (or_fault (fault.Shape Whole 0) (as_object d)) _ listed h in
    let version = chained (value_at Version whole_of (get (codes "version") d)) _ listed object.2 in
    let least_block = chained (least_block_at version.0 (get (codes "first_block") d)) _ listed version.2 in
    let processes = chained (value_at Processes whole_of (get (codes "processes") d)) _ listed least_block.2 in
    let symmetric = chained (value_at Symmetric as_bool (get (codes "symmetric") d)) _ listed processes.2 in
    let inputs = chained (list_at Inputs simplex_of (get (codes "inputs") d)) _ listed symmetric.2 in
    let outputs = chained (list_at Outputs simplex_of (get (codes "outputs") d)) _ listed inputs.2 in
    let delta = chained (list_at Delta entry_of (get (codes "delta") d)) _ listed outputs.2 in
    let made : Listed = record { version = version.0; least_block = least_block.0; processes = processes.0; symmetric = symmetric.0; inputs = inputs.0; outputs = outputs.0; delta = delta.0 } in
    subst ListsVertices (ended_draft (members_len object.0 == key_count least_block.0) made listed delta.2) (record {
      inputs = list_at-all Inputs simplex_of (λ s. is_nonempty s ≡ true) simplex-vertex (get (codes "inputs") d) inputs.0 inputs.1;
      outputs = list_at-all Outputs simplex_of (λ s. is_nonempty s ≡ true) simplex-vertex (get (codes "outputs") d) outputs.0 outputs.1;
      entries = list_at-all Delta entry_of (λ rule. is_nonempty rule.input ≡ true) entry-vertex (get (codes "delta") d) delta.0 delta.1;
    })
