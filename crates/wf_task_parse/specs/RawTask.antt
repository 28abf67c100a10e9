-- What a JSON value of the right shape lists, or the first key of the wrong shape.
use Rattle.std.specs.Prelude.{◌≡◌, ℕ, List, Option, None, Some, option_and_then, Result, Ok, Err, ◌==◌, if◌then◌else◌, codes, Bool}
use Rattle.serde_json.specs.Data.{Data}
use Rattle.serde_json.specs.Find.{get, as_bool, as_array, as_object}
use Rattle.serde_json.specs.Events.{members_len}
use Rattle.wf_model.specs.Simplex.{Simplex}
use Rattle.wf_model.specs.Task.{Rule}
use Rattle.wf_task_parse.specs.declared.fault.Key.{Key}
use Rattle.wf_task_parse.specs.declared.fault.Key.TheVariants.{Whole, Version, FirstBlock, Processes, Symmetric, Inputs, Outputs, Delta, Other}
use Rattle.wf_task_parse.specs.declared.fault.TaskFault.{TaskFault}
use Rattle.wf_task_parse.specs.declared.fault.TaskFault.TheVariants as fault
use Rattle.wf_task_parse.specs.Shape.{whole_of, simplex_of, entry_of, each}

infixl 10 ◌>>=◌
-- the next step, unless there is a refusal
abbrev pub ◌>>=◌ : {A B : Type 0} → Result A TaskFault → (A → Result B TaskFault) → Result B TaskFault
(Ok x) >>= f = f x
(Err e) >>= f = Err e

-- what a function returned, seen by view, is what the definition gives, unless memory ran out
abbrev pub Fails : {Y : Type 0} → TaskFault → Result Y TaskFault → Type 0
Fails fault.OutOfMemory read = Unit {0}
Fails e read = read ≡ Err e

abbrev pub Gives : {X Y : Type 0} → (X → Y) → Result X TaskFault → Result Y TaskFault → Type 0
Gives view (Ok x) read = read ≡ Ok (view x)
Gives view (Err e) read = Fails e read

abbrev pub or_fault : {A : Type 0} → TaskFault → Option A → Result A TaskFault
or_fault e None = Err e
or_fault e (Some x) = Ok x

-- a value under a key; place 0 where it is missing or of the wrong shape
abbrev pub value_at : {A : Type 0} → Key → (Data → Option A) → Option Data → Result A TaskFault
value_at key f found = or_fault (fault.Shape key 0) (option_and_then f found)

abbrev pub placed : {A : Type 0} → Key → Result A ℕ → Result A TaskFault
placed key (Ok x) = Ok x
placed key (Err i) = Err (fault.Shape key i)

-- a list under a key, or the place of its first item of the wrong shape;
-- place 0 where it is missing or no list
abbrev pub list_at : {A : Type 0} → Key → (Data → Option A) → Option Data → Result (List A) TaskFault
list_at key f found = or_fault (fault.Shape key 0) (option_and_then as_array found) >>= λ items. placed key (each f items)

-- what is listed under `first_block`, a key of version 2
abbrev pub least_block_at : ℕ → Option Data → Result (Option ℕ) TaskFault
least_block_at version found = if version == 2 then (value_at FirstBlock whole_of found >>= λ m. Ok (Some m)) else Ok None

-- how many keys a text has: with `first_block` one more
abbrev pub key_count : Option ℕ → ℕ
key_count None = 6
key_count (Some m) = 7

-- what a value of the right shape lists
pub record Listed : Type 0 where
  pub version : ℕ
  pub least_block : Option ℕ  -- under `first_block`; none where the version is not 2
  pub processes : ℕ
  pub symmetric : Bool
  pub inputs : List Simplex
  pub outputs : List Simplex
  pub delta : List Rule

-- the keys in the order in which they are judged; a further key last, so with
-- more members than these
unfoldable pub draft_of : Data → Result Listed TaskFault
draft_of d = do
  members ← or_fault (fault.Shape Whole 0) (as_object d)
  version ← value_at Version whole_of (get (codes "version") d)
  least_block ← least_block_at version (get (codes "first_block") d)
  processes ← value_at Processes whole_of (get (codes "processes") d)
  symmetric ← value_at Symmetric as_bool (get (codes "symmetric") d)
  inputs ← list_at Inputs simplex_of (get (codes "inputs") d)
  outputs ← list_at Outputs simplex_of (get (codes "outputs") d)
  delta ← list_at Delta entry_of (get (codes "delta") d)
  if members_len members == key_count least_block
      then Ok (record { version = version; least_block = least_block; processes = processes; symmetric = symmetric; inputs = inputs; outputs = outputs; delta = delta })
      else Err (fault.Shape Other 0)
