-- Values that are read straight from the tokens of a text, with no JSON value between.
use Rattle.std.specs.Prelude.{◌≡◌, ℕ, ◌≤◌, List, Option, None, Some, option_map, length, IsSomeAnd}
use Rattle.json.specs.Token.{Token}
use Rattle.json.specs.Json.{value, items, members}
use Rattle.serde_json.specs.Data.{Data, Members, no_members, put}
use Rattle.serde_json.specs.Find.{get_member}
use Rattle.serde_json.specs.Read.{of_json, of_items, of_members, converted}
use Rattle.wf_task_parse.specs.Shape.{all_of}

-- the value that comes first in the tokens, and the tokens after it
abbrev pub data_at : ℕ → List Token → Option (Data × List Token)
data_at depth ts = converted of_json (value depth ts)

-- the tokens begin with a value that is read as x, and `new` are those after it, wherever arrays
-- and objects may nest that deep
abbrev pub Takes : {X : Type 0} → (Data → Option X) → ℕ → List Token → X → List Token → Type 0
Takes f deep old x new = (depth : ℕ) → deep ≤ depth → converted f (data_at depth old) ≡ Some (x, new)

-- the tokens begin with the items of a list, which are read as xs, and with the bracket that closes
-- it; `new` are those after it
abbrev pub TakesItems : {X : Type 0} → (Data → Option X) → ℕ → List Token → List X → List Token → Type 0
TakesItems f deep old xs new =
    (depth : ℕ) → deep ≤ depth → (n : ℕ) → length old ≤ n → converted (all_of f) (converted of_items (items (value depth) n old))
    ≡ Some (xs, new)

-- ---- objects

-- a field has what is read under a key, and is empty where there is no such key
abbrev pub Stands : {T X : Type 0} → (Data → Option X) → (T → X) → List ℕ → Members → Option T → Type 0
Stands f seen key ms field = option_map f (get_member key ms) ≡ option_map (λ x. Some (seen x)) field

-- how many members a field has
abbrev pub held : {T : Type 0} → Option T → ℕ
held None = 0
held (Some x) = 1

-- an empty field took the value that comes first
abbrev pub Fills : {T X : Type 0} → (Data → Option X) → (T → X) → ℕ → Option T → List Token → Option T → List Token → Type 0
Fills f seen deep before old after new = (before ≡ None) × IsSomeAnd after (λ x. Takes f deep old (seen x) new)

-- the fields took one member more: this key, and the value that comes first
abbrev pub Adds : {S : Type 0} → (S → Members → Type 0) → ℕ → List ℕ → S → List Token → S → List Token → Type 0
Adds hold deep key before old after new =
    (depth : ℕ) → deep ≤ depth → (d : Data) × (data_at depth old ≡ Some (d, new))
    × ((ms : Members) → hold before ms → hold after (put key d ms))

-- the fields took the members of an object, with the brace that closes it
abbrev pub TakesMembers : {S : Type 0} → (S → Members → Type 0) → ℕ → List Token → S → List Token → Type 0
TakesMembers hold deep old fields new =
    (depth : ℕ) → deep ≤ depth → (ms : Members)
    × (converted (λ ms. of_members ms no_members) (members (value depth) (length old) old) ≡ Some (ms, new)) × hold fields ms
