-- The entries of a table, and the views that they stand for.
use Rattle.std.specs.Prelude.{◌≡◌, ◌<◌, ◌≤◌, ◌==◌, ◌&&◌, ◌+◌, ◌*◌, ℕ, zero, suc, Bool, List, [], ◌∷◌, ◌++◌, length, map, take, get_or, slice_index, bit_or, All}
use Rattle.std.specs.Cmp.Lexicographic.{pointwise}
use Rattle.std.specs.Hash.{u8, u64}
use Rattle.std.specs.List.{IsDistinct}
use Rattle.wf_model.specs.Limits.{most_value}
use Rattle.wf_model.specs.View.{View, base}
use Rattle.wf_complex.specs.declared.node.Node.{Node}
use Rattle.wf_complex.specs.Views.{view_seen, process_bits}

abbrev pub same_node : Node → Node → Bool
same_node x y = (x.process == y.process) && ((x.count == y.count) && pointwise (λ a b. a == b) x.ids y.ids)

-- two numbers below 2 ^ 32 as one
abbrev pub joined : ℕ → ℕ → ℕ
joined a b = a + 4294967296 * b

-- what an entry is hashed by
abbrev pub hash_writes : Node → List (List ℕ)
hash_writes node =
    u64 (joined (slice_index node.ids 0) (slice_index node.ids 1)) ++ u64 (joined (slice_index node.ids 2) (slice_index node.ids 3))
    ++ u8 node.process

abbrev pub base_node : ℕ → ℕ → Node
base_node p x = record { process = p; count = 0; ids = x ∷ 0 ∷ 0 ∷ 0 ∷ [] }

-- at most four numbers, and then zeros
abbrev pub padded : List ℕ → List ℕ
padded [] = 0 ∷ 0 ∷ 0 ∷ 0 ∷ []
padded (a ∷ []) = a ∷ 0 ∷ 0 ∷ 0 ∷ []
padded (a ∷ b ∷ []) = a ∷ b ∷ 0 ∷ 0 ∷ []
padded (a ∷ b ∷ c ∷ []) = a ∷ b ∷ c ∷ 0 ∷ []
padded (a ∷ b ∷ c ∷ d ∷ more) = a ∷ b ∷ c ∷ d ∷ []

abbrev pub seen_node : ℕ → List ℕ → Node
seen_node p ids = record { process = p; count = length ids; ids = padded ids }

-- the view of an entry, by the views before it
abbrev pub view_by_count : ℕ → List View → Node → View
view_by_count zero vs node = base node.process (get_or node.ids 0 0)
view_by_count (suc n) vs node = view_seen vs node.process (take (suc n) node.ids)

abbrev pub node_view : List View → Node → View
node_view vs node = view_by_count node.count vs node

-- the views of entries that come after these
abbrev pub shown_after : List View → List Node → List View
shown_after vs [] = vs
shown_after vs (node ∷ nodes) = shown_after (vs ++ node_view vs node ∷ []) nodes

abbrev pub shown : List Node → List View
shown nodes = shown_after [] nodes

-- an entry is an input, or has one to four views that stand before place n
pub data IsEntry (n : ℕ) : Node → Type 0 where
  is_base : (p x : ℕ) → p ≤ 3 → x ≤ most_value → IsEntry n (base_node p x)
  is_seen : (p : ℕ) (ids : List ℕ) → p ≤ 3 → 0 < length ids → length ids ≤ 4 → All (λ k. k < n) ids → IsEntry n (seen_node p ids)

abbrev pub AreEntriesFrom : ℕ → List Node → Type 0
AreEntriesFrom n [] = Unit {0}
AreEntriesFrom n (node ∷ nodes) = IsEntry n node × AreEntriesFrom (suc n) nodes

-- the entry has this place
abbrev pub StandsAt : List Node → ℕ → Node → Type 0
StandsAt nodes n node = (n < length nodes) × (get_or nodes n node ≡ node)

-- what the table keeps: an entry for each number, none twice, and the processes in each
pub record IsTable (nodes : List Node) (bits : List ℕ) : Type 0 where
  pub entries : AreEntriesFrom 0 nodes
  pub once : IsDistinct same_node nodes
  pub bits_shown : bits ≡ map process_bits (shown nodes)
  pub few : length nodes < 4294967296

-- the processes of these views together
abbrev pub process_bits_at : List ℕ → List ℕ → ℕ
process_bits_at bits [] = 0
process_bits_at bits (id ∷ ids) = bit_or (get_or bits id 0) (process_bits_at bits ids)
