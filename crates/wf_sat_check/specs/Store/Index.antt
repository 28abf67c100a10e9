-- Where the entries of the index stand, and what hash a clause has.
use Rattle.std.specs.Prelude.{◌≡◌, ℕ, ◌<◌, ◌+◌, ◌*◌, ◌/◌, ◌%◌, ◌^◌, List, [], All, Contains, get_or, length, set, bit_xor}
use Rattle.std.specs.List.{sum_by}
use Rattle.wf_sat_check.specs.Store.Alike.{AreAlike}
use Rattle.wf_sat_check.specs.Store.Literals.{IsDistinct, has}
use Rattle.wf_sat_check.specs.declared.store.clause_db.FoundClause.{FoundClause}
use Rattle.wf_sat_check.specs.declared.store.index.HashEntry.{HashEntry}

-- the bucket of a hash
abbrev pub bucket_of : List (List HashEntry) → ℕ → List HashEntry
bucket_of buckets hash = get_or buckets (hash % length buckets) []

-- the entry stands in the bucket of its hash
abbrev pub Finds : List (List HashEntry) → HashEntry → Type 0
Finds buckets entry = Contains (bucket_of buckets entry.hash) entry

-- each of these entries does
abbrev pub FindsEach : List (List HashEntry) → List HashEntry → Type 0
FindsEach buckets entries = All (Finds buckets) entries

-- each entry that stood in its bucket stands there still
abbrev pub FindsStill : List (List HashEntry) → List (List HashEntry) → Type 0
FindsStill old new = (entry : HashEntry) → Finds old entry → Finds new entry

-- each other entry that stood in its bucket stands there still
abbrev pub FindsStillBut : HashEntry → List (List HashEntry) → List (List HashEntry) → Type 0
FindsStillBut taken old new = (entry : HashEntry) → (entry ≡ taken → ⊥) → Finds old entry → Finds new entry

-- ---- hashes

-- the steps of two generators: the first 64 bits behind the point of the golden ratio and of √2
-- (the latter made odd)
abbrev pub first_step : ℕ
first_step = 0x9e37_79b9_7f4a_7c15

abbrev pub second_step : ℕ
second_step = 0x6a09_e667_f3bc_c909

-- the factors of the generator splitmix64
abbrev pub first_factor : ℕ
first_factor = 0xbf58_476d_1ce4_e5b9

abbrev pub second_factor : ℕ
second_factor = 0x94d0_49bb_1331_11eb

-- what it gives at a state
unfoldable pub finished : ℕ → ℕ
finished state =
    let once = bit_xor state (state / 2 ^ 30) * first_factor % 2 ^ 64 in
    let twice = bit_xor once (once / 2 ^ 27) * second_factor % 2 ^ 64 in
    bit_xor twice (twice / 2 ^ 31)

-- what a literal adds to a sum: what the generator with this step, from 0 on, gives after so many
unfoldable pub mixed : ℕ → ℕ → ℕ
mixed step literal = finished ((literal + 1) * step % 2 ^ 64)

-- the sum over the literals
abbrev pub sum_of_each : ℕ → List ℕ → ℕ
sum_of_each step literals = sum_by (mixed step) literals % 2 ^ 64

-- the hash of literals with these sums
unfoldable pub joined : ℕ → ℕ → ℕ
joined first second = finished ((finished first + second) % 2 ^ 64) / 2 ^ 32

-- the hash of literals that stand once each
abbrev pub hash_of_each : List ℕ → ℕ
hash_of_each literals = joined (sum_of_each first_step literals) (sum_of_each second_step literals)

-- the hash of the clause, in which a literal counts once
pub record IsHashOf (clause : List ℕ) (hash : ℕ) : Type 0 where
  pub each : List ℕ
  pub distinct : IsDistinct each
  pub same : (l : ℕ) → has each l ≡ has clause l
  pub sum : hash ≡ hash_of_each each

-- ---- clauses

-- the clause of this number is kept
pub record IsKeptAt (clauses : List (List ℕ)) (number : ℕ) : Type 0 where
  pub within : number < length clauses
  pub some : 0 < length (get_or clauses number [])

-- it stands in the index, under its hash
pub record IsIndexedAt (clauses : List (List ℕ)) (index : List (List HashEntry)) (number : ℕ) : Type 0 where
  pub hash : ℕ
  pub hashed : IsHashOf (get_or clauses number []) hash
  pub found : Finds index (record { hash = hash; number = number })

-- each clause that is kept does
abbrev pub IsIndexed : List (List ℕ) → List (List HashEntry) → Type 0
IsIndexed clauses index = (number : ℕ) → IsKeptAt clauses number → IsIndexedAt clauses index number

-- the clause of this number is kept, and has these literals
pub record IsAlikeAt (clauses : List (List ℕ)) (clause : List ℕ) (number : ℕ) : Type 0 where
  pub kept : IsKeptAt clauses number
  pub alike : AreAlike clause (get_or clauses number [])

-- one clause with these literals is no longer kept
pub record IsTaken (clause : List ℕ) (old new : List (List ℕ)) : Type 0 where
  pub number : ℕ
  pub alike : IsAlikeAt old clause number
  pub is : new ≡ set old number []

-- the entry leads to a kept clause with these literals
pub record IsFoundAt (entries : List HashEntry) (clauses : List (List ℕ)) (clause : List ℕ) (found : FoundClause) : Type 0 where
  pub entry : HashEntry
  pub within : found.place < length entries
  pub is : entry ≡ get_or entries found.place entry
  pub numbered : entry.number ≡ found.number
  pub alike : IsAlikeAt clauses clause found.number

-- the entry has another hash, or its clause is not kept or has other literals
abbrev pub IsOther : List (List ℕ) → ℕ → List ℕ → HashEntry → Type 0
IsOther clauses hash clause entry = entry.hash ≡ hash → IsAlikeAt clauses clause entry.number → ⊥
