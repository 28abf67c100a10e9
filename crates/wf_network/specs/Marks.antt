-- Marks, a bit each.
use Rattle.std.specs.Prelude.{◌≡◌, ◌≢◌, ◌<◌, ◌≤◌, ◌⊎◌, ◌*◌, ◌/◌, ◌%◌, ℕ, List, length, get_or, slice_index}
use Rattle.std.specs.Int.{bit_at}
use Rattle.wf_network.specs.Users.{HasBit, IsIn, no_word}
use Rattle.wf_network.specs.declared.users.MarkMask.{MarkMask}

-- a bit of some words
abbrev pub bit_of : List ℕ → ℕ → ℕ
bit_of words n = bit_at (slice_index words (n / 64)) (n % 64)

-- there is a word for the execution after so many
abbrev pub HasRoom : ℕ → List ℕ → Type 0
HasRoom executions words = executions / 64 < length words

-- bit n is the first that is set, from this one on
pub record IsNext (words : List ℕ) (from n : ℕ) : Type 0 where
  pub after : from ≤ n
  pub within : n < 64 * length words
  pub there : bit_of words n ≡ 1
  pub first : (m : ℕ) → from ≤ m → m < n → bit_of words m ≡ 0

-- no bit is set, from this one on
abbrev pub IsLast : List ℕ → ℕ → Type 0
IsLast words from = (m : ℕ) → from ≤ m → bit_of words m ≡ 0

-- no bit of the word of this one is set, from this one on
abbrev pub IsLastHere : List ℕ → ℕ → Type 0
IsLastHere words from = (m : ℕ) → from ≤ m → m / 64 ≡ from / 64 → bit_of words m ≡ 0

-- the bits of half a word, at their places in a whole one
pub record IsHalf (w : MarkMask) (half : ℕ) : Type 0 where
  pub has : (e : ℕ) → HasBit w e → bit_at half (e % 64) ≡ 1
  pub only : (e : ℕ) → e / 64 ≡ w.word / 2 → bit_at half (e % 64) ≡ 1 → HasBit w e

-- each execution of a word is marked
abbrev pub MarksWord : List ℕ → MarkMask → Type 0
MarksWord words w = (e : ℕ) → HasBit w e → bit_of words e ≡ 1

-- so is each of these words
abbrev pub MarksEach : List ℕ → List MarkMask → Type 0
MarksEach words ws = (k : ℕ) → k < length ws → MarksWord words (get_or ws k no_word)

-- a bit that is set was set before, or is that of an execution of the word
abbrev pub MarksOnlyWord : List ℕ → MarkMask → List ℕ → Type 0
MarksOnlyWord old w new = (e : ℕ) → bit_of new e ≡ 1 → (bit_of old e ≡ 1) ⊎ HasBit w e

-- or of one of these words
abbrev pub MarksOnly : List ℕ → List MarkMask → List ℕ → Type 0
MarksOnly old ws new = (e : ℕ) → bit_of new e ≡ 1 → (bit_of old e ≡ 1) ⊎ IsIn 0 (length ws) ws e

-- each bit below this one is set
abbrev pub AreSetBelow : ℕ → List ℕ → Type 0
AreSetBelow end words = (n : ℕ) → n < end → bit_of words n ≡ 1

-- each bit but this one is as it was
abbrev pub KeepsBitsBut : List ℕ → List ℕ → ℕ → Type 0
KeepsBitsBut old new bit = (n : ℕ) → n ≢ bit → bit_of new n ≡ bit_of old n

-- each word but this one is as it was
abbrev pub KeepsWordsBut : List ℕ → List ℕ → ℕ → Type 0
KeepsWordsBut old new word = (i : ℕ) → i ≢ word → slice_index new i ≡ slice_index old i

-- a bit that is not set was not set before
abbrev pub IsMore : List ℕ → List ℕ → Type 0
IsMore words more = (n : ℕ) → bit_of more n ≡ 0 → bit_of words n ≡ 0

-- a word whose bit of the tops is not set is 0
abbrev pub TopsTell : List ℕ → List ℕ → Type 0
TopsTell words tops = (i : ℕ) → i < length words → bit_of tops i ≡ 0 → slice_index words i ≡ 0
