-- How clauses lie in one list of words.
use Rattle.std.specs.Prelude.{◌≡◌, ℕ, ◌+◌, ◌<◌, ◌≤◌, List, All, Contains, get_or, length, map}
use Rattle.std.specs.List.{AllPairs, slice_range}
use Rattle.wf_sat_check.specs.declared.store.clauses.ClauseRange.{ClauseRange}

-- the literals of a span
abbrev pub clause_at : List ℕ → ClauseRange → List ℕ
clause_at arena span = slice_range arena span.start span.«end»

abbrev pub clauses_in : List ℕ → List ClauseRange → List (List ℕ)
clauses_in arena spans = map (clause_at arena) spans

-- the word with which a clause begins: no literal's number
abbrev pub head_word : ℕ
head_word = 4294967295

-- none of these words is it
abbrev pub HasNoHead : List ℕ → Type 0
HasNoHead words = (place : ℕ) → get_or words place 0 ≡ head_word → ⊥

-- where the literals lie of a clause that begins here: behind four words, of
-- which the second says where they end
abbrev pub span_at : List ℕ → ℕ → ClauseRange
span_at arena place = record { start = place + 4; «end» = get_or arena (place + 1) 0 }

-- the span lies within so many words, behind four others
pub record IsWithin (size : ℕ) (span : ClauseRange) : Type 0 where
  pub headed : 4 ≤ span.start
  pub ordered : span.start ≤ span.«end»
  pub bounded : span.«end» ≤ size

-- the spans lie within the list, and each before the four words of the next
-- ones; a clause begins where the list says so
pub record AreLaid (arena : List ℕ) (spans : List ClauseRange) : Type 0 where
  pub within : All (IsWithin (length arena)) spans
  pub apart : AllPairs (λ s t. s.«end» + 4 ≤ t.start) spans
  pub marked : (place : ℕ) → get_or arena place 0 ≡ head_word → Contains spans (span_at arena place)
  pub few : length arena < head_word
