-- Views by their numbers in a table, through a round.
use Rattle.std.specs.Prelude.{◌≡◌, ◌≤◌, ◌+◌, ◌*◌, ℕ, zero, suc, nat_le, Bool, true, false, List, [], ◌∷◌, ◌++◌, map, filter, flat_map, length, take, zip, get_or, slice_get, Option, Some, None, if◌then◌else◌, ◌==◌, ◌<◌, ◌%◌, ◌/◌, All}
use Rattle.wf_model.specs.Simplex.{Simplex, is_ascending}
use Rattle.wf_model.specs.View.{View, base, seen, views_of, process_of, base_views, round}
use Rattle.wf_model.specs.Word.{Word, words}
use Rattle.wf_complex.specs.Views.{view_at}
use Rattle.wf_complex.specs.declared.rounds.Ids.{Ids}
use Rattle.wf_complex.specs.declared.rounds.Round.{Round}
use Rattle.wf_complex.specs.declared.rounds.ImmediateSnapshot.{ImmediateSnapshot}

-- the views of these numbers
abbrev pub views_at : List View → List ℕ → List View
views_at table ids = map (view_at table) ids

-- the numbers that a participant in this block sees
abbrev pub visible_ids : ℕ → Word → List ℕ → List ℕ
visible_ids block w ids = map (λ q. q.1) (filter (λ q. nat_le q.0 block) (zip w ids))

-- the numbers that a list of at most four keeps
abbrev pub numbers_in : Ids → List ℕ
numbers_in ids = take ids.count ids.ids

-- the entry where it is wanted, and else nothing
abbrev pub only_if : {X : Type 0} → Bool → X → List X
only_if true x = x ∷ []
only_if false x = []

-- the entries at these places: bit j is set where that of place j is among them
abbrev pub picked : {X : Type 0} → ℕ → List X → List X
picked places [] = []
picked places (x ∷ xs) = only_if (places % 2 == 1) x ++ picked (places / 2) xs

-- whom a participant in this block sees: bit j is set where that of place j is among them
abbrev pub places_seen : ℕ → Word → ℕ
places_seen block [] = 0
places_seen block (l ∷ w) = (if nat_le l block then 1 else 0) + 2 * places_seen block w

-- a word with whom each participant sees
abbrev pub IsSight : ImmediateSnapshot → Type 0
IsSight s = take (length s.word) s.seen ≡ map (λ block. places_seen block s.word) s.word

-- a sight of n participants
abbrev pub IsSightOf : ℕ → ImmediateSnapshot → Type 0
IsSightOf n s = (length s.word ≡ n) × IsSight s

abbrev pub words_in : List ImmediateSnapshot → List Word
words_in ss = map (λ s. s.word) ss

-- the sights of n participants with a first block of m at least or of all
abbrev pub AreSights : ℕ → ℕ → List ImmediateSnapshot → Type 0
AreSights m n ss = (words_in ss ≡ words m n) × All (IsSightOf n) ss

-- the sights of a round are all of their size, once some are made
abbrev pub IsRound : ℕ → Round → Type 0
IsRound m r = 1 ≤ r.size → AreSights m r.size r.sights.items

-- the view after a round of the participant at place i, who sees these places
abbrev pub view_by : List View → ℕ → ℕ → View
view_by vs i places = seen (process_of (get_or vs i (base 0 0))) (views_of (picked places vs))

-- each number that is known at 16 times a place, and some places that are seen there, is that of
-- the view after one more round
pub record AreKnown (table vs : List View) (known : List (Option ℕ)) : Type 0 where
  pub whole : length known ≡ 64
  pub stand : (i places n : ℕ) → places < 16 → get_or known (16 * i + places) None ≡ Some n → slice_get table n ≡ Some (view_by vs i places)

-- the new table goes on from the old one
abbrev pub Extends : List View → List View → Type 0
Extends old new = (more : List View) × (new ≡ old ++ more)

-- numbers of a table, whose views are of ascending processes up to 3
pub record AreViews (table : List View) (ids : List ℕ) : Type 0 where
  pub within : All (λ k. k < length table) ids
  pub ascending : is_ascending (map process_of (views_at table ids)) ≡ true
  pub low : All (λ p. p ≤ 3) (map process_of (views_at table ids))

-- the views after k more rounds, execution by execution: the first of these rounds first
abbrev pub leaves : List Word → ℕ → List View → List View
leaves ws zero vs = vs
leaves ws (suc k) vs = flat_map (λ w. leaves ws k (round vs w)) ws

-- how many views k rounds of n participants add at most, where a round has so many words
abbrev pub cost : ℕ → ℕ → ℕ → ℕ
cost count n zero = 0
cost count n (suc k) = count * (n + cost count n k)

-- the last views of the executions on a simplex
abbrev pub leaves_of : ℕ → ℕ → Simplex → List View
leaves_of m rounds s = leaves (words m (length s)) rounds (base_views s)

-- how many views the executions on these simplices add at most
abbrev pub cost_of_each : ℕ → ℕ → List Simplex → ℕ
cost_of_each m rounds [] = 0
cost_of_each m rounds (s ∷ ss) = (length s + cost (length (words m (length s))) (length s) rounds) + cost_of_each m rounds ss
