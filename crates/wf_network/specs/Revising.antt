-- What a box keeps of the kernel's answers.
use Rattle.std.specs.Prelude.{ℕ, ◌≡◌, ◌≢◌, ◌<◌, ◌*◌, ◌/◌, ◌%◌, ◌==◌, cond, List, [], ◌∷◌, ◌++◌, map, All, length, get_or, Option, Some, None}
use Rattle.wf_model.specs.Problem.{Constraint, no_constraint}
use Rattle.wf_lane.specs.Table.{HasSupported, Table}
use Rattle.wf_network.specs.declared.memo.SupportCache.{SupportCache}
use Rattle.wf_network.specs.declared.memo.CacheEntry.{CacheEntry}
use Rattle.wf_network.specs.declared.memo.NibbleEntry.{NibbleEntry}
use Rattle.wf_network.specs.declared.memo.Set64Entry.{Set64Entry}
use Rattle.wf_network.specs.declared.memo.WordEntry.{WordEntry}
use Rattle.wf_network.specs.declared.memo.TheConstants.{NO_EXECUTION}
use Rattle.wf_network.specs.declared.revising.TheConstants.{SMALL_LIMIT, TINY_LIMIT}
use Rattle.wf_complex.specs.declared.packed.PackedExecution.{PackedExecution}
use Rattle.wf_network.specs.Problems.{executions_in}
use Rattle.wf_network.specs.declared.problem.Network.{Network}
use Rattle.wf_network.specs.Users.{no_execution}

-- the set of a part, all of whose values are below 64
abbrev pub wide_set : ℕ → List ℕ
wide_set part = part ∷ 0 ∷ 0 ∷ 0 ∷ []

-- the set of each part
abbrev pub widened : List ℕ → List (List ℕ)
widened parts = map wide_set parts

-- no parts have these sets, of which one has a value of 64 or more
abbrev pub AreWide : List (List ℕ) → Type 0
AreWide sets = (parts : List ℕ) → widened parts ≢ sets

-- the four parts that are packed in a number, each below the limit, the first one lowest
abbrev pub packed_in : ℕ → ℕ → List ℕ
packed_in limit n = (n % limit) ∷ (n / limit % limit) ∷ (n / (limit * limit) % limit) ∷ (n / (limit * limit * limit)) ∷ []

-- those of a word, 16 bits each
abbrev pub parts_in : ℕ → List ℕ
parts_in word = packed_in SMALL_LIMIT word

-- those of sixteen bits, four each
abbrev pub nibbles_in : ℕ → List ℕ
nibbles_in nibbles = packed_in TINY_LIMIT nibbles

-- what is left of some candidates; none stands for all of them
abbrev pub left_of : List ℕ → Option (List ℕ) → List ℕ
left_of candidates None = candidates
left_of candidates (Some supported) = supported

-- the candidates of the points of an execution
abbrev pub found_at : PackedExecution → List (List ℕ) → List (List ℕ)
found_at e sets = map (λ v. get_or sets v []) e.points

-- the candidates of the points of the execution of this number
abbrev pub found_in : Network → ℕ → List (List ℕ) → List (List ℕ)
found_in n e sets = found_at (get_or (executions_in n) e no_execution) sets

-- the first sets, so many of them, are the same
abbrev pub AreSame : ℕ → List (List ℕ) → List (List ℕ) → Type 0
AreSame count sets others = (i : ℕ) → i < count → get_or sets i [] ≡ get_or others i []

-- the tuples of a constraint, a value for each place of its scope
abbrev pub table_seen : Constraint → Table
table_seen k = record { width = length k.scope; rows = k.tuples }

-- the answer is right for its execution, which is there
pub record IsRight (ks : List Constraint) (known : CacheEntry) : Type 0 where
  pub there : known.execution < length ks
  pub supported : HasSupported known.supported (table_seen (get_or ks known.execution no_constraint)) known.candidates

-- what is kept is right, if something is
abbrev pub IsKnown : List Constraint → Option CacheEntry → Type 0
IsKnown ks None = Unit {0}
IsKnown ks (Some known) = IsRight ks known

-- each answer that is kept is right
abbrev pub AreKnown : List Constraint → List (Option CacheEntry) → Type 0
AreKnown ks answers = All (IsKnown ks) answers

-- an answer for candidates below 64 as one for sets
abbrev pub answer_seen : Option Set64Entry → Option CacheEntry
answer_seen None = None
answer_seen (Some known) =
    Some (record { execution = known.execution; candidates = widened known.candidates; supported = widened known.supported })

abbrev pub IsKnownParts : List Constraint → Option Set64Entry → Type 0
IsKnownParts ks known = IsKnown ks (answer_seen known)

-- an answer for candidates below 16, if it is one, as one for sets
abbrev pub word_seen : WordEntry → Option CacheEntry
word_seen known = cond (known.execution == NO_EXECUTION) None (Some (record { execution = known.execution; candidates = widened (parts_in known.candidates); supported = widened (parts_in known.supported) }))

abbrev pub IsKnownWord : List Constraint → WordEntry → Type 0
IsKnownWord ks known = IsKnown ks (word_seen known)

-- an answer for candidates below 4, if it is one, as one for sets
abbrev pub nibbles_seen : NibbleEntry → Option CacheEntry
nibbles_seen known = cond (known.execution == NO_EXECUTION) None (Some (record { execution = known.execution; candidates = widened (nibbles_in known.candidates); supported = widened (nibbles_in known.supported) }))

abbrev pub IsKnownNibbles : List Constraint → NibbleEntry → Type 0
IsKnownNibbles ks known = IsKnown ks (nibbles_seen known)

-- all answers of a memo
abbrev pub answers_in : SupportCache → List (Option CacheEntry)
answers_in m = map nibbles_seen m.tiny.items ++ map word_seen m.small.items ++ map answer_seen m.narrow.items ++ m.wide.items
