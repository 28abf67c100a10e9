-- What a clause's hints come to.
use Rattle.std.specs.Prelude.{ℕ, ◌+◌, ◌*◌, ◌==◌, ◌&&◌, nat_lt, nat_le, Bool, false, not, List, [], ◌∷◌, ◌++◌, Option, Some, None, if◌then◌else◌, drop, length, map}
use Rattle.std.specs.List.{filter, list_any}
use Rattle.wf_sat_text.specs.Clauses.Formula.{Clause, Literal, negation}
use Rattle.wf_sat_text.specs.Drat.Codes.{code_of}
use Rattle.wf_sat_text.specs.declared.lrat.reader.Hint.{Hint}
use Rattle.wf_sat_check.specs.Lrat.Ledger.{Ledger, learned, slot_of}
use Rattle.wf_sat_check.specs.declared.lrat.verdict.LratVerdict.{LratVerdict}
use Rattle.wf_sat_check.specs.declared.lrat.verdict.LratVerdict.TheVariants.{Conflict, NoConflict, UnknownHint, ClauseLeftOut, IdOutOfRange}

-- ---- the trail: the list of the literals that are true

-- the literal is in the list
abbrev pub is_on : List Literal → Literal → Bool
is_on literals literal = list_any (λ m. code_of m == code_of literal) literals

-- the literal is true from now on
abbrev pub with_true : List Literal → Literal → List Literal
with_true trail literal = if is_on trail literal then trail else trail ++ literal ∷ []

-- these literals are false from now on
abbrev pub with_false : List Literal → List Literal → List Literal
with_false trail [] = trail
with_false trail (literal ∷ literals) = with_false (with_true trail (negation literal)) literals

-- the literals of the clause that are not false, as often as each stands there
abbrev pub open_literals : List Literal → Clause → List Literal
open_literals trail clause = filter (λ l. not (is_on trail (negation l))) clause

-- ---- hints up to the first negative one

-- they come to a verdict; or they end, and these literals are true
pub data Followed : Type 0 where
  stops : LratVerdict → Followed
  goes_on : List Literal → Followed

-- a clause whose open literals are these is looked at: with none it is false;
-- with one, that is true from now on; with more it tells nothing
abbrev pub by_open : List Literal → List Literal → (List Literal → Followed) → Followed
by_open [] trail rest = stops Conflict
by_open (l ∷ []) trail rest = rest (with_true trail l)
by_open (l ∷ m ∷ more) trail rest = stops NoConflict

-- the clause of a hint is looked at
abbrev pub by_hint : Option Clause → List Literal → (List Literal → Followed) → Followed
by_hint None trail rest = stops UnknownHint
by_hint (Some clause) trail rest = by_open (open_literals trail clause) trail rest

-- the clauses of the hints are looked at one by one, up to the first that is false
abbrev pub followed : List (Option Clause) → List Literal → List Hint → Followed
followed slots trail [] = goes_on trail
followed slots trail (hint ∷ hints) =
    if hint.is_negative then goes_on trail
    else by_hint (slot_of slots hint.id) trail (λ next. followed slots next hints)

-- ---- groups: each is a negative hint, and the others up to the next negative one

-- the hints from the next group on
abbrev pub next_group : List Hint → List Hint
next_group [] = []
next_group (hint ∷ hints) = if hint.is_negative then hint ∷ hints else next_group hints

-- the first of these groups is about the clause with this id
abbrev pub is_group_of : ℕ → List Hint → Bool
is_group_of id [] = false
is_group_of id (hint ∷ hints) = hint.id == id

-- the group of the clause with this id is passed over, if it is the first one
abbrev pub behind_group : ℕ → List Hint → List Hint
behind_group id hints = if is_group_of id hints then next_group (drop 1 hints) else hints

-- hints that are to come to a conflict
abbrev pub to_conflict : Followed → LratVerdict
to_conflict (stops verdict) = verdict
to_conflict (goes_on trail) = NoConflict

-- ---- resolution asymmetric tautologies (RAT)

-- there is a clause, and it has the literal
abbrev pub has_literal : Option Clause → Literal → Bool
has_literal None literal = false
has_literal (Some clause) literal = is_on clause literal

-- the literals of the clause but for this one
abbrev pub others_than : Literal → Clause → Clause
others_than literal clause = filter (λ l. not (code_of l == code_of literal)) clause

abbrev pub others_in : Literal → Option Clause → Clause
others_in literal None = []
others_in literal (Some clause) = others_than literal clause

-- these literals are assumed to be false too, and the hints of a group are followed
abbrev pub by_resolvent : List (Option Clause) → List Literal → List Literal → List Hint → LratVerdict
by_resolvent slots trail others hints = to_conflict (followed slots (with_false trail others) hints)

-- a clause with this id has the negation of the lemma's first literal, and these others: one of
-- them is true, or the first group is about this clause and comes to a conflict
abbrev pub by_candidate : List (Option Clause) → List Literal → List Literal → ℕ → List Hint → LratVerdict
by_candidate slots trail others id hints =
    if list_any (is_on trail) others then Conflict
    else if is_group_of id hints then by_resolvent slots trail others (drop 1 hints)
    else ClauseLeftOut

-- the first of two verdicts that is no conflict
abbrev pub and_then : LratVerdict → LratVerdict → LratVerdict
and_then Conflict next = next
and_then NoConflict next = NoConflict
and_then UnknownHint next = UnknownHint
and_then ClauseLeftOut next = ClauseLeftOut
and_then IdOutOfRange next = IdOutOfRange

-- of the clauses that are left, the first of which has this id, those with this negation are looked
-- at one by one
abbrev pub resolved : List (Option Clause) → List Literal → Literal → ℕ → (left : List (Option Clause)) → List Hint → LratVerdict
resolved slots trail negated id [] hints = Conflict
resolved slots trail negated id (slot ∷ left) hints =
    if has_literal slot negated
    then and_then (by_candidate slots trail (others_in negated slot) id hints)
    (resolved slots trail negated (id + 1) left (behind_group id hints))
    else resolved slots trail negated (id + 1) left hints

-- a clause needs a group, and the lemma has none: its hints come to no conflict
abbrev pub without_groups : LratVerdict → LratVerdict
without_groups ClauseLeftOut = NoConflict
without_groups Conflict = Conflict
without_groups NoConflict = NoConflict
without_groups UnknownHint = UnknownHint
without_groups IdOutOfRange = IdOutOfRange

-- the lemma is to be RAT on its first literal, by these groups
abbrev pub by_pivot : List (Option Clause) → List Literal → Clause → List Hint → LratVerdict
by_pivot slots trail [] hints = NoConflict
by_pivot slots trail (pivot ∷ others) [] = without_groups (resolved slots trail (negation pivot) 1 slots [])
by_pivot slots trail (pivot ∷ others) (hint ∷ hints) = resolved slots trail (negation pivot) 1 slots (hint ∷ hints)

-- ---- a clause and its hints

-- one of its literals is true where all are assumed to be false: it has a literal beside its
-- negation
abbrev pub is_tautology : Clause → Bool
is_tautology clause = list_any (is_on (map negation clause)) clause

-- the first hints come to this, and these groups are behind them
abbrev pub by_followed : Followed → List (Option Clause) → Clause → List Hint → LratVerdict
by_followed (stops verdict) slots clause hints = verdict
by_followed (goes_on trail) slots clause hints = by_pivot slots trail clause hints

-- the clause is assumed to be false, and its hints are followed
abbrev pub verdict_by : List (Option Clause) → Clause → List Hint → LratVerdict
verdict_by slots clause hints =
    if is_tautology clause then Conflict
    else by_followed (followed slots (with_false [] clause) hints) slots clause (next_group hints)

-- an id is at most so many times as large as the number of clauses that there
-- ever were, this one among them: so memory follows the length of a proof
abbrev pub most_id_growth : ℕ
most_id_growth = 64

-- the id is above all others, and not too large
abbrev pub is_next_id : Ledger → ℕ → Bool
is_next_id l id = nat_lt (length l.slots) id && nat_le id (most_id_growth * (l.count + 1))

-- what a clause with this id and these hints comes to
abbrev pub verdict_of : Ledger → ℕ → Clause → List Hint → LratVerdict
verdict_of l id clause hints = if is_next_id l id then verdict_by l.slots clause hints else IdOutOfRange

-- a clause is learned if its hints justify it
abbrev pub after_verdict : LratVerdict → ℕ → Clause → Ledger → Ledger
after_verdict Conflict id clause l = learned id clause l
after_verdict NoConflict id clause l = l
after_verdict UnknownHint id clause l = l
after_verdict ClauseLeftOut id clause l = l
after_verdict IdOutOfRange id clause l = l
