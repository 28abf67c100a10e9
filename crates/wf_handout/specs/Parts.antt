-- What contracts see of a deque's two ends, and which branches are dealt to whom.
use Rattle.std.specs.Prelude.{◌≡◌, ℕ, ◌+◌, ◌%◌, ◌<◌, ◌≤◌, List, [], ◌∷◌, ◌++◌, Option, MatchOption, cond, nat_eq, nat_lt}
use Rattle.std.specs.declared.alloc.Global.{Global}
use Rattle.wf_core.specs.Count.{times}

-- which deque it is
abbrev pub DequeId : Type 0
DequeId = (ℕ × ℕ) × Global

-- one end of a deque: which deque, what was dealt to it, and what left it at this end
pub record Part : Type 0 where
  pub deque : DequeId
  pub dealt : List ℕ
  pub taken : List ℕ

abbrev pub part : DequeId → List ℕ → List ℕ → Part
part deque dealt taken = record { deque = deque; dealt = dealt; taken = taken }

-- one more branch left at this end
abbrev pub grown : Part → ℕ → Part
grown p i = part p.deque p.dealt (p.taken ++ i ∷ [])

-- no branch was taken more often than it was dealt
abbrev pub IsFair : Part → Type 0
IsFair p = (x : ℕ) → times x p.taken ≤ times x p.dealt

-- a branch left at this end, and was dealt as often; or none did, and the end is as it was
abbrev pub Gives : Option ℕ → Part → Part → Type 0
Gives found p q = MatchOption found (q ≡ p) (λ i. (q ≡ grown p i) × IsFair q)

-- how often x is dealt to worker k: once, where it is a branch whose remainder is k
abbrev pub dealt_to : ℕ → ℕ → ℕ → ℕ → ℕ
dealt_to branches workers k x = cond (nat_lt x branches) (cond (nat_eq (x % workers) k) 1 0) 0

-- the list has what is dealt to worker k
abbrev pub IsDealt : ℕ → ℕ → ℕ → List ℕ → Type 0
IsDealt branches workers k dealt = (x : ℕ) → times x dealt ≡ dealt_to branches workers k x

-- what was taken at the two ends of a deque, and what was left in it and
-- joined the list, is what was dealt to it
abbrev pub IsSettled : Part → Part → List ℕ → List ℕ → Type 0
IsSettled own pass before after = (x : ℕ) → times x own.taken + times x pass.taken + times x after ≡ times x before + times x own.dealt

-- a branch that was dealt was taken at neither end
abbrev pub HasLeft : Part → Part → Type 0
HasLeft own pass = (x : ℕ) × (times x own.taken + times x pass.taken < times x own.dealt)
