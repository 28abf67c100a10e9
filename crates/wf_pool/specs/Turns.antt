-- How many turns a search takes, and how many of some are left.
use Rattle.std.proofs.Common.{◌≡◌, ℕ, ◌+◌, ◌-◌, ◌<◌, ◌≤◌, arith}
use Rattle.wf_model.specs.Problem.{Problem}
use Rattle.wf_model.specs.Box.{Box, root}
use Rattle.wf_model.specs.Closing.{canonical}
use Rattle.wf_search.specs.Found.{turns}

-- the canonical search of the root takes more turns
abbrev pub TakesMore : Problem → ℕ → Type 0
TakesMore p most = most < turns (canonical p (root p)).lines

-- this holds of some number of questions, no more than the canonical search of the box has turns
abbrev pub AskedWithin : Problem → Box → (ℕ → Type 0) → Type 0
AskedWithin p box Asked = (n : ℕ) × (n ≤ turns (canonical p box).lines) × Asked n

-- ---- of some turns

pub left_itself : (a : ℕ) → a ≡ a - 0
left_itself a = omega arith

pub left_on : (m n a b c : ℕ) → b ≡ a - m → c ≡ b - n → c ≡ a - (m + n)
left_on m n a b c first next = omega arith
