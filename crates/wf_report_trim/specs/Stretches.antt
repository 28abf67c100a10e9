-- Where the executions on each input simplex stand in two protocol complexes of a task.
use Rattle.std.specs.Prelude.{◌≡◌, ◌<◌, ◌≤◌, ℕ, ◌+◌, ◌-◌, ◌/◌, List, [], ◌∷◌, length, Some, slice_get}
use Rattle.std.specs.List.{slice_index_or}
use Rattle.wf_model.specs.Limits.{most_executions}
use Rattle.wf_model.specs.Simplex.{Simplex}
use Rattle.wf_complex.specs.Layout.{turns}
use Rattle.wf_complex.specs.Protocol.{Built, point_in}
use Rattle.wf_report_trim.specs.declared.stretch.Stretch.{Stretch}

-- the stretch of each of these simplices, of which the first one's executions begin at these
-- places, in a complex after r rounds and in one after k more
abbrev pub stretches : ℕ → ℕ → ℕ → ℕ → ℕ → List Simplex → List Stretch
stretches m r k before after [] = []
stretches m r k before after (s ∷ ss) =
    record { before = before; after = after; each = turns m (length s) k }
    ∷ stretches m r k (before + turns m (length s) r) (after + turns m (length s) (r + k)) ss

-- the execution of the complex before that one of the complex after goes on from
abbrev pub earlier : Stretch → ℕ → ℕ
earlier s e = s.before + (e - s.after) / s.each

-- the first appearance of a point of the complex after, and the point that its process has in the
-- execution before
pub record GoesOn (b a : Built) (list : List Stretch) (v : ℕ) : Type 0 where
  pub execution : ℕ
  pub process : ℕ
  pub simplex : ℕ
  pub stretch : Stretch
  pub earlier_point : ℕ
  pub is_there : v < length a.points
  pub appears : slice_get a.firsts v ≡ Some (execution, process)
  pub within : execution < length a.scopes
  pub on : slice_get a.simplices execution ≡ Some simplex
  pub stretches_there : slice_get list simplex ≡ Some stretch
  pub begun : stretch.after ≤ execution
  pub some : 1 ≤ stretch.each
  pub inside : earlier stretch execution < length b.scopes
  pub few : earlier stretch execution ≤ most_executions
  pub takes_part : point_in process (slice_index_or b.scopes (earlier stretch execution) []) ≡ Some earlier_point
  pub is_point : earlier_point < length b.points
