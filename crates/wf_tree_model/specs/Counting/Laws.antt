-- What sums over executions with signs have in common, for every number of rounds.
use Rattle.std.specs.Prelude.{◌≡◌, ◌≤◌, ◌+◌, ℕ, Bool, List, length}
use Rattle.wf_model.specs.Limits.{most_processes}
use Rattle.wf_model.specs.Simplex.{Simplex}
use Rattle.wf_model.specs.View.{View, base_views}
use Rattle.wf_tree_model.specs.Counting.Signs.{evens, odds, keep}

-- A function of the last views of some participants of a simplex, added up over all executions with
-- their signs, gives what it gives over the executions of their face alone. What is taken away
-- stands on the other side.
abbrev pub SignedExecutionsAgreeOnFaces : Type 0
SignedExecutionsAgreeOnFaces = (h : List View → ℕ) (r : ℕ) (s : Simplex) (face : List Bool)
    → length s ≤ most_processes → length face ≡ length s
    → evens (λ vs. h (keep face vs)) r (base_views s) + odds h r (base_views (keep face s))
    ≡ odds (λ vs. h (keep face vs)) r (base_views s) + evens h r (base_views (keep face s))

-- there is one execution more with a positive sign than with a negative one
abbrev pub SignedExecutionsAddUpToOne : Type 0
SignedExecutionsAddUpToOne = (r : ℕ) (s : Simplex) → length s ≤ most_processes
    → evens (λ vs. 1) r (base_views s) ≡ odds (λ vs. 1) r (base_views s) + 1
