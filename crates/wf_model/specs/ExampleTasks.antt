-- Small tasks, for worked examples.
use Rattle.std.specs.Prelude.{ℕ, suc, ◌+◌, nat_le, ◌&&◌, Bool, true, false, List, [], ◌∷◌, map, filter, None}
use Rattle.wf_model.specs.Lists.{below, lists_of}
use Rattle.wf_model.specs.Simplex.{Simplex, complex_of}
use Rattle.wf_model.specs.Task.{Task, Tuple}

abbrev pub one : ℕ → ℕ → Simplex
one p x = (p, x) ∷ []

abbrev pub edge : ℕ → ℕ → Simplex
edge x y = (0, x) ∷ (1, y) ∷ []

abbrev pub near : Tuple → Bool
near [] = false
near (x ∷ []) = false
near (x ∷ y ∷ []) = nat_le x (y + 1) && nat_le y (x + 1)
near (x ∷ y ∷ z ∷ more) = false

abbrev pub pair_edge : Tuple → Simplex
pair_edge [] = []
pair_edge (x ∷ []) = []
pair_edge (x ∷ y ∷ []) = edge x y
pair_edge (x ∷ y ∷ z ∷ more) = []

-- path k: process 0 alone decides 0, process 1 alone decides k, and both
-- decide values up to k that differ by at most 1
abbrev pub path : ℕ → Task
path k = record {
  processes = 2;
  symmetric = false;
  least_block = None;
  delta = record { input = one 0 0; tuples = (0 ∷ []) ∷ [] }
      ∷ record { input = one 1 0; tuples = (k ∷ []) ∷ [] }
      ∷ record { input = edge 0 0; tuples = filter near (lists_of (below (suc k)) 2) } ∷ [];
  outputs = complex_of (map pair_edge (filter near (lists_of (below (suc k)) 2)));
}

-- consensus of two processes, each with its own number
abbrev pub consensus : Task
consensus = record {
  processes = 2;
  symmetric = false;
  least_block = None;
  delta = record { input = one 0 0; tuples = (0 ∷ []) ∷ [] }
      ∷ record { input = one 1 1; tuples = (1 ∷ []) ∷ [] }
      ∷ record { input = edge 0 1; tuples = (0 ∷ 0 ∷ []) ∷ (1 ∷ 1 ∷ []) ∷ [] } ∷ [];
  outputs = complex_of (edge 0 0 ∷ edge 1 1 ∷ []);
}

-- renaming of two processes, with two names and with three
abbrev pub renaming_2_2 : Task
renaming_2_2 = record {
  processes = 2;
  symmetric = true;
  least_block = None;
  delta = record { input = one 0 0; tuples = (0 ∷ []) ∷ (1 ∷ []) ∷ [] }
      ∷ record { input = one 1 0; tuples = (0 ∷ []) ∷ (1 ∷ []) ∷ [] }
      ∷ record { input = edge 0 0; tuples = (0 ∷ 1 ∷ []) ∷ (1 ∷ 0 ∷ []) ∷ [] } ∷ [];
  outputs = complex_of (edge 0 1 ∷ edge 1 0 ∷ []);
}

abbrev pub renaming_2_3 : Task
renaming_2_3 = record {
  processes = 2;
  symmetric = true;
  least_block = None;
  delta = record { input = one 0 0; tuples = (0 ∷ []) ∷ (1 ∷ []) ∷ (2 ∷ []) ∷ [] }
      ∷ record { input = one 1 0; tuples = (0 ∷ []) ∷ (1 ∷ []) ∷ (2 ∷ []) ∷ [] }
      ∷ record {
        input = edge 0 0;
        tuples = (0 ∷ 1 ∷ []) ∷ (0 ∷ 2 ∷ []) ∷ (1 ∷ 0 ∷ []) ∷ (1 ∷ 2 ∷ []) ∷ (2 ∷ 0 ∷ [])
            ∷ (2 ∷ 1 ∷ []) ∷ [];
      } ∷ [];
  outputs = complex_of (edge 0 1 ∷ edge 0 2 ∷ edge 1 0 ∷ edge 1 2 ∷ edge 2 0 ∷ edge 2 1 ∷ []);
}

-- one process with one output value
abbrev pub alone : List Tuple → List Simplex → Task
alone tuples facets = record {
  processes = 1;
  symmetric = false;
  least_block = None;
  delta = record { input = one 0 0; tuples = tuples } ∷ [];
  outputs = complex_of facets;
}
