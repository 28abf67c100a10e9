-- The faces of a simplex one after another, and simplices that are added to others.
use Rattle.std.specs.Prelude.{◌⊎◌, List, [], ◌∷◌, ◌++◌, map, Contains, Option, IfSome}
use Rattle.wf_model.specs.Simplex.{Vertex, Simplex}

-- each of these with one more vertex
abbrev pub joined : Vertex → List Simplex → List Simplex
joined v faces = map (λ s. s ++ (v ∷ [])) faces

-- these, one more vertex alone, and each of these with it
abbrev pub with_vertex : List Simplex → Vertex → List Simplex
with_vertex faces v = faces ++ (v ∷ []) ∷ joined v faces

-- these, and the faces that further vertices bring
abbrev pub with_vertices : List Simplex → Simplex → List Simplex
with_vertices faces [] = faces
with_vertices faces (v ∷ s) = with_vertices (with_vertex faces v) s

-- the faces of a simplex, one vertex after another
abbrev pub faces_in_turn : Simplex → List Simplex
faces_in_turn s = with_vertices [] s

-- ---- simplices that are added to others

-- the simplex, if there is one, is one of these
abbrev pub IsAmong : List Simplex → Option Simplex → Type 0
IsAmong simplices found = IfSome found (Contains simplices)

-- each of the old ones and of those added is there, and no other
pub record AreAdded (old added new : List Simplex) : Type 0 where
  pub kept : (s : Simplex) → Contains old s → Contains new s
  pub more : (s : Simplex) → Contains added s → Contains new s
  pub only : (s : Simplex) → Contains new s → Contains old s ⊎ Contains added s
