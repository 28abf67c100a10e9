-- What a search without lines answers.
use Rattle.std.specs.Prelude.{◌≡◌, ℕ, List, None, Some, Result, Ok, Err}
use Rattle.wf_model.specs.Problem.{IsSolution, Problem}
use Rattle.wf_model.specs.Box.{Box, LiesIn}
use Rattle.wf_model.specs.Closing.{Trace}
use Rattle.wf_model.specs.Laws.{IsLeastIn}
use Rattle.wf_search.specs.Found.{AskedInTurns, turns}
use Rattle.wf_search.specs.declared.maps.FoundMap.{FoundMap}
use Rattle.wf_search.specs.declared.maps.FoundMap.TheVariants.{Map, Nothing, Stopped}

-- the map is that of the canonical search, or it finds none
abbrev pub IsCanonicalMap : Trace → FoundMap → Type 0
IsCanonicalMap t (Map values) = t.map ≡ Some values.items
IsCanonicalMap t Nothing = t.map ≡ None
IsCanonicalMap t Stopped = Unit {0}

-- no solution lies in the box
abbrev pub HoldsNoSolution : Problem → Box → Type 0
HoldsNoSolution p box = (m : List ℕ) → IsSolution p m → LiesIn m box → ⊥

-- a map is the least solution in the box; or there is none
abbrev pub IsRightMap : Problem → Box → FoundMap → Type 0
IsRightMap p box (Map values) = IsLeastIn p box values.items
IsRightMap p box Nothing = HoldsNoSolution p box
IsRightMap p box Stopped = Unit {0}

-- this holds of the number of questions: one for each turn of the canonical search, where the
-- search came to its end
abbrev pub HasAskedForMap : {E : Type 0} → Trace → (ℕ → Type 0) → Result FoundMap E → Type 0
HasAskedForMap t Asked (Ok (Map values)) = Asked (turns t.lines)
HasAskedForMap t Asked (Ok Nothing) = Asked (turns t.lines)
HasAskedForMap t Asked (Ok Stopped) = AskedInTurns t Asked
HasAskedForMap t Asked (Err e) = AskedInTurns t Asked

-- this holds, if the search was stopped
abbrev pub OnMapStopped : Type 0 → FoundMap → Type 0
OnMapStopped P (Map values) = Unit {0}
OnMapStopped P Nothing = Unit {0}
OnMapStopped P Stopped = P
