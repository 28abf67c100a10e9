-- How far an argument is, by what the program keeps: what is gone now, and the way back to the
-- cases that are still to come.
use Rattle.std.specs.Prelude.{ℕ, List, [], ◌∷◌, ◌++◌, map, reverse, take, vec_items, Option, Some, None}
use Rattle.std.specs.List.{slice_set}
use Rattle.wf_base.specs.Set.Sets.{values_in}
use Rattle.wf_report_explain.specs.Argument.ArgumentState as state
use Rattle.wf_report_explain.specs.Argument.ArgumentState.{Gone, losses, with_losses, case_of}
use Rattle.wf_report_explain.specs.declared.argument.losses.Loss.{Loss}
use Rattle.wf_report_explain.specs.declared.argument.state.Case.{Case}
use Rattle.wf_report_explain.specs.declared.argument.state.UndoStep.{UndoStep}
use Rattle.wf_report_explain.specs.declared.argument.state.UndoStep.TheVariants.{Lost, Later}
use Rattle.wf_report_explain.specs.declared.argument.state.ArgumentState.{ArgumentState}

-- The last entry comes first: a point has its first losses alone again, or cases are to come, each
-- a value of a point where this is gone.
abbrev pub later_from : List ℕ → List UndoStep → Gone → List state.Case
later_from values [] gone = []
later_from values (Lost v n ∷ below) gone = later_from values below (slice_set gone v (take n (losses gone v)))
later_from values (Later v depth set ∷ below) gone =
    map (case_of values depth gone v) (values_in set) ++ later_from values below gone

-- the cases that are still to come
abbrev pub later : List ℕ → List UndoStep → Gone → List state.Case
later values trail gone = later_from values (reverse trail) gone

-- the values of the outputs
abbrev pub values_of : ArgumentState → List ℕ
values_of s = values_in s.values

-- how far it is
abbrev pub state_of : ArgumentState → state.ArgumentState
state_of s =
    let gone = map vec_items s.gone.items in
    record { number = s.number; depth = s.depth; gone = gone; later = later (values_of s) s.trail.items gone }

-- a point has these losses too
abbrev pub losing : state.ArgumentState → ℕ → List Loss → state.ArgumentState
losing s v xs = record s { gone = with_losses s.gone v xs }

-- the first of these cases, if there is one
abbrev pub first_case : List state.Case → Option Case
first_case [] = None
first_case (x ∷ later) = Some (record { point = x.point; value = x.value; depth = x.depth })

-- how far it is once a case has begun; without one all is said
abbrev pub begun : Option Case → ArgumentState → Option state.ArgumentState
begun None s = None
begun (Some x) s = Some (state_of s)
