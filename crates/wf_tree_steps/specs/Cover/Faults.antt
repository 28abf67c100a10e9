-- Why a cover is none.
use Rattle.std.specs.Prelude.{◌≡◌, ◌==◌, ◌↔◌, nat_le, nat_lt, not, ℕ, suc, List, [], ◌∷◌, Contains, length, map, Option, None, Some, if◌then◌else◌}
use Rattle.wf_model.specs.Task.{Task, Tuple}
use Rattle.wf_tree_model.specs.Counting.Rules.{rule_at}
use Rattle.wf_tree_model.specs.Covers.{Covering, IsCovering, is_flat_on}
use Rattle.wf_tree_model.specs.Trees.{Move, by_sheets}
use Rattle.wf_tree_steps.specs.declared.cover.cover.Covering as code_cover
use Rattle.wf_tree_steps.specs.declared.cover.cover.Move as code
use Rattle.wf_tree_steps.specs.declared.cover.cover.CoverFault.{CoverFault}
use Rattle.wf_tree_steps.specs.declared.cover.cover.CoverFault.TheVariants.{OneParticipant, NoCorner, NoSheet, NotFlat}

-- ---- the covers of the code and those of the definitions

abbrev pub move_seen : code.Move → Move
move_seen m = record { first = m.first; value = m.value; second = m.second; other = m.other; sheets = m.sheets.items }

abbrev pub moves_seen : List code.Move → List Move
moves_seen moves = map move_seen moves

abbrev pub cover_seen : Task → code_cover.Covering → Covering
cover_seen t cover = by_sheets t (rule_at t cover.simplex) cover.sheets cover.corner (moves_seen cover.moves.items)

-- ---- faults

-- the first tuple, from this place on, round which a sheet does not come to itself
abbrev pub flat_fault : Covering → ℕ → List Tuple → Option CoverFault
flat_fault c place [] = None
flat_fault c place (tuple ∷ tuples) = if is_flat_on c tuple then flat_fault c (suc place) tuples else Some (NotFlat place)

-- the first reason why a cover is none
abbrev pub cover_fault : Covering → Option CoverFault
cover_fault c =
    if not (nat_le 2 (length c.rule.input)) then Some OneParticipant
    else if not (nat_lt c.corner (length c.rule.input)) then Some NoCorner
    else if c.sheets == 0 then Some NoSheet
    else flat_fault c 0 c.rule.tuples

-- ---- a law

abbrev pub NoFaultExactlyIfCovering : Type 0
NoFaultExactlyIfCovering = (t : Task) (c : Covering) → Contains t.delta c.rule → (cover_fault c ≡ None) ↔ IsCovering t c
