-- How the words go from node to node: what is left to tell below a node.
use Rattle.std.specs.Prelude.{◌≡◌, ◌<◌, ℕ, suc, List, [], ◌++◌, drop, length, map, vec_items, ⊤}
use Rattle.wf_model.specs.Task.{Task, Tuple}
use Rattle.wf_tree_model.specs.Counting.Rules.{rule_at}
use Rattle.wf_tree_model.specs.Cases.{components, in_case}
use Rattle.wf_tree_model.specs.Trees.{Node}
use Rattle.wf_tree_refine.specs.AtHand.{IsAtHand, at_hand}
use Rattle.wf_tree_explain.specs.Words.{Told, behind, each_told, part_text, told}
use Rattle.wf_tree_explain.specs.declared.enter.ExplainedNode.{ExplainedNode}
use Rattle.wf_tree_explain.specs.declared.enter.ExplainedNode.TheVariants.{Done, One, Each}

-- from a text and the nodes before to a text and the nodes behind, this was told
pub record Tells (old new : List ℕ) (all rest : Told) : Type 0 where
  pub text : old ++ all.0 ≡ new ++ rest.0
  pub nodes : all.1 ≡ rest.1

-- the part of this number, and its tree
abbrev pub part_told : ℕ → Task → ℕ → ℕ → ℕ → List Tuple → List Node → Told
part_told levels t depth simplex number part nodes =
    let u = in_case (rule_at t simplex) part t in
    behind (part_text depth number (rule_at u simplex).tuples) (told levels u (suc depth) nodes)

-- the trees of the parts from this number on
abbrev pub parts_told : ℕ → Task → ℕ → ℕ → ℕ → List (List Tuple) → List Node → Told
parts_told levels t depth simplex = each_told (part_told levels t depth simplex)

-- What is left to tell below a node, with so many levels, where the node that comes next has this
-- place: nothing, a tree of another task at hand, or one for each part.
abbrev pub left : Task → List (List Tuple) → ℕ → ℕ → ℕ → List Node → ExplainedNode → Told
left t rows levels depth place nodes Done = ([], drop place nodes)
left t rows levels depth place nodes (One refined) = told levels (at_hand t (map vec_items refined.items)) depth (drop place nodes)
left t rows levels depth place nodes (Each cases) =
    parts_told levels (at_hand t rows) depth cases.simplex 0 (components (rule_at (at_hand t rows) cases.simplex)) (drop place nodes)

-- what is left can be told
abbrev pub CanTell : Task → List (List Tuple) → ℕ → ExplainedNode → Type 0
CanTell t rows levels Done = ⊤
CanTell t rows levels (One refined) = (0 < levels) × IsAtHand t (map vec_items refined.items)
CanTell t rows levels (Each cases) =
    (0 < levels) × (cases.simplex < length rows) × (cases.count ≡ length (components (rule_at (at_hand t rows) cases.simplex)))
