-- Obstructions that are trees: their text, and what a text reads as.
use Rattle.std.specs.Prelude.{ℕ, suc, ◌+◌, ◌==◌, ◌&&◌, nat_le, nat_lt, Bool, true, false, List, [], ◌∷◌, ◌++◌, flat_map, length, map, take, Option, Some, None, option_map, option_and_then, Ok, Err, codes, if◌then◌else◌}
use Rattle.std.specs.List.{list_all}
use Rattle.std.specs.Ordering.{match_ordering, nat_cmp}
use Rattle.std.specs.Cmp.Lexicographic.{slice_cmp}
use Rattle.wf_model.specs.Limits.{most_number, most_processes, most_value}
use Rattle.wf_model.specs.Report.{Reading, fixed_at, line, lines_of, number_at, number_upto, same_text, then_read, words_of}
use Rattle.wf_tree_model.specs.Balance.{Multiplier}
use Rattle.wf_tree_model.specs.Trees.{Move, Node, balance_node, case_node, cover_node, split_node}

-- the numbers of a task, and the nodes of a tree in preorder
pub record Obstruction : Type 0 where
  pub processes : ℕ
  pub simplices : ℕ
  pub nodes : List Node

-- ---- lines

-- a line of a node: its own, or that of a move or a multiplier
pub data TextLine : Type 0 where
  case_at : ℕ → TextLine
  split_at : ℕ → TextLine
  cover_at : ℕ → ℕ → ℕ → TextLine
  move_at : Move → TextLine
  balance_at : ℕ → ℕ → TextLine
  multiplier_at : Multiplier → TextLine

abbrev pub lines_of_node : Node → List TextLine
lines_of_node (case_node simplex) = case_at simplex ∷ []
lines_of_node (split_node simplex) = split_at simplex ∷ []
lines_of_node (cover_node simplex sheets corner moves) = cover_at simplex sheets corner ∷ map move_at moves
lines_of_node (balance_node modulus sum xs) = balance_at modulus sum ∷ map multiplier_at xs

abbrev pub lines_of_nodes : List Node → List TextLine
lines_of_nodes nodes = flat_map lines_of_node nodes

-- the first line behind the three in front
abbrev pub first_line : ℕ
first_line = 4

-- the line of a node, and from 1 on that of a move or a multiplier of it
abbrev pub line_of : List Node → ℕ → ℕ → ℕ
line_of nodes node entry = first_line + length (lines_of_nodes (take node nodes)) + entry

-- ---- the text

abbrev pub name_of : TextLine → List ℕ
name_of (case_at simplex) = codes "case"
name_of (split_at simplex) = codes "split"
name_of (cover_at simplex sheets corner) = codes "cover"
name_of (move_at move) = codes "p"
name_of (balance_at modulus sum) = codes "balance"
name_of (multiplier_at x) = codes "m"

abbrev pub numbers_of : TextLine → List ℕ
numbers_of (case_at simplex) = simplex ∷ []
numbers_of (split_at simplex) = simplex ∷ []
numbers_of (cover_at simplex sheets corner) = simplex ∷ sheets ∷ corner ∷ []
numbers_of (move_at move) = move.first ∷ move.value ∷ move.second ∷ move.other ∷ move.sheets
numbers_of (balance_at modulus sum) = modulus ∷ sum ∷ []
numbers_of (multiplier_at x) = x.weight ∷ x.simplex ∷ x.place ∷ x.others

abbrev pub line_text : TextLine → List ℕ
line_text l = line (name_of l) (numbers_of l)

abbrev pub obstruction_text : Obstruction → List ℕ
obstruction_text o =
    line (codes "wfcheck obstruction 1") []
    ++ (line (codes "processes") (o.processes ∷ []) ++ (line (codes "simplices") (o.simplices ∷ [])
    ++ (flat_map line_text (lines_of_nodes o.nodes) ++ line (codes "end") [])))

-- whether the first of these lines is this one
abbrev pub begins_with : List ℕ → List (List ℕ) → Bool
begins_with wanted [] = false
begins_with wanted (l ∷ ls) = same_text l wanted

-- whether the first line of a text is that of an obstruction
abbrev pub begins_as_obstruction : List ℕ → Bool
begins_as_obstruction text = begins_with (line (codes "wfcheck obstruction 1") []) (lines_of text)

-- ---- what a line says

-- the numbers of all these words
abbrev pub numbers_of_words : List (List ℕ) → Option (List ℕ)
numbers_of_words [] = Some []
numbers_of_words (w ∷ ws) = option_and_then (λ n. option_map (λ ns. n ∷ ns) (numbers_of_words ws)) (number_upto most_number w)

abbrev pub case_of : List ℕ → Option TextLine
case_of [] = None
case_of (simplex ∷ []) = Some (case_at simplex)
case_of (simplex ∷ n ∷ ns) = None

abbrev pub split_of : List ℕ → Option TextLine
split_of [] = None
split_of (simplex ∷ []) = Some (split_at simplex)
split_of (simplex ∷ n ∷ ns) = None

-- the sheets of a cover, and its corner: what a byte holds
abbrev pub most_byte : ℕ
most_byte = 255

abbrev pub is_cover : ℕ → ℕ → Bool
is_cover sheets corner = nat_lt 0 sheets && (nat_le sheets most_byte && nat_le corner most_byte)

abbrev pub cover_of : List ℕ → Option TextLine
cover_of [] = None
cover_of (simplex ∷ []) = None
cover_of (simplex ∷ sheets ∷ []) = None
cover_of (simplex ∷ sheets ∷ corner ∷ []) = if is_cover sheets corner then Some (cover_at simplex sheets corner) else None
cover_of (simplex ∷ sheets ∷ corner ∷ n ∷ ns) = None

-- two places, in order, and a value at each
abbrev pub goes_over : ℕ → ℕ → ℕ → ℕ → Bool
goes_over first value second other =
    (nat_lt first second && nat_lt second most_processes) && (nat_le value most_value && nat_le other most_value)

-- sheets, each below their number
abbrev pub are_sheets : List ℕ → Bool
are_sheets sheets = nat_le (length sheets) most_byte && list_all (λ sheet. nat_lt sheet (length sheets)) sheets

abbrev pub move_of : List ℕ → Option TextLine
move_of [] = None
move_of (first ∷ []) = None
move_of (first ∷ value ∷ []) = None
move_of (first ∷ value ∷ second ∷ []) = None
move_of (first ∷ value ∷ second ∷ other ∷ sheets) =
    if goes_over first value second other && are_sheets sheets
    then Some (move_at (record { first = first; value = value; second = second; other = other; sheets = sheets }))
    else None

abbrev pub balance_of : List ℕ → Option TextLine
balance_of [] = None
balance_of (modulus ∷ []) = None
balance_of (modulus ∷ sum ∷ []) = Some (balance_at modulus sum)
balance_of (modulus ∷ sum ∷ n ∷ ns) = None

-- a value for each of at most three others
abbrev pub are_others : List ℕ → Bool
are_others values = nat_lt (length values) most_processes && list_all (λ value. nat_le value most_value) values

abbrev pub multiplier_of : List ℕ → Option TextLine
multiplier_of [] = None
multiplier_of (weight ∷ []) = None
multiplier_of (weight ∷ simplex ∷ []) = None
multiplier_of (weight ∷ simplex ∷ place ∷ others) =
    if nat_lt place most_processes && are_others others
    then Some (multiplier_at (record { simplex = simplex; place = place; others = others; weight = weight }))
    else None

abbrev pub node_line_of : List ℕ → List ℕ → Option TextLine
node_line_of name ns =
    if same_text name (codes "case") then case_of ns
    else (if same_text name (codes "split") then split_of ns
    else (if same_text name (codes "cover") then cover_of ns
    else (if same_text name (codes "balance") then balance_of ns else None)))

abbrev pub line_of_numbers : List ℕ → List ℕ → Option TextLine
line_of_numbers name ns =
    if same_text name (codes "m") then multiplier_of ns
    else (if same_text name (codes "p") then move_of ns else node_line_of name ns)

abbrev pub line_of_words : List (List ℕ) → Option TextLine
line_of_words [] = None
line_of_words (name ∷ ws) = option_and_then (line_of_numbers name) (numbers_of_words ws)

-- ---- which line may follow

abbrev pub is_smaller : List ℕ → List ℕ → Bool
is_smaller a b = match_ordering (slice_cmp nat_cmp a b) true false false

-- moves ascend by these, multipliers by those
abbrev pub move_key : Move → List ℕ
move_key move = move.first ∷ move.value ∷ move.second ∷ move.other ∷ []

abbrev pub multiplier_key : Multiplier → List ℕ
multiplier_key x = x.simplex ∷ x.place ∷ x.others

-- whether the last of these, if there is one, is smaller
abbrev pub may_follow : {X : Type 0} → (X → List ℕ) → List X → X → Bool
may_follow key [] next = true
may_follow key (x ∷ []) next = is_smaller (key x) (key next)
may_follow key (x ∷ y ∷ xs) next = may_follow key (y ∷ xs) next

-- a cover with one more move, which has as many sheets
abbrev pub with_move : Move → Node → Option Node
with_move move (case_node simplex) = None
with_move move (split_node simplex) = None
with_move move (cover_node simplex sheets corner moves) =
    if (length move.sheets == sheets) && may_follow move_key moves move
    then Some (cover_node simplex sheets corner (moves ++ move ∷ [])) else None
with_move move (balance_node modulus sum xs) = None

-- a balance with one more multiplier
abbrev pub with_multiplier : Multiplier → Node → Option Node
with_multiplier x (case_node simplex) = None
with_multiplier x (split_node simplex) = None
with_multiplier x (cover_node simplex sheets corner moves) = None
with_multiplier x (balance_node modulus sum xs) =
    if may_follow multiplier_key xs x then Some (balance_node modulus sum (xs ++ x ∷ [])) else None

-- what becomes of the nodes if this becomes of the last
abbrev pub at_last : (Node → Option Node) → List Node → Option (List Node)
at_last change [] = None
at_last change (n ∷ []) = option_map (λ m. m ∷ []) (change n)
at_last change (n ∷ m ∷ ns) = option_map (λ ms. n ∷ ms) (at_last change (m ∷ ns))

-- the nodes with one more line: a new node, or more of the last
abbrev pub with_line : List Node → TextLine → Option (List Node)
with_line nodes (case_at simplex) = Some (nodes ++ case_node simplex ∷ [])
with_line nodes (split_at simplex) = Some (nodes ++ split_node simplex ∷ [])
with_line nodes (cover_at simplex sheets corner) = Some (nodes ++ cover_node simplex sheets corner [] ∷ [])
with_line nodes (move_at move) = at_last (with_move move) nodes
with_line nodes (balance_at modulus sum) = Some (nodes ++ balance_node modulus sum [] ∷ [])
with_line nodes (multiplier_at x) = at_last (with_multiplier x) nodes

-- ---- the reading

-- nothing comes after line k
abbrev pub end_at : ℕ → List Node → List (List ℕ) → Reading (List Node)
end_at k nodes [] = Ok nodes
end_at k nodes (l ∷ ls) = Err (suc k)

-- these nodes and those of the lines from line k up to `end`, the last line
abbrev pub nodes_from : ℕ → List Node → List (List ℕ) → Reading (List Node)
nodes_from k nodes [] = Err k
nodes_from k nodes (l ∷ ls) = elim (same_text l (line (codes "end") [])) [
  | true ↦ end_at k nodes ls
  | false ↦ elim (option_and_then (with_line nodes) (option_and_then line_of_words (words_of l))) [
    | None ↦ Err k
    | Some more ↦ nodes_from (suc k) more ls
  ]
]

abbrev pub obstruction_of : List ℕ → Reading Obstruction
obstruction_of text =
    then_read (fixed_at 1 (line (codes "wfcheck obstruction 1") []) (lines_of text)) λ ls.
    then_read (number_at 2 (codes "processes") ls) λ n.
    then_read (number_at 3 (codes "simplices") n.1) λ k.
    then_read (nodes_from first_line [] k.1) λ nodes.
    Ok (record { processes = n.0; simplices = k.0; nodes = nodes })
