-- The words of an argument: numbers, values, points, tuples and executions.
use Rattle.std.specs.Prelude.{ℕ, zero, suc, ◌+◌, ◌-◌, ◌==◌, ◌||◌, Bool, true, false, List, [], ◌∷◌, ◌++◌, map, filter, flat_map, length, take, drop, zip, nat_le, Option, Some, None, slice_get, codes, decimal, if◌then◌else◌}
use Rattle.wf_model.specs.Lists.{below}
use Rattle.wf_model.specs.Word.{Word}
use Rattle.wf_model.specs.Simplex.{Simplex}
use Rattle.wf_model.specs.Task.{Task, Tuple}
use Rattle.wf_model.specs.Execution.{Execution, executions}
use Rattle.wf_model.specs.PointsText.{process_text}
use Rattle.wf_model.specs.Problem.{Constraint}
use Rattle.wf_report_explain.specs.declared.words.values.ValueRange.{ValueRange}

-- ---- words

-- the texts of a list's elements, with a text between each two, and another
-- one between the last two
abbrev pub others_text : {X : Type 0} → (X → List ℕ) → List ℕ → List ℕ → List X → List ℕ
others_text text between last [] = []
others_text text between last (x ∷ []) = last ++ text x
others_text text between last (x ∷ y ∷ more) = between ++ (text x ++ others_text text between last (y ∷ more))

abbrev pub list_text : {X : Type 0} → (X → List ℕ) → List ℕ → List ℕ → List X → List ℕ
list_text text between last [] = []
list_text text between last (x ∷ more) = text x ++ others_text text between last more

abbrev pub number_text : ℕ → List ℕ
number_text n = decimal n

-- (0, 1) or (2, 1)
abbrev pub any_text : {X : Type 0} → (X → List ℕ) → List X → List ℕ
any_text text xs = list_text text (codes ", ") (codes " or ") xs

-- (0, 2, 3)
abbrev pub row_text : {X : Type 0} → (X → List ℕ) → List X → List ℕ
row_text text xs = codes "(" ++ (list_text text (codes ", ") (codes ", ") xs ++ codes ")")

-- what stands before the element at a place of a list of this length
abbrev pub separator : List ℕ → List ℕ → ℕ → ℕ → List ℕ
separator between last zero size = []
separator between last (suc n) size = if suc (suc n) == size then last else between

abbrev pub tuple_text : Tuple → List ℕ
tuple_text tuple = row_text number_text tuple

-- 1 round, 2 rounds
abbrev pub counted : ℕ → List ℕ → List ℕ
counted n noun = decimal n ++ (codes " " ++ (noun ++ (if n == 1 then [] else codes "s")))

-- a point by its number
abbrev pub name : ℕ → List ℕ
name v = codes "v" ++ decimal v

-- two spaces, and two more for each supposition
abbrev pub margin : ℕ → List ℕ
margin zero = codes "  "
margin (suc depth) = codes "  " ++ margin depth

-- a line under so many suppositions
abbrev pub indented : ℕ → List ℕ → List ℕ
indented depth text = margin depth ++ (text ++ codes "\n")

-- ---- values

-- how many of these values follow one, each one more than the one before
abbrev pub following : ℕ → List ℕ → ℕ
following a [] = 0
following a (b ∷ bs) = if suc a == b then suc (following b bs) else 0

-- the fewest values that are told as a range
abbrev pub least_range : ℕ
least_range = 5

-- what is told first of a value and those behind it: a range, or the value alone
abbrev pub first_item : ℕ → List ℕ → ValueRange
first_item a later = record { first = a; last = if nat_le least_range (suc (following a later)) then a + following a later else a }

-- how many values an item has behind its first one
abbrev pub others_in : ValueRange → ℕ
others_in item = item.last - item.first

-- the items of a list of values, of which so many are told already
abbrev pub items_from : ℕ → List ℕ → List ValueRange
items_from told [] = []
items_from (suc told) (a ∷ later) = items_from told later
items_from zero (a ∷ later) = first_item a later ∷ items_from (others_in (first_item a later)) later

-- how many values items have
abbrev pub values_in_items : List ValueRange → ℕ
values_in_items [] = 0
values_in_items (item ∷ items) = suc (others_in item + values_in_items items)

-- 3, or 0 to 8
abbrev pub item_text : ValueRange → List ℕ
item_text item = decimal item.first ++ (if item.first == item.last then [] else codes " to " ++ decimal item.last)

-- the most items of a list that are told
abbrev pub most_items : ℕ
most_items = 8

-- the values that are not told, by their number
abbrev pub more_text : ℕ → List ℕ
more_text zero = []
more_text (suc n) = codes " and " ++ (decimal (suc n) ++ codes " more")

-- what stands before the last item, where so many values are not told
abbrev pub before_last : ℕ → List ℕ
before_last zero = codes " or "
before_last (suc n) = codes ", "

-- 0, 2 or 3; 0 to 8, 11 or 13; and of more than eight items 0, 2, 4, 6, 8, 10, 12, 14 and 3 more
abbrev pub values_text : List ℕ → List ℕ
values_text values =
    let items = items_from 0 values in let more = values_in_items (drop most_items items) in
    list_text item_text (codes ", ") (before_last more) (take most_items items) ++ more_text more

-- what stands before the item at a place, where so many values are behind it
abbrev pub before_item : ℕ → ℕ → List ℕ
before_item zero behind = []
before_item (suc place) behind = before_last behind

-- ---- executions

-- a participant, with its input or without: p0=1 or p0, and by ranks #0=1 or #0
abbrev pub participant_text : Bool → Bool → ℕ × ℕ → List ℕ
participant_text ranks true v = process_text ranks v.0 ++ (codes "=" ++ decimal v.1)
participant_text ranks false v = process_text ranks v.0

-- participants by their ranks, from this one on
abbrev pub ranked_from : ℕ → Simplex → Simplex
ranked_from n [] = []
ranked_from n (v ∷ s) = (n, v.1) ∷ ranked_from (suc n) s

-- participants by their numbers, or by their ranks
abbrev pub named : Bool → Simplex → Simplex
named ranks s = if ranks then ranked_from 0 s else s

-- how the participants of an execution are told: who they are, and the text of one in the first
-- round and in later ones
pub record Names : Type 0 where
  pub all : Simplex
  pub first : ℕ × ℕ → List ℕ
  pub later : ℕ × ℕ → List ℕ

-- by their numbers alone
abbrev pub plain_names : Simplex → Names
plain_names s = record { all = s; first = participant_text false false; later = participant_text false false }

-- as the points are, and in the first round with their inputs
abbrev pub argument_names : Bool → Simplex → Names
argument_names ranks s = record { all = named ranks s; first = participant_text ranks true; later = participant_text ranks false }

-- {p0 p2}, and nothing for nobody
abbrev pub block_text : (ℕ × ℕ → List ℕ) → Simplex → List ℕ
block_text text [] = []
block_text text (v ∷ s) = codes "{" ++ (list_text text (codes " ") (codes " ") (v ∷ s) ++ codes "}")

-- those of the participants that are in this block of a word
abbrev pub block_of : Simplex → Word → ℕ → Simplex
block_of all w block = map (λ q. q.1) (filter (λ q. q.0 == block) (zip w all))

-- the blocks in order, as {p1}{p0 p2}
abbrev pub word_text : (ℕ × ℕ → List ℕ) → Simplex → Word → List ℕ
word_text text all w = flat_map (λ block. block_text text (block_of all w block)) (below (length all))

-- a word a round; before the first round those who take part
abbrev pub words_text : Names → List Word → List ℕ
words_text names [] = block_text names.first names.all
words_text names (w ∷ ws) =
    word_text names.first names.all w ++ others_text (word_text names.later names.all) (codes " ; ") (codes " ; ") ws

abbrev pub execution_text : (Simplex → Names) → Option Execution → List ℕ
execution_text names None = []
execution_text names (Some e) = words_text (names e.rule.input) e.words

-- executions, and whether those who take part go by their ranks
pub record NamedExecutions : Type 0 where
  pub all : List Execution
  pub ranks : Bool

-- those of a task after r rounds: in a symmetric task points are told by ranks, and executions too
abbrev pub named_executions : Task → ℕ → NamedExecutions
named_executions t r = record { all = executions t r; ranks = t.symmetric }

-- the execution of a number
abbrev pub execution_at : NamedExecutions → ℕ → List ℕ
execution_at es e = execution_text (argument_names es.ranks) (slice_get es.all e)

-- ---- what a step says

-- the tuples that an execution would need, of which so many are told one by one
abbrev pub most_told : ℕ
most_told = 8

abbrev pub needed_text : List ℕ → List Tuple → List ℕ
needed_text scope [] = codes "no tuple at " ++ (row_text name scope ++ codes " has it")
needed_text scope (x ∷ xs) =
    row_text name scope ++ (codes " would be "
    ++ (if nat_le (length (x ∷ xs)) most_told then any_text tuple_text (x ∷ xs) else codes "one of " ++ counted (length (x ∷ xs)) (codes "tuple")))

-- the most values that are told because no others are left
abbrev pub most_left : ℕ
most_left = 4

-- whether values are few, or one range
abbrev pub are_short : List ℕ → Bool
are_short [] = false
are_short (a ∷ later) = nat_le (length (a ∷ later)) most_left || (suc (others_in (first_item a later)) == length (a ∷ later))

-- what is said of the values that a step leaves
abbrev pub rest_text : ℕ → List ℕ → List ℕ
rest_text v values = if are_short values then codes " So " ++ (name v ++ (codes " is " ++ (values_text values ++ codes "."))) else []

-- ---- the points of an execution

abbrev pub points_in : Constraint → List ℕ
points_in k = map (λ at. at.1) k.scope
