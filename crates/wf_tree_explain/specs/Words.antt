-- Why a task has no decision map after any number of rounds: a tree in words, for people.
use Rattle.std.specs.Prelude.{ℕ, zero, suc, min, ◌-◌, ◌+◌, ◌==◌, nat_le, nat_lt, Bool, false, List, [], ◌∷◌, ◌++◌, filter, flat_map, map, take, length, slice_index, None, Some, codes, decimal, if◌then◌else◌}
use Rattle.std.specs.List.{list_any, remove}
use Rattle.std.specs.declared.cmp.Ordering.{Ordering}
use Rattle.std.specs.Ordering.{ordering_then, nat_cmp}
use Rattle.std.specs.Cmp.Lexicographic.{slice_cmp}
use Rattle.wf_model.specs.Lists.{below, in_order}
use Rattle.wf_model.specs.Simplex.{Simplex, Vertex, is_nonempty, processes_of}
use Rattle.wf_model.specs.Task.{Task, Tuple}
use Rattle.wf_model.specs.PointsText.{process_text}
use Rattle.wf_tree_model.specs.Counting.Rules.{rule_at}
use Rattle.wf_tree_model.specs.Balance.{Multiplier, input_of}
use Rattle.wf_tree_model.specs.Cases.{components, in_case}
use Rattle.wf_tree_model.specs.Covers.{covered}
use Rattle.wf_tree_model.specs.Splits.{Splitting, by_stars, split, value_of_part}
use Rattle.wf_tree_model.specs.Trees.{Move, Node, balance_node, by_sheets, case_node, cover_node, largest, new_name, split_node}
use Rattle.wf_tree_refine.specs.Limits.{split_fault}
use Rattle.wf_tree_steps.specs.Cover.Faults.{cover_fault}
use Rattle.wf_tree_steps.specs.Cover.Limits.{sheets_fault}
use Rattle.wf_tree_explain.specs.Lists.{list_text, lines_of}

-- ---- values, tuples and participants

-- 0 2 1
abbrev pub values_text : Tuple → List ℕ
values_text tuple = list_text decimal (codes " ") (codes " ") tuple

-- the tuples that are told one by one
abbrev pub most_told : ℕ
most_told = 24

-- 0 1, 1 0 or 1 2
abbrev pub tuples_text : {X : Type 0} → (X → List ℕ) → List X → List ℕ
tuples_text text xs =
    if nat_le (length xs) most_told
    then list_text text (codes ", ") (codes " or ") xs
    else list_text text (codes ", ") (codes ", ") (take most_told xs)
    ++ (codes ", or one of " ++ (decimal (length xs - most_told) ++ codes " more"))

-- p0=1
abbrev pub vertex_text : Vertex → List ℕ
vertex_text v = process_text false v.0 ++ (codes "=" ++ decimal v.1)

-- {p0=1, p2=0}
abbrev pub simplex_text : Simplex → List ℕ
simplex_text s = codes "{" ++ (list_text vertex_text (codes ", ") (codes ", ") s ++ codes "}")

-- p0 and p2
abbrev pub deciders_text : Simplex → List ℕ
deciders_text s = list_text (λ v. process_text false v.0) (codes ", ") (codes " and ") s

-- ---- lines

abbrev pub spaces : ℕ → List ℕ
spaces zero = []
spaces (suc n) = codes "  " ++ spaces n

-- two spaces for each case above, up to twelve cases
abbrev pub indent_text : ℕ → List ℕ
indent_text depth = spaces (min depth 12)

-- a line behind another one, with two spaces more
abbrev pub next_line : ℕ → List ℕ → List ℕ
next_line depth text = codes "\n" ++ (indent_text depth ++ (codes "  " ++ text))

-- ---- balances

-- by simplex, then by place, by weight and by values
abbrev pub multiplier_cmp : Multiplier → Multiplier → Ordering
multiplier_cmp x y =
    ordering_then (ordering_then (ordering_then (nat_cmp x.simplex y.simplex) (nat_cmp x.place y.place)) (nat_cmp x.weight y.weight)) (slice_cmp nat_cmp x.others y.others)

abbrev pub no_multiplier : Multiplier
no_multiplier = record { simplex = 0; place = 0; others = []; weight = 0 }

abbrev pub first_of : List Multiplier → Multiplier
first_of [] = no_multiplier
first_of (x ∷ xs) = x

-- how often an equation counts, if it counts more than once
abbrev pub times_text : ℕ → List ℕ
times_text weight = if nat_lt 1 weight then codes ", " ++ (decimal weight ++ codes " times") else []

abbrev pub verb_text : ℕ → List ℕ
verb_text deciders = if deciders == 1 then codes " decides " else codes " decide "

-- on a simplex these decide as often with the participant that the face leaves out as without it
abbrev pub sides_text : Simplex → Simplex → List Multiplier → List ℕ
sides_text s face xs =
    deciders_text face ++ (verb_text (length face) ++ (tuples_text (λ x. values_text x.others) xs ++ (codes " as often on " ++ (simplex_text s ++ (codes " as on " ++ simplex_text face)))))

-- alone a process has one execution
abbrev pub equation_text : Simplex → Simplex → List Multiplier → List ℕ
equation_text s face xs = if is_nonempty face then sides_text s face xs else simplex_text s ++ codes " has one execution"

-- the equations of one simplex, place and weight
abbrev pub equations_text : Task → List Multiplier → List ℕ
equations_text t xs =
    let x = first_of xs in
    equation_text (input_of t x) (remove (input_of t x) x.place) xs ++ times_text x.weight

-- modulo 2 an execution counts the same with either sign
abbrev pub signed_text : ℕ → List ℕ
signed_text modulus = if nat_lt 2 modulus then codes " with their signs" else []

abbrev pub count_text : ℕ → List ℕ
count_text modulus = codes "Count executions" ++ (signed_text modulus ++ (codes " modulo " ++ (decimal modulus ++ codes ":")))

abbrev pub lines_text : Task → ℕ → List Multiplier → List ℕ
lines_text t depth xs = list_text (λ line. next_line depth (equations_text t line)) (codes ",") (codes ",") (lines_of xs)

abbrev pub sum_text : ℕ → ℕ → List ℕ
sum_text modulus sum =
    codes "Add these equations up. Each tuple that is allowed counts as often on the left as on the right modulo "
    ++ (decimal modulus
    ++ (codes ", but the single executions add "
    ++ (decimal sum
    ++ (codes " on the right. So 0 would be " ++ (decimal sum ++ (codes " modulo " ++ (decimal modulus ++ codes ".\n")))))))

abbrev pub balance_text : Task → ℕ → ℕ → ℕ → List Multiplier → List ℕ
balance_text t depth modulus sum xs =
    indent_text depth
    ++ (count_text modulus ++ (lines_text t depth (in_order multiplier_cmp xs) ++ (codes ".\n" ++ (indent_text depth ++ sum_text modulus sum))))

-- ---- cases

-- alone a process decides a value, and several decide tuples that hang together
abbrev pub parts_text : Simplex → ℕ → List ℕ
parts_text s count =
    if length s == 1
    then codes " there is one execution, which decides one of " ++ (decimal count ++ codes " values.\n")
    else codes " all executions decide tuples of one part of "
    ++ (decimal count ++ codes ": they are joined by changes of a single view.\n")

abbrev pub case_text : ℕ → Simplex → ℕ → List ℕ
case_text depth s count = indent_text depth ++ (codes "On " ++ (simplex_text s ++ parts_text s count))

-- the part of this number, from 0 on
abbrev pub part_text : ℕ → ℕ → List Tuple → List ℕ
part_text depth number tuples =
    indent_text depth ++ (codes "Part " ++ (decimal (number + 1) ++ (codes ": " ++ (tuples_text values_text tuples ++ codes ".\n"))))

-- ---- splits

-- the names at a place, from this new one on
abbrev pub new_names : Splitting → ℕ → ℕ → List ℕ
new_names s new place = map (λ k. new + k) (below (suc (largest (map (s.name place) s.rule.tuples)) - new))

-- the new names of all places, each with its place
abbrev pub calls_of : Splitting → ℕ → List (ℕ × ℕ)
calls_of s new = flat_map (λ place. map (λ name. (place, name)) (new_names s new place)) (below (length s.rule.input))

-- the tuples in which this name stands at the place
abbrev pub called : Splitting → ℕ → ℕ → List Tuple
called s place name = filter (λ tuple. s.name place tuple == name) s.rule.tuples

-- 1 of p0 is called 3 in
abbrev pub named_text : ℕ → ℕ → ℕ → List ℕ
named_text value process name =
    decimal value ++ (codes " of " ++ (process_text false process ++ (codes " is called " ++ (decimal name ++ codes " in "))))

-- 1 of p0 is called 3 in 1 1 1
abbrev pub call_text : Splitting → ℕ × ℕ → List ℕ
call_text s call =
    let tuples = called s call.0 call.1 in
    named_text (value_of_part call.0 tuples) (slice_index (processes_of s.rule.input) call.0) call.1 ++ tuples_text values_text tuples

abbrev pub calls_text : ℕ → Splitting → List (ℕ × ℕ) → List ℕ
calls_text depth s calls =
    if is_nonempty calls
    then codes " and its faces a value has a name of its own for each part of what is decided beside it:"
    ++ (list_text (λ call. next_line depth (call_text s call)) (codes ",") (codes ",") calls ++ codes ".\n")
    else codes " no value is taken apart.\n"

abbrev pub split_text : ℕ → Splitting → ℕ → List ℕ
split_text depth s new = indent_text depth ++ (codes "On " ++ (simplex_text s.rule.input ++ calls_text depth s (calls_of s new)))

-- ---- covers

-- the process at a place, if there is one
abbrev pub at_text : Simplex → ℕ → List ℕ
at_text s place = if nat_lt place (length s) then process_text false (slice_index (processes_of s) place) else codes "nobody"

abbrev pub sheets_text : List ℕ → List ℕ
sheets_text sheets = list_text decimal (codes ", ") (codes " and ") sheets

-- from 1 of
abbrev pub value_text : List ℕ → ℕ → List ℕ
value_text front value = front ++ (decimal value ++ codes " of ")

-- from 1 of p0 to 2 of p1 the sheets 0 and 1 go to 1 and 0
abbrev pub move_text : Simplex → Move → List ℕ
move_text s move =
    value_text (codes "from ") move.value
    ++ (at_text s move.first
    ++ (value_text (codes " to ") move.other
    ++ (at_text s move.second ++ (codes " the sheets " ++ (sheets_text (below (length move.sheets)) ++ (codes " go to " ++ sheets_text move.sheets))))))

abbrev pub moves_text : ℕ → Simplex → List Move → List ℕ
moves_text depth s moves =
    if is_nonempty moves
    then codes ", but" ++ (list_text (λ move. next_line depth (move_text s move)) (codes ",") (codes ",") moves ++ codes ".\n")
    else codes ".\n"

abbrev pub lying_text : ℕ → List ℕ
lying_text sheets = codes " and its faces values lie on sheets 0 to " ++ (decimal (sheets - 1) ++ codes ", and ")

-- new names begin with this one
abbrev pub naming_text : ℕ → List ℕ
naming_text new =
    codes " alone is on sheet 0. Value V on sheet S is called V + S * "
    ++ (decimal new ++ codes ". Values of one execution lie on one sheet")

abbrev pub cover_text : ℕ → Simplex → ℕ → ℕ → ℕ → List Move → List ℕ
cover_text depth s new sheets corner moves =
    indent_text depth ++ (codes "On " ++ (simplex_text s ++ (lying_text sheets ++ (at_text s corner ++ (naming_text new ++ moves_text depth s moves)))))

-- ---- trees

-- a text, and the nodes behind those that it tells
abbrev pub Told : Type 0
Told = List ℕ × List Node

abbrev pub behind : List ℕ → Told → Told
behind text told = (text ++ told.0, told.1)

-- the same of each of these in turn, numbered from here on
abbrev pub each_told : (ℕ → List Tuple → List Node → Told) → ℕ → List (List Tuple) → List Node → Told
each_told one number [] nodes = ([], nodes)
each_told one number (part ∷ parts) nodes = behind (one number part nodes).0 (each_told one (suc number) parts (one number part nodes).1)

-- A tree of the task at hand that begins with the first of these nodes, below so many cases. So
-- many nodes with others below them are told above one another. Of a node without a tree nothing
-- is told.
abbrev pub told : ℕ → Task → ℕ → List Node → Told
told levels t depth [] = ([], [])
told levels t depth (balance_node modulus sum xs ∷ nodes) = (balance_text t depth modulus sum xs, nodes)
told zero t depth (case_node simplex ∷ nodes) = ([], nodes)
told zero t depth (split_node simplex ∷ nodes) = ([], nodes)
told zero t depth (cover_node simplex sheets corner moves ∷ nodes) = ([], nodes)
told (suc levels) t depth (case_node simplex ∷ nodes) =
    let of = rule_at t simplex in
    if nat_lt simplex (length t.delta)
    then behind (case_text depth of.input (length (components of)))
    (each_told (λ number part more. behind (part_text depth number (rule_at (in_case of part t) simplex).tuples) (told levels (in_case of part t) (suc depth) more)) 0 (components of) nodes)
    else ([], nodes)
told (suc levels) t depth (split_node simplex ∷ nodes) =
    let s = by_stars (rule_at t simplex) (new_name t) in
    if nat_lt simplex (length t.delta)
    then elim (split_fault s t) [ Some fault ↦ ([], nodes) | None ↦ behind (split_text depth s (new_name t)) (told levels (split s t) depth nodes) ]
    else ([], nodes)
told (suc levels) t depth (cover_node simplex sheets corner moves ∷ nodes) =
    let c = by_sheets t (rule_at t simplex) sheets corner moves in
    if nat_lt simplex (length t.delta)
    then elim (cover_fault c) [
      | Some fault ↦ ([], nodes)
      | None ↦ elim (sheets_fault c t) [
        | Some fault ↦ ([], nodes)
        | None ↦ behind (cover_text depth (rule_at t simplex).input (new_name t) sheets corner moves) (told levels (covered c t) depth nodes)
      ]
    ]
    else ([], nodes)

-- ---- the whole

-- so many nodes with others below them are told above one another
abbrev pub most_levels : ℕ
most_levels = 64

-- what a simplex and a point are in a symmetric task
abbrev pub symmetric_text : Bool → List ℕ
symmetric_text symmetric =
    if symmetric
    then codes " The task is symmetric, so this is about comparison-based protocols: a simplex stands for all with the same inputs in the order of their processes, and points are views up to the names of the processes."
    else []

-- modulo 2 signs make no difference
abbrev pub is_signed : Node → Bool
is_signed (balance_node modulus sum xs) = nat_lt 2 modulus
is_signed node = false

abbrev pub signs_text : List Node → List ℕ
signs_text nodes =
    if list_any is_signed nodes
    then codes "An execution of n processes after r rounds counts with a minus sign if n * r and the number of blocks in its words differ by an odd number.\n"
    else []

abbrev pub title_text : List ℕ
title_text = codes "No decision map after any number of rounds.\n\nSuppose that there is a decision map."

abbrev pub argument_text : Task → List Node → List ℕ
argument_text t nodes = title_text ++ (symmetric_text t.symmetric ++ (codes "\n" ++ ((told most_levels t 0 nodes).0 ++ signs_text nodes)))
