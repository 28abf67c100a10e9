-- Worked examples, by computation.
use Rattle.std.specs.Prelude.{◌≡◌, true, false, [], ◌∷◌, replicate, codes, refl}
use Rattle.std.specs.Fmt.{digits}
use Rattle.wf_model.specs.ExampleTasks.{consensus, renaming_2_2}
use Rattle.wf_report_explain.specs.Words.Listing.{executions_text}
use Rattle.wf_report_explain.specs.Words.Summary.{about_text}
use Rattle.wf_report_explain.specs.Words.Text.{argument_names, needed_text, plain_names, rest_text, values_text, words_text}

pub values_in_words : values_text (0 ∷ 2 ∷ 13 ∷ []) ≡ codes "0, 2 or 13"
unfolding digits
values_in_words = refl

-- five values that follow each other are a range, four are none
pub values_in_ranges : values_text (0 ∷ 1 ∷ 2 ∷ 3 ∷ 4 ∷ 6 ∷ 7 ∷ 8 ∷ 9 ∷ []) ≡ codes "0 to 4, 6, 7, 8 or 9"
unfolding digits
values_in_ranges = refl

pub more_values_than_are_told : values_text (0 ∷ 2 ∷ 4 ∷ 6 ∷ 8 ∷ 10 ∷ 12 ∷ 14 ∷ 16 ∷ 20 ∷ 21 ∷ 22 ∷ 23 ∷ 24 ∷ [])
    ≡ codes "0, 2, 4, 6, 8, 10, 12, 14 and 6 more"
unfolding digits
more_values_than_are_told = refl

-- what is left is told if it is at most four values, or one range
pub few_values_left : rest_text 7 (1 ∷ 3 ∷ []) ≡ codes " So v7 is 1 or 3."
unfolding digits
few_values_left = refl

pub one_range_left : rest_text 7 (1 ∷ 2 ∷ 3 ∷ 4 ∷ 5 ∷ []) ≡ codes " So v7 is 1 to 5."
unfolding digits
one_range_left = refl

pub many_values_left : rest_text 7 (1 ∷ 2 ∷ 3 ∷ 4 ∷ 6 ∷ []) ≡ []
many_values_left = refl

pub words_of_two_rounds : words_text (plain_names ((0, 1) ∷ (1, 0) ∷ (3, 1) ∷ [])) ((1 ∷ 0 ∷ 1 ∷ []) ∷ (0 ∷ 0 ∷ 0 ∷ []) ∷ [])
    ≡ codes "{p1}{p0 p3} ; {p0 p1 p3}"
unfolding digits
words_of_two_rounds = refl

-- an argument shows the inputs in the first round, and in a symmetric task the ranks
pub words_with_inputs : words_text (argument_names false ((0, 1) ∷ (1, 0) ∷ (3, 1) ∷ [])) ((1 ∷ 0 ∷ 1 ∷ []) ∷ (0 ∷ 0 ∷ 0 ∷ []) ∷ [])
    ≡ codes "{p1=0}{p0=1 p3=1} ; {p0 p1 p3}"
unfolding digits
words_with_inputs = refl

pub words_with_ranks : words_text (argument_names true ((0, 1) ∷ (1, 0) ∷ (3, 1) ∷ [])) ((1 ∷ 0 ∷ 1 ∷ []) ∷ []) ≡ codes "{#1=0}{#0=1 #2=1}"
unfolding digits
words_with_ranks = refl

pub those_who_take_part : words_text (plain_names ((0, 1) ∷ (1, 0) ∷ [])) [] ≡ codes "{p0 p1}"
unfolding digits
those_who_take_part = refl

pub what_would_be_needed : needed_text (4 ∷ 7 ∷ []) ((0 ∷ 1 ∷ []) ∷ (2 ∷ 1 ∷ []) ∷ []) ≡ codes "(v4, v7) would be (0, 1) or (2, 1)"
unfolding digits
what_would_be_needed = refl

pub more_tuples_than_are_told : needed_text (4 ∷ []) (replicate 9 (0 ∷ [])) ≡ codes "(v4) would be one of 9 tuples"
unfolding digits
more_tuples_than_are_told = refl

-- the executions of consensus after one round, and those of a symmetric task,
-- in which one point stands at two places
pub executions_of_consensus : executions_text consensus 1
    ≡ codes "0 {p0} : 0\n1 {p1} : 1\n2 {p0 p1} : 2 3\n3 {p0}{p1} : 0 3\n4 {p1}{p0} : 2 1\n"
unfolding digits
executions_of_consensus = refl

pub executions_of_renaming : executions_text renaming_2_2 1
    ≡ codes "0 {p0} : 0\n1 {p1} : 0\n2 {p0 p1} : 1 2\n3 {p0}{p1} : 0 2\n4 {p1}{p0} : 1 0\n"
unfolding digits
executions_of_renaming = refl

-- the processes of executions by their numbers, and in a symmetric task how many there are at most
pub about_processes : about_text false (0 ∷ 1 ∷ 3 ∷ []) (record { size = 1; count = 2 } ∷ record { size = 3; count = 12 } ∷ [])
    ≡ codes " of p0, p1 and p3: 2 of one process, 12 of three processes"
unfolding digits
about_processes = refl

pub about_ranks : about_text true (0 ∷ 1 ∷ []) (record { size = 2; count = 1 } ∷ []) ≡ codes " of at most two processes: 1 of two processes"
unfolding digits
about_ranks = refl
