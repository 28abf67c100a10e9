-- The steps of lines, the words of a line, and the removal of three words.
use Rattle.std.specs.Prelude.{ℕ, ◌==◌, List, [], ◌∷◌, Option, option_map, option_and_then, if◌then◌else◌}
use Rattle.wf_model.specs.Refutation.{Line, remove}
use Rattle.wf_model.specs.Limits.{most_number, most_value}
use Rattle.wf_model.specs.Report.{any_step, no_step, number_upto, onto_first, step_of_none}
use Rattle.wf_report.specs.declared.reading.Section.{Section}
use Rattle.wf_report.specs.declared.reading.Section.TheVariants.{Values, Refutation, Search}

-- the step of a line in this part of a report
abbrev pub step_in : Section → List ℕ → Option Line
step_in Values = no_step
step_in Refutation = step_of_none
step_in Search = any_step

-- the removal of three words
abbrev pub removal_of : List ℕ → List ℕ → List ℕ → Option Line
removal_of e c a = option_and_then (λ x. option_and_then (λ y. option_map (λ z. remove x y z) (number_upto most_value a)) (number_upto 3 c)) (number_upto most_number e)

-- the words of a line, parted by spaces
abbrev pub words : List ℕ → List (List ℕ)
words [] = [] ∷ []
words (b ∷ bs) = if b == 32 then [] ∷ words bs else onto_first b (words bs)
