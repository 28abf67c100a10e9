-- How a refusal is printed: its number, its name, and what it carries.
use Rattle.std.specs.Prelude.{ℕ, List, ◌∷◌, ◌++◌, codes, decimal}
use Rattle.wf_task_parse.specs.declared.fault.Key.{Key}
use Rattle.wf_task_parse.specs.declared.fault.Key.TheVariants.{Whole, Version, FirstBlock, Processes, Symmetric, Inputs, Outputs, Delta, Other}
use Rattle.wf_task_parse.specs.declared.fault.TaskLimit.{TaskLimit}
use Rattle.wf_task_parse.specs.declared.fault.TaskLimit.TheVariants as limit
use Rattle.wf_task_parse.specs.declared.fault.TaskFault.{TaskFault}
use Rattle.wf_task_parse.specs.declared.fault.TaskFault.TheVariants as fault

abbrev pub key_text : Key → List ℕ
key_text Whole = codes "whole"
key_text Version = codes "version"
key_text FirstBlock = codes "first_block"
key_text Processes = codes "processes"
key_text Symmetric = codes "symmetric"
key_text Inputs = codes "inputs"
key_text Outputs = codes "outputs"
key_text Delta = codes "delta"
key_text Other = codes "other"

abbrev pub limit_text : TaskLimit → List ℕ
limit_text limit.Vertices = codes "vertices"
limit_text limit.Simplices = codes "simplices"
limit_text limit.Outputs = codes "outputs"
limit_text limit.Tuples = codes "tuples"

-- a name and what follows it, with a space before each
abbrev pub with_word : List ℕ → List ℕ → List ℕ
with_word name word = name ++ 32 ∷ word

abbrev pub with_two : List ℕ → List ℕ → List ℕ → List ℕ
with_two name word other = with_word name word ++ 32 ∷ other

abbrev pub fault_text : TaskFault → List ℕ
fault_text fault.TooLong = codes "1 TooLong"
fault_text fault.NotJson = codes "2 NotJson"
fault_text (fault.Shape key place) = with_two (codes "3 Shape") (key_text key) (decimal place)
fault_text fault.Version = codes "4 Version"
fault_text fault.Processes = codes "5 Processes"
fault_text fault.Value = codes "6 Value"
fault_text fault.Colours = codes "7 Colours"
fault_text (fault.TooMany limit) = with_word (codes "8 TooMany") (limit_text limit)
fault_text (fault.DeltaMissing simplex) = with_word (codes "9 DeltaMissing") (decimal simplex)
fault_text (fault.DeltaTwice simplex) = with_word (codes "10 DeltaTwice") (decimal simplex)
fault_text (fault.DeltaStray place) = with_word (codes "11 DeltaStray") (decimal place)
fault_text (fault.OutLength simplex place) = with_two (codes "12 OutLength") (decimal simplex) (decimal place)
fault_text (fault.OutStray simplex place) = with_two (codes "13 OutStray") (decimal simplex) (decimal place)
fault_text fault.NoInput = codes "14 NoInput"
fault_text fault.OutOfMemory = codes "15 OutOfMemory"
fault_text fault.FirstBlock = codes "18 FirstBlock"
