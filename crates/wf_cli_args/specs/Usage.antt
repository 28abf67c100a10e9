-- What is said beside words that are not taken: the usual line of the command that they name, or
-- what a command is called that is another program.
use Rattle.std.specs.Prelude.{List, [], ◌∷◌, Option, Some, None, codes, find, option_map}
use Rattle.std.specs.Str.{bytes_eq}
use Rattle.clap.specs.Words.{Text}

-- the commands that read a task from standard input
abbrev pub task_lines : List (Text × Text)
task_lines = (codes "solve", codes "the task is read from standard input, as in `wfcheck solve --rounds 1 --workers 1 < FILE`; `wfcheck-ask FILE 1` asks SAT solvers too")
    ∷ (codes "views", codes "the task is read from standard input, as in `wfcheck views --rounds 1 < FILE`")
    ∷ (codes "points", codes "the task is read from standard input, as in `wfcheck points --rounds 1 < FILE`")
    ∷ (codes "branches", codes "the task is read from standard input, as in `wfcheck branches --rounds 1 < FILE`")
    ∷ (codes "cnf", codes "the task is read from standard input, as in `wfcheck cnf --rounds 1 < FILE`")
    ∷ (codes "executions", codes "the task is read from standard input, as in `wfcheck executions --rounds 1 < FILE`")
    ∷ (codes "obstruction", codes "the task is read from standard input, as in `wfcheck obstruction < FILE`") ∷ []

-- the commands that read the task from its file
abbrev pub task_file_usages : List (Text × Text)
task_file_usages =
    (codes "verify", codes "the report is read from standard input and the task from its file, as in `wfcheck verify --task FILE < REPORT`")
    ∷ (codes "join", codes "the parts are read from standard input and the task from its file, as in `wfcheck join --task FILE --rounds 1 < PARTS`")
    ∷ (codes "model", codes "the model is read from standard input and the task from its file, as in `wfcheck model --task FILE --rounds 1 < MODEL`")
    ∷ (codes "proof", codes "the proof is read from standard input and the task from its file, as in `wfcheck proof --task FILE --rounds 1 < PROOF`")
    ∷ (codes "trim", codes "the report is read from standard input and the task from its file, as in `wfcheck trim --task FILE < REPORT`")
    ∷ (codes "explain", codes "the report is read from standard input and the task from its file, as in `wfcheck explain --task FILE < REPORT`")
    ∷ (codes "lift", codes "the report is read from standard input and the task from its file, as in `wfcheck lift --task FILE < REPORT`") ∷ []

-- a command that reads nothing, and those that are programs of their own
abbrev pub other_lines : List (Text × Text)
other_lines = (codes "preset", codes "nothing is read, as in `wfcheck preset renaming --processes 3 --names 5 > FILE`")
    ∷ (codes "ask", codes "`wfcheck-ask FILE ROUNDS` is a command of its own, which `make install` installs; in the repository it is tools/ask")
    ∷ (codes "lint", codes "`wfcheck-lint FILE` is a command of its own, which `make install` installs; in the repository it is tools/lint.py")
    ∷ (codes "task", codes "`wfcheck-task NAME` is a command of its own, which `make install` installs; in the repository it is tools/tasks.py")
    ∷ (codes "draw", codes "`wfcheck-draw` is a command of its own, which `make install` installs")
    ∷ (codes "names", codes "`wfcheck-names` is a command of its own, which `make install` installs")
    ∷ (codes "rules", codes "`wfcheck-rules` is a command of its own, which `make install` installs") ∷ []

-- beside any other word, or none
abbrev pub first_line : Text
first_line = codes "the first word is a command, as in `wfcheck solve --rounds 1 --workers 1 < FILE`"

abbrev pub line_in : List (Text × Text) → Text → Option Text
line_in lines name = option_map (λ entry. entry.1) (find (λ entry. bytes_eq name entry.0) lines)

abbrev pub or_line : Option Text → Text → Text
or_line (Some line) other = line
or_line None other = other

abbrev pub line_of : Text → Text
line_of name = or_line (line_in task_lines name) (or_line (line_in task_file_usages name) (or_line (line_in other_lines name) first_line))

-- by the words, of which the first is the program's own name
abbrev pub usage_of : List Text → Text
usage_of (program ∷ name ∷ rest) = line_of name
usage_of words = first_line
