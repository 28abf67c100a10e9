-- The text that names a program.
use Rattle.std.specs.Prelude.{ℕ, List, [], ◌∷◌, ◌++◌, codes}
use Rattle.wf_cli.specs.declared.words.version.TheConstants.{LOGIC, VERSION}

-- the line that names a program and the logic that proved it
abbrev pub version_line : List ℕ → List ℕ
version_line program = program ++ (codes " " ++ (VERSION.now ++ (codes " (logic " ++ (LOGIC.now ++ (codes ")" ++ 10 ∷ [])))))
