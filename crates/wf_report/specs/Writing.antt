-- The text of a report up to its lines.
use Rattle.std.specs.Prelude.{◌≡◌, ℕ, List, [], ◌++◌, flat_map, codes}
use Rattle.wf_model.specs.Report.{Report, body_lines, line, line_text, report_text}

-- what a report's text begins with: with its lines behind, and the end, it is the whole text
abbrev pub IsBeginning : Report → List ℕ → Type 0
IsBeginning r text = text ++ (flat_map line_text (body_lines r.body) ++ line (codes "end") []) ≡ report_text r
