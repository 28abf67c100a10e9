-- The lines of the code and those of the definitions.
use Rattle.wf_model.specs.Refutation as refutation
use Rattle.wf_base.specs.declared.lines.line.Line.{Line}
use Rattle.wf_base.specs.declared.lines.line.Line.TheVariants as line

abbrev pub line_of : Line → refutation.Line
line_of (line.Remove c a e) = refutation.remove e c a
line_of (line.Empty v) = refutation.empty v
line_of (line.Branch v) = refutation.branch v
line_of line.Found = refutation.found
