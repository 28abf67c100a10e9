-- Which form of a report the flags of the command line ask for.
use Rattle.std.specs.Prelude.{Bool, true, false, Option, None, Some}
use Rattle.wf_base.specs.declared.lines.form.Form.{Form}
use Rattle.wf_base.specs.declared.lines.form.Form.TheVariants.{Full, Verdict, Least}

-- by `--verdict` and `--least`; a verdict has no lines, so there is no form with both
abbrev pub form_asked : Bool → Bool → Option Form
form_asked false false = Some Full
form_asked true false = Some Verdict
form_asked false true = Some Least
form_asked true true = None
