use Rattle.std.proofs.Common.{sym, ◌∙◌}
use Rattle.std.proofs.lemmas.Bool.{eqb-true}
use Rattle.wf_task_parse.specs.Cursor.{place_of}
use Rattle.wf_task_parse.proofs.CursorLemmas.{at_end}
use Rattle.wf_task_parse.proofs.cursor.Cursor.is_at_end.Goals as goal

pub returns-then-is_empty : goal.returns-then-is_empty
returns-then-is_empty c done =
    sym c.self.view_is ∙ at_end (place_of c.self.inside.place) c.self.inside.rest.now (sym c.may_close.ensures ∙ done) (eqb-true _ 0 (sym c.is_empty.ensures ∙ c.if-is_empty.true))
