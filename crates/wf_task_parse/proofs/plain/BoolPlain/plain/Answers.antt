use Rattle.std.proofs.Common.{sym, subst}
use Rattle.std.proofs.lemmas.Option.{IfSome_then}
use Rattle.serde_json.specs.Find.{as_bool}
use Rattle.wf_task_parse.specs.Plain.{Takes}
use Rattle.wf_task_parse.proofs.TokensOfValues.{takes-bool}
use Rattle.wf_task_parse.proofs.plain.BoolPlain.plain.Goals as goal

pub returns : goal.returns
returns c =
    let new = c.next_bool.new.self in
    IfSome_then c.next_bool.result c.next_bool.ensures (λ b found. subst (λ ts. Takes as_bool 0 ts b new) (sym found) (takes-bool b new))
