use Rattle.std.proofs.Common.{sym, subst, arith}
use Rattle.std.specs.Fmt.{decimal}
use Rattle.std.proofs.lemmas.Option.{IfSome_then}
use Rattle.serde_json.proofs.Numbers.{number_of-decimal}
use Rattle.wf_task_parse.specs.Shape.{whole_of}
use Rattle.wf_task_parse.specs.Plain.{Takes}
use Rattle.wf_task_parse.proofs.TokensOfValues.{takes-number}
use Rattle.wf_task_parse.proofs.plain.U64Plain.plain.Goals as goal

pub returns : goal.returns
returns c =
    let new = c.next_number.new.self in
    IfSome_then c.next_number.result c.next_number.ensures
    (λ n found. subst (λ ts. Takes whole_of 0 ts n new) (sym found.1) (takes-number (decimal n) n new (number_of-decimal n (omega (arith, found.0)))))
