use Rattle.wf_task_parse.proofs.TokensOfValues.{takes-digits}
use Rattle.wf_task_parse.proofs.plain.Tuple2U64U64Plain.plain.Goals as goal

pub returns-in-Some : goal.returns-in-Some
returns-in-Some c =
    let p = c.in-Some.pair in
    let taken = c.in-Some.ensures.taken in
    takes-digits p.0 p.1 taken.0 taken.1 c.args.cursor.now c.next_pair.new.self taken.2
