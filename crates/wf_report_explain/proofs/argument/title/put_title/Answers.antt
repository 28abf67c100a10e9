use Rattle.std.proofs.Common.{◌++◌, codes, string_bytes}
use Rattle.wf_report_explain.specs.Words.Text.{counted}
use Rattle.wf_report_explain.specs.Argument.Used.{usage_of}
use Rattle.wf_complex.proofs.Lemmas.{and_more}
use Rattle.wf_report_explain.proofs.argument.title.put_title.Goals as goal

pub returns : goal.returns
returns c =
    let t0 = string_bytes c.args.text.now in let t1 = string_bytes c.write.new.self in let t2 = string_bytes c.put_count.new.text in
    let t3 = string_bytes c.write-2.new.self in let t4 = string_bytes c.put_count-2.new.text in let t5 = string_bytes c.put_usage.new.text in
    let rounds = counted c.args.rounds (codes "round") in let steps = counted c.args.steps (codes "step") in let usage = usage_of c.args.used c.args.executions in
    and_more t0 t1 t5 (codes "No decision map after ") (rounds ++ (codes ": " ++ (steps ++ usage))) c.in_ok-write.ensures.bytes
    (and_more t1 t2 t5 rounds (codes ": " ++ (steps ++ usage)) c.in_ok-put_count.ensures
    (and_more t2 t3 t5 (codes ": ") (steps ++ usage) c.in_ok-write-2.ensures.bytes (and_more t3 t4 t5 steps usage c.in_ok-put_count-2.ensures c.in_ok-put_usage.ensures)))
