use Rattle.std.proofs.Common.{◌∙◌, Err, length, ap, sym, subst}
use Rattle.std.proofs.lemmas.List.{length-map}
use Rattle.wf_tree_check.specs.Judge.{Judges, fault_of}
use Rattle.wf_tree_text.specs.Seen.{nodes_seen, obstruction_seen}
use Rattle.wf_run_verify.specs.Obstructions.{IsRefusalOf, told}
use Rattle.wf_run_verify.proofs.Refusals.{front_settled, refusal_told}
use Rattle.wf_run_verify.proofs.obstruction.judge_obstruction.Goals as goal

pub returns-in-Err : goal.returns-in-Err
returns-in-Err c =
    let t = c.args.task.now in
    let o = obstruction_seen c.args.obstruction.now in
    let e = c.in-Err.fault in
    let processes = c.if-obstruction-from.false ∙ c.from.ensures ∙ c.processes.ensures.processes in
    let inputs = c.simplices.ensures.simplices ∙ c.inputs.ensures.inputs in
    let simplices = c.if-obstruction-simplices.false ∙ ap length inputs ∙ length-map t.delta (λ rule. rule.input) in
    let judged = subst (λ r. Judges r (fault_of t (nodes_seen c.deref.result.now))) c.in-Err.is c.is_obstruction.ensures.judged in
    let of_these = subst (λ ns. Judges (Err e) (fault_of t (nodes_seen ns))) c.deref.ensures.value judged in
    let said = c.with_text.ensures ∙ ap (λ ns. told (nodes_seen ns) e) c.deref-in-Err.ensures.value in
    subst (IsRefusalOf t o) (sym said) (refusal_told t o e (front_settled t o processes simplices) of_these)
