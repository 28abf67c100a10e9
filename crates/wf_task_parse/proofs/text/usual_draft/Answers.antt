use Rattle.std.proofs.Common.{◌≡◌, [], subst, arith}
use Rattle.std.specs.Result.{result_ok}
use Rattle.std.proofs.lemmas.Option.{IfSome_then}
use Rattle.wf_task_parse.specs.RawTask.{draft_of}
use Rattle.wf_task_parse.specs.DraftSeen.{draft_seen}
use Rattle.wf_task_parse.specs.Plain.{Takes}
use Rattle.wf_task_parse.proofs.Texts.{draft_of_tokens}
use Rattle.wf_task_parse.proofs.text.usual_draft.Goals as goal

pub returns : goal.returns
returns c =
    let cursor = c.new-cursor.result in
    let ended : c.plain_draft.new.cursor ≡ [] = grind arith in
    IfSome_then c.in_ok-found.found c.in_ok-found.ensures (λ draft read.
    draft_of_tokens c.args.bytes.now (draft_seen draft) c.in-Ok.ensures.1
    (subst (λ ts. Takes (λ d. result_ok (draft_of d)) 5 ts (draft_seen draft) []) c.new-cursor.ensures
    (subst (λ ts. Takes (λ d. result_ok (draft_of d)) 5 cursor (draft_seen draft) ts) ended read)))
