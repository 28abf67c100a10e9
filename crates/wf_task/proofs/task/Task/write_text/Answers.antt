use Rattle.std.proofs.Common.{◌≡◌, ◌≤◌, Some, Ok, string_bytes, vec_items, ap, sym, ◌∙◌, subst}
use Rattle.std.proofs.lemmas.Str.{IsUtf8-string_bytes}
use Rattle.serde_json.specs.Data.{depth}
use Rattle.serde_json.specs.Read.{max_depth}
use Rattle.wf_task.specs.Judge.{task_of_text}
use Rattle.wf_task.proofs.ReadBack.{value-shallow, text-back, whole-text}
use Rattle.wf_task.proofs.task.Task.write_text.Goals as goal

pub returns-clause-reads_back : goal.returns-clause-reads_back
returns-clause-reads_back c =
    let task = c.args.self.now in
    let listable = c.in_ok-value.ensures.listable in
    let is = c.in_ok-value.ensures.value in
    let text = c.in_ok-text.text in
    let written = c.in_ok-text.ensures in
    subst (λ bytes. task_of_text bytes ≡ Ok task) (sym (ap vec_items c.into_bytes.ensures.value))
    (text-back task listable (string_bytes text) (whole-text task is written.text) (IsUtf8-string_bytes text)
    (written.reads_back (subst (λ d. depth d ≤ max_depth) (sym is) (value-shallow task listable)) ∙ ap Some is))
