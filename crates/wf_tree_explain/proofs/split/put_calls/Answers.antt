use Rattle.std.proofs.Common.{◌++◌, ℕ, List, codes, string_bytes, sym, ap, ◌∙◌}
use Rattle.std.specs.Prelude.{if◌then◌else◌}
use Rattle.wf_tree_explain.specs.Calls.{calls_seen, splitting_of}
use Rattle.wf_tree_explain.specs.Lists.{list_text}
use Rattle.wf_tree_explain.specs.Words.{call_text, next_line}
use Rattle.wf_tree_explain.proofs.Pieces.{adds, plus}
use Rattle.wf_tree_explain.proofs.Renaming.{some_call}
use Rattle.wf_tree_explain.proofs.split.put_calls.Goals as goal

pub returns : goal.returns
returns c =
    let calls = calls_seen c.args.calls.now in
    let line : ℕ × ℕ → List ℕ = λ call. next_line c.args.depth (call_text (splitting_of c.args.renamed.now) call) in
    let all = list_text line (codes ",") (codes ",") calls in
    let t = string_bytes c.args.text.now in
    let t1 = string_bytes c.write.new.self in
    let t2 = string_bytes c.put_each_call.new.text in
    let front = codes " and its faces a value has a name of its own for each part of what is decided beside it:" in
    (plus (adds t t1 front c.in_ok-write.ensures.bytes) (plus (adds t1 t2 all c.in_ok-put_each_call.ensures) (adds t2 (string_bytes c.writeln-2.new.self) (codes ".\n") c.in_ok-writeln-2.ensures.bytes))).is
    ∙ ap (λ b. t ++ (if b then front ++ (all ++ codes ".\n") else codes " no value is taken apart.\n")) (sym (some_call c.args.calls.now c.is_empty.result c.is_empty.ensures c.if-is_empty.false))
