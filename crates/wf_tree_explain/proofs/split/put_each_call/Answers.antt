use Rattle.std.proofs.Common.{◌≡◌, ◌++◌, codes, get_or, string_bytes, arith, refl, ℕ}
use Rattle.std.proofs.lemmas.List.{length-map}
use Rattle.wf_tree_explain.specs.Calls.{call_seen, calls_seen, splitting_of}
use Rattle.wf_tree_explain.specs.declared.split.Call as code_call
use Rattle.wf_tree_explain.specs.Words.{call_text, next_line}
use Rattle.wf_tree_explain.proofs.ListsInWords.{all_added, line_at, none_left, two_added}
use Rattle.wf_tree_explain.proofs.split.put_each_call.Goals as goal

pub calls-preserved : goal.calls-preserved
calls-preserved c =
    let none : code_call.Call = record { place = 0; name = 0 } in
    let call = get_or c.args.calls.now c.calls.number none in
    let s = splitting_of c.args.renamed.now in
    let t1 = string_bytes c.put_start.new.text in
    two_added (string_bytes c.calls.text) t1 (string_bytes c.put_call.new.text) _ _ _ _ _ c.in_ok-put_start.ensures
    (let told : string_bytes c.put_call.new.text ≡ t1 ++ call_text s (call_seen call) = c.in_ok-put_call.ensures in told)
    (line_at c.args.depth (call_text s) call_seen c.args.calls.now c.calls.number call none c.calls-test.true refl) c.calls.invariant

pub returns : goal.returns
returns c =
    let long = length-map c.args.calls.now call_seen in
    let high = c.calls-test.false in
    all_added (string_bytes c.calls.text) _ _ (none_left (λ (call : ℕ × ℕ). next_line c.args.depth (call_text (splitting_of c.args.renamed.now) call)) (codes ",") (codes ",") c.calls.number (calls_seen c.args.calls.now) (omega (arith, long, high))) c.calls.invariant
