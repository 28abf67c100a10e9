use Rattle.std.proofs.Common.{◌++◌, [], ap, ◌∙◌, string_bytes, codes, vec_items, length}
use Rattle.std.specs.List.{enumerate_from}
use Rattle.wf_model.specs.Outline.{boxes_left_out}
use Rattle.wf_model.specs.Report.{line}
use Rattle.wf_run_solve.proofs.Lemmas.{and_more}
use Rattle.wf_run_branches.specs.Listing.{entries_text, header_text}
use Rattle.wf_run_branches.proofs.Lines.{whole_text}
use Rattle.wf_run_branches.proofs.listing.write_branches.Goals as goal

pub returns : goal.returns
returns c =
    let header = header_text c.of.result in
    let entries = entries_text (enumerate_from 0 (boxes_left_out c.in_ok-cover.cover)) in
    let end = line (codes "end") [] in
    let first = string_bytes c.new-text.result in
    let second = string_bytes c.put.new.text in
    let third = string_bytes c.put_entries.new.text in
    let whole = string_bytes c.put_words.new.text in
    let count = c.of.ensures.branches ∙ c.branches.ensures.branches ∙ ap length c.in_ok-cover.ensures.branches_are in
    ap vec_items c.into_bytes.ensures.value
    ∙ and_more first second whole header (entries ++ end) c.in_ok-put.ensures (and_more second third whole entries end c.in_ok-put_entries.ensures c.in_ok-put_words.ensures)
    ∙ ap (λ xs. xs ++ (header ++ (entries ++ end))) c.new-text.ensures.bytes
    ∙ whole_text c.args.task.now c.args.protocol.now.rounds c.of.result (boxes_left_out c.in_ok-cover.cover) c.of.ensures.processes c.of.ensures.rounds c.of.ensures.points c.of.ensures.executions count c.in_ok-cover.ensures.branches_are
