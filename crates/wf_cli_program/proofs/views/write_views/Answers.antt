use Rattle.std.proofs.Common.{◌++◌, [], ap, ◌∙◌, string_bytes, codes, vec_items}
use Rattle.wf_model.specs.Report.{line}
use Rattle.wf_cli_program.specs.Views.{header_text, appearances_text}
use Rattle.wf_complex.proofs.Lemmas.{and_more}
use Rattle.wf_cli_program.proofs.PointLists.{as_many, views_split}
use Rattle.wf_cli_program.proofs.views.write_views.Goals as goal

pub put_points-requires : goal.put_points-requires
put_points-requires c = as_many c.args.task.now c.args.protocol.now.rounds c.args.protocol.now c.requires

pub returns : goal.returns
returns c =
    let header = header_text c.of.result in
    let places = appearances_text 0 c.args.protocol.now.firsts in
    let end = line (codes "end") [] in
    let first = string_bytes c.new-text.result in
    let second = string_bytes c.put.new.text in
    let third = string_bytes c.put_points.new.text in
    let whole = string_bytes c.put_words.new.text in
    ap vec_items c.into_bytes.ensures.value
    ∙ and_more first second whole header (places ++ end) c.in_ok-put.ensures (and_more second third whole places end c.in_ok-put_points.ensures c.in_ok-put_words.ensures)
    ∙ ap (λ xs. xs ++ (header ++ (places ++ end))) c.new-text.ensures.bytes
    ∙ views_split c.args.task.now c.args.protocol.now.rounds c.args.protocol.now c.of.result c.requires c.of.ensures.processes c.of.ensures.rounds c.of.ensures.simplices c.of.ensures.views c.of.ensures.points c.of.ensures.executions
