use Rattle.std.proofs.Common.{◌++◌, ◌-◌, codes, decimal, length, string_bytes, take, sym, ap, ◌∙◌}
use Rattle.std.specs.Prelude.{if◌then◌else◌}
use Rattle.std.proofs.lemmas.Bool.{lt-leb}
use Rattle.wf_tree_explain.specs.Lists.{list_text}
use Rattle.wf_tree_explain.specs.Words.{values_text}
use Rattle.wf_tree_explain.proofs.Pieces.{adds, plus}
use Rattle.wf_tree_explain.proofs.lists.put_rows.Goals as goal

pub returns : goal.returns
returns c =
    let xs = c.args.rows.now in
    let t = string_bytes c.args.text.now in
    let t1 = string_bytes c.put_each_row-2.new.text in
    let more = codes ", or one of " ++ (decimal (length xs - 24) ++ codes " more") in
    let first = list_text values_text (codes ", ") (codes ", ") (take 24 xs) in
    let e = c.in_ok-put_each_row.ensures in
    (plus (adds t t1 first e) (adds t1 (string_bytes c.write.new.self) more c.in_ok-write.ensures.bytes)).is
    ∙ ap (λ b. t ++ (if b then list_text values_text (codes ", ") (codes " or ") xs else first ++ more)) (sym (lt-leb (length xs) 24 c.if-rows-le-MAX_LISTED.false))
