use Rattle.std.proofs.Common.{◌++◌, [], ◌∷◌, string_bytes, codes}
use Rattle.wf_model.specs.Report.{line}
use Rattle.wf_complex.proofs.Lemmas.{and_more}
use Rattle.wf_cli_program.proofs.views.PointsHeader.put.Goals as goal

pub returns : goal.returns
returns c =
    let h = c.args.self.now in
    let text_0 = string_bytes c.put_words.new.text in
    let text_1 = string_bytes c.put_number.new.text in
    let text_2 = string_bytes c.put_number-2.new.text in
    let text_3 = string_bytes c.put_number-3.new.text in
    let text_4 = string_bytes c.put_number-4.new.text in
    let text_5 = string_bytes c.put_number-5.new.text in
    let last = string_bytes c.put_number-6.new.text in
    let line_0 = line (codes "wfcheck views 1") [] in
    let line_1 = line (codes "processes") (h.processes ∷ []) in
    let line_2 = line (codes "rounds") (h.rounds ∷ []) in
    let line_3 = line (codes "simplices") (h.simplices ∷ []) in
    let line_4 = line (codes "views") (h.views ∷ []) in
    let line_5 = line (codes "points") (h.points ∷ []) in
    let line_6 = line (codes "executions") (h.executions ∷ []) in
    and_more (string_bytes c.args.text.now) text_0 last line_0 (line_1 ++ (line_2 ++ (line_3 ++ (line_4 ++ (line_5 ++ line_6))))) c.in_ok-put_words.ensures
    (and_more text_0 text_1 last line_1 (line_2 ++ (line_3 ++ (line_4 ++ (line_5 ++ line_6)))) c.in_ok-put_number.ensures
    (and_more text_1 text_2 last line_2 (line_3 ++ (line_4 ++ (line_5 ++ line_6))) c.in_ok-put_number-2.ensures
    (and_more text_2 text_3 last line_3 (line_4 ++ (line_5 ++ line_6)) c.in_ok-put_number-3.ensures
    (and_more text_3 text_4 last line_4 (line_5 ++ line_6) c.in_ok-put_number-4.ensures
    (and_more text_4 text_5 last line_5 line_6 c.in_ok-put_number-5.ensures c.in_ok-put_number-6.ensures)))))
