-- A text from its parts: what stands before the lines, the lines, and its end.
use Rattle.std.proofs.Common.{◌≡◌, ℕ, List, [], ◌∷◌, ◌++◌, flat_map, codes, refl, ap, ◌∙◌, append_assoc, append-nil}
use Rattle.wf_model.specs.Report.{Body, a_map, none, least, Report, line, line_text, value_line, answer_line, body_lines, body_text, body_values, report_text}
use Rattle.wf_report.specs.Writing.{IsBeginning}

body_is : (b : Body) → flat_map value_line (body_values b) ++ flat_map line_text (body_lines b) ≡ body_text b
body_is (a_map m) = append-nil (flat_map value_line m)
body_is (none ls) = refl
body_is (least m ls) = refl

nine : (x1 x2 x3 x4 x5 a v l e : List ℕ) → (x1 ++ (x2 ++ (x3 ++ (x4 ++ (x5 ++ (a ++ v)))))) ++ (l ++ e) ≡ x1 ++ (x2 ++ (x3 ++ (x4 ++ (x5 ++ (a ++ ((v ++ l) ++ e))))))
nine x1 x2 x3 x4 x5 a v l e = simp append_assoc

-- the header, and the values of a map
pub begins : (r : Report) → IsBeginning r
    (line (codes "wfcheck report 1") []
    ++ (line (codes "processes") (r.processes ∷ []) ++ (line (codes "rounds") (r.rounds ∷ [])
    ++ (line (codes "points") (r.points ∷ []) ++ (line (codes "executions") (r.executions ∷ [])
    ++ (answer_line r.body ++ flat_map value_line (body_values r.body)))))))
begins r =
    let header = λ (xs : List ℕ). line (codes "wfcheck report 1") [] ++ (line (codes "processes") (r.processes ∷ []) ++ (line (codes "rounds") (r.rounds ∷ []) ++ (line (codes "points") (r.points ∷ []) ++ (line (codes "executions") (r.executions ∷ []) ++ (answer_line r.body ++ (xs ++ line (codes "end") [])))))) in
    nine (line (codes "wfcheck report 1") []) (line (codes "processes") (r.processes ∷ [])) (line (codes "rounds") (r.rounds ∷ [])) (line (codes "points") (r.points ∷ [])) (line (codes "executions") (r.executions ∷ [])) (answer_line r.body) (flat_map value_line (body_values r.body)) (flat_map line_text (body_lines r.body)) (line (codes "end") [])
    ∙ ap header (body_is r.body)

pub whole : (r : Report) (before with_lines all : List ℕ) → IsBeginning r before → with_lines ≡ before ++ flat_map line_text (body_lines r.body) → all ≡ with_lines ++ line (codes "end") [] → all ≡ report_text r
whole r before with_lines all is lines last =
    last
    ∙ ap (λ xs. xs ++ line (codes "end") []) lines
    ∙ append_assoc before (flat_map line_text (body_lines r.body)) (line (codes "end") [])
    ∙ is
