-- The text that lists the points, by its parts.
use Rattle.std.proofs.Common.{◌≡◌, ℕ, zero, suc, ◌+◌, List, [], ◌∷◌, ◌++◌, map, flat_map, length, drop, Some, slice_get, codes, append_assoc, refl, sym, ap, ◌∙◌, arith}
use Rattle.std.specs.List.{enumerate_from}
use Rattle.std.proofs.lemmas.List.{length-map}
use Rattle.wf_model.specs.Task.{Task}
use Rattle.wf_model.specs.Points.{Appearance, points, first_appearances, last_view_count}
use Rattle.wf_model.specs.Execution.{executions}
use Rattle.wf_model.specs.Report.{line}
use Rattle.wf_model.specs.ViewsText.{point_line, views_text}
use Rattle.wf_model.proofs.Lemmas.{appearances_points}
use Rattle.wf_complex.specs.Protocol.{Built, IsProtocol}
use Rattle.wf_cli_program.specs.Views.{header_text, appearances_text}
use Rattle.wf_cli_program.specs.declared.views.PointsHeader.{PointsHeader}

abbrev pub place_of : Appearance → ℕ × ℕ
place_of a = (a.execution, a.process)

pub lines_of_places : (n : ℕ) (apps : List Appearance) → appearances_text n (map place_of apps) ≡ flat_map point_line (enumerate_from n apps)
lines_of_places n [] = refl
lines_of_places n (a ∷ apps) = ap (λ rest. point_line (n, a) ++ rest) (lines_of_places (n + 1) apps)

pub drop_next : (xs : List (ℕ × ℕ)) (i : ℕ) (x : ℕ × ℕ) → slice_get xs i ≡ Some x → drop i xs ≡ x ∷ drop (suc i) xs
drop_next [] i x h = absurd (let none : ⊥ = cc in none)
drop_next (y ∷ xs) zero x h = ap (λ z. z ∷ xs) (let e : y ≡ x = cc in e)
drop_next (y ∷ xs) (suc i) x h = drop_next xs i x h

-- there is a first appearance for each point
pub as_many : (t : Task) (r : ℕ) (b : Built) → IsProtocol t r b → length b.firsts ≡ length b.points
as_many t r b h =
    ap length h.firsts_are ∙ length-map (first_appearances t r) place_of ∙ sym (length-map (first_appearances t r) (λ a. a.point)) ∙ ap length (appearances_points t r) ∙ ap length (sym h.points_are)

-- one point more has its line
pub next_point : (firsts : List (ℕ × ℕ)) (p : ℕ) (at : ℕ × ℕ) (text new whole : List ℕ) → slice_get firsts p ≡ Some at → new ≡ text ++ line (codes "v") (p ∷ at.0 ∷ at.1 ∷ [])
    → text ++ appearances_text p (drop p firsts) ≡ whole → new ++ appearances_text (p + 1) (drop (p + 1) firsts) ≡ whole
next_point firsts p at text new whole is put so_far =
    let e : p + 1 ≡ suc p = omega arith in
    ap (λ xs. xs ++ appearances_text (p + 1) (drop (p + 1) firsts)) put
    ∙ append_assoc text (line (codes "v") (p ∷ at.0 ∷ at.1 ∷ [])) (appearances_text (p + 1) (drop (p + 1) firsts))
    ∙ ap (λ n. text ++ (line (codes "v") (p ∷ at.0 ∷ at.1 ∷ []) ++ appearances_text (p + 1) (drop n firsts))) e
    ∙ ap (λ xs. text ++ appearances_text p xs) (sym (drop_next firsts p at is))
    ∙ so_far

join_lines : (a b c d e f g x : List ℕ) → (a ++ (b ++ (c ++ (d ++ (e ++ (f ++ g)))))) ++ x ≡ a ++ (b ++ (c ++ (d ++ (e ++ (f ++ (g ++ x))))))
join_lines a b c d e f g x =
    append_assoc a (b ++ (c ++ (d ++ (e ++ (f ++ g))))) x
    ∙ ap (λ y. a ++ y) (append_assoc b (c ++ (d ++ (e ++ (f ++ g)))) x
    ∙ ap (λ y. b ++ y) (append_assoc c (d ++ (e ++ (f ++ g))) x
    ∙ ap (λ y. c ++ y) (append_assoc d (e ++ (f ++ g)) x
    ∙ ap (λ y. d ++ y) (append_assoc e (f ++ g) x
    ∙ ap (λ y. e ++ y) (append_assoc f g x)))))

-- the text by its parts
pub views_split : (t : Task) (r : ℕ) (b : Built) (h : PointsHeader) → IsProtocol t r b → h.processes ≡ t.processes → h.rounds ≡ r → h.simplices ≡ length t.delta → h.views ≡ last_view_count t r
    → h.points ≡ length (points t r) → h.executions ≡ length (executions t r) → header_text h ++ (appearances_text 0 b.firsts ++ line (codes "end") []) ≡ views_text t r
views_split t r b h is p q s v n e =
    join_lines (line (codes "wfcheck views 1") []) (line (codes "processes") (h.processes ∷ [])) (line (codes "rounds") (h.rounds ∷ [])) (line (codes "simplices") (h.simplices ∷ []))
    (line (codes "views") (h.views ∷ [])) (line (codes "points") (h.points ∷ [])) (line (codes "executions") (h.executions ∷ [])) (appearances_text 0 b.firsts ++ line (codes "end") [])
    ∙ (λ i. line (codes "wfcheck views 1") []
    ++ (line (codes "processes") (p i ∷ []) ++ (line (codes "rounds") (q i ∷ [])
    ++ (line (codes "simplices") (s i ∷ []) ++ (line (codes "views") (v i ∷ [])
    ++ (line (codes "points") (n i ∷ []) ++ (line (codes "executions") (e i ∷ [])
    ++ ((ap (appearances_text 0) is.firsts_are ∙ lines_of_places 0 (first_appearances t r)) i ++ line (codes "end") []))))))))
