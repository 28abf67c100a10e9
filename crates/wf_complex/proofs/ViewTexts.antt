-- The text of a view, by the views that it saw.
use Rattle.std.proofs.Common.{◌≡◌, ◌≤◌, ℕ, zero, suc, Bool, List, [], ◌∷◌, ◌++◌, map, length, drop, None, codes, append_assoc, append-nil, refl, sym, ap, ◌∙◌}
use Rattle.std.proofs.Math.ListN.{drop_of_length-le}
use Rattle.wf_model.specs.View.{View, base, seen, Views, no_views, view, process_of}
use Rattle.wf_model.specs.PointsText.{process_text, view_text, views_text, more_text}
use Rattle.wf_complex.specs.Views.{view_at, list_of, input_of, inner_views}

-- one text, and then another
pub and_more : (a b c l rest : List ℕ) → b ≡ a ++ l → c ≡ b ++ rest → c ≡ a ++ (l ++ rest)
and_more a b c l rest p q = q ∙ ap (λ x. x ++ rest) p ∙ append_assoc a l rest

-- the views after the first
abbrev pub more_of : Bool → List View → List ℕ
more_of ranks [] = []
more_of ranks (v ∷ vs) = codes ", " ++ (view_text ranks v ++ more_of ranks vs)

-- what is to come of the views once so many are told
abbrev pub rest_of : Bool → ℕ → List View → List ℕ
rest_of ranks zero [] = []
rest_of ranks zero (v ∷ vs) = view_text ranks v ++ more_of ranks vs
rest_of ranks (suc n) vs = more_of ranks vs

more_listed : (ranks : Bool) (vs : Views) → more_text ranks vs ≡ more_of ranks (list_of vs)
more_listed ranks no_views = refl
more_listed ranks (view v vs) = ap (λ rest. codes ", " ++ (view_text ranks v ++ rest)) (more_listed ranks vs)

views_listed : (ranks : Bool) (vs : Views) → views_text ranks vs ≡ rest_of ranks 0 (list_of vs)
views_listed ranks no_views = refl
views_listed ranks (view v vs) = ap (λ rest. view_text ranks v ++ rest) (more_listed ranks vs)

pub seen_told : (ranks : Bool) (v : View) (ws : List View) → None ≡ input_of v → ws ≡ inner_views v
    → view_text ranks v ≡ process_text ranks (process_of v) ++ (codes " saw {" ++ (rest_of ranks 0 ws ++ codes "}"))
seen_told ranks (base p x) ws none are = absurd (let bad : ⊥ = cc in bad)
seen_told ranks (seen p vs) ws none are =
    ap (λ rest. process_text ranks p ++ (codes " saw {" ++ (rest ++ codes "}"))) (views_listed ranks vs ∙ ap (rest_of ranks 0) (sym are))

none_left : (ranks : Bool) (n : ℕ) → rest_of ranks n [] ≡ []
none_left ranks zero = refl
none_left ranks (suc n) = refl

-- a view that saw others is told, once they are
pub view_told : (ranks : Bool) (vs : List View) (ids : List ℕ) (v : View) (p n : ℕ) (t0 t1 t2 t3 t4 : List ℕ) → None ≡ input_of v → map (view_at vs) ids ≡ inner_views v → p ≡ process_of v
    → t1 ≡ t0 ++ process_text ranks p → t2 ≡ t1 ++ codes " saw {" → t3 ++ rest_of ranks n (map (view_at vs) (drop n ids)) ≡ t2 ++ rest_of ranks 0 (map (view_at vs) ids) → length ids ≤ n
    → t4 ≡ t3 ++ codes "}" → t4 ≡ t0 ++ view_text ranks v
view_told ranks vs ids v p n t0 t1 t2 t3 t4 none are is first second third all fourth =
    let inside : List ℕ = rest_of ranks 0 (map (view_at vs) ids) in
    let left : rest_of ranks n (map (view_at vs) (drop n ids)) ≡ [] = ap (λ xs. rest_of ranks n (map (view_at vs) xs)) (drop_of_length-le ids all) ∙ none_left ranks n in
    let told : t3 ≡ t2 ++ inside = sym (append-nil t3) ∙ ap (λ xs. t3 ++ xs) (sym left) ∙ third in
    and_more t0 t1 t4 (process_text ranks p) (codes " saw {" ++ (inside ++ codes "}")) first (and_more t1 t2 t4 (codes " saw {") (inside ++ codes "}") second (and_more t2 t3 t4 inside (codes "}") told fourth))
    ∙ ap (λ q. t0 ++ (process_text ranks q ++ (codes " saw {" ++ (inside ++ codes "}")))) is
    ∙ ap (λ xs. t0 ++ xs) (sym (seen_told ranks v (map (view_at vs) ids) none are))
