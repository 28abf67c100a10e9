-- Executions with the same words on simplices that are alike decide the same.
use Rattle.std.proofs.Common.{◌≡◌, ℕ, suc, ◌==◌, Bool, true, false, cond, List, [], ◌∷◌, map, fold, length, refl, sym, ap, ◌∙◌, subst, inl, inr}
use Rattle.std.specs.Cmp.Lexicographic.{pointwise}
use Rattle.std.proofs.lemmas.Bool.{and_from, and_parts, cases_Bool, eq-eqb, eqb-true, false≢true}
use Rattle.wf_model.specs.Simplex.{Simplex, Vertex, processes_of, same_vertex, values_of}
use Rattle.wf_model.specs.Word.{Word}
use Rattle.wf_model.specs.View.{View, base_views, normal, round}
use Rattle.wf_model.specs.Points.{class}
use Rattle.wf_model.specs.Task.{Task, Tuple}
use Rattle.wf_tree_model.proofs.OfCounting.Lemmas.{Between, same_classes, places}
use Rattle.wf_tree_model.proofs.Maps.{rank_class}
use Rattle.wf_tree_model.proofs.OnSimplex.{same_vertices_in}
use Rattle.wf_tree_model.specs.Alike.{are_alike, same_point}

-- ---- one point

point_across : (same : Bool) (u v w : Vertex) → cond same (u.1 == v.1) (same_vertex u v) ≡ true → cond same (u.1 == w.1) (same_vertex u w) ≡ true → cond same (v.1 == w.1) (same_vertex v w) ≡ true
point_across true u v w h k = eq-eqb v.1 w.1 (sym (eqb-true u.1 v.1 h) ∙ eqb-true u.1 w.1 k)
point_across false u v w h k =
    let a = and_parts (u.0 == v.0) (u.1 == v.1) h in
    let b = and_parts (u.0 == w.0) (u.1 == w.1) k in
    and_from (v.0 == w.0) (v.1 == w.1) (eq-eqb v.0 w.0 (sym (eqb-true u.0 v.0 a.0) ∙ eqb-true u.0 w.0 b.0)) (eq-eqb v.1 w.1 (sym (eqb-true u.1 v.1 a.1) ∙ eqb-true u.1 w.1 b.1))

-- two simplices that are like a third one are alike
pub alike_across : (t : Task) (s u w : Simplex) → are_alike t s u ≡ true → are_alike t s w ≡ true → are_alike t u w ≡ true
alike_across t [] [] [] h k = refl
alike_across t [] [] (c ∷ w) h k = absurd (false≢true k)
alike_across t [] (b ∷ u) w h k = absurd (false≢true h)
alike_across t (a ∷ s) [] w h k = absurd (false≢true h)
alike_across t (a ∷ s) (b ∷ u) [] h k = absurd (false≢true k)
alike_across t (a ∷ s) (b ∷ u) (c ∷ w) h k =
    let p = and_parts (same_point t a b) (are_alike t s u) h in
    let q = and_parts (same_point t a c) (are_alike t s w) k in
    and_from (same_point t b c) (are_alike t u w) (point_across t.symmetric a b c p.0 q.0) (alike_across t s u w p.1 q.1)

pub alike_itself : (t : Task) (s : Simplex) → are_alike t s s ≡ true
alike_itself t [] = refl
alike_itself t (v ∷ s) = and_from (same_point t v v) (are_alike t s s) (here t.symmetric) (alike_itself t s)
  where
    here : (same : Bool) → cond same (v.1 == v.1) (same_vertex v v) ≡ true
    here true = eq-eqb v.1 v.1 refl
    here false = and_from (v.0 == v.0) (v.1 == v.1) (eq-eqb v.0 v.0 refl) (eq-eqb v.1 v.1 refl)

pub alike_turned : (t : Task) (s u : Simplex) → are_alike t s u ≡ true → are_alike t u s ≡ true
alike_turned t s u h = alike_across t s u s h (alike_itself t s)

pub alike_on : (t : Task) (s u w : Simplex) → are_alike t s u ≡ true → are_alike t u w ≡ true → are_alike t s w ≡ true
alike_on t s u w h k = alike_across t u s w (alike_turned t s u h) k

pub alike_long : (t : Task) (s u : Simplex) → are_alike t s u ≡ true → length s ≡ length u
alike_long t [] [] h = refl
alike_long t [] (b ∷ u) h = absurd (false≢true h)
alike_long t (a ∷ s) [] h = absurd (false≢true h)
alike_long t (a ∷ s) (b ∷ u) h = ap suc (alike_long t s u (and_parts (same_point t a b) (are_alike t s u) h).1)

-- ---- the same decisions

same_values : (t : Task) → t.symmetric ≡ true → (s u : Simplex) → are_alike t s u ≡ true → values_of s ≡ values_of u
same_values t same [] [] h = refl
same_values t same [] (b ∷ u) h = absurd (false≢true h)
same_values t same (a ∷ s) [] h = absurd (false≢true h)
same_values t same (a ∷ s) (b ∷ u) h =
    let p = and_parts (same_point t a b) (are_alike t s u) h in
    let first = eqb-true a.1 b.1 (subst (λ c. cond c (a.1 == b.1) (same_vertex a b) ≡ true) same p.0) in
    let rest = same_values t same s u p.1 in
    λ i. first i ∷ rest i

same_simplex : (t : Task) → t.symmetric ≡ false → (s u : Simplex) → are_alike t s u ≡ true → s ≡ u
same_simplex t plain s u h = same_vertices_in s u (subst (λ c. pointwise (λ v w. cond c (v.1 == w.1) (same_vertex v w)) s u ≡ true) plain h)

-- what a map decides on the simplex after these words
abbrev pub decided_on : Task → (View → ℕ) → Simplex → List Word → Tuple
decided_on t m s ws = map m (map (class t) (fold round (base_views s) ws))

pub decide_alike : (t : Task) (m : View → ℕ) (s u : Simplex) → Between 0 (processes_of s) t.processes → Between 0 (processes_of u) t.processes → are_alike t s u ≡ true →
    (ws : List Word) → decided_on t m s ws ≡ decided_on t m u ws
decide_alike t m s u s_up u_up h ws =
    elim (cases_Bool t.symmetric) [
      | inl same ↦
          ap (map m)
          (rank_class t same (fold round (base_views s) ws)
          ∙ same_classes s t.processes s_up ws
          ∙ ap (λ xs. map normal (fold round (base_views (places 0 xs)) ws)) (same_values t same s u h)
          ∙ sym (same_classes u t.processes u_up ws)
          ∙ sym (rank_class t same (fold round (base_views u) ws)))
      | inr plain ↦ ap (λ x. decided_on t m x ws) (same_simplex t plain s u h)
    ]
