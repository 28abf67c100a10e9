-- The lines of points, of decisions and of refusals, as they are told.
use Rattle.std.proofs.Common.{◌≡◌, ℕ, Bool, List, ◌++◌, drop, codes, decimal, append_assoc, slice_get, flat_map, sym, ap, ◌∙◌}
use Rattle.std.specs.List.{enumerate_from}
use Rattle.std.specs.Option.{unwrap_or}
use Rattle.std.proofs.lemmas.Option.{unwrap_or-slice_get}
use Rattle.wf_model.specs.View.{View, base}
use Rattle.wf_model.specs.PointsText.{view_text, decision_text, point_text}
use Rattle.wf_complex.specs.Views.{view_at}
use Rattle.wf_complex.proofs.Lemmas.{and_more}

-- ---- the line of a point

-- the views of these numbers in two lists are one view
pub one_view : (vs ws : List View) (i j : ℕ) → slice_get vs i ≡ slice_get ws j → view_at vs i ≡ view_at ws j
one_view vs ws i j same = sym (unwrap_or-slice_get vs i (base 0 0)) ∙ ap (λ o. unwrap_or o (base 0 0)) same ∙ unwrap_or-slice_get ws j (base 0 0)

pub point_told : (ranks : Bool) (m : List ℕ) (n : ℕ) (v w : View) (t0 t1 t2 t3 t4 : List ℕ) → v ≡ w → t1 ≡ t0 ++ (decimal n ++ codes " ") → t2 ≡ t1 ++ view_text ranks v → t3 ≡ t2 ++ decision_text (slice_get m n)
    → t4 ≡ t3 ++ codes "\n" → t4 ≡ t0 ++ point_text ranks m (n, w)
point_told ranks m n v w t0 t1 t2 t3 t4 same first second third fourth =
    let end : List ℕ = decision_text (slice_get m n) ++ codes "\n" in
    and_more t0 t1 t4 (decimal n ++ codes " ") (view_text ranks v ++ end) first (and_more t1 t2 t4 (view_text ranks v) end second (and_more t2 t3 t4 (decision_text (slice_get m n)) (codes "\n") third fourth))
    ∙ ap (λ xs. t0 ++ xs) (append_assoc (decimal n) (codes " ") (view_text ranks v ++ end) ∙ ap (λ u. decimal n ++ (codes " " ++ (view_text ranks u ++ end))) same)

-- ---- the lines of all points

-- the lines of the points from number n on
abbrev pub lines_from : Bool → List ℕ → ℕ → List View → List ℕ
lines_from ranks m n vs = flat_map (point_text ranks m) (enumerate_from n (drop n vs))
