-- Views that differ, and how many there are inside a view.
use Rattle.std.proofs.Common.{◌≡◌, ◌<◌, ◌≤◌, ℕ, suc, false, not, List, [], ◌∷◌, ◌++◌, filter, length, sym, refl, ap, ◌∙◌, subst, inl, inr, arith}
use Rattle.std.specs.List.{list_any, AllByRecursion}
use Rattle.std.proofs.lemmas.Bool.{cases_Bool, or_cases, or_left, or_right, both_ways, false≢true, false_from_ne_true}
use Rattle.wf_model.specs.Lists.{distinct}
use Rattle.wf_model.specs.View.{View, base, seen, Views, no_views, view, same_view}
use Rattle.wf_model.proofs.Lemmas.{Among, same_is, same_itself, among_filtered, among_distinct, among_append_left, among_append_right, weaker, both, length_filter, Apart, other_way}
use Rattle.wf_complex.specs.Views.{view_at, list_of, inner_views, views_within, views_within_each, count_within}

-- ---- what is inside what is inside

pub among_either : (v : View) (xs ys : List View) → (G : Type 0) → Among (xs ++ ys) v → (Among xs v → G) → (Among ys v → G) → G
among_either v [] ys G h left right = right h
among_either v (x ∷ xs) ys G h left right =
    elim (or_cases (same_view v x) (list_any (same_view v) (xs ++ ys)) h) [
      | inl here ↦ left (or_left _ _ here)
      | inr later ↦ among_either v xs ys G later (λ k. left (or_right _ _ k)) right
    ]

pub within_itself : (v : View) → Among (views_within v) v
within_itself (base p x) = or_left _ _ (same_itself (base p x))
within_itself (seen p vs) = or_left _ _ (same_itself (seen p vs))

each_within : (vs : Views) → AllByRecursion (Among (views_within_each vs)) (list_of vs)
each_within no_views = tt
each_within (view v vs) = (
  among_append_left v (views_within v) (views_within_each vs) (within_itself v),
  weaker (Among (views_within_each vs)) (Among (views_within v ++ views_within_each vs)) (λ w h. among_append_right w (views_within v) (views_within_each vs) h) (list_of vs) (each_within vs),
)

-- the views that a view saw are inside it
inner_within : (u : View) → AllByRecursion (Among (views_within u)) (inner_views u)
inner_within (base p x) = tt
inner_within (seen p vs) = weaker (Among (views_within_each vs)) (Among (seen p vs ∷ views_within_each vs)) (λ w h. or_right _ _ h) (list_of vs) (each_within vs)

mutual
  -- the views that a view inside v saw are inside v
  pub within_within : (v u : View) → Among (views_within v) u → AllByRecursion (Among (views_within v)) (inner_views u)
  within_within (base p x) u h =
      let is : u ≡ base p x = same_is u (base p x) (elim (or_cases (same_view u (base p x)) false h) [ inl here ↦ here | inr later ↦ absurd (false≢true later) ]) in
      subst (λ w. AllByRecursion (Among (base p x ∷ [])) (inner_views w)) (sym is) tt
  within_within (seen p vs) u h =
      elim (or_cases (same_view u (seen p vs)) (list_any (same_view u) (views_within_each vs)) h) [
        | inl here ↦ subst (λ w. AllByRecursion (Among (seen p vs ∷ views_within_each vs)) (inner_views w)) (sym (same_is u (seen p vs) here)) (inner_within (seen p vs))
        | inr later ↦ weaker (Among (views_within_each vs)) (Among (seen p vs ∷ views_within_each vs)) (λ w k. or_right _ _ k) (inner_views u) (within_each vs u later)
      ]

  within_each : (vs : Views) (u : View) → Among (views_within_each vs) u → AllByRecursion (Among (views_within_each vs)) (inner_views u)
  within_each no_views u h = absurd (false≢true h)
  within_each (view v vs) u h =
      among_either u (views_within v) (views_within_each vs) (AllByRecursion (Among (views_within v ++ views_within_each vs)) (inner_views u)) h
      (λ k. weaker (Among (views_within v)) (Among (views_within v ++ views_within_each vs)) (λ w a. among_append_left w (views_within v) (views_within_each vs) a) (inner_views u) (within_within v u k))
      (λ k. weaker (Among (views_within_each vs)) (Among (views_within v ++ views_within_each vs)) (λ w a. among_append_right w (views_within v) (views_within_each vs) a) (inner_views u) (within_each vs u k))

-- ---- counting views that differ

fewer_others : (w : View) (zs : List View) → Among zs w → length (filter (λ z. not (same_view w z)) zs) < length zs
fewer_others w [] h = absurd (false≢true h)
fewer_others w (z ∷ zs) h =
    elim (cases_Bool (same_view w z)) [
      | inl same ↦ rw same (omega (arith, length_filter (λ y. not (same_view w y)) zs))
      | inr apart ↦ rw apart (omega (arith, fewer_others w zs (elim (or_cases (same_view w z) (list_any (same_view w) zs) h) [ inl here ↦ absurd (both_ways _ apart here) | inr later ↦ later ])))
    ]

-- views that differ and are all among others are no more than those
pub no_more : (ws zs : List View) → Apart ws → AllByRecursion (Among zs) ws → length ws ≤ length zs
no_more [] zs h k = omega arith
no_more (w ∷ ws) zs h k =
    let rest = no_more ws (filter (λ z. not (same_view w z)) zs) h.1
    (both (λ v. same_view w v ≡ false) (Among zs) (Among (filter (λ z. not (same_view w z)) zs)) (λ v other there. among_filtered v w zs (other_way w v other) there) ws h.0 k.1) in
    omega (arith, rest, fewer_others w zs k.0)

-- views that differ and are all inside v are at most so many
pub at_most_within : (v : View) (ws : List View) → Apart ws → AllByRecursion (Among (views_within v)) ws → length ws ≤ count_within v
at_most_within v ws h k =
    no_more ws (distinct same_view (views_within v)) h (weaker (Among (views_within v)) (Among (distinct same_view (views_within v))) (λ w a. among_distinct w (views_within v) a) ws k)

-- ---- tables in which no view stands twice

all_stay : (v : View) (ws : List View) → AllByRecursion (λ w. same_view v w ≡ false) ws → filter (λ w. not (same_view v w)) ws ≡ ws
all_stay v [] h = refl
all_stay v (w ∷ ws) h = rw h.0 (ap (λ xs. w ∷ xs) (all_stay v ws h.1))

pub distinct-apart : (ws : List View) → Apart ws → distinct same_view ws ≡ ws
distinct-apart [] h = refl
distinct-apart (w ∷ ws) h = ap (λ xs. w ∷ filter (λ y. not (same_view w y)) xs) (distinct-apart ws h.1) ∙ ap (λ xs. w ∷ xs) (all_stay w ws h.0)

pub differ : (v w : View) → (v ≡ w → ⊥) → same_view v w ≡ false
differ v w h = false_from_ne_true (same_view v w) (λ same. h (same_is v w same))

each_at : (P : View → Type 0) (ws : List View) → ((i : ℕ) → i < length ws → P (view_at ws i)) → AllByRecursion P ws
each_at P [] h = tt
each_at P (w ∷ ws) h = (h 0 (omega arith), each_at P ws (λ i k. h (suc i) (omega (arith, k))))

-- different places have different views
pub apart_by_place : (ws : List View) → ((i j : ℕ) → i < length ws → j < length ws → view_at ws i ≡ view_at ws j → i ≡ j) → Apart ws
apart_by_place [] h = tt
apart_by_place (w ∷ ws) h = (
  each_at (λ v. same_view w v ≡ false) ws (λ i k. differ w (view_at ws i) (λ e. let same : 0 ≡ suc i = h 0 (suc i) (omega arith) (omega (arith, k)) e in absurd (let none : ⊥ = omega (arith, same) in none))),
  apart_by_place ws (λ i j k l e. let same : suc i ≡ suc j = h (suc i) (suc j) (omega (arith, k)) (omega (arith, l)) e in omega (arith, same)),
)
