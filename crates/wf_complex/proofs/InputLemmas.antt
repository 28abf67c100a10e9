-- The views of an input simplex.
use Rattle.std.proofs.Common.{◌++◌, flat_map, drop, append-nil, ◌≡◌, ◌<◌, ◌≤◌, ℕ, zero, suc, ◌+◌, List, [], ◌∷◌, map, length, take, get_or, All, sym, refl, ap, ◌∙◌, subst, arith}
use Rattle.std.specs.List.{AllByRecursion}
use Rattle.std.proofs.lemmas.Bool.{and_parts}
use Rattle.std.proofs.lemmas.List.{take_all, take_more, drop_more}
use Rattle.std.proofs.lemmas.List.Concat.{flat_map-append}
use Rattle.std.proofs.lemmas.List.Elements.{recursion_from_All, All-from_recursion}
use Rattle.wf_model.specs.Simplex.{Simplex, processes_of, values_of, is_nonempty, is_ascending}
use Rattle.wf_model.specs.Task.{IsSimplexWithin}
use Rattle.wf_model.specs.View.{View, base, base_views, process_of}
use Rattle.wf_model.proofs.Lemmas.{weaker, base_processes}
use Rattle.wf_complex.specs.Rounds.{views_at, AreViews, Extends, leaves, leaves_of, cost, cost_of_each}
use Rattle.wf_complex.proofs.RoundLemmas.{views_kept, length-views}
use Rattle.wf_model.specs.Word.{Word, words}

-- the view of a place
pub base_there : (s : Simplex) (i : ℕ) → i < length s → base (get_or (processes_of s) i 0) (get_or (values_of s) i 0) ≡ get_or (base_views s) i (base 0 0)
base_there [] i within = absurd (let none : ⊥ = omega (arith, within) in none)
base_there (v ∷ s) zero within = refl
base_there (v ∷ s) (suc i) within = base_there s i (omega (arith, within))

pub length-base_views : (s : Simplex) → length (base_views s) ≡ length s
length-base_views [] = refl
length-base_views (v ∷ s) = ap suc (length-base_views s)

pub first_round : (now : List View) (s : Simplex) (n : ℕ) (ids : List ℕ) → IsSimplexWithin 4 255 s → n ≤ length s → length s ≤ n → All (λ k. k < length now) (take n ids) → views_at now (take n ids) ≡ take n (base_views s) →
    AreViews now (take (length s) ids) × (views_at now (take (length s) ids) ≡ base_views s)
first_round now s n ids h low high within made =
    let e : n ≡ length s = omega (arith, low, high) in
    let all : views_at now (take (length s) ids) ≡ base_views s =
    subst (λ k. views_at now (take k ids) ≡ take k (base_views s)) e made ∙ take_all (length s) (base_views s) (omega (arith, length-base_views s)) in
    let same : map process_of (views_at now (take (length s) ids)) ≡ processes_of s = ap (map process_of) all ∙ base_processes s in (
      record {
        within = subst (λ k. All (λ x. x < length now) (take k ids)) e within;
        ascending = ap is_ascending same ∙ (and_parts (is_nonempty s) (is_ascending (processes_of s)) h.is_simplex).1;
        low = subst (All (λ p. p ≤ 3)) (sym same) (All-from_recursion _ (processes_of s) (weaker (λ p. p < 4) (λ p. p ≤ 3) (λ p k. omega (arith, k)) (processes_of s) (recursion_from_All _ (processes_of s) h.processes)));
      },
      all,
    )

-- ---- one simplex further

module _ (m rounds : ℕ) (ss : List Simplex) (i : ℕ) (s : Simplex) (place : i < length ss) (is : s ≡ get_or ss i s) (ids : List ℕ) (n : ℕ) (count : n ≡ length s)
    (table first after : List View) (views : views_at first (take (length s) ids) ≡ base_views s) where
  pub long : length (take n ids) ≡ length s
  long = ap (λ k. length (take k ids)) count ∙ sym (length-views first (take (length s) ids)) ∙ ap length views ∙ length-base_views s

  module _ (ws : List Word) (are : ws ≡ words m n) where
    all_words : ws ≡ words m (length s)
    all_words = are ∙ ap (words m) count

    same_cost : (k : ℕ) → k ≡ length ws → cost k (length (take n ids)) rounds ≡ cost (length (words m (length s))) (length s) rounds
    same_cost k counted = λ i. cost ((counted ∙ ap length all_words) i) (long i) rounds

    pub room_after : (k most : ℕ) → k ≡ length ws → length table + cost_of_each m rounds (drop i ss) ≤ most → length first ≤ length table + length s → length after ≤ length first + cost k (length (take n ids)) rounds →
        length after + cost_of_each m rounds (drop (i + 1) ss) ≤ most
    room_after k most counted room few added = omega (arith, room, few, added, same_cost k counted, ap (cost_of_each m rounds) (drop_more ss i s place ∙ ap (λ x. x ∷ drop (i + 1) ss) (sym is)))

    pub room_for : (k most : ℕ) → k ≡ length ws → length table + cost_of_each m rounds (drop i ss) ≤ most → length first ≤ length table + length s → length first + cost k (length (take n ids)) rounds ≤ most
    room_for k most counted room few = omega (arith, room, few, same_cost k counted, ap (cost_of_each m rounds) (drop_more ss i s place ∙ ap (λ x. x ∷ drop (i + 1) ss) (sym is)))

    pub made_after : (lasts more : List ℕ) → AllByRecursion (λ k. k < length table) lasts → Extends table first → views_at table lasts ≡ flat_map (leaves_of m rounds) (take i ss) →
        views_at after more ≡ views_at first lasts ++ leaves ws rounds (views_at first (take n ids)) → views_at after more ≡ flat_map (leaves_of m rounds) (take (i + 1) ss)
    made_after lasts more within grown made added =
        added
        ∙ (λ k. views_kept table first lasts grown within k ++ leaves (all_words k) rounds (views_at first (take (count k) ids)))
        ∙ (λ k. made k ++ leaves (words m (length s)) rounds (views k))
        ∙ sym (ap (flat_map (leaves_of m rounds)) (take_more ss i s place ∙ ap (λ x. take i ss ++ x ∷ []) (sym is)) ∙ flat_map-append (leaves_of m rounds) (take i ss) (s ∷ []) ∙ ap (λ vs. flat_map (leaves_of m rounds) (take i ss) ++ vs) (append-nil (leaves_of m rounds s)))
