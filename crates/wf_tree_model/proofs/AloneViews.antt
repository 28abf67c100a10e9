-- A process that takes part alone has one view, whatever its words.
use Rattle.std.proofs.Common.{◌≡◌, ℕ, zero, suc, nat_le, true, List, [], ◌∷◌, fold, length, refl, ap, ◌∙◌, arith}
use Rattle.std.specs.List.{AllByRecursion}
use Rattle.wf_model.specs.Lists.{lists_of}
use Rattle.wf_model.specs.Simplex.{Vertex}
use Rattle.wf_model.specs.Word.{Word, words}
use Rattle.wf_model.specs.View.{View, base, seen, view, no_views, base_views, process_of, round}
use Rattle.wf_model.proofs.Lemmas.{words_long}
use Rattle.wf_tree_model.proofs.OfCounting.Lemmas.{each}
use Rattle.wf_tree_model.proofs.Members.{Has, has_lists, of_has}

abbrev pub alone_after : ℕ → View → View
alone_after zero v = v
alone_after (suc r) v = alone_after r (seen (process_of v) (view v no_views))

le_itself : (b : ℕ) → nat_le b b ≡ true
le_itself b = grind arith

alone_round : (w : Word) (v : View) → length w ≡ 1 → round (v ∷ []) w ≡ seen (process_of v) (view v no_views) ∷ []
alone_round [] v h = absurd (let none : ⊥ = omega (arith, h) in none)
alone_round (b ∷ []) v h = rw (le_itself b) refl
alone_round (b ∷ c ∷ w) v h = absurd (let none : ⊥ = omega (arith, h) in none)

alone_rounds : (ws : List Word) (v : View) → AllByRecursion (λ w. length w ≡ 1) ws → fold round (v ∷ []) ws ≡ alone_after (length ws) v ∷ []
alone_rounds [] v h = refl
alone_rounds (w ∷ ws) v h = ap (λ vs. fold round vs ws) (alone_round w v h.0) ∙ alone_rounds ws (seen (process_of v) (view v no_views)) h.1

-- the last view of a vertex alone
abbrev pub alone : Vertex → ℕ → View
alone v r = alone_after r (base v.0 v.1)

pub last_alone : (m r : ℕ) (v : Vertex) (ws : List Word) → Has ws (lists_of (words m 1) r) → fold round (base_views (v ∷ [])) ws ≡ alone v r ∷ []
last_alone m r v ws run =
    let of = has_lists (words m 1) r ws run in
    alone_rounds ws (base v.0 v.1) (each (λ w. Has w (words m 1)) (λ w. length w ≡ 1) (λ w h. of_has (λ u. length u ≡ 1) (words m 1) w (words_long m 1) h) ws of.1)
    ∙ ap (λ n. alone_after n (base v.0 v.1) ∷ []) of.0
