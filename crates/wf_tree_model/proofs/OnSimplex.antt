-- Executions on one simplex, and what a decision map decides there.
use Rattle.std.proofs.Common.{◌≡◌, ℕ, ◌==◌, ◌<◌, ◌≤◌, false, true, List, [], ◌∷◌, map, fold, length, get_or, Contains, refl, sym, ap, ◌∙◌, subst, arith}
use Rattle.std.specs.List.{AllByRecursion}
use Rattle.std.specs.Cmp.Lexicographic.{pointwise}
use Rattle.std.proofs.lemmas.Bool.{and_parts, eqb-true, false≢true}
use Rattle.std.proofs.lemmas.List.{get_or-map, length-map}
use Rattle.wf_model.specs.Lists.{lists_of}
use Rattle.wf_model.specs.Simplex.{Simplex, Vertex, is_simplex, processes_of, same_vertex}
use Rattle.wf_model.specs.Word.{Word, words}
use Rattle.wf_model.specs.View.{View, base, base_views, process_of, round}
use Rattle.wf_model.specs.Task.{Rule, Task, first_block}
use Rattle.wf_model.specs.DecisionMap.{IsDecisionMap}
use Rattle.wf_model.proofs.Lemmas.{last_processes, words_long}
use Rattle.wf_tree_model.specs.Counting.Signs.{keep}
use Rattle.wf_tree_model.proofs.OfCounting.Lemmas.{last_long, each, keep_map}
use Rattle.wf_tree_model.specs.Stars.{runs}
use Rattle.wf_tree_model.specs.Tuples.{is_part, mask_of, value_at}
use Rattle.wf_tree_model.proofs.Members.{Has, has_lists, lists_have, of_has}
use Rattle.wf_tree_model.proofs.Maps.{decided, on_rule, own_class}
use Rattle.wf_tree_model.proofs.Places.{at}
use Rattle.wf_tree_model.proofs.ViewsAfter.{simplex_some}
use Rattle.wf_tree_model.proofs.Extended.{extended, extended_run}

pub same_vertices_in : (s t : Simplex) → pointwise same_vertex s t ≡ true → s ≡ t
same_vertices_in [] [] h = refl
same_vertices_in [] (w ∷ t) h = absurd (false≢true h)
same_vertices_in (v ∷ s) [] h = absurd (false≢true h)
same_vertices_in (v ∷ s) (w ∷ t) h =
    let parts = and_parts (same_vertex v w) (pointwise same_vertex s t) h in
    let both = and_parts (v.0 == w.0) (v.1 == w.1) parts.0 in
    let p = eqb-true v.0 w.0 both.0 in
    let x = eqb-true v.1 w.1 both.1 in
    let rest = same_vertices_in s t parts.1 in
    λ i. (p i, x i) ∷ rest i

-- what is decided by process, where all words are allowed
pub decided_plain : (t : Task) → t.symmetric ≡ false → first_block t ≡ 1 → (r : ℕ) (m : View → ℕ) → IsDecisionMap t r m → (q : Rule) → Contains t.delta q →
    (ws : List Word) → Has ws (runs q.input r) → Has (map m (fold round (base_views q.input) ws)) q.tuples
decided_plain t plain all_words r m decides q q_there ws run =
    subst (λ vs. Has (map m vs) q.tuples) (own_class t plain (fold round (base_views q.input) ws))
    (decided t r m decides q q_there ws (subst (λ b. Has ws (lists_of (words b (length q.input)) r)) (sym all_words) run))

module _ (s : Simplex) (r : ℕ) where
  abbrev n : ℕ
  n = length s

  abbrev views : List Word → List View
  views ws = fold round (base_views s) ws

  abbrev IsRun : List Word → Type 0
  IsRun ws = Has ws (runs s r)

  pub words_fit : (ws : List Word) → IsRun ws → AllByRecursion (λ w. length w ≡ n) ws
  words_fit ws run =
      each (λ w. Has w (words 1 n)) (λ w. length w ≡ n) (λ w h. of_has (λ u. length u ≡ n) (words 1 n) w (words_long 1 n) h) ws (has_lists (words 1 n) r ws run).1

  pub views_long : (ws : List Word) → IsRun ws → length (views ws) ≡ n
  views_long ws run = last_long ws (base_views s) n (length-map s (λ (v : Vertex). base v.0 v.1)) (words_fit ws run)

  pub value_decided : (m : View → ℕ) (ws : List Word) → IsRun ws → (i : ℕ) → i < n → value_at (map m (views ws)) i ≡ m (at (views ws) i)
  value_decided m ws run i low = let long = views_long ws run in get_or-map m (views ws) i (base 0 0) 0 (omega (arith, low, long))

  pub processes_there : (ws : List Word) → IsRun ws → map process_of (views ws) ≡ processes_of s
  processes_there ws run = last_processes (on_rule (record { input = s; tuples = [] }) ws) (words_fit ws run)

  pub process_there : (ws : List Word) → IsRun ws → (i : ℕ) → i < n → process_of (at (views ws) i) ≡ get_or (processes_of s) i 0
  process_there ws run i low =
      let long = views_long ws run in
      sym (get_or-map process_of (views ws) i (base 0 0) 0 (omega (arith, low, long)))
      ∙ ap (λ ps. get_or ps i 0) (processes_there ws run)

  -- an execution on a face, and one on the simplex with its views
  pub face_run : is_simplex s ≡ true → n ≤ 4 → (q : Simplex) → is_part q s ≡ true → (ws : List Word) → Has ws (runs q r) →
      (us : List Word) × IsRun us × (fold round (base_views q) ws ≡ keep (mask_of q s) (views us))
  face_run simplex few q part ws run =
      let mask = mask_of q s in
      let old = base_views s in
      let face : keep mask s ≡ q = same_vertices_in (keep mask s) q part in
      let kept : keep mask old ≡ base_views q = keep_map (λ (v : Vertex). base v.0 v.1) mask s ∙ ap base_views face in
      let kept_long : length (keep mask old) ≡ length q = ap length kept ∙ length-map q (λ (v : Vertex). base v.0 v.1) in
      let more = extended_run n (simplex_some s simplex) few mask (length-map s _) r (length q) ws old (length-map s (λ (v : Vertex). base v.0 v.1)) kept_long (has_lists (words 1 (length q)) r ws run) in
      let us = map (extended mask) ws in
      (us, lists_have (words 1 n) r us more.0, ap (λ vs. fold round vs ws) (sym kept) ∙ sym more.1)
