-- Executions on a simplex with one view at a place, the first word first.
use Rattle.std.proofs.Common.{◌≡◌, ℕ, zero, suc, ◌<◌, ◌≤◌, nat_lt, true, List, [], ◌∷◌, ◌++◌, fold, length, get_or, Contains, inl, inr, refl, sym, ap, ◌∙◌, arith}
use Rattle.std.specs.List.{AllByRecursion}
use Rattle.std.proofs.lemmas.Bool.{and_parts, cases_lt, false≢true, ltb-true}
use Rattle.std.proofs.lemmas.List.{get_or-map, get_or_past, length-map}
use Rattle.std.proofs.lemmas.List.Elements.{recursion_from_All, All-from_recursion}
use Rattle.wf_model.specs.Lists.{has}
use Rattle.wf_model.specs.Simplex.{Simplex, Vertex, is_ascending, is_nonempty, is_simplex, processes_of}
use Rattle.wf_model.specs.Word.{Word, words}
use Rattle.wf_model.specs.View.{View, base, base_views, process_of, round}
use Rattle.wf_model.proofs.Lemmas.{each_append, base_processes}
use Rattle.wf_tree_model.proofs.OfCounting.Lemmas.{pushed}
use Rattle.wf_tree_model.specs.Stars.{AgreeAt, DifferAtOne, runs, view_after}
use Rattle.wf_tree_model.proofs.Members.{AreOf, Has, contained_has, contains, from_each, has_lists, lists_have, of_has}
use Rattle.wf_tree_model.proofs.WordTests.{has_number, number_has}
use Rattle.wf_tree_model.proofs.Places.{after, after_long, at}
use Rattle.wf_tree_model.proofs.StarRuns.{star_runs}

-- ---- lists from the other end

abbrev pub turned : {X : Type 0} → List X → List X
turned [] = []
turned (x ∷ xs) = turned xs ++ x ∷ []

turned_push : {X : Type 0} (xs : List X) (x : X) → turned (xs ++ x ∷ []) ≡ x ∷ turned xs
turned_push [] x = refl
turned_push (y ∷ xs) x = ap (λ zs. zs ++ y ∷ []) (turned_push xs x)

pub turned_twice : {X : Type 0} (xs : List X) → turned (turned xs) ≡ xs
turned_twice [] = refl
turned_twice (x ∷ xs) = turned_push (turned xs) x ∙ ap (λ ys. x ∷ ys) (turned_twice xs)

pub turned_of : {X : Type 0} (all : List X) (r : ℕ) (xs : List X) → AreOf all r xs → AreOf all r (turned xs)
turned_of {X} all r xs h = (long xs ∙ h.0, each xs h.1)
  where
    long : (ys : List X) → length (turned ys) ≡ length ys
    long [] = refl
    long (y ∷ ys) = pushed (turned ys) y ∙ ap suc (long ys)

    each : (ys : List X) → AllByRecursion (λ y. Has y all) ys → AllByRecursion (λ y. Has y all) (turned ys)
    each [] k = tt
    each (y ∷ ys) k = each_append (λ z. Has z all) (turned ys) (y ∷ []) (each ys k.1) (k.0, tt)

fold_push : (old : List View) (ws : List Word) (w : Word) → fold round old (ws ++ w ∷ []) ≡ round (fold round old ws) w
fold_push old [] w = refl
fold_push old (u ∷ ws) w = fold_push (round old u) ws w

pub fold_turned : (old : List View) (us : List Word) → fold round old (turned us) ≡ after old us
fold_turned old [] = refl
fold_turned old (w ∷ us) = fold_push old (turned us) w ∙ ap (λ vs. round vs w) (fold_turned old us)

-- ---- ascending processes are apart

above : (x : ℕ) (xs : List ℕ) → is_ascending (x ∷ xs) ≡ true → (i : ℕ) → i < length xs → x < get_or xs i 0
above x [] up i low = absurd (let none : ⊥ = omega (arith, low) in none)
above x (y ∷ ys) up zero low = ltb-true x y (and_parts (nat_lt x y) (is_ascending (y ∷ ys)) up).0
above x (y ∷ ys) up (suc i) low =
    let parts = and_parts (nat_lt x y) (is_ascending (y ∷ ys)) up in
    let first = ltb-true x y parts.0 in
    let rest = above y ys parts.1 i (omega (arith, low)) in
    omega (arith, first, rest)

ascending_rest : (x : ℕ) (xs : List ℕ) → is_ascending (x ∷ xs) ≡ true → is_ascending xs ≡ true
ascending_rest x [] up = refl
ascending_rest x (y ∷ ys) up = (and_parts (nat_lt x y) (is_ascending (y ∷ ys)) up).1

pub ascending_apart : (xs : List ℕ) → is_ascending xs ≡ true → (i j : ℕ) → i < length xs → j < length xs → get_or xs i 0 ≡ get_or xs j 0 → i ≡ j
ascending_apart [] up i j first second h = absurd (let none : ⊥ = omega (arith, first) in none)
ascending_apart (x ∷ xs) up zero zero first second h = refl
ascending_apart (x ∷ xs) up zero (suc j) first second h = let more = above x xs up j (omega (arith, second)) in absurd (let none : ⊥ = omega (arith, more, h) in none)
ascending_apart (x ∷ xs) up (suc i) zero first second h = let more = above x xs up i (omega (arith, first)) in absurd (let none : ⊥ = omega (arith, more, h) in none)
ascending_apart (x ∷ xs) up (suc i) (suc j) first second h = ap suc (ascending_apart xs (ascending_rest x xs up) i j (omega (arith, first)) (omega (arith, second)) h)

pub processes_apart : (s : Simplex) → is_simplex s ≡ true → (i j : ℕ) → i < length s → j < length s → get_or (processes_of s) i 0 ≡ get_or (processes_of s) j 0 → i ≡ j
processes_apart s simplex i j first second h =
    let parts = and_parts (is_nonempty s) (is_ascending (processes_of s)) simplex in
    let long : length (processes_of s) ≡ length s = length-map s (λ (v : Vertex). v.0) in
    ascending_apart (processes_of s) parts.1 i j (omega (arith, first, long)) (omega (arith, second, long)) h

-- ---- executions

pub base_long : (s : Simplex) → length (base_views s) ≡ length s
base_long s = length-map s (λ (v : Vertex). base v.0 v.1)

pub base_process : (s : Simplex) (i : ℕ) → i < length s → process_of (at (base_views s) i) ≡ get_or (processes_of s) i 0
base_process s i low =
    let long = base_long s in
    sym (get_or-map process_of (base_views s) i (base 0 0) 0 (omega (arith, low, long))) ∙ ap (λ ps. get_or ps i 0) (base_processes s)

pub simplex_some : (s : Simplex) → is_simplex s ≡ true → 1 ≤ length s
simplex_some [] h = absurd (false≢true h)
simplex_some (v ∷ s) h = omega arith

pub stars_connected : (s : Simplex) (r : ℕ) (places : List ℕ) (f : List Word → ℕ) → is_simplex s ≡ true → length s ≤ 4 →
    ((us ws : List Word) → Contains (runs s r) us → Contains (runs s r) ws → AgreeAt s places us ws → DifferAtOne s us ws → f us ≡ f ws) →
    (us ws : List Word) → Contains (runs s r) us → Contains (runs s r) ws → AgreeAt s places us ws → f us ≡ f ws
stars_connected s r places f simplex few starred us ws us_run ws_run agree =
    let n = length s in
    let old = base_views s in
    let view_turned = λ (zs : List Word) (p : ℕ). ap (λ vs. at vs p) (fold_turned old zs) in
    let view_back = λ (zs : List Word) (p : ℕ). ap (λ ys. at (fold round old ys) p) (sym (turned_twice zs)) ∙ view_turned (turned zs) p in
    let of = λ (zs : List Word) (run : Contains (runs s r) zs). turned_of (words 1 n) r zs (has_lists (words 1 n) r zs (contained_has zs (runs s r) run)) in
    let run_of = λ (zs : List Word) (run : AreOf (words 1 n) r zs). contains (turned zs) (runs s r) (lists_have (words 1 n) r (turned zs) (turned_of (words 1 n) r zs run)) in
    let Same = λ (xs ys : List Word) (p : ℕ). view_after s xs p ≡ view_after s ys p in
    -- a place of the list is one of the simplex, or has no view
    let agreed = λ (xs ys : List Word) (x_run : AreOf (words 1 n) r xs) (y_run : AreOf (words 1 n) r ys) (here : (p : ℕ) → p < n → has places p ≡ true → at (after old xs) p ≡ at (after old ys) p).
    All-from_recursion (Same (turned xs) (turned ys)) places
    (from_each (Same (turned xs) (turned ys)) places
    (λ p there. elim (cases_lt p n) [
      | inl low ↦ view_turned xs p ∙ here p low (number_has p places there) ∙ sym (view_turned ys p)
      | inr high ↦
          view_turned xs p
          ∙ get_or_past (after old xs) p (base 0 0) (let l = after_long n old (base_long s) xs x_run.1 in omega (arith, high, l))
          ∙ sym (get_or_past (after old ys) p (base 0 0) (let l = after_long n old (base_long s) ys y_run.1 in omega (arith, high, l)))
          ∙ sym (view_turned ys p)
    ])) in
    ap f (sym (turned_twice us))
    ∙ star_runs n (simplex_some s simplex) few old (base_long s)
    (λ i j first second h. processes_apart s simplex i j first second (sym (base_process s i first) ∙ h ∙ base_process s j second))
    r (has places) (λ zs. f (turned zs))
    (λ ys zs y_run z_run same (place, inside, others).
    starred (turned ys) (turned zs) (run_of ys y_run) (run_of zs z_run) (agreed ys zs y_run z_run same)
    (place, inside, (λ p low other. view_turned ys p ∙ others p low other ∙ sym (view_turned zs p))))
    (turned us) (turned ws) (of us us_run) (of ws ws_run)
    (λ p low there.
    sym (view_back us p)
    ∙ of_has (Same us ws) places p (recursion_from_All (Same us ws) places agree) (has_number p places there)
    ∙ view_back ws p)
    ∙ ap f (turned_twice ws)
