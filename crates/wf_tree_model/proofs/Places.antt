-- Views by places, after one word more.
use Rattle.std.proofs.Common.{◌≡◌, ℕ, suc, ◌<◌, List, [], ◌∷◌, map, zip, length, get_or, refl, sym, ap, ◌∙◌, subst, arith}
use Rattle.std.specs.List.{AllByRecursion}
use Rattle.std.proofs.lemmas.List.{get_or-map, length-map}
use Rattle.wf_model.specs.Lists.{below}
use Rattle.wf_model.specs.Word.{Word, words}
use Rattle.wf_model.specs.View.{View, Views, base, seen, no_views, view, process_of, round, views_of}
use Rattle.wf_model.proofs.Lemmas.{by_place, length-below, words_long}
use Rattle.wf_tree_model.proofs.OfCounting.Lemmas.{map_same_on, round_long, round_rows, rows, view_of}
use Rattle.wf_tree_model.proofs.Members.{Has, of_has}
use Rattle.wf_tree_model.proofs.WordTests.{row}

-- ---- views by places

abbrev pub at : List View → ℕ → View
at vs place = get_or vs place (base 0 0)

zip_long : {X Y : Type 0} (xs : List X) (ys : List Y) → length xs ≡ length ys → length (zip xs ys) ≡ length ys
zip_long [] [] h = refl
zip_long [] (y ∷ ys) h = absurd (let none : ⊥ = cc in none)
zip_long (x ∷ xs) [] h = absurd (let none : ⊥ = cc in none)
zip_long (x ∷ xs) (y ∷ ys) h = ap suc (zip_long xs ys (let e : length xs ≡ length ys = cc in e))

rows_long : (n : ℕ) (w : Word) → length w ≡ n → length (rows (below n) w) ≡ n
rows_long n w long =
    length-map (zip w (below n)) _ ∙ zip_long w (below n) (long ∙ sym (length-below n)) ∙ length-below n

-- the view of a place after a round is given by what the place sees
pub seen_after : (n : ℕ) (old : List View) (w : Word) (place : ℕ) → length old ≡ n → length w ≡ n → place < n → at (round old w) place ≡ view_of (at old) (row n place w)
seen_after n old w place olds long inside =
    let whole : map (at old) (below n) ≡ old = subst (λ k. map (at old) (below k) ≡ old) olds (by_place old (base 0 0)) in
    let r = rows_long n w long in
    ap (λ vs. at (round vs w) place) (sym whole)
    ∙ ap (λ vs. at vs place) (round_rows (at old) (below n) w)
    ∙ get_or-map (view_of (at old)) (rows (below n) w) place [] (base 0 0) (omega (arith, r, inside))

-- views that are the same at the places of a row make the same view
pub same_seen : (x y : ℕ → View) (places : List ℕ) → AllByRecursion (λ i. x i ≡ y i) places → view_of x places ≡ view_of y places
same_seen x y [] h = refl
same_seen x y (p ∷ ps) h = let rest = map_same_on x y ps h.1 in λ i. seen (process_of (h.0 i)) (views_of (rest i))

views_in : View → Views
views_in (base p x) = no_views
views_in (seen p vs) = vs

list_in : Views → List View
list_in no_views = []
list_in (view v vs) = v ∷ list_in vs

listed_back : (vs : List View) → list_in (views_of vs) ≡ vs
unfolding list_in
listed_back [] = refl
listed_back (v ∷ vs) = ap (λ us. v ∷ us) (listed_back vs)

pub seen_lists : (p q : ℕ) (us vs : List View) → seen p (views_of us) ≡ seen q (views_of vs) → us ≡ vs
unfolding views_in
seen_lists p q us vs h = sym (listed_back us) ∙ ap (λ v. list_in (views_in v)) h ∙ listed_back vs

-- ---- lists of places

pub same_places : (x y : ℕ → View) (ps : List ℕ) → map x ps ≡ map y ps → AllByRecursion (λ i. x i ≡ y i) ps
same_places x y [] h = tt
same_places x y (p ∷ ps) h = ((let e : x p ≡ y p = cc in e), same_places x y ps (let e : map x ps ≡ map y ps = cc in e))

pub map_injective : (n : ℕ) (f : ℕ → ℕ) → ((i j : ℕ) → i < n → j < n → f i ≡ f j → i ≡ j) → (ps qs : List ℕ) → AllByRecursion (λ i. i < n) ps → AllByRecursion (λ i. i < n) qs → map f ps ≡ map f qs → ps ≡ qs
map_injective n f apart [] [] low high h = refl
map_injective n f apart [] (q ∷ qs) low high h = absurd (let none : ⊥ = cc in none)
map_injective n f apart (p ∷ ps) [] low high h = absurd (let none : ⊥ = cc in none)
map_injective n f apart (p ∷ ps) (q ∷ qs) low high h =
    let first = apart p q low.0 high.0 (let e : f p ≡ f q = cc in e) in
    let rest = map_injective n f apart ps qs low.1 high.1 (let e : map f ps ≡ map f qs = cc in e) in
    λ i. first i ∷ rest i

pub map_twice : {X Y Z : Type 0} (f : Y → Z) (g : X → Y) (xs : List X) → map f (map g xs) ≡ map (λ x. f (g x)) xs
map_twice f g [] = refl
map_twice f g (x ∷ xs) = ap (λ ys. f (g x) ∷ ys) (map_twice f g xs)

-- ---- executions

-- the views after these words, the last word first
abbrev pub after : List View → List Word → List View
after old [] = old
after old (w ∷ us) = round (after old us) w

module _ (n : ℕ) (old : List View) (olds : length old ≡ n) where
  pub word_long : (w : Word) → Has w (words 1 n) → length w ≡ n
  word_long w there = of_has (λ u. length u ≡ n) (words 1 n) w (words_long 1 n) there

  pub after_long : (us : List Word) → AllByRecursion (λ w. Has w (words 1 n)) us → length (after old us) ≡ n
  after_long [] run = olds
  after_long (w ∷ us) run = let before = after_long us run.1 in round_long w (after old us) (word_long w run.0 ∙ sym before) ∙ before
