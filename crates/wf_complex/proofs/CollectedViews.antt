-- The views inside a view, collected from the greatest number down.
use Rattle.std.proofs.Common.{◌≡◌, ◌<◌, ◌≤◌, ◌+◌, ◌==◌, ◌&&◌, ◌||◌, ℕ, zero, suc, take, drop, get_or, ⊎_elim, Bool, true, false, nat_lt, List, [], ◌∷◌, ◌++◌, map, length, reverse, All, fold, sym, refl, ap, ◌∙◌, subst, inl, inr, arith, ltb-true, eqb-true, eq-eqb, append_assoc}
use Rattle.std.specs.BTreeSet.{insert_key}
use Rattle.std.specs.List.{list_any, AllByRecursion, insert}
use Rattle.std.specs.Ordering.{nat_cmp}
use Rattle.std.proofs.lemmas.Bool.{cases_Bool, cases_lt, cases_order, eqb-false, and_from, and_parts, le-ltb, lt-ltb, ltb-false, ne_eqb, or_cases, or_left, or_right, false≢true}
use Rattle.std.proofs.lemmas.List.{drop_all, drop_more, length-map, map-append, reverse-append, take-append-drop}
use Rattle.std.proofs.lemmas.List.Elements.{recursion_from_All, All-from_recursion}
use Rattle.std.proofs.lemmas.Map.Views.{All-insert_key}
use Rattle.wf_model.specs.Lists.{has}
use Rattle.wf_model.specs.View.{View, same_view}
use Rattle.wf_model.proofs.Lemmas.{Among, same_itself, among_append_left, among_append_right, weaker, each_map, each_of_map, both, Ascends, is_ascending_from, Apart}
use Rattle.wf_complex.specs.Views.{view_at, inner_views, views_within}
use Rattle.wf_complex.specs.Renaming.{SawAmong, SawEarlier, AreInside}
use Rattle.wf_complex.proofs.ViewsWithin.{among_either, within_itself, within_within, at_most_within, differ}

-- ---- numbers put into a set

any_kept : (t : ℕ → Bool) (x : ℕ) (ys : List ℕ) → list_any t ys ≡ true → list_any t (insert_key nat_cmp ys x) ≡ true
any_kept t x [] h = absurd (false≢true h)
any_kept t x (y ∷ ys) h =
    elim (cases_Bool (nat_lt x y)) [
      | inl less ↦ rw less (or_right (t x) _ h)
      | inr more ↦ rw more (elim (cases_Bool (x == y)) [
        | inl same ↦ rw same h
        | inr other ↦ rw other (elim (or_cases (t y) (list_any t ys) h) [ inl here ↦ or_left (t y) _ here | inr later ↦ or_right (t y) _ (any_kept t x ys later) ])
      ])
    ]

any_new : (t : ℕ → Bool) (x : ℕ) (ys : List ℕ) → t x ≡ true → list_any t (insert_key nat_cmp ys x) ≡ true
any_new t x [] h = or_left (t x) false h
any_new t x (y ∷ ys) h =
    elim (cases_Bool (nat_lt x y)) [
      | inl less ↦ rw less (or_left (t x) _ h)
      | inr more ↦ rw more (elim (cases_Bool (x == y)) [
        | inl same ↦ rw same (or_left (t y) _ (subst (λ z. t z ≡ true) (eqb-true x y same) h))
        | inr other ↦ rw other (or_right (t y) _ (any_new t x ys h))
      ])
    ]

any_stays : (t : ℕ → Bool) (ys ns : List ℕ) → list_any t ys ≡ true → list_any t (fold (insert_key nat_cmp) ys ns) ≡ true
any_stays t ys [] h = h
any_stays t ys (n ∷ ns) h = any_stays t (insert_key nat_cmp ys n) ns (any_kept t n ys h)

each_put : (P : ℕ → Type 0) (ys ns : List ℕ) → All P ys → AllByRecursion P ns → All P (fold (insert_key nat_cmp) ys ns)
each_put P ys [] h k = h
each_put P ys (n ∷ ns) h k = each_put P (insert_key nat_cmp ys n) ns (All-insert_key nat_cmp n P ys h k.0) k.1

any-map : (f : ℕ → View) (w : View) (ks : List ℕ) → list_any (same_view w) (map f ks) ≡ list_any (λ k. same_view w (f k)) ks
any-map f w [] = refl
any-map f w (k ∷ ks) = ap (λ b. same_view w (f k) || b) (any-map f w ks)

among_stays : (f : ℕ → View) (w : View) (ys ns : List ℕ) → Among (map f ys) w → Among (map f (fold (insert_key nat_cmp) ys ns)) w
among_stays f w ys ns h = any-map f w (fold (insert_key nat_cmp) ys ns) ∙ any_stays (λ k. same_view w (f k)) ys ns (sym (any-map f w ys) ∙ h)

among_put : (f : ℕ → View) (ys ns : List ℕ) → AllByRecursion (λ n. Among (map f (fold (insert_key nat_cmp) ys ns)) (f n)) ns
among_put f ys [] = tt
among_put f ys (n ∷ ns) = (
  any-map f (f n) (fold (insert_key nat_cmp) (insert_key nat_cmp ys n) ns)
      ∙ any_stays (λ k. same_view (f n) (f k)) (insert_key nat_cmp ys n) ns (any_new (λ k. same_view (f n) (f k)) n ys (same_itself (f n))),
  among_put f (insert_key nat_cmp ys n) ns,
)

-- a number past all that are lower
put_past : (p : ℕ) (xs : List ℕ) (n : ℕ) → AllByRecursion (λ k. k < n) (take p xs) → insert_key nat_cmp xs n ≡ take p xs ++ insert_key nat_cmp (drop p xs) n
put_past zero xs n h = refl
put_past (suc p) [] n h = refl
put_past (suc p) (x ∷ xs) n h =
    let less : x < n = h.0 in
    rw (le-ltb n x (omega (arith, less))) (rw (ne_eqb n x (λ (e : n ≡ x). absurd (omega (arith, e, less)))) (ap (λ l. x ∷ l) (put_past p xs n h.1)))

put_first : (n y : ℕ) (ys : List ℕ) → n < y → insert_key nat_cmp (y ∷ ys) n ≡ n ∷ y ∷ ys
put_first n y ys less = rw (lt-ltb n y less) refl

put_same : (n y : ℕ) (ys : List ℕ) → y ≡ n → insert_key nat_cmp (y ∷ ys) n ≡ y ∷ ys
put_same n y ys same = rw (le-ltb n y (omega (arith, same))) (rw (eq-eqb n y (sym same)) refl)

put_new : (p : ℕ) (xs : List ℕ) (n : ℕ) → p ≤ length xs → AllByRecursion (λ k. k < n) (take p xs) → (p < length xs → n < get_or xs p 0) → insert xs p n ≡ insert_key nat_cmp xs n
put_new p xs n within lower first =
    ⊎_elim
    (λ (lt : p < length xs).
    let e = drop_more xs p 0 lt in
    sym (put_past p xs n lower ∙ ap (λ l. take p xs ++ insert_key nat_cmp l n) e ∙ ap (λ l. take p xs ++ l) (put_first n (get_or xs p 0) (drop (p + 1) xs) (first lt)) ∙ ap (λ l. take p xs ++ n ∷ l) (sym e)))
    (λ (all : length xs ≤ p).
    let e = drop_all p xs all in
    sym (put_past p xs n lower ∙ ap (λ l. take p xs ++ insert_key nat_cmp l n) e ∙ ap (λ l. take p xs ++ n ∷ l) (sym e)))
    (cases_lt p (length xs))

put_old : (p : ℕ) (xs : List ℕ) (n : ℕ) → p < length xs → AllByRecursion (λ k. k < n) (take p xs) → get_or xs p 0 ≡ n → xs ≡ insert_key nat_cmp xs n
put_old p xs n lt lower same =
    let e = drop_more xs p 0 lt in
    sym (put_past p xs n lower ∙ ap (λ l. take p xs ++ insert_key nat_cmp l n) e ∙ ap (λ l. take p xs ++ l) (put_same n (get_or xs p 0) (drop (p + 1) xs) same) ∙ ap (λ l. take p xs ++ l) (sym e) ∙ take-append-drop p xs)

-- whether the number stands at its place
module _ (p : ℕ) (xs : List ℕ) (n : ℕ) (b : Bool) (lower : All (λ k. k < n) (take p xs)) (is : b ≡ (nat_lt p (length xs) && get_or xs p 0 == n)) where
  pub put_here : b ≡ true → xs ≡ insert_key nat_cmp xs n
  put_here stands =
      let both = and_parts (nat_lt p (length xs)) (get_or xs p 0 == n) (sym is ∙ stands) in
      put_old p xs n (ltb-true p (length xs) both.0) (recursion_from_All (λ k. k < n) (take p xs) lower) (eqb-true (get_or xs p 0) n both.1)

  pub put_there : b ≡ false → p ≤ length xs → (p < length xs → n ≤ get_or xs p 0) → insert xs p n ≡ insert_key nat_cmp xs n
  put_there lacks within first =
      put_new p xs n within (recursion_from_All (λ k. k < n) (take p xs) lower)
      (λ lt. let other = (λ (e : get_or xs p 0 ≡ n). absurd (false≢true (sym lacks ∙ is ∙ and_from (nat_lt p (length xs)) (get_or xs p 0 == n) (lt-ltb p (length xs) lt) (eq-eqb (get_or xs p 0) n e)))) in strictly n (get_or xs p 0) (first lt) other)
    where
      strictly : (m k : ℕ) → m ≤ k → (k ≡ m → ⊥) → m < k
      strictly m k le ne = ⊎_elim (λ (e : m ≡ k). absurd (ne (sym e))) (λ e. ⊎_elim (λ (l : m < k). l) (λ (g : k < m). absurd (omega (arith, g, le))) e) (cases_order m k)

ascends_put : (xs : List ℕ) (n : ℕ) → Ascends xs → Ascends (insert_key nat_cmp xs n)
ascends_put [] n h = (tt, tt)
ascends_put (x ∷ xs) n h =
    elim (cases_Bool (nat_lt n x)) [
      | inl less ↦ rw less ((ltb-true n x less, weaker (λ z. x < z) (λ z. n < z) (λ z low. let k = ltb-true n x less in omega (arith, low, k)) xs h.0), h)
      | inr more ↦ rw more (elim (cases_Bool (n == x)) [
        | inl same ↦ rw same h
        | inr other ↦ rw other (
          recursion_from_All (λ z. x < z) (insert_key nat_cmp xs n)
              (All-insert_key nat_cmp n (λ z. x < z) xs (All-from_recursion (λ z. x < z) xs h.0) (above n x more other)),
          ascends_put xs n h.1,
        )
      ])
    ]
  where
    above : (n x : ℕ) → nat_lt n x ≡ false → (n == x) ≡ false → x < n
    above n x more other = ⊎_elim (λ (e : n ≡ x). absurd (eqb-false n x other e)) (λ e. ⊎_elim (λ (l : n < x). absurd (let k = ltb-false n x more in omega (arith, k, l))) (λ (g : x < n). g) e) (cases_order n x)

ascends_all : (xs ns : List ℕ) → Ascends xs → Ascends (fold (insert_key nat_cmp) xs ns)
ascends_all xs [] h = h
ascends_all xs (n ∷ ns) h = ascends_all (insert_key nat_cmp xs n) ns (ascends_put xs n h)

-- ---- one number more at the end

each_last : (P : ℕ → Type 0) (xs : List ℕ) (x : ℕ) → AllByRecursion P (xs ++ x ∷ []) → P x
each_last P [] x h = h.0
each_last P (y ∷ xs) x h = each_last P xs x h.1

each_front : (P : ℕ → Type 0) (xs : List ℕ) (x : ℕ) → AllByRecursion P (xs ++ x ∷ []) → AllByRecursion P xs
each_front P [] x h = tt
each_front P (y ∷ xs) x h = (h.0, each_front P xs x h.1)

last_above : (xs : List ℕ) (x : ℕ) → Ascends (xs ++ x ∷ []) → AllByRecursion (λ k. k < x) xs
last_above [] x h = tt
last_above (y ∷ xs) x h = (each_last (λ z. y < z) xs x h.0, last_above xs x h.1)

front_ascends : (xs : List ℕ) (x : ℕ) → Ascends (xs ++ x ∷ []) → Ascends xs
front_ascends [] x h = tt
front_ascends (y ∷ xs) x h = (each_front (λ z. y < z) xs x h.0, front_ascends xs x h.1)

saw_among_more : (vs : List View) (a b : List ℕ) → ((w : View) → Among (map (view_at vs) a) w → Among (map (view_at vs) b) w) → (id : ℕ) → SawAmong vs id a → SawAmong vs id b
saw_among_more vs a b f id h =
    All-from_recursion (Among (map (view_at vs) b)) (inner_views (view_at vs id))
    (weaker (Among (map (view_at vs) a)) (Among (map (view_at vs) b)) f (inner_views (view_at vs id)) (recursion_from_All (Among (map (view_at vs) a)) (inner_views (view_at vs id)) h))

among_with : (vs : List View) (a b : List ℕ) (x : ℕ) → ((w : View) → Among (map (view_at vs) a) w → Among (map (view_at vs) b) w) → (w : View) → Among (map (view_at vs) (a ++ x ∷ [])) w → Among (map (view_at vs) (b ++ x ∷ [])) w
among_with vs a b x f w h =
    rw map-append (among_either w (map (view_at vs) a) (view_at vs x ∷ []) (Among (map (view_at vs) b ++ view_at vs x ∷ []) w) (rw map-append at h)
    (λ k. among_append_left w (map (view_at vs) b) (view_at vs x ∷ []) (f w k)) (λ k. among_append_right w (map (view_at vs) b) (view_at vs x ∷ []) k))

saw_earlier_more : (vs : List View) (a b : List ℕ) → ((w : View) → Among (map (view_at vs) a) w → Among (map (view_at vs) b) w) → (ids : List ℕ) → SawEarlier vs a ids → SawEarlier vs b ids
saw_earlier_more vs a b f [] h = tt
saw_earlier_more vs a b f (id ∷ ids) h = (
  saw_among_more vs a b f id h.0,
  saw_earlier_more vs (a ++ id ∷ []) (b ++ id ∷ []) (among_with vs a b id f) ids h.1,
)

-- ---- collecting

-- the first, or n where there is none
abbrev pub first_of : ℕ → List ℕ → ℕ
first_of n [] = n
first_of n (x ∷ xs) = x

-- the numbers that are open, and those that are done
pub record IsCollecting (vs : List View) (id : ℕ) (open_ done : List ℕ) : Type 0 where
  pub ascends : Ascends done
  pub sorted : Ascends open_
  pub low : AllByRecursion (λ k. k < first_of (length vs) done) open_
  pub below : first_of (length vs) done ≤ length vs
  pub numbers : AllByRecursion (λ k. k < length vs) done
  pub itself : has (open_ ++ done) id ≡ true
  pub parts : SawEarlier vs open_ done
  pub open_within : AllByRecursion (λ k. Among (views_within (view_at vs id)) (view_at vs k)) open_
  pub done_within : AllByRecursion (λ k. Among (views_within (view_at vs id)) (view_at vs k)) done

pub collecting_none : (vs : List View) (id : ℕ) → id < length vs → IsCollecting vs id (id ∷ []) []
collecting_none vs id h = record {
  ascends = tt;
  sorted = (tt, tt);
  low = (h, tt);
  below = omega arith;
  numbers = tt;
  itself = or_left (id == id) false (eq-eqb id id refl);
  parts = tt;
  open_within = (within_itself (view_at vs id), tt);
  done_within = tt;
}

has_either : (xs ys : List ℕ) (k : ℕ) (G : Type 0) → has (xs ++ ys) k ≡ true → (has xs k ≡ true → G) → (has ys k ≡ true → G) → G
has_either [] ys k G h left right = right h
has_either (x ∷ xs) ys k G h left right =
    elim (or_cases (x == k) (has (xs ++ ys) k) h) [ inl here ↦ left (or_left _ _ here) | inr later ↦ has_either xs ys k G later (λ l. left (or_right _ _ l)) right ]

has_left : (xs ys : List ℕ) (k : ℕ) → has xs k ≡ true → has (xs ++ ys) k ≡ true
has_left [] ys k h = absurd (false≢true h)
has_left (x ∷ xs) ys k h = elim (or_cases (x == k) (has xs k) h) [ inl here ↦ or_left _ _ here | inr later ↦ or_right _ _ (has_left xs ys k later) ]

has_right : (xs ys : List ℕ) (k : ℕ) → has ys k ≡ true → has (xs ++ ys) k ≡ true
has_right [] ys k h = h
has_right (x ∷ xs) ys k h = or_right _ _ (has_right xs ys k h)

ascends_before : (n x : ℕ) (xs : List ℕ) → x < first_of n xs → Ascends xs → Ascends (x ∷ xs)
ascends_before n x [] h k = (tt, tt)
ascends_before n x (y ∷ xs) h k = ((h, weaker (λ z. y < z) (λ z. x < z) (λ z low. omega (arith, low, h)) xs k.0), k)

-- the greatest of the open numbers is done, and its parts are put among the open ones
pub collecting_more : (vs : List View) (id : ℕ) (all left_ after done ps : List ℕ) (x : ℕ) → IsCollecting vs id all done → all ≡ left_ ++ x ∷ [] →
    map (view_at vs) ps ≡ inner_views (view_at vs x) → All (λ k. k < x) ps → after ≡ fold (insert_key nat_cmp) left_ ps → IsCollecting vs id after (x ∷ done)
collecting_more vs id all left_ after done ps x is split seen_ earlier put =
    let now : IsCollecting vs id (left_ ++ x ∷ []) done = subst (λ ks. IsCollecting vs id ks done) split is in
    let high : x < first_of (length vs) done = each_last (λ k. k < first_of (length vs) done) left_ x now.low in
    let here : x < length vs = omega (arith, high, now.below) in
    let v = view_at vs id in
    let x_within = each_last (λ k. Among (views_within (view_at vs id)) (view_at vs k)) left_ x now.open_within in
    subst (λ ks. IsCollecting vs id ks (x ∷ done)) (sym put) (record {
      ascends = ascends_before (length vs) x done high now.ascends;
      sorted = ascends_all left_ ps (front_ascends left_ x now.sorted);
      low = recursion_from_All (λ k. k < x) (fold (insert_key nat_cmp) left_ ps) (each_put (λ k. k < x) left_ ps (All-from_recursion (λ k. k < x) left_ (last_above left_ x now.sorted)) (recursion_from_All (λ k. k < x) ps earlier));
      below = omega (arith, here);
      numbers = (here, now.numbers);
      itself =
          has_either left_ (x ∷ done) id (has (fold (insert_key nat_cmp) left_ ps ++ (x ∷ done)) id ≡ true) (ap (λ ks. has ks id) (sym (append_assoc left_ (x ∷ []) done)) ∙ now.itself)
          (λ h. has_left (fold (insert_key nat_cmp) left_ ps) (x ∷ done) id (any_stays (λ y. y == id) left_ ps h)) (λ h. has_right (fold (insert_key nat_cmp) left_ ps) (x ∷ done) id h);
      parts = (
        All-from_recursion (Among (map (view_at vs) (fold (insert_key nat_cmp) left_ ps))) (inner_views (view_at vs x))
            (subst (AllByRecursion (Among (map (view_at vs) (fold (insert_key nat_cmp) left_ ps)))) seen_
            (each_map (Among (map (view_at vs) (fold (insert_key nat_cmp) left_ ps))) (view_at vs) ps (among_put (view_at vs) left_ ps))),
        saw_earlier_more vs (left_ ++ x ∷ []) (fold (insert_key nat_cmp) left_ ps ++ x ∷ [])
            (among_with vs left_ (fold (insert_key nat_cmp) left_ ps) x (λ w h. among_stays (view_at vs) w left_ ps h)) done now.parts,
      );
      open_within =
          recursion_from_All (λ k. Among (views_within (view_at vs id)) (view_at vs k)) (fold (insert_key nat_cmp) left_ ps)
          (each_put (λ k. Among (views_within (view_at vs id)) (view_at vs k)) left_ ps
          (All-from_recursion (λ k. Among (views_within (view_at vs id)) (view_at vs k)) left_ (each_front (λ k. Among (views_within (view_at vs id)) (view_at vs k)) left_ x now.open_within))
          (each_of_map (Among (views_within (view_at vs id))) (view_at vs) ps (subst (AllByRecursion (Among (views_within (view_at vs id)))) (sym seen_) (within_within v (view_at vs x) x_within))));
      done_within = (x_within, now.done_within);
    })

-- ---- collected

module _ (vs : List View) (apart : (i j : ℕ) → i < length vs → j < length vs → view_at vs i ≡ view_at vs j → i ≡ j) where
  apart_views : (ids : List ℕ) → Ascends ids → AllByRecursion (λ k. k < length vs) ids → Apart (map (view_at vs) ids)
  apart_views [] h k = tt
  apart_views (id ∷ ids) h k = (
    each_map (λ w. same_view (view_at vs id) w ≡ false) (view_at vs) ids
        (both (λ j. id < j) (λ j. j < length vs) (λ j. same_view (view_at vs id) (view_at vs j) ≡ false)
        (λ j low within. differ (view_at vs id) (view_at vs j) (λ e. let same : id ≡ j = apart id j k.0 within e in absurd (let none : ⊥ = omega (arith, low, same) in none))) ids h.0 k.1),
    apart_views ids h.1 k.1,
  )

  pub collected : (id : ℕ) (open_ done : List ℕ) → IsCollecting vs id open_ done → open_ ≡ [] → AreInside vs id done
  collected id open_ done is none =
      let now : IsCollecting vs id [] done = subst (λ ks. IsCollecting vs id ks done) none is in
      record {
        ascending = is_ascending_from done now.ascends;
        numbers = All-from_recursion (λ k. k < length vs) done now.numbers;
        itself = now.itself;
        parts = now.parts;
        few =
            let most = at_most_within (view_at vs id) (map (view_at vs) done) (apart_views done now.ascends now.numbers)
            (each_map (Among (views_within (view_at vs id))) (view_at vs) done now.done_within) in
            omega (arith, most, length-map done (view_at vs));
      }

pub greatest_low : (vs : List View) (id : ℕ) (all left_ done : List ℕ) (x : ℕ) → IsCollecting vs id all done → all ≡ left_ ++ x ∷ [] → x < first_of (length vs) done
greatest_low vs id all left_ done x is split = each_last (λ k. k < first_of (length vs) done) left_ x (subst (AllByRecursion (λ k. k < first_of (length vs) done)) split is.low)

pub greatest_there : (vs : List View) (id : ℕ) (all left_ done : List ℕ) (x : ℕ) → IsCollecting vs id all done → all ≡ left_ ++ x ∷ [] → x < length vs
greatest_there vs id all left_ done x is split = omega (arith, greatest_low vs id all left_ done x is split, is.below)

pub reverse-push : (xs after : List ℕ) (x : ℕ) → after ≡ xs ++ x ∷ [] → reverse after ≡ x ∷ reverse xs
reverse-push xs after x e = ap reverse e ∙ reverse-append xs (x ∷ [])

pub empty_from : (xs : List ℕ) → (0 < length xs → ⊥) → xs ≡ []
empty_from [] h = refl
empty_from (x ∷ xs) h = absurd (h (omega arith))
