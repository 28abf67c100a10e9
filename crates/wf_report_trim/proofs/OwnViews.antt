-- The own view of the round before is the view that the process had then.
use Rattle.std.proofs.Common.{◌≡◌, ℕ, ◌<◌, ◌⊎◌, ◌==◌, nat_le, Bool, true, false, List, [], ◌∷◌, map, filter, zip, length, inl, inr, refl, sym, ap, ◌∙◌, subst, arith, eq-eqb, le-leb}
use Rattle.std.specs.List.{AllByRecursion}
use Rattle.std.proofs.lemmas.Bool.{cases_Bool, or_left, or_right, ne_eqb}
use Rattle.std.proofs.lemmas.List.{length-map}
use Rattle.wf_model.specs.Word.{Word}
use Rattle.wf_model.specs.Task.{Task}
use Rattle.wf_model.specs.View.{View, base, seen, Views, views_of, process_of, visible, round, occurs, occurs_in, renamed, renamed_each, rank, normal}
use Rattle.wf_model.specs.Points.{class}
use Rattle.wf_model.proofs.Lemmas.{Ascends, renamed_as_it_is, renamed_each_as_it_is, normal_within, ranks_apart}
use Rattle.wf_report_trim.specs.Lift.{own_among, own_before, point_before}

-- ---- members

-- x is one of the list
abbrev pub In : {X : Type 0} → X → List X → Type 0
In x [] = ⊥
In x (y ∷ ys) = (y ≡ x) ⊎ In x ys

each_in : {X : Type 0} (P : X → Type 0) (xs : List X) (x : X) → AllByRecursion P xs → In x xs → P x
each_in P [] x h i = absurd i
each_in P (y ∷ ys) x h (inl same) = subst P same h.0
each_in P (y ∷ ys) x h (inr later) = each_in P ys x h.1 later

each_from_in : {X : Type 0} (P : X → Type 0) (xs : List X) → ((x : X) → In x xs → P x) → AllByRecursion P xs
each_from_in P [] f = tt
each_from_in P (x ∷ xs) f = (f x (inl refl), each_from_in P xs (λ y i. f y (inr i)))

in_map : {X Y : Type 0} (f : X → Y) (xs : List X) (x : X) → In x xs → In (f x) (map f xs)
in_map f [] x h = absurd h
in_map f (y ∷ xs) x (inl same) = inl (ap f same)
in_map f (y ∷ xs) x (inr later) = inr (in_map f xs x later)

in_filter : {X : Type 0} (test : X → Bool) (xs : List X) (x : X) → In x xs → test x ≡ true → In x (filter test xs)
in_filter test [] x h pass = absurd h
in_filter test (y ∷ xs) x (inl same) pass = let passes : test y ≡ true = ap test same ∙ pass in rw passes (inl same)
in_filter test (y ∷ xs) x (inr later) pass =
    elim (cases_Bool (test y)) [ inl yes' ↦ rw yes' (inr (in_filter test xs x later pass)) | inr no' ↦ rw no' (in_filter test xs x later pass) ]

-- ---- the own view among those seen

process_renamed : (f : ℕ → ℕ) (v : View) → process_of (renamed f v) ≡ f (process_of v)
process_renamed f (base p x) = refl
process_renamed f (seen p vs) = refl

occurs_itself : (v : View) → occurs (process_of v) v ≡ true
occurs_itself (base p x) = eq-eqb p p refl
occurs_itself (seen p vs) = or_left (p == p) (occurs_in p vs) (eq-eqb p p refl)

occurs_among : (vs : List View) (v : View) (q : ℕ) → In v vs → occurs q v ≡ true → occurs_in q (views_of vs) ≡ true
occurs_among [] v q i h = absurd i
occurs_among (u ∷ vs) v q (inl same) h = or_left (occurs q u) (occurs_in q (views_of vs)) (ap (occurs q) same ∙ h)
occurs_among (u ∷ vs) v q (inr later) h = or_right (occurs q u) (occurs_in q (views_of vs)) (occurs_among vs v q later h)

-- the processes of the views ascend, and their new names stay apart from v's
own_renamed : (f : ℕ → ℕ) (vs : List View) (v : View) → In v vs → Ascends (map process_of vs) → ((u : View) → In u vs → (f (process_of u) == f (process_of v)) ≡ (process_of u == process_of v)) →
    own_among (f (process_of v)) (renamed_each f (views_of vs)) ≡ renamed f v
own_renamed f [] v i ascends apart = absurd i
own_renamed f (u ∷ vs) v (inl same) ascends apart =
    let here : (process_of (renamed f u) == f (process_of v)) ≡ true = eq-eqb (process_of (renamed f u)) (f (process_of v)) (process_renamed f u ∙ ap (λ w. f (process_of w)) same) in
    rw here (ap (renamed f) same)
own_renamed f (u ∷ vs) v (inr later) ascends apart =
    let low : process_of u < process_of v = each_in (λ p. process_of u < p) (map process_of vs) (process_of v) ascends.0 (in_map process_of vs v later) in
    let other : (process_of u == process_of v) ≡ false = ne_eqb (process_of u) (process_of v) (λ e. let none : ⊥ = omega (arith, low, e) in none) in
    let not_here : (process_of (renamed f u) == f (process_of v)) ≡ false = ap (λ p. p == f (process_of v)) (process_renamed f u) ∙ apart u (inl refl) ∙ other in
    rw not_here (own_renamed f vs v later ascends.1 (λ w i. apart w (inr i)))

own_as_it_is : (vs : List View) (v : View) → In v vs → Ascends (map process_of vs) → own_among (process_of v) (views_of vs) ≡ v
own_as_it_is vs v i ascends =
    ap (own_among (process_of v)) (sym (renamed_each_as_it_is (views_of vs))) ∙ own_renamed (λ p. p) vs v i ascends (λ u k. refl) ∙ renamed_as_it_is v

own_ranked : (vs : List View) (v : View) → In v vs → Ascends (map process_of vs) →
    normal (own_before (normal (seen (process_of v) (views_of vs)))) ≡ normal v
own_ranked vs v i ascends =
    let w = seen (process_of v) (views_of vs) in
    let within : (u : View) → In u vs → (q : ℕ) → occurs q u ≡ true → occurs q w ≡ true = λ u k q h. or_right (q == process_of v) (occurs_in q (views_of vs)) (occurs_among vs u q k h) in
    ap normal (own_renamed (rank w) vs v i ascends (λ u k. ranks_apart w (process_of u) (process_of v) (within u k (process_of u) (occurs_itself u)) (within v i (process_of v) (occurs_itself v))))
    ∙ normal_within w v (within v i)

-- whether views are classes or not
own_class : (t : Task) (vs : List View) (v : View) → In v vs → Ascends (map process_of vs) → point_before t (class t (seen (process_of v) (views_of vs))) ≡ class t v
own_class t vs v i ascends =
    elim (cases_Bool t.symmetric) [
      | inl ranks ↦ rw ranks (own_ranked vs v i ascends)
      | inr names ↦ rw names (own_as_it_is vs v i ascends)
    ]

-- ---- a round

second_of_zip : (w : Word) (old : List View) → length w ≡ length old → map (λ (q : ℕ × View). q.1) (zip w old) ≡ old
second_of_zip [] [] h = refl
second_of_zip [] (v ∷ old) h = absurd (let none : ⊥ = cc in none)
second_of_zip (b ∷ w) [] h = absurd (let none : ⊥ = cc in none)
second_of_zip (b ∷ w) (v ∷ old) h = ap (λ vs. v ∷ vs) (second_of_zip w old (let e : length w ≡ length old = cc in e))

ascends_visible : (block : ℕ) (zs : List (ℕ × View)) → Ascends (map process_of (map (λ (q : ℕ × View). q.1) zs)) → Ascends (map process_of (map (λ (q : ℕ × View). q.1) (filter (λ (q : ℕ × View). nat_le q.0 block) zs)))
ascends_visible block [] h = tt
ascends_visible block (z ∷ zs) h =
    elim (cases_Bool (nat_le z.0 block)) [
      | inl sees ↦ rw sees (above (process_of z.1) zs h.0, ascends_visible block zs h.1)
      | inr misses ↦ rw misses (ascends_visible block zs h.1)
    ]
  where
    above : (p : ℕ) (zs : List (ℕ × View)) → AllByRecursion (λ q. p < q) (map process_of (map (λ (q : ℕ × View). q.1) zs)) → AllByRecursion (λ q. p < q) (map process_of (map (λ (q : ℕ × View). q.1) (filter (λ (q : ℕ × View). nat_le q.0 block) zs)))
    above p [] h = tt
    above p (z ∷ zs) h = elim (cases_Bool (nat_le z.0 block)) [ inl sees ↦ rw sees (h.0, above p zs h.1) | inr misses ↦ rw misses (above p zs h.1) ]

-- the points before a round's views are those of the views that it started from
pub before_round : (t : Task) (w : Word) (old : List View) → length w ≡ length old → Ascends (map process_of old) → map (point_before t) (map (class t) (round old w)) ≡ map (class t) old
before_round t w old long ascends =
    each_same (zip w old) (each_from_in (λ q. point_before t (class t (seen (process_of q.1) (views_of (visible q.0 w old)))) ≡ class t q.1) (zip w old) own)
    ∙ ap (map (class t)) (second_of_zip w old long)
  where
    own : (q : ℕ × View) → In q (zip w old) → point_before t (class t (seen (process_of q.1) (views_of (visible q.0 w old)))) ≡ class t q.1
    own q i =
        own_class t (visible q.0 w old) q.1
        (in_map (λ (z : ℕ × View). z.1) (filter (λ (z : ℕ × View). nat_le z.0 q.0) (zip w old)) q (in_filter (λ (z : ℕ × View). nat_le z.0 q.0) (zip w old) q i (le-leb q.0 q.0 (omega arith))))
        (ascends_visible q.0 (zip w old) (subst (λ vs. Ascends (map process_of vs)) (sym (second_of_zip w old long)) ascends))

    each_same : (zs : List (ℕ × View)) → AllByRecursion (λ q. point_before t (class t (seen (process_of q.1) (views_of (visible q.0 w old)))) ≡ class t q.1) zs →
        map (point_before t) (map (class t) (map (λ (q : ℕ × View). seen (process_of q.1) (views_of (visible q.0 w old))) zs)) ≡ map (class t) (map (λ (q : ℕ × View). q.1) zs)
    each_same [] h = refl
    each_same (z ∷ zs) h = λ i. h.0 i ∷ each_same zs h.1 i

-- ---- the processes stay

processes_seen : (f : ℕ × View → Views) (w : Word) (old : List View) → length w ≡ length old → map process_of (map (λ (q : ℕ × View). seen (process_of q.1) (f q)) (zip w old)) ≡ map process_of old
processes_seen f [] [] h = refl
processes_seen f [] (v ∷ old) h = absurd (let none : ⊥ = cc in none)
processes_seen f (b ∷ w) [] h = absurd (let none : ⊥ = cc in none)
processes_seen f (b ∷ w) (v ∷ old) h = ap (λ ps. process_of v ∷ ps) (processes_seen f w old (let e : length w ≡ length old = cc in e))

-- the views of n processes, which ascend
pub record Stands (n : ℕ) (old : List View) : Type 0 where
  pub long : length old ≡ n
  pub ascends : Ascends (map process_of old)

pub stands_after : (n : ℕ) (w : Word) (old : List View) → length w ≡ n → Stands n old → Stands n (round old w)
stands_after n w old long stands =
    let same : map process_of (round old w) ≡ map process_of old = processes_seen (λ q. views_of (visible q.0 w old)) w old (long ∙ sym stands.long) in
    record {
      long = sym (length-map (round old w) process_of) ∙ ap length same ∙ length-map old process_of ∙ stands.long;
      ascends = subst Ascends (sym same) stands.ascends;
    }
