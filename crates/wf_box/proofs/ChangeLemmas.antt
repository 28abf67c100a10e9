-- Changes, one more and one less.
use Rattle.std.proofs.Common.{◌≡◌, ◌≢◌, ℕ, zero, suc, ◌+◌, ◌<◌, ◌≤◌, List, [], ◌∷◌, ◌++◌, length, get_or, drop, take, refl, sym, ap, ◌∙◌, subst, arith, inl, inr, ⊎_elim, length-set, length-append, append-nil, append_assoc, Bool, true, false, cond, Option, Some, None}
use Rattle.std.specs.List.{slice_set}
use Rattle.std.proofs.lemmas.Bool.{cases_eq, cases_lt, false≢true}
use Rattle.std.proofs.lemmas.List.{drop-append-le, drop-map, length-map, set-get_or, get_or_read, drop_all}
use Rattle.std.proofs.lemmas.List.Elements.{All-append, All-from_recursion}
use Rattle.std.specs.Prelude.{nat_lt, position}
use Rattle.std.specs.List.{position_from}
use Rattle.std.proofs.lemmas.Iterator.Adapters.{position_from-zero}
use Rattle.wf_model.specs.Lists.{has}
use Rattle.wf_model.specs.Box.{Box, candidates, count, first_open}
use Rattle.wf_model.proofs.Lemmas.{only as only_value}
use Rattle.wf_base.specs.Set.Sets.{box_of, values_in}
use Rattle.wf_box.specs.Changes.{IsGrown, IsTracked, IsUndone, taken_back, words_after}
use Rattle.wf_box.specs.declared.tracked.Change.{Change}
use Rattle.wf_box.proofs.TakingLemmas.{set_there}
use Rattle.wf_base.proofs.OfSet.Lemmas.{set_at}

pub back_more : (cs ds : List Change) (words : List (List ℕ)) → taken_back (cs ++ ds) words ≡ taken_back cs (taken_back ds words)
back_more [] ds words = refl
back_more (c ∷ cs) ds words = ap (λ ws. slice_set ws c.point c.before) (back_more cs ds words)

pub count_changed : (words : List (List ℕ)) (v : ℕ) (word : List ℕ) → v < length words → count (box_of (slice_set words v word)) + length (values_in (get_or words v [])) ≡ count (box_of words) + length (values_in word)
count_changed [] v word within = absurd (let none : ⊥ = omega (arith, within) in none)
count_changed (w ∷ words) zero word within = omega arith
count_changed (w ∷ words) (suc v) word within = omega (arith, count_changed words v word (omega (arith, within)))

pub changed_there : (words : List (List ℕ)) (v u : ℕ) (word : List ℕ) → u ≢ v → candidates (box_of (slice_set words v word)) u ≡ candidates (box_of words) u
changed_there [] v u word other = refl
changed_there (w ∷ words) zero zero word other = absurd (other refl)
changed_there (w ∷ words) zero (suc u) word other = refl
changed_there (w ∷ words) (suc v) zero word other = refl
changed_there (w ∷ words) (suc v) (suc u) word other = changed_there words v u word (λ e. other (ap suc e))

-- ---- one change more

after_more : (n : ℕ) (trail : List Change) (c : Change) (words : List (List ℕ)) → n ≤ length trail → words_after n (trail ++ c ∷ []) words ≡ words_after n trail (slice_set words c.point c.before)
after_more n trail c words low = ap (λ cs. taken_back cs words) (drop-append-le n trail (c ∷ []) low) ∙ back_more (drop n trail) (c ∷ []) words

pub one_change : (words : List (List ℕ)) (trail : List Change) (capacity open_from v : ℕ) (before : List ℕ) → IsTracked (slice_set words v before) trail capacity open_from → v < length words → length (values_in (get_or words v [])) < length (values_in before)
    → IsTracked words (trail ++ record { point = v; before = before } ∷ []) capacity open_from
one_change words trail capacity open_from v before kept within fewer = record {
  few = omega (arith, kept.few, long);
  small = kept.small;
  room = λ n low. ⊎_elim
      (λ (earlier : n < suc (length trail)). subst (λ ws. n + count (box_of ws) ≤ capacity) (sym (after_more n trail c words (omega (arith, earlier)))) (kept.room n (omega (arith, earlier))))
      (λ (last : suc (length trail) ≤ n). subst (λ cs. n + count (box_of (taken_back cs words)) ≤ capacity) (sym (drop_all n (trail ++ c ∷ []) (omega (arith, last, length-append trail (c ∷ []))))) (at_end n (omega (arith, low, last, length-append trail (c ∷ [])))))
      (cases_lt n (suc (length trail)));
  within = All-append (λ (c : Change). c.point < length words) trail (c ∷ []) (λ k d low. omega (arith, kept.within k d low, long)) (All-from_recursion (λ c. c.point < length words) (c ∷ []) (within, tt));
  open_within = omega (arith, kept.open_within, long);
  single = λ u low. elim (cases_eq u v) [
    | inl here ↦ omega (arith, fewer, kept.single u low, ap (λ w. length (candidates (box_of (slice_set words v before)) w)) here, ap length (set_there words v before within), ap (λ w. length (candidates (box_of words) w)) here, ap length (set_at words v within))
    | inr other ↦ subst (λ set. length set ≤ 1) (changed_there words v u before other) (kept.single u low)
  ];
}
  where
    c : Change
    c = record { point = v; before = before }

    long : length (slice_set words v before) ≡ length words
    long = length-set words v before

    at_end : (n : ℕ) → n ≡ suc (length trail) → n + count (box_of words) ≤ capacity
    at_end n is =
        let all = kept.room (length trail) (omega arith) in
        let now : words_after (length trail) trail (slice_set words v before) ≡ slice_set words v before = ap (λ cs. taken_back cs (slice_set words v before)) (drop_all (length trail) trail (omega arith)) in
        omega (arith, all, is, ap (λ ws. count (box_of ws)) now, count_changed words v before within, fewer)

-- there is room for a further change
pub room_now : (words : List (List ℕ)) (trail : List Change) (capacity open_from : ℕ) → IsTracked words trail capacity open_from → length trail + count (box_of words) ≤ capacity
room_now words trail capacity open_from kept =
    subst (λ cs. length trail + count (box_of (taken_back cs words)) ≤ capacity) (drop_all (length trail) trail (omega arith)) (kept.room (length trail) (omega arith))

-- ---- one change less

first_at : {X : Type 0} (xs ys : List X) (k : ℕ) (d : X) → k < length xs → get_or (xs ++ ys) k d ≡ get_or xs k d
first_at [] ys k d low = absurd (let none : ⊥ = omega (arith, low) in none)
first_at (x ∷ xs) ys zero d low = refl
first_at (x ∷ xs) ys (suc k) d low = first_at xs ys k d (omega (arith, low))

last_at : {X : Type 0} (xs : List X) (x d : X) → get_or (xs ++ x ∷ []) (length xs) d ≡ x
last_at [] x d = refl
last_at (y ∷ xs) x d = last_at xs x d

pub one_back : (words : List (List ℕ)) (trail : List Change) (c : Change) (capacity open_from from : ℕ) → IsTracked words (trail ++ c ∷ []) capacity open_from
    → from ≤ open_from → (c.point < from → length (values_in c.before) ≤ 1) → IsTracked (slice_set words c.point c.before) trail capacity from
one_back words trail c capacity open_from from kept low single = record {
  few = omega (arith, kept.few, long);
  small = kept.small;
  room = λ n inside. subst (λ ws. n + count (box_of ws) ≤ capacity) (after_more n trail c words inside) (kept.room n (omega (arith, inside, length-append trail (c ∷ []))));
  within = λ k d inside. subst (λ x. x.point < length (slice_set words c.point c.before)) (first_at trail (c ∷ []) k d inside) (omega (arith, long, kept.within k d (omega (arith, inside, length-append trail (c ∷ [])))));
  open_within = omega (arith, low, kept.open_within, long);
  single = λ u inside. elim (cases_eq u c.point) [
    | inl here ↦
        omega (arith, single (omega (arith, here, inside)), ap (λ w. length (candidates (box_of (slice_set words c.point c.before)) w)) here, ap length (set_there words c.point c.before within))
    | inr other ↦ subst (λ set. length set ≤ 1) (sym (changed_there words c.point u c.before other)) (kept.single u (omega (arith, inside, low)))
  ];
}
  where
    long : length (slice_set words c.point c.before) ≡ length words
    long = length-set words c.point c.before

    within : c.point < length words
    within = subst (λ x. x.point < length words) (last_at trail c c) (kept.within (length trail) c (omega (arith, length-append trail (c ∷ []))))

-- taking further ones back after it
pub undone_more : (len : ℕ) (words : List (List ℕ)) (trail : List Change) (before : List (List ℕ)) (fewer : List Change) → IsUndone words trail before fewer → len ≤ length fewer → words_after len fewer before ≡ words_after len trail words
undone_more len words trail before fewer undone low =
    ap (words_after len fewer) undone.words_are ∙ sym (after_more len fewer undone.last words low) ∙ ap (λ cs. words_after len cs words) (sym undone.trail_is)

pub undone_less : (words : List (List ℕ)) (trail : List Change) (before : List (List ℕ)) (fewer : List Change) → IsUndone words trail before fewer → length trail ≡ suc (length fewer)
undone_less words trail before fewer undone = ap length undone.trail_is ∙ length-append fewer (undone.last ∷ []) ∙ (let z : length fewer + 1 ≡ suc (length fewer) = omega arith in z)

take_first : {X : Type 0} (xs ys : List X) → xs ≡ take (length xs) (xs ++ ys)
take_first [] ys = refl
take_first (x ∷ xs) ys = ap (λ zs. x ∷ zs) (take_first xs ys)

take_less : {X : Type 0} (m n : ℕ) (xs : List X) → m ≤ n → take m (take n xs) ≡ take m xs
take_less zero n xs low = refl
take_less (suc m) zero xs low = absurd (let none : ⊥ = omega (arith, low) in none)
take_less (suc m) (suc n) [] low = refl
take_less (suc m) (suc n) (x ∷ xs) low = ap (λ zs. x ∷ zs) (take_less m n xs (omega (arith, low)))

pub undone_first : (all : List Change) (words : List (List ℕ)) (trail : List Change) (before : List (List ℕ)) (fewer : List Change) → IsUndone words trail before fewer → trail ≡ take (length trail) all → fewer ≡ take (length fewer) all
undone_first all words trail before fewer undone first =
    take_first fewer (undone.last ∷ []) ∙ ap (take (length fewer)) (sym undone.trail_is ∙ first) ∙ take_less (length fewer) (length trail) all (omega (arith, undone_less words trail before fewer undone))

-- ---- the first open point

abbrev pub shifted : ℕ → Option ℕ → Option ℕ
shifted n None = None
shifted n (Some k) = Some (n + k)

module _ {X : Type 0} (test : X → Bool) where
  past : (n m : ℕ) (xs : List X) (d : X) → n ≤ length xs → ((k : ℕ) → k < n → test (get_or xs k d) ≡ false) → position_from test m xs ≡ position_from test (m + n) (drop n xs)
  past zero m xs d low none = let z : m ≡ m + 0 = omega arith in ap (λ k. position_from test k xs) z
  past (suc n) m [] d low none = absurd (let bad : ⊥ = omega (arith, low) in bad)
  past (suc n) m (x ∷ xs) d low none =
      let z : m + 1 + n ≡ m + suc n = omega arith in
      ap (λ b. cond b (Some m) (position_from test (m + 1) xs)) (none 0 (omega arith))
      ∙ past n (m + 1) xs d (omega (arith, low)) (λ k inside. none (suc k) (omega (arith, inside)))
      ∙ ap (λ k. position_from test k (drop n xs)) z

  later : (n m : ℕ) (xs : List X) → position_from test (n + m) xs ≡ shifted n (position_from test m xs)
  later n m [] = refl
  later n m (x ∷ xs) =
      let z : n + m + 1 ≡ n + (m + 1) = omega arith in
      elim (test x) as (λ b. cond b (Some (n + m)) (position_from test (n + m + 1) xs) ≡ shifted n (cond b (Some m) (position_from test (m + 1) xs))) [
        | true ↦ refl
        | false ↦ ap (λ k. position_from test k xs) z ∙ later n (m + 1) xs
      ]

  position_past : (n : ℕ) (xs : List X) (d : X) → n ≤ length xs → ((k : ℕ) → k < n → test (get_or xs k d) ≡ false) → position test xs ≡ shifted n (position test (drop n xs))
  position_past n xs d low none =
      let z : 0 + n ≡ n + 0 = omega arith in
      position_from-zero test xs
      ∙ past n 0 xs d low none
      ∙ ap (λ k. position_from test k (drop n xs)) z
      ∙ later n 0 (drop n xs)
      ∙ ap (shifted n) (sym (position_from-zero test (drop n xs)))

-- where no point before this one is open, the search for the first may start here
pub open_later : (words : List (List ℕ)) (n : ℕ) → n ≤ length words → ((v : ℕ) → v < n → length (candidates (box_of words) v) ≤ 1) → first_open (box_of words) ≡ shifted n (first_open (box_of (drop n words)))
open_later words n low single =
    position_past (λ (set : List ℕ). nat_lt 1 (length set)) n (box_of words) [] (omega (arith, low, length-map words values_in)) (λ k inside. grind (arith, single k inside))
    ∙ ap (λ b. shifted n (first_open b)) (drop-map values_in n words)

-- ---- a point that has its one candidate already

pub decided_already : (box : Box) (v a : ℕ) → has (candidates box v) a ≡ true → length (candidates box v) ≤ 1 → box ≡ slice_set box v (a ∷ [])
decided_already [] v a there few = refl
decided_already (set ∷ box) zero a there few = ap (λ s. s ∷ box) (alone set there few)
  where
    alone : (set : List ℕ) → has set a ≡ true → length set ≤ 1 → set ≡ a ∷ []
    alone [] there few = absurd (false≢true there)
    alone (x ∷ []) there few = ap (λ y. y ∷ []) (only_value x a there)
    alone (x ∷ y ∷ ys) there few = absurd (let bad : ⊥ = omega (arith, few) in bad)
decided_already (set ∷ box) (suc v) a there few = ap (λ b. set ∷ b) (decided_already box v a there few)

-- ---- further changes

pub grown_none : (words : List (List ℕ)) (trail : List Change) → IsGrown words trail words trail
grown_none words trail = record { added = []; trail_is = sym (append-nil trail); words_are = refl }

pub grown_one : (words : List (List ℕ)) (trail : List Change) (fewer : List (List ℕ)) (more : List Change) (c : Change) → more ≡ trail ++ c ∷ [] → slice_set fewer c.point c.before ≡ words → IsGrown words trail fewer more
grown_one words trail fewer more c grows back = record { added = c ∷ []; trail_is = grows; words_are = back }

pub grown_then : (words : List (List ℕ)) (trail : List Change) (fewer : List (List ℕ)) (more : List Change) (least : List (List ℕ)) (most : List Change) → IsGrown words trail fewer more → IsGrown fewer more least most → IsGrown words trail least most
grown_then words trail fewer more least most first then = record {
  added = first.added ++ then.added;
  trail_is = then.trail_is ∙ ap (λ cs. cs ++ then.added) first.trail_is ∙ append_assoc trail first.added then.added;
  words_are = back_more first.added then.added least ∙ ap (taken_back first.added) then.words_are ∙ first.words_are;
}

-- a set that was changed is put back
pub set_back : (words : List (List ℕ)) (v : ℕ) (a b : List ℕ) → b ≡ get_or words v [] → slice_set (slice_set words v a) v b ≡ words
set_back [] v a b is = refl
set_back (w ∷ words) zero a b is = ap (λ x. x ∷ words) is
set_back (w ∷ words) (suc v) a b is = ap (λ ws. w ∷ ws) (set_back words v a b is)

pub back_again : (words fewer : List (List ℕ)) (v : ℕ) (word : List ℕ) → fewer ≡ slice_set words v (get_or fewer v []) → word ≡ get_or words v [] → slice_set fewer v word ≡ words
back_again words fewer v word is here = ap (λ ws. slice_set ws v word) is ∙ set_back words v (get_or fewer v []) word here

-- where there are fewer candidates in all and one set is changed, that set has fewer
pub set_fewer : (words fewer : List (List ℕ)) (v : ℕ) → v < length words → fewer ≡ slice_set words v (get_or fewer v []) → count (box_of fewer) < count (box_of words) → length (values_in (get_or fewer v [])) < length (values_in (get_or words v []))
set_fewer words fewer v within is less = omega (arith, count_changed words v (get_or fewer v []) within, ap (λ ws. count (box_of ws)) is, less)

-- what a place's taking out left, as a vector has it
pub record IsLessAt (words now : List (List ℕ)) (v : ℕ) (before : List ℕ) : Type 0 where
  pub back : slice_set now v before ≡ words
  pub fewer : length (values_in (get_or now v [])) < length (values_in before)

pub less_at : (words new now : List (List ℕ)) (v : ℕ) (before after : List ℕ) → now ≡ new → v < length words → length new ≡ length words → new ≡ slice_set words v (get_or new v []) → count (box_of new) ≤ count (box_of words) → (count (box_of new) ≡ count (box_of words) → new ≡ words)
    → before ≡ get_or words v before → after ≡ get_or now v after → (after ≡ before → ⊥) → IsLessAt words now v before
less_at words new now v before after now_is within long others fewer same here there differ =
    let before_is : before ≡ get_or words v [] = get_or_read words v before within here [] in
    let after_is : after ≡ get_or now v [] = get_or_read now v after (omega (arith, within, long, ap length now_is)) there [] in
    let less : count (box_of new) < count (box_of words) =
    ⊎_elim (λ (l : count (box_of new) < count (box_of words)). l) (λ (g : count (box_of words) ≤ count (box_of new)).
    absurd (differ (after_is ∙ ap (λ ws. get_or ws v []) (now_is ∙ same (omega (arith, fewer, g))) ∙ sym before_is))) (cases_lt (count (box_of new)) (count (box_of words))) in
    record {
      back = ap (λ ws. slice_set ws v before) now_is ∙ back_again words new v before others before_is;
      fewer = omega (arith, set_fewer words new v within others less, ap (λ w. length (values_in w)) before_is, ap (λ ws. length (values_in (get_or ws v []))) now_is);
    }

pub less_from : (words start new now : List (List ℕ)) (v : ℕ) (before after : List ℕ) → start ≡ words → now ≡ new → v < length words → length new ≡ length start → new ≡ slice_set start v (get_or new v []) → count (box_of new) ≤ count (box_of start) → (count (box_of new) ≡ count (box_of start) → new ≡ start)
    → before ≡ get_or words v before → after ≡ get_or now v after → (after ≡ before → ⊥) → IsLessAt words now v before
less_from words start new now v before after is now_is within long others fewer same here there differ =
    subst (λ ws. IsLessAt ws now v before) is
    (less_at start new now v before after now_is (omega (arith, within, ap length is)) long others fewer same (here ∙ ap (λ ws. get_or ws v before) (sym is)) there differ)

-- where the set that may have been changed is as before, all are
pub same_again : (words start new now : List (List ℕ)) (v : ℕ) (before after : List ℕ) → start ≡ words → now ≡ new → v < length words → length new ≡ length start → new ≡ slice_set start v (get_or new v [])
    → before ≡ get_or words v before → after ≡ get_or now v after → after ≡ before → now ≡ words
same_again words start new now v before after is now_is within long others here there same =
    let before_is : before ≡ get_or words v [] = get_or_read words v before within here [] in
    let after_is : after ≡ get_or now v [] = get_or_read now v after (omega (arith, within, long, ap length is, ap length now_is)) there [] in
    let kept : get_or new v [] ≡ get_or words v [] = ap (λ ws. get_or ws v []) (sym now_is) ∙ sym after_is ∙ same ∙ before_is in
    now_is ∙ others ∙ ap (slice_set start v) kept ∙ ap (λ ws. slice_set ws v (get_or words v [])) is ∙ set-get_or words v []
