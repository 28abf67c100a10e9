-- Steps of the loops that find patterns.
use Rattle.std.proofs.Common.{◌≡◌, ℕ, ◌+◌, Bool, inl, inr, refl, ◌<◌, ◌≤◌, ◌==◌, ◌&&◌, true, false, not, List, [], ◌∷◌, ◌++◌, map, filter, flat_map, zip, take, drop, length, get_or, slice_index, eqb-true, subst, sym, ap, ◌∙◌, Vec, vec_items, arith, append_assoc}
use Rattle.std.proofs.Math.Bool.{and_comm}
use Rattle.std.proofs.lemmas.Bool.{cases_Bool, true≢false}
use Rattle.std.proofs.lemmas.List.{map-append, append-nil, take_all, take_more}
use Rattle.std.proofs.lemmas.List.Concat.{flat_map-append}
use Rattle.std.proofs.lemmas.List.Elements.{filter_agree}
use Rattle.std.specs.List.{AllByRecursion}
use Rattle.wf_model.specs.Lists.{has}
use Rattle.wf_model.specs.Task.{Tuple}
use Rattle.wf_sat_formula.proofs.Lemmas.{has_each}
use Rattle.wf_sat_formula.specs.Patterns.{Pattern, minimal_patterns}
use Rattle.wf_sat_cnf.specs.Found.{having, occurs, occurs_in_each, found_at, patterns_with, found_with, choices, patterns_on}
use Rattle.wf_sat_cnf.specs.Groups.{AreAllowed}
use Rattle.wf_sat_cnf.proofs.FoundLemmas.{filter_twice, found_last, found_more, minimal_found, minimal_nothing}
use Rattle.wf_sat_cnf.proofs.GroupLemmas.{each_last}

-- what was the next of those left is the last of those there
pub one_more : {X Y : Type 0} (seen : X → Y) (f : ℕ → Y) (before after : List X) (x : X) (v : ℕ) (left rest : List ℕ) (whole : List Y)
    → after ≡ before ++ x ∷ [] → left ≡ v ∷ rest → seen x ≡ f v → map seen before ++ map f left ≡ whole → map seen after ++ map f rest ≡ whole
one_more seen f before after x v left rest whole pushed next same so_far =
    ap (λ ys. map seen ys ++ map f rest) pushed
    ∙ ap (λ ys. ys ++ map f rest) (map-append seen before (x ∷ []))
    ∙ append_assoc (map seen before) (seen x ∷ []) (map f rest)
    ∙ (λ i. map seen before ++ (same i ∷ map f rest))
    ∙ ap (λ l. map seen before ++ map f l) (sym next)
    ∙ so_far

-- at the last place: what is missing there
pub last_missing : (values places begun : List ℕ) (n : ℕ) (fitting : List Tuple) (nearly : List (List Tuple)) (place : ℕ) (there lacking missing : List ℕ)
    → n < length places → n + 1 ≡ length places → place ≡ slice_index places n → ((v : ℕ) → has there v ≡ occurs fitting place v)
    → lacking ≡ filter (λ v. not (has there v)) values → missing ≡ filter (occurs_in_each nearly place) lacking
    → map (λ a. zip places (begun ++ a ∷ [])) missing ≡ patterns_with places begun (found_at values (drop n places) fitting nearly)
last_missing values places begun n fitting nearly place there lacking missing low last at says lacks misses =
    ap (map (λ a. zip places (begun ++ a ∷ []))) (misses
    ∙ ap (filter (occurs_in_each nearly place)) lacks
    ∙ filter_twice (occurs_in_each nearly place) (λ v. not (has there v)) values
    ∙ filter_agree (λ a. not (has there a) && occurs_in_each nearly place a) (λ a. not (occurs fitting place a) && occurs_in_each nearly place a)
    (λ a. ap (λ b. not b && occurs_in_each nearly place a) (says a)) values
    ∙ ap (λ p. filter (λ a. not (occurs fitting p a) && occurs_in_each nearly p a) values) at)
    ∙ sym (found_last values places begun n fitting nearly low last)

-- at a place before: the values that occur there
pub before_more : (values places begun : List ℕ) (n : ℕ) (fitting : List Tuple) (nearly : List (List Tuple)) (place : ℕ) (there left : List ℕ)
    → n + 1 < length places → place ≡ slice_index places n → ((v : ℕ) → has there v ≡ occurs fitting place v) → left ≡ filter (has there) values
    → flat_map (found_with values places n begun fitting nearly) left ≡ patterns_with places begun (found_at values (drop n places) fitting nearly)
before_more values places begun n fitting nearly place there left low at says is =
    ap (flat_map (found_with values places n begun fitting nearly)) (is
    ∙ filter_agree (has there) (occurs fitting place) says values
    ∙ ap (λ p. filter (occurs fitting p) values) at)
    ∙ sym (found_more values places begun n fitting nearly low)

-- filters that agree on the given values
filter_among : (values xs : List ℕ) (p q : ℕ → Bool) → AllByRecursion (λ x. has values x ≡ true) xs → ((a : ℕ) → has values a ≡ true → p a ≡ q a) → filter p xs ≡ filter q xs
filter_among values [] p q among same = refl
filter_among values (x ∷ xs) p q among same = elim (cases_Bool (q x)) [
  | inl pass ↦ rw (same x among.0 ∙ pass, pass) (ap (λ ys. x ∷ ys) (filter_among values xs p q among.1 same))
  | inr fail ↦ rw (same x among.0 ∙ fail, fail) (filter_among values xs p q among.1 same)
]

-- at the last two places: what is missing with this value at the first of them
pub two_missing : (values places begun : List ℕ) (n : ℕ) (fitting : List Tuple) (nearly : List (List Tuple)) (place next v : ℕ) (there fit near lacking among missing : List ℕ)
    → n + 2 ≡ length places → place ≡ slice_index places n → next ≡ slice_index places (n + 1)
    → ((a : ℕ) → has there a ≡ occurs fitting next a) → ((a : ℕ) → has fit a ≡ occurs (having place v fitting) next a)
    → ((a : ℕ) → has near a ≡ (has values a && occurs_in_each (map (having place v) nearly) next a))
    → lacking ≡ filter (λ a. not (has fit a)) values → among ≡ filter (has there) lacking → missing ≡ filter (has near) among
    → map (λ a. zip places ((begun ++ v ∷ []) ++ a ∷ [])) missing ≡ found_with values places n begun fitting nearly v
two_missing values places begun n fitting nearly place next v there fit near lacking among missing long at next_at there_says fit_says near_says lacks amongs misses =
    let others = map (having place v) nearly in
    let each = occurs_in_each (others ++ fitting ∷ []) next in
    let lacks_it = λ (a : ℕ). not (has fit a) in
    let same : (a : ℕ) → has values a ≡ true → (lacks_it a && (has there a && has near a)) ≡ (lacks_it a && each a) =
    λ a inside. ap (λ b. lacks_it a && b)
    ((λ i. there_says a i && near_says a i)
    ∙ ap (λ b. occurs fitting next a && (b && occurs_in_each others next a)) inside
    ∙ and_comm (occurs fitting next a) (occurs_in_each others next a)
    ∙ sym (each_last others fitting next a)) in
    let all : missing ≡ filter each lacking =
    misses ∙ ap (filter (has near)) amongs
    ∙ filter_twice (has near) (has there) lacking
    ∙ ap (filter (λ a. has there a && has near a)) lacks
    ∙ filter_twice (λ a. has there a && has near a) lacks_it values
    ∙ filter_among values values (λ a. lacks_it a && (has there a && has near a)) (λ a. lacks_it a && each a) (has_each values) same
    ∙ sym (filter_twice each lacks_it values)
    ∙ ap (filter each) (sym lacks) in
    last_missing values places (begun ++ v ∷ []) (n + 1) (having place v fitting) (others ++ fitting ∷ []) next fit lacking missing
    (omega (arith, long)) (omega (arith, long)) next_at fit_says lacks all
    ∙ ap (λ p. patterns_with places (begun ++ v ∷ []) (found_at values (drop (n + 1) places) (having p v fitting) (map (having p v) nearly ++ fitting ∷ []))) at

-- what was found with the next of those left is there now
pub one_list_more : {Y : Type 0} (f : ℕ → List Y) (before more after : List Y) (v : ℕ) (left rest : List ℕ) (whole : List Y)
    → after ≡ before ++ more → left ≡ v ∷ rest → more ≡ f v → before ++ flat_map f left ≡ whole → after ++ flat_map f rest ≡ whole
one_list_more f before more after v left rest whole added next same so_far =
    ap (λ ys. ys ++ flat_map f rest) added
    ∙ append_assoc before more (flat_map f rest)
    ∙ ap (λ ys. before ++ (ys ++ flat_map f rest)) same
    ∙ ap (λ l. before ++ flat_map f l) (sym next)
    ∙ so_far

-- what is found with a value at the first of three places or more, by the lists of the tuples that
-- have it there
pub with_lists : (values places begun more : List ℕ) (n v : ℕ) (fitting fit : List Tuple) (lists near : List (List Tuple)) (place : ℕ) (old new : List Pattern)
    → place ≡ slice_index places n → more ≡ begun ++ v ∷ [] → fit ≡ having place v fitting → near ≡ lists ++ fitting ∷ [] → new ≡ old ++ patterns_with places more (found_at values (drop (n + 1) places) fit near)
    → (nearly : List (List Tuple)) → lists ≡ map (having (slice_index places n) v) nearly → new ≡ old ++ found_with values places n begun fitting nearly v
with_lists values places begun more n v fitting fit lists near place old new at more_is fit_is near_is told nearly lists_are =
    told
    ∙ (λ i. old ++ patterns_with places (more_is i) (found_at values (drop (n + 1) places) ((fit_is ∙ ap (λ p. having p v fitting) at) i) ((near_is ∙ ap (λ ls. ls ++ fitting ∷ []) lists_are) i)))

-- the same where the next two places are the last ones
pub with_allowed : (values places begun more : List ℕ) (n v : ℕ) (fitting fit : List Tuple) (lists : List (List Tuple)) (near : List (List ℕ)) (place next last : ℕ) (old new : List Pattern)
    → place ≡ slice_index places n → next ≡ slice_index places (n + 1) → last ≡ slice_index places (n + 2) → more ≡ begun ++ v ∷ [] → fit ≡ having place v fitting → AreAllowed next last values (lists ++ fitting ∷ []) near
    → ((all : List (List Tuple)) → AreAllowed (slice_index places (n + 1)) (slice_index places (n + 1 + 1)) values all near → new ≡ old ++ patterns_with places more (found_at values (drop (n + 1) places) fit all))
    → (nearly : List (List Tuple)) → lists ≡ map (having (slice_index places n) v) nearly → new ≡ old ++ found_with values places n begun fitting nearly v
with_allowed values places begun more n v fitting fit lists near place next last old new at next_at last_at more_is fit_is allowed told =
    let all = lists ++ fitting ∷ [] in
    let end : last ≡ slice_index places (n + 1 + 1) = last_at ∙ ap (slice_index places) (omega arith) in
    let here : AreAllowed (slice_index places (n + 1)) (slice_index places (n + 1 + 1)) values all near =
    subst (λ p. AreAllowed p (slice_index places (n + 1 + 1)) values all near) next_at (subst (λ q. AreAllowed next q values all near) end allowed) in
    with_lists values places begun more n v fitting fit lists all place old new at more_is fit_is (λ i. all) (told all here)

-- one list more
pub lists_more : {Z : Type 0} (before after : List (Vec Tuple Z)) (x : Vec Tuple Z) (lists : List (List Tuple)) (tuples : List Tuple) → after ≡ before ++ x ∷ [] → map vec_items before ≡ lists → x.items ≡ tuples → map vec_items after ≡ lists ++ tuples ∷ []
lists_more {Z} before after x lists tuples pushed begun copied =
    let items : Vec Tuple Z → List Tuple = λ v. v.items in
    ap (map items) pushed ∙ map-append items before (x ∷ []) ∙ (λ i. begun i ++ copied i ∷ [])

-- ---- all choices of places

pub nothing_there : (n : ℕ) (values : List ℕ) (tuples : List Tuple) → n ≤ 4 → (length tuples == 0) ≡ true → [] ∷ [] ≡ minimal_patterns n values tuples
nothing_there n values [] few h = sym (minimal_nothing n values few)
nothing_there n values (t ∷ ts) few h = absurd (let none : ⊥ = omega (arith, eqb-true (length (t ∷ ts)) 0 h) in none)

-- one choice more
pub choice_more : (f : List ℕ → List Pattern) (number : ℕ) (before after : List Pattern) → number < 15 → after ≡ before ++ f (get_or choices number []) → before ≡ flat_map f (take number choices) → after ≡ flat_map f (take (number + 1) choices)
choice_more f number before after low is so_far =
    is
    ∙ ap (λ ps. ps ++ f (get_or choices number [])) so_far
    ∙ ap (λ ps. flat_map f (take number choices) ++ ps) (sym (append-nil (f (get_or choices number []))))
    ∙ sym (flat_map-append f (take number choices) (get_or choices number [] ∷ []))
    ∙ ap (flat_map f) (sym (take_more choices number [] low))

pub all_choices : (n : ℕ) (values : List ℕ) (tuples : List Tuple) (number : ℕ) (found : List Pattern) → n ≤ 4 → (length tuples == 0) ≡ false → 15 ≤ number → found ≡ flat_map (patterns_on n values tuples) (take number choices) → found ≡ minimal_patterns n values tuples
all_choices n values [] number found few some all is = absurd (let none : true ≡ false = some in true≢false none)
all_choices n values (t ∷ ts) number found few some all is =
    is ∙ ap (flat_map (patterns_on n values (t ∷ ts))) (take_all number choices all) ∙ sym (minimal_found n values (t ∷ ts) few (omega arith))
