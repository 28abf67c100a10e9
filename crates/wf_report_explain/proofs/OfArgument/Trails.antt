-- The way back: what the entries of a trail stand for.
use Rattle.std.proofs.Common.{◌≡◌, ℕ, zero, suc, ◌+◌, ◌<◌, ◌≤◌, ◌==◌, ◌||◌, Bool, true, false, cond, List, [], ◌∷◌, ◌++◌, map, filter, reverse, take, drop, length, get_or, not, Some, append_assoc, refl, sym, ap, ◌∙◌, arith}
use Rattle.std.specs.List.{slice_set}
use Rattle.std.proofs.lemmas.List.{reverse-append, take_at, map-set, drop_more, drop_all}
use Rattle.wf_model.proofs.Lemmas.{equal_turned}
use Rattle.wf_report_explain.specs.Argument.ArgumentState as state
use Rattle.std.specs.Option.{is_some}
use Rattle.wf_base.specs.Set.Sets.{values_in}
use Rattle.wf_report_explain.specs.Argument.ArgumentState.{Gone, losses, with_losses, has_loss, loss_among, taken, left_at, in_this_case, case_of, entered}
use Rattle.wf_report_explain.specs.Argument.Trail.{later, later_from, losing}
use Rattle.wf_report_explain.specs.declared.argument.losses.Loss.{Loss}
use Rattle.wf_report_explain.specs.declared.argument.state.UndoStep.{UndoStep}
use Rattle.wf_report_explain.specs.declared.argument.state.UndoStep.TheVariants.{Lost, Later}

-- ---- losses

pub losses_twice : (gone : Gone) (v : ℕ) (xs ys : List Loss) → with_losses (with_losses gone v xs) v ys ≡ with_losses gone v (xs ++ ys)
losses_twice [] v xs ys = refl
losses_twice (l ∷ gone) zero xs ys = ap (λ zs. zs ∷ gone) (append_assoc l xs ys)
losses_twice (l ∷ gone) (suc v) xs ys = ap (λ rest. l ∷ rest) (losses_twice gone v xs ys)

pub given_back : (gone : Gone) (v : ℕ) (xs : List Loss) → slice_set (with_losses gone v xs) v (take (length (losses gone v)) (losses (with_losses gone v xs) v)) ≡ gone
given_back [] v xs = refl
given_back (l ∷ gone) zero xs = ap (λ zs. zs ∷ gone) (take_at l xs (length l) refl)
given_back (l ∷ gone) (suc v) xs = ap (λ rest. l ∷ rest) (given_back gone v xs)

-- ---- entries

-- one more entry
pub later_push : (values : List ℕ) (trail : List UndoStep) (e : UndoStep) (gone : Gone) → later values (trail ++ e ∷ []) gone ≡ later_from values (e ∷ reverse trail) gone
later_push values trail e gone = ap (λ es. later_from values es gone) (reverse-append trail (e ∷ []))

-- the last entry is taken back
pub later_popped : (values : List ℕ) (trail before : List UndoStep) (e : UndoStep) (gone : Gone) → before ≡ trail ++ e ∷ [] → later values before gone ≡ later_from values (e ∷ reverse trail) gone
later_popped values trail before e gone is = ap (λ es. later values es gone) is ∙ later_push values trail e gone

-- a point loses values, and the way back has how many were lost before
pub later_lost : (values : List ℕ) (trail after : List UndoStep) (gone : Gone) (v n : ℕ) (xs : List Loss) → after ≡ trail ++ Lost v n ∷ [] → n ≡ length (losses gone v)
    → later values after (with_losses gone v xs) ≡ later values trail gone
later_lost values trail after gone v n xs is long =
    later_popped values trail after (Lost v n) (with_losses gone v xs) is
    ∙ ap (λ k. later values trail (slice_set (with_losses gone v xs) v (take k (losses (with_losses gone v xs) v)))) long
    ∙ ap (later values trail) (given_back gone v xs)

-- ---- states

pub losing_twice : (s : state.ArgumentState) (v : ℕ) (xs ys : List Loss) → losing (losing s v xs) v ys ≡ losing s v (xs ++ ys)
losing_twice s v xs ys = ap (λ gone. record s { gone = gone }) (losses_twice s.gone v xs ys)

-- ---- what is kept of a point

-- the losses of a point, by the vector that holds them
pub losses_there : {X : Type 0} (f : X → List Loss) (xs : List X) (v : ℕ) (x : X) → v < length xs → x ≡ get_or xs v x → f x ≡ losses (map f xs) v
losses_there f [] v x inside is = absurd (omega (arith, inside))
losses_there f (y ∷ xs) zero x inside is = ap f is
losses_there f (y ∷ xs) (suc v) x inside is = losses_there f xs v x (omega (arith, inside)) is

pub losses_added : {X : Type 0} (f : X → List Loss) (xs : List X) (v : ℕ) (x y : X) (ls : List Loss) → v < length xs → x ≡ get_or xs v x → f y ≡ f x ++ ls → map f (slice_set xs v y) ≡ with_losses (map f xs) v ls
losses_added f xs v x y ls inside is more = map-set f xs v y ∙ ap (slice_set (map f xs) v) (more ∙ ap (λ l. l ++ ls) (losses_there f xs v x inside is))

pub losses_cut : {X : Type 0} (f : X → List Loss) (xs : List X) (v n : ℕ) (x y : X) → v < length xs → x ≡ get_or xs v x → f y ≡ take n (f x) → map f (slice_set xs v y) ≡ slice_set (map f xs) v (take n (losses (map f xs) v))
losses_cut f xs v n x y inside is fewer = map-set f xs v y ∙ ap (slice_set (map f xs) v) (fewer ∙ ap (take n) (losses_there f xs v x inside is))

-- ---- what is left

-- a value that is lost, and then others
pub fewer_left : (b : ℕ) (ls : List Loss) (x : Loss) (values : List ℕ) → x.value ≡ b → filter (λ a. not (has_loss a ls)) (filter (λ a. not (a == b)) values) ≡ filter (λ a. not (has_loss a (x ∷ ls))) values
fewer_left b ls x [] is = refl
fewer_left b ls x (a ∷ values) is = by (a == b) (x.value == a) (equal_turned a b ∙ ap (λ c. c == a) (sym is)) (fewer_left b ls x values is)
  where
    by : (p q : Bool) → p ≡ q → filter (λ a. not (has_loss a ls)) (filter (λ a. not (a == b)) values) ≡ filter (λ a. not (has_loss a (x ∷ ls))) values
        → filter (λ a. not (has_loss a ls)) (cond (not p) (a ∷ filter (λ a. not (a == b)) values) (filter (λ a. not (a == b)) values)) ≡ cond (not (q || has_loss a ls)) (a ∷ filter (λ a. not (has_loss a (x ∷ ls))) values) (filter (λ a. not (has_loss a (x ∷ ls))) values)
    by true true e rest = rest
    by true false e rest = absurd (let bad : ⊥ = cc in bad)
    by false true e rest = absurd (let bad : ⊥ = cc in bad)
    by false false e rest = both (has_loss a ls)
      where
        both : (g : Bool) → cond (not g) (a ∷ filter (λ a. not (has_loss a ls)) (filter (λ a. not (a == b)) values)) (filter (λ a. not (has_loss a ls)) (filter (λ a. not (a == b)) values)) ≡ cond (not g) (a ∷ filter (λ a. not (has_loss a (x ∷ ls))) values) (filter (λ a. not (has_loss a (x ∷ ls))) values)
        both true = rest
        both false = ap (λ xs. a ∷ xs) rest

-- ---- a value that is taken

known : (a : ℕ) (xs : List Loss) → has_loss a xs ≡ is_some (loss_among a xs)
known a [] = refl
known a (x ∷ xs) = by (x.value == a) (known a xs)
  where
    by : (b : Bool) → has_loss a xs ≡ is_some (loss_among a xs) → (b || has_loss a xs) ≡ is_some (cond b (Some x) (loss_among a xs))
    by true rest = refl
    by false rest = rest

pub taken_again : (n v a : ℕ) (gone : Gone) → is_some (loss_among a (losses gone v)) ≡ true → taken n v gone a ≡ gone
taken_again n v a gone is = ap (λ b. cond b gone (with_losses gone v (record { value = a; step = Some n } ∷ []))) (known a (losses gone v) ∙ is)

pub taken_now : (n v a : ℕ) (gone : Gone) → is_some (loss_among a (losses gone v)) ≡ false → taken n v gone a ≡ with_losses gone v (record { value = a; step = Some n } ∷ [])
taken_now n v a gone is = ap (λ b. cond b gone (with_losses gone v (record { value = a; step = Some n } ∷ []))) (known a (losses gone v) ∙ is)

-- ---- a case that begins

pub entered_first : (n depth v a : ℕ) (values : List ℕ) (trail after : List UndoStep) (set others lost : List ℕ) (gone : Gone) (s : state.ArgumentState) → after ≡ trail ++ Later v depth others ∷ [] → values_in set ≡ a ∷ values_in others
    → values_in lost ≡ filter (λ b. not (b == a)) (left_at values gone v)
    → s ≡ losing (record { number = n; depth = depth; gone = gone; later = later values after gone }) v (map in_this_case (values_in lost))
    → Some s ≡ entered n (map (case_of values depth gone v) (values_in set) ++ later values trail gone)
entered_first n depth v a values trail after set others lost gone s after_is split without is =
    ap (λ s. Some s) (is ∙ (λ i. record { number = n; depth = depth; gone = with_losses gone v (map in_this_case (without i)); later = later_popped values trail after (Later v depth others) gone after_is i }))
    ∙ ap (λ xs. entered n (map (case_of values depth gone v) xs ++ later values trail gone)) (sym split)

-- ---- what is left where little is lost

pub all_left : (values : List ℕ) → filter (λ a. not (has_loss a [])) values ≡ values
all_left [] = refl
all_left (a ∷ values) = ap (λ xs. a ∷ xs) (all_left values)

pub losses_past : {X : Type 0} (f : X → List Loss) (xs : List X) (v : ℕ) → length xs ≤ v → losses (map f xs) v ≡ []
losses_past f [] v past = refl
losses_past f (x ∷ xs) zero past = absurd (omega (arith, past))
losses_past f (x ∷ xs) (suc v) past = losses_past f xs v (omega (arith, past))

-- the losses that are still to be looked at
pub fewer_step : (ls : List Loss) (i b : ℕ) (d : Loss) (values new whole : List ℕ) → i < length ls → b ≡ (get_or ls i d).value → new ≡ filter (λ a. not (a == b)) values
    → filter (λ a. not (has_loss a (drop i ls))) values ≡ whole → filter (λ a. not (has_loss a (drop (i + 1) ls))) new ≡ whole
fewer_step ls i b d values new whole inside is without told =
    ap (filter (λ a. not (has_loss a (drop (i + 1) ls)))) without
    ∙ fewer_left b (drop (i + 1) ls) (get_or ls i d) values (sym is)
    ∙ ap (λ xs. filter (λ a. not (has_loss a xs)) values) (sym (drop_more ls i d inside))
    ∙ told

pub fewer_end : (ls : List Loss) (i : ℕ) (values whole : List ℕ) → length ls ≤ i → filter (λ a. not (has_loss a (drop i ls))) values ≡ whole → values ≡ whole
fewer_end ls i values whole past told = sym (all_left values) ∙ ap (λ xs. filter (λ a. not (has_loss a xs)) values) (sym (drop_all i ls past)) ∙ told
