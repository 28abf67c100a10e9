-- Several candidates of a point are taken out, and others are left.
use Rattle.std.proofs.Common.{◌≡◌, ℕ, zero, suc, ◌<◌, ◌≤◌, ◌+◌, ◌==◌, ◌&&◌, ◌||◌, true, false, not, Bool, List, [], ◌∷◌, ◌++◌, map, filter, length, get_or, Some, None, refl, sym, ap, ◌∙◌, subst, inl, inr, arith, eqb-true, eq-eqb, ne_eqb}
use Rattle.std.specs.List.{AllByRecursion, slice_set}
use Rattle.std.proofs.lemmas.List.{set-get_or, map-set, map-append}
use Rattle.std.proofs.lemmas.Bool.{cases_Bool, false≢true, or_left}
use Rattle.std.proofs.lemmas.List.Elements.{filter_agree}
use Rattle.wf_model.specs.Lists.{has}
use Rattle.wf_model.specs.Problem.{Problem, constraint_at}
use Rattle.wf_model.specs.Box.{Box, candidates, without, count}
use Rattle.wf_model.specs.Refutation as refutation
use Rattle.wf_model.specs.Closing.{Step, and_then, keeps, take_out}
use Rattle.wf_model.proofs.Lemmas.{Ascends, has-filter, count_set_less, each_has, filter_less}
use Rattle.wf_complex.specs.Protocol.{point_in}
use Rattle.wf_base.proofs.OfSet.Lemmas.{by_two, set_at, values_ascend}
use Rattle.wf_base.specs.Set.Sets.{box_of, values_in}
use Rattle.wf_base.specs.Lines.Lines.{line_of}
use Rattle.wf_base.specs.declared.lines.line.Line.{Line}
use Rattle.wf_box.specs.declared.taking.Occurrence.{Occurrence}
use Rattle.wf_box.specs.Closes.{without_at, without_named}
use Rattle.wf_box.specs.Steps.{IsNamed, loss, reached, removals, take_present}
use Rattle.wf_box.proofs.StepLemmas.{has_without, here_without, then_keeps}
use Rattle.wf_box.proofs.TakingLemmas.{some_left}

-- what is left of a set without some values
abbrev pub rest_of : List ℕ → List ℕ → List ℕ
rest_of vs s = filter (λ b. not (has vs b)) s

-- ---- sets

all_kept : (s : List ℕ) → rest_of [] s ≡ s
all_kept [] = refl
all_kept (y ∷ s) = ap (λ ys. y ∷ ys) (all_kept s)

later : (s : List ℕ) (x y : ℕ) → x < y → has (filter (λ b. not (b == x)) s) y ≡ has s y
later s x y up = has_without s x y ∙ rw (ne_eqb x y (λ e. absurd (let none : ⊥ = omega (arith, e, up) in none))) refl

-- values past one that was taken out are there as before
gone_same : (s vs : List ℕ) (x : ℕ) → AllByRecursion (λ y. x < y) vs → filter (has (filter (λ b. not (b == x)) s)) vs ≡ filter (has s) vs
gone_same s [] x up = refl
gone_same s (y ∷ vs) x up =
    elim (cases_Bool (has s y)) [
      | inl there ↦ rw (later s x y up.0 ∙ there, there) (ap (λ ys. y ∷ ys) (gone_same s vs x up.1))
      | inr none ↦ rw (later s x y up.0 ∙ none, none) (gone_same s vs x up.1)
    ]

rest_then : (s vs : List ℕ) (x : ℕ) → rest_of vs (filter (λ b. not (b == x)) s) ≡ rest_of (x ∷ vs) s
rest_then s vs x = by_two (λ b. not (has vs b)) (λ b. not (b == x)) s ∙ filter_agree _ (λ b. not (has (x ∷ vs) b)) agree s
  where
    agree : (b : ℕ) → (not (b == x) && not (has vs b)) ≡ not ((x == b) || has vs b)
    agree b =
        elim (cases_Bool (b == x)) [
          | inl same ↦ rw (same, eq-eqb x b (sym (eqb-true b x same))) refl
          | inr other ↦ rw (other, ne_eqb x b (λ e. false≢true (sym other ∙ eq-eqb b x (sym e)))) refl
        ]

absent_same : (s : List ℕ) (x : ℕ) → has s x ≡ false → filter (λ b. not (b == x)) s ≡ s
absent_same [] x h = refl
absent_same (y ∷ s) x h =
    elim (cases_Bool (y == x)) [
      | inl same ↦ absurd (false≢true (sym h ∙ or_left (y == x) (has s x) same))
      | inr other ↦ rw other (ap (λ ys. y ∷ ys) (absent_same s x (ap (λ b. b || has s x) (sym other) ∙ h)))
    ]

rest_absent : (s vs : List ℕ) (x : ℕ) → has s x ≡ false → rest_of vs s ≡ rest_of (x ∷ vs) s
rest_absent s vs x none = ap (rest_of vs) (sym (absent_same s x none)) ∙ rest_then s vs x

agree_on : (s : List ℕ) (f g : ℕ → Bool) → AllByRecursion (λ b. f b ≡ g b) s → filter f s ≡ filter g s
agree_on [] f g h = refl
agree_on (y ∷ s) f g h =
    elim (cases_Bool (g y)) [
      | inl there ↦ rw (h.0 ∙ there, there) (ap (λ ys. y ∷ ys) (agree_on s f g h.1))
      | inr none ↦ rw (h.0 ∙ none, none) (agree_on s f g h.1)
    ]

each_agrees : (s all vs : List ℕ) → AllByRecursion (λ b. has all b ≡ true) s → AllByRecursion (λ b. not (has (filter (has all) vs) b) ≡ not (has vs b)) s
each_agrees [] all vs h = tt
each_agrees (y ∷ s) all vs h = (ap not (has-filter (has all) vs y ∙ rw h.0 refl), each_agrees s all vs h.1)

-- only those that are there count
rest_of_gone : (s vs : List ℕ) → rest_of (filter (has s) vs) s ≡ rest_of vs s
rest_of_gone s vs = agree_on s (λ b. not (has (filter (has s) vs) b)) (λ b. not (has vs b)) (each_agrees s s vs (each_has s))

-- ---- boxes

set_again : (box : Box) (v : ℕ) (a b : List ℕ) → slice_set (slice_set box v a) v b ≡ slice_set box v b
set_again [] v a b = refl
set_again (s ∷ box) zero a b = refl
set_again (s ∷ box) (suc v) a b = ap (λ ss. s ∷ ss) (set_again box v a b)

box_back : (box : Box) (v : ℕ) → box ≡ slice_set box v (rest_of [] (candidates box v))
box_back box v = sym (ap (slice_set box v) (all_kept (candidates box v)) ∙ set-get_or box v [])

-- one value, and then the others
rest_in : (box : Box) (v x : ℕ) (vs : List ℕ) → slice_set (without box v x) v (rest_of vs (candidates (without box v x) v)) ≡ slice_set box v (rest_of (x ∷ vs) (candidates box v))
rest_in box v x vs =
    set_again box v (filter (λ b. not (b == x)) (candidates box v)) (rest_of vs (candidates (without box v x) v))
    ∙ ap (slice_set box v) (ap (rest_of vs) (here_without box v x) ∙ rest_then (candidates box v) vs x)

-- what taking each of some values out leads to, where something is left
pub bulk : (e p v : ℕ) (vs : List ℕ) (box : Box) → Ascends vs → (rest_of vs (candidates box v) ≡ [] → ⊥)
    → take_present e (map (loss p v) vs) box ≡ record { lines = map (refutation.remove e p) (filter (has (candidates box v)) vs); left = Some (slice_set box v (rest_of vs (candidates box v))) }
bulk e p v [] box up some = λ i. record { lines = []; left = Some (box_back box v i) }
bulk e p v (x ∷ vs) box up some =
    let s = candidates box v in
    elim (cases_Bool (has s x)) [
      | inl there ↦
          let less = without box v x in
          let some_then : rest_of vs (candidates less v) ≡ [] → ⊥ = λ gone. some (sym (ap (rest_of vs) (here_without box v x) ∙ rest_then s vs x) ∙ gone) in
          let taken : take_out e (loss p v x) box ≡ record { lines = refutation.remove e p x ∷ []; left = Some less } =
          some_left e (loss p v x) less (candidates less v) (λ gone. some_then (ap (rest_of vs) gone)) in
          let then = bulk e p v vs less up.1 some_then in
          let gone : filter (has (candidates less v)) vs ≡ filter (has s) vs = ap (λ t. filter (has t) vs) (here_without box v x) ∙ gone_same s vs x up.0 in
          rw there (ap (λ t. and_then t (take_present e (map (loss p v) vs))) taken
          ∙ (λ i. record { lines = refutation.remove e p x ∷ (then i).lines; left = (then i).left })
          ∙ (λ i. record { lines = refutation.remove e p x ∷ map (refutation.remove e p) (gone i); left = Some (rest_in box v x vs i) }))
      | inr none ↦
          let rest = rest_absent s vs x none in
          rw none (bulk e p v vs box up.1 (λ gone. some (sym rest ∙ gone))
          ∙ (λ i. record { lines = map (refutation.remove e p) (filter (has s) vs); left = Some (slice_set box v (rest i)) }))
    ]

-- a candidate less for each
pub bulk_spent : (v : ℕ) (vs : List ℕ) (box : Box) → Ascends vs → count (slice_set box v (rest_of vs (candidates box v))) + length (filter (has (candidates box v)) vs) ≤ count box
bulk_spent v [] box up = subst (λ b. count b + 0 ≤ count box) (box_back box v) (omega arith)
bulk_spent v (x ∷ vs) box up =
    let s = candidates box v in
    elim (cases_Bool (has s x)) [
      | inl there ↦
          let less = without box v x in
          let fewer : count less < count box = count_set_less box v (filter (λ b. not (b == x)) s) (filter_less s x there) in
          let then = bulk_spent v vs less up.1 in
          let gone : filter (has (candidates less v)) vs ≡ filter (has s) vs = ap (λ t. filter (has t) vs) (here_without box v x) ∙ gone_same s vs x up.0 in
          rw there (omega (arith, fewer, then, ap length gone, ap count (rest_in box v x vs)))
      | inr none ↦ rw none (omega (arith, bulk_spent v vs box up.1, ap (λ t. count (slice_set box v t)) (rest_absent s vs x none)))
    ]

-- what the lines name
pub bulk_named : (p : Problem) (e c v : ℕ) (vs : List ℕ) (box : Box) → point_in c (constraint_at p e).scope ≡ Some v → without_named p (map (refutation.remove e c) vs) box ≡ slice_set box v (rest_of vs (candidates box v))
bulk_named p e c v [] box at = box_back box v
bulk_named p e c v (x ∷ vs) box at =
    ap (λ o. without_named p (map (refutation.remove e c) vs) (without_at o x box)) at
    ∙ bulk_named p e c v vs (without box v x) at
    ∙ rest_in box v x vs

pub bulk_named_gone : (p : Problem) (e c v : ℕ) (vs : List ℕ) (box : Box) → point_in c (constraint_at p e).scope ≡ Some v → without_named p (map (refutation.remove e c) (filter (has (candidates box v)) vs)) box ≡ slice_set box v (rest_of vs (candidates box v))
bulk_named_gone p e c v vs box at = bulk_named p e c v (filter (has (candidates box v)) vs) box at ∙ ap (slice_set box v) (rest_of_gone (candidates box v) vs)

-- ---- the same, of sets and lines as the code has them

abbrev pub IsLeft : List ℕ → List ℕ → List ℕ → Type 0
IsLeft left values here = values_in left ≡ rest_of (values_in values) (values_in here)

abbrev pub IsGone : List ℕ → List ℕ → List ℕ → Type 0
IsGone gone values here = values_in gone ≡ filter (has (values_in here)) (values_in values)

pub bulk_box : (words : List (List ℕ)) (v : ℕ) (left values here : List ℕ) → v < length words → here ≡ get_or words v [] → IsLeft left values here → box_of (slice_set words v left) ≡ slice_set (box_of words) v (rest_of (values_in values) (candidates (box_of words) v))
bulk_box words v left values here inside same is =
    map-set values_in words v left ∙ ap (slice_set (box_of words) v) (is ∙ ap (rest_of (values_in values)) (ap values_in same ∙ sym (set_at words v inside)))

gone_is : (words : List (List ℕ)) (v : ℕ) (gone values here : List ℕ) → v < length words → here ≡ get_or words v [] → IsGone gone values here → values_in gone ≡ filter (has (candidates (box_of words) v)) (values_in values)
gone_is words v gone values here inside same is = is ∙ ap (λ t. filter (has t) (values_in values)) (ap values_in same ∙ sym (set_at words v inside))

removal_lines : (occurrence : Occurrence) (values : List ℕ) → map line_of (removals occurrence values) ≡ map (refutation.remove occurrence.execution occurrence.process) values
removal_lines occurrence [] = refl
removal_lines occurrence (a ∷ values) = ap (λ ls. refutation.remove occurrence.execution occurrence.process a ∷ ls) (removal_lines occurrence values)

pub bulk_step : (occurrence : Occurrence) (old more : List Line) (words : List (List ℕ)) (left gone values here : List ℕ) → occurrence.point < length words → here ≡ get_or words occurrence.point [] → IsLeft left values here → IsGone gone values here → (values_in left ≡ [] → ⊥) → more ≡ old ++ removals occurrence (values_in gone)
    → reached more None (slice_set words occurrence.point left) ≡ and_then (reached old None words) (take_present occurrence.execution (map (loss occurrence.process occurrence.point) (values_in values)))
bulk_step occurrence old more words left gone values here inside same is out some are =
    let box = box_of words in
    let v = occurrence.point in
    let left_is : values_in left ≡ rest_of (values_in values) (candidates box v) = is ∙ ap (rest_of (values_in values)) (ap values_in same ∙ sym (set_at words v inside)) in
    let main = bulk occurrence.execution occurrence.process v (values_in values) box (values_ascend values) (λ none. some (left_is ∙ none)) in
    let lines : map line_of (removals occurrence (values_in gone)) ≡ map (refutation.remove occurrence.execution occurrence.process) (filter (has (candidates box v)) (values_in values)) =
    removal_lines occurrence (values_in gone) ∙ ap (map (refutation.remove occurrence.execution occurrence.process)) (gone_is words v gone values here inside same out) in
    λ i. record {
      lines = (ap (map line_of) are ∙ map-append line_of old (removals occurrence (values_in gone)) ∙ ap (λ ls. map line_of old ++ ls) (lines ∙ sym (ap (λ (s : Step). s.lines) main))) i;
      left = (ap Some (bulk_box words v left values here inside same is) ∙ sym (ap (λ (s : Step). s.left) main)) i;
    }

pub bulk_fewer : (words : List (List ℕ)) (v : ℕ) (left gone values here : List ℕ) → v < length words → here ≡ get_or words v [] → IsLeft left values here → IsGone gone values here → count (box_of (slice_set words v left)) + length (values_in gone) ≤ count (box_of words)
bulk_fewer words v left gone values here inside same is out =
    omega (arith, ap count (bulk_box words v left values here inside same is), ap length (gone_is words v gone values here inside same out), bulk_spent v (values_in values) (box_of words) (values_ascend values))

pub bulk_is_named : (p : Problem) (occurrence : Occurrence) (old more : List Line) (words : List (List ℕ)) (left gone values here : List ℕ) → point_in occurrence.process (constraint_at p occurrence.execution).scope ≡ Some occurrence.point → occurrence.point < length words → here ≡ get_or words occurrence.point [] → IsLeft left values here → IsGone gone values here → more ≡ old ++ removals occurrence (values_in gone)
    → IsNamed p old words more (slice_set words occurrence.point left)
bulk_is_named p occurrence old more words left gone values here at inside same is out are = record {
  added = removals occurrence (values_in gone);
  lines_are = are;
  box_is = bulk_box words occurrence.point left values here inside same is
      ∙ sym (ap (λ ls. without_named p ls (box_of words)) (removal_lines occurrence (values_in gone) ∙ ap (map (refutation.remove occurrence.execution occurrence.process)) (gone_is words occurrence.point gone values here inside same out))
      ∙ bulk_named_gone p occurrence.execution occurrence.process occurrence.point (values_in values) (box_of words) at);
}

kept_first : (f : ℕ → Bool) (x : ℕ) (xs : List ℕ) → f x ≡ true → filter f (x ∷ xs) ≡ x ∷ filter f xs
kept_first f x xs h = rw h refl

dropped_first : (f : ℕ → Bool) (x : ℕ) (xs : List ℕ) → f x ≡ false → filter f (x ∷ xs) ≡ filter f xs
dropped_first f x xs h = rw h refl

-- where none of the values is there, nothing is taken out
none_there : (e p v : ℕ) (vs : List ℕ) (box : Box) → filter (has (candidates box v)) vs ≡ [] → take_present e (map (loss p v) vs) box ≡ keeps box
none_there e p v [] box h = refl
none_there e p v (x ∷ vs) box h =
    elim (cases_Bool (has (candidates box v) x)) [
      | inl there ↦ absurd (let none : ⊥ = omega (arith, ap length (sym (kept_first (has (candidates box v)) x vs there) ∙ h)) in none)
      | inr none ↦ rw none (none_there e p v vs box (sym (dropped_first (has (candidates box v)) x vs none) ∙ h))
    ]

pub bulk_none : (occurrence : Occurrence) (old : List Line) (words : List (List ℕ)) (gone values here : List ℕ) → occurrence.point < length words → here ≡ get_or words occurrence.point [] → IsGone gone values here → values_in gone ≡ []
    → reached old None words ≡ and_then (reached old None words) (take_present occurrence.execution (map (loss occurrence.process occurrence.point) (values_in values)))
bulk_none occurrence old words gone values here inside same out none =
    sym (then_keeps (reached old None words))
    ∙ ap (λ (s : Step). and_then (reached old None words) (λ _. s)) (sym (none_there occurrence.execution occurrence.process occurrence.point (values_in values) (box_of words) (sym (gone_is words occurrence.point gone values here inside same out) ∙ none)))
