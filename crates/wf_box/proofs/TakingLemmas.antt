-- One candidate is taken out, and then each of some values.
use Rattle.std.proofs.Common.{◌≡◌, ℕ, zero, suc, ◌<◌, ◌==◌, ◌&&◌, true, not, nat_lt, All, inl, inr, List, [], ◌∷◌, ◌++◌, map, filter, length, get_or, Some, None, refl, sym, ap, ◌∙◌, subst, append_assoc, arith, false, eqb-true}
use Rattle.std.specs.List.{AllByRecursion, slice_set}
use Rattle.std.proofs.lemmas.List.{map-set, map-append, nil_from_length}
use Rattle.std.proofs.lemmas.Bool.{cases_Bool, eq-eqb, false≢true, lt-ltb}
use Rattle.std.proofs.lemmas.List.Elements.{All-head, All-tail}
use Rattle.wf_model.specs.Lists.{has}
use Rattle.wf_model.specs.Box.{Box, candidates, without, count}
use Rattle.wf_model.specs.Refutation as refutation
use Rattle.wf_model.specs.Closing.{Step, Loss, and_then, taken_out, take_out}
use Rattle.wf_model.proofs.Lemmas.{has-filter, count_set_less, filter_less}
use Rattle.wf_base.specs.Set.Parts.{part_values}
use Rattle.wf_base.specs.Set.Sets.{box_of, values_in}
use Rattle.wf_base.proofs.OfSet.Lemmas.{values_small, values_of_part, set_at}
use Rattle.wf_base.specs.Lines.Lines.{line_of}
use Rattle.wf_base.specs.declared.lines.line.Line.{Line}
use Rattle.wf_base.specs.declared.lines.line.Line.TheVariants as line
use Rattle.wf_network.specs.Revising.{wide_set}
use Rattle.wf_box.specs.Steps.{reached, loss}

-- the box without a candidate is that of the sets with one set changed
pub set_without : (words : List (List ℕ)) (v a : ℕ) (set : List ℕ) → v < length words → values_in set ≡ filter (λ b. not (b == a)) (values_in (get_or words v [])) → box_of (slice_set words v set) ≡ without (box_of words) v a
set_without words v a set inside is =
    map-set values_in words v set
    ∙ ap (λ s. slice_set (box_of words) v s) (is ∙ ap (filter (λ b. not (b == a))) (sym (set_at words v inside)))

pub set_there : (words : List (List ℕ)) (v : ℕ) (set : List ℕ) → v < length words → candidates (box_of (slice_set words v set)) v ≡ values_in set
set_there [] v set h = absurd (let none : ⊥ = omega (arith, h) in none)
set_there (w ∷ words) zero set h = refl
set_there (w ∷ words) (suc v) set h = set_there words v set (omega (arith, h))

left_there : (words : List (List ℕ)) (v a : ℕ) (set : List ℕ) → v < length words → values_in set ≡ filter (λ b. not (b == a)) (values_in (get_or words v [])) → candidates (without (box_of words) v a) v ≡ values_in set
left_there words v a set inside is = ap (λ box. candidates box v) (sym (set_without words v a set inside is)) ∙ set_there words v set inside

-- the point keeps a candidate
pub some_left : (e : ℕ) (x : Loss) (box : Box) (s : List ℕ) → (s ≡ [] → ⊥) → taken_out e x box s ≡ record { lines = refutation.remove e x.process x.value ∷ []; left = Some box }
some_left e x box [] some = absurd (some refl)
some_left e x box (a ∷ s) some = refl

pub taken_on : (old : List Line) (words : List (List ℕ)) (e p v a : ℕ) (set : List ℕ) → v < length words → values_in set ≡ filter (λ b. not (b == a)) (values_in (get_or words v [])) → (values_in set ≡ [] → ⊥)
    → reached (old ++ line.Remove p a e ∷ []) None (slice_set words v set) ≡ and_then (reached old None words) (take_out e (loss p v a))
taken_on old words e p v a set inside is some =
    let taken : take_out e (loss p v a) (box_of words) ≡ record { lines = refutation.remove e p a ∷ []; left = Some (without (box_of words) v a) } =
    some_left e (loss p v a) (without (box_of words) v a) (candidates (without (box_of words) v a) v) (λ gone. some (sym (left_there words v a set inside is) ∙ gone)) in
    λ i. record {
      lines = (map-append line_of old (line.Remove p a e ∷ []) ∙ ap (λ (s : Step). map line_of old ++ s.lines) (sym taken)) i;
      left = (ap Some (set_without words v a set inside is) ∙ ap (λ (s : Step). s.left) (sym taken)) i;
    }

-- the point is emptied
none_left : (e : ℕ) (x : Loss) (box : Box) (s : List ℕ) → s ≡ [] → taken_out e x box s ≡ record { lines = refutation.remove e x.process x.value ∷ refutation.empty x.point ∷ []; left = None }
none_left e x box [] h = refl
none_left e x box (a ∷ s) h = absurd (let none : ⊥ = cc in none)

pub taken_last : (old : List Line) (words : List (List ℕ)) (e p v a : ℕ) (set : List ℕ) → v < length words → values_in set ≡ filter (λ b. not (b == a)) (values_in (get_or words v [])) → values_in set ≡ []
    → reached ((old ++ line.Remove p a e ∷ []) ++ line.Empty v ∷ []) (Some v) (slice_set words v set) ≡ and_then (reached old None words) (take_out e (loss p v a))
taken_last old words e p v a set inside is gone =
    let taken : take_out e (loss p v a) (box_of words) ≡ record { lines = refutation.remove e p a ∷ refutation.empty v ∷ []; left = None } =
    none_left e (loss p v a) (without (box_of words) v a) (candidates (without (box_of words) v a) v) (left_there words v a set inside is ∙ gone) in
    λ i. record {
      lines = (ap (map line_of) (append_assoc old (line.Remove p a e ∷ []) (line.Empty v ∷ [])) ∙ map-append line_of old (line.Remove p a e ∷ line.Empty v ∷ []) ∙ ap (λ (s : Step). map line_of old ++ s.lines) (sym taken)) i;
      left = ap (λ (s : Step). s.left) (sym taken) i;
    }

-- there is a candidate less
pub one_less : (words : List (List ℕ)) (v a : ℕ) (set : List ℕ) → v < length words → values_in set ≡ filter (λ b. not (b == a)) (values_in (get_or words v [])) → has (candidates (box_of words) v) a ≡ true → count (box_of (slice_set words v set)) < count (box_of words)
one_less words v a set inside is there =
    subst (λ box. count box < count (box_of words)) (sym (set_without words v a set inside is))
    (count_set_less (box_of words) v (filter (λ b. not (b == a)) (candidates (box_of words) v)) (filter_less (candidates (box_of words) v) a there))

-- ---- the test for no value

pub no_value : (word : List ℕ) → true ≡ (length (values_in word) == 0) → values_in word ≡ []
no_value word is = nil_from_length (values_in word) (eqb-true (length (values_in word)) 0 (sym is))

pub some_value : (word : List ℕ) → false ≡ (length (values_in word) == 0) → values_in word ≡ [] → ⊥
some_value word is gone = false≢true (is ∙ eq-eqb (length (values_in word)) 0 (ap length gone))

-- one set is changed, and then again
pub set_then : (words more last : List (List ℕ)) (v : ℕ) → more ≡ slice_set words v (get_or more v []) → last ≡ slice_set more v (get_or last v []) → last ≡ slice_set words v (get_or last v [])
set_then words more last v first then = then ∙ ap (λ ws. slice_set ws v (get_or last v [])) first ∙ set_again words v (get_or more v []) (get_or last v [])
  where
    set_again : (words : List (List ℕ)) (v : ℕ) (a b : List ℕ) → slice_set (slice_set words v a) v b ≡ slice_set words v b
    set_again [] v a b = refl
    set_again (w ∷ words) zero a b = refl
    set_again (w ∷ words) (suc v) a b = ap (λ ws. w ∷ ws) (set_again words v a b)

-- ---- values below 64

-- those below 64 that a set has are those that the set has
small_met : (xs ys : List ℕ) → AllByRecursion (λ y. y < 64) ys → filter (has (filter (λ v. nat_lt v 64) xs)) ys ≡ filter (has xs) ys
small_met xs [] small = refl
small_met xs (y ∷ ys) small =
    let here : has (filter (λ v. nat_lt v 64) xs) y ≡ has xs y = has-filter (λ v. nat_lt v 64) xs y ∙ ap (λ b. b && has xs y) (lt-ltb y 64 small.0) in
    elim (cases_Bool (has xs y)) [
      | inl there ↦ rw (here ∙ there, there) (ap (λ zs. y ∷ zs) (small_met xs ys small.1))
      | inr none ↦ rw (here ∙ none, none) (small_met xs ys small.1)
    ]

all_small : (ys : List ℕ) → All (λ v. v < 64) ys → AllByRecursion (λ v. v < 64) ys
all_small [] small = tt
all_small (y ∷ ys) small = (All-head (λ v. v < 64) y ys small, all_small ys (All-tail (λ v. v < 64) y ys small))

-- what a set has of a part
pub gone_part : (values first gone : ℕ) (here : List ℕ) → part_values first ≡ filter (λ v. nat_lt v 64) (values_in here) → part_values gone ≡ filter (has (part_values first)) (part_values values)
    → values_in (wide_set gone) ≡ filter (has (values_in here)) (values_in (wide_set values))
gone_part values first gone here is met =
    values_of_part gone ∙ met ∙ ap (λ xs. filter (has xs) (part_values values)) is ∙ small_met (values_in here) (part_values values) (all_small (part_values values) (values_small values))
    ∙ ap (filter (has (values_in here))) (sym (values_of_part values))
