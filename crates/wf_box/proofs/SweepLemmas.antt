-- Sweeps one after another.
use Rattle.std.proofs.Common.{◌≡◌, ℕ, zero, suc, ◌+◌, ◌*◌, ◌<◌, ◌≤◌, List, [], ◌∷◌, ◌++◌, map, length, Option, Some, None, refl, sym, ap, ◌∙◌, arith, length-append}
use Rattle.std.proofs.lemmas.List.{length-map}
use Rattle.wf_model.specs.Problem.{Problem}
use Rattle.wf_model.specs.Box.{Box, count}
use Rattle.wf_model.specs.Refutation as refutation
use Rattle.wf_model.specs.Closing.{Step, and_then, continued, sweep, sweeps, unless_none}
use Rattle.wf_base.specs.Lines.Lines.{line_of}
use Rattle.wf_base.specs.declared.lines.line.Line.{Line}
use Rattle.wf_base.specs.Set.Sets.{box_of, values_in}
use Rattle.wf_box.specs.Closes.{more_sweeps, sweep_count}
use Rattle.wf_box.specs.Steps.{reached}
use Rattle.wf_lane.proofs.Lemmas.{few_values}
use Rattle.wf_box.proofs.StepLemmas.{then_then}
use Rattle.wf_model.proofs.Lemmas.{count_cons}

-- ---- how many candidates there can be

pub count_few : (words : List (List ℕ)) → count (box_of words) ≤ 256 * length words
count_few [] = omega arith
count_few (w ∷ words) = omega (arith, few_values w, count_cons (values_in w) (box_of words), count_few words)

-- ---- one sweep more

-- a sweep that lost nothing is the last
last_of : (ls : List refutation.Line) (s : Step) (next : Box → Step) → ls ≡ [] → unless_none ls s next ≡ s
last_of [] s next none = refl
last_of (l ∷ ls) s next none = absurd (let bad : ⊥ = cc in bad)

-- and after another one the next follow
goes_on : (ls : List refutation.Line) (s : Step) (next : Box → Step) → (ls ≡ [] → ⊥) → unless_none ls s next ≡ and_then s next
goes_on [] s next some = absurd (some refl)
goes_on (l ∷ ls) s next some = refl

longer : {X : Type 0} (xs ys zs : List X) → xs ≡ ys ++ zs → length xs ≡ length ys → zs ≡ []
longer xs ys [] is same = refl
longer xs ys (z ∷ zs) is same = absurd (let bad : ⊥ = omega (arith, same, ap length is, length-append ys (z ∷ zs)) in bad)

-- the lines that a sweep adds
added : (p : Problem) (old new : List Line) (before after : List (List ℕ)) (emptied : Option ℕ) → reached new emptied after ≡ and_then (reached old None before) (sweep p) → map line_of new ≡ map line_of old ++ (sweep p (box_of before)).lines
added p old new before after emptied is = ap (λ (s : Step). s.lines) is

lost_none : (p : Problem) (old new : List Line) (before after : List (List ℕ)) → length new ≡ length old → reached new None after ≡ and_then (reached old None before) (sweep p) → (sweep p (box_of before)).lines ≡ []
lost_none p old new before after same is =
    longer (map line_of new) (map line_of old) (sweep p (box_of before)).lines (added p old new before after None is) (length-map new line_of ∙ same ∙ sym (length-map old line_of))

lost_some : (p : Problem) (old new : List Line) (before after : List (List ℕ)) → (length new ≡ length old → ⊥) → reached new None after ≡ and_then (reached old None before) (sweep p) → (sweep p (box_of before)).lines ≡ [] → ⊥
lost_some p old new before after more is none =
    more
    (sym (length-map new line_of) ∙ ap length (added p old new before after None is)
    ∙ length-append (map line_of old) (sweep p (box_of before)).lines
    ∙ (let z : length (map line_of old) + length (sweep p (box_of before)).lines ≡ length (map line_of old) = omega (arith, ap length none) in z)
    ∙ length-map old line_of)

swept_last : (p : Problem) (n : ℕ) (old new : List Line) (before after : List (List ℕ)) → length new ≡ length old → reached new None after ≡ and_then (reached old None before) (sweep p)
    → reached new None after ≡ and_then (reached old None before) (sweeps (suc n) p)
swept_last p n old new before after same is =
    let none = lost_none p old new before after same is in
    is ∙ (λ i. record {
      lines = map line_of old ++ (sym (last_of (sweep p (box_of before)).lines (sweep p (box_of before)) (sweeps n p) none) i).lines;
      left = (sym (last_of (sweep p (box_of before)).lines (sweep p (box_of before)) (sweeps n p) none) i).left;
    })

swept_on : (p : Problem) (n : ℕ) (old new : List Line) (before after : List (List ℕ)) → (length new ≡ length old → ⊥) → reached new None after ≡ and_then (reached old None before) (sweep p)
    → and_then (reached new None after) (sweeps n p) ≡ and_then (reached old None before) (sweeps (suc n) p)
swept_on p n old new before after more is =
    let some = lost_some p old new before after more is in
    ap (λ s. and_then s (sweeps n p)) is
    ∙ then_then (reached old None before) (sweep p) (sweeps n p)
    ∙ (λ i. record {
      lines = map line_of old ++ (sym (goes_on (sweep p (box_of before)).lines (sweep p (box_of before)) (sweeps n p) some) i).lines;
      left = (sym (goes_on (sweep p (box_of before)).lines (sweep p (box_of before)) (sweeps n p) some) i).left;
    })

-- lines are only added
pub grown : (p : Problem) (old new : List Line) (before after : List (List ℕ)) (emptied : Option ℕ) → reached new emptied after ≡ and_then (reached old None before) (sweep p) → length old ≤ length new
grown p old new before after emptied is =
    omega (arith, ap length (added p old new before after emptied is), length-append (map line_of old) (sweep p (box_of before)).lines, length-map new line_of, length-map old line_of)

-- ---- the sweeps that are left

-- these are enough for what is left: the steps so far and they come to all, and the sweeps so far
-- and they to one more than all
pub record SweepsLeft (p : Problem) (lines : List Line) (words : List (List ℕ)) (all : Step) (begun total : ℕ) : Type 0 where
  pub number : ℕ
  pub enough : count (box_of words) < number
  pub steps : and_then (reached lines None words) (sweeps number p) ≡ all
  pub counted : begun + sweep_count number p (box_of words) ≡ 1 + total

no_more : (ls : List refutation.Line) (left : Option Box) (next : Box → ℕ) → ls ≡ [] → more_sweeps ls left next ≡ 0
no_more [] left next none = refl
no_more (l ∷ ls) left next none = absurd (let bad : ⊥ = cc in bad)

some_more : (ls : List refutation.Line) (left : Option Box) (box : Box) (next : Box → ℕ) → (ls ≡ [] → ⊥) → left ≡ Some box → more_sweeps ls left next ≡ next box
some_more [] left box next some is = absurd (some refl)
some_more (l ∷ ls) None box next some is = absurd (let bad : ⊥ = cc in bad)
some_more (l ∷ ls) (Some b) box next some is = let same : b ≡ box = cc in ap next same

-- a sweep that lost nothing is the last
pub swept_done : (p : Problem) (old new : List Line) (before after : List (List ℕ)) (all : Step) (begun total : ℕ) → SweepsLeft p old before all begun total → length new ≡ length old
    → reached new None after ≡ and_then (reached old None before) (sweep p) → (reached new None after ≡ all) × (begun ≡ total)
swept_done p old new before after all begun total left same is = by_number left.number left.enough left.steps left.counted
  where
    by_number : (n : ℕ) → count (box_of before) < n → and_then (reached old None before) (sweeps n p) ≡ all → begun + sweep_count n p (box_of before) ≡ 1 + total → (reached new None after ≡ all) × (begun ≡ total)
    by_number zero low steps counted = absurd (let bad : ⊥ = omega (arith, low) in bad)
    by_number (suc n) low steps counted =
        let none = no_more (sweep p (box_of before)).lines (sweep p (box_of before)).left (sweep_count n p) (lost_none p old new before after same is) in
        (swept_last p n old new before after same is ∙ steps, omega (arith, counted, none))

-- after another one there are fewer left
pub swept_more : (p : Problem) (old new : List Line) (before after : List (List ℕ)) (all : Step) (begun total : ℕ) → SweepsLeft p old before all begun total → count (box_of after) < count (box_of before)
    → (length new ≡ length old → ⊥) → reached new None after ≡ and_then (reached old None before) (sweep p) → SweepsLeft p new after all (begun + 1) total
swept_more p old new before after all begun total left fewer more is = by_number left.number left.enough left.steps left.counted
  where
    by_number : (n : ℕ) → count (box_of before) < n → and_then (reached old None before) (sweeps n p) ≡ all → begun + sweep_count n p (box_of before) ≡ 1 + total → SweepsLeft p new after all (begun + 1) total
    by_number zero low steps counted = absurd (let bad : ⊥ = omega (arith, low) in bad)
    by_number (suc n) low steps counted =
        let next = some_more (sweep p (box_of before)).lines (sweep p (box_of before)).left (box_of after) (sweep_count n p) (lost_some p old new before after more is) (sym (ap (λ (s : Step). s.left) is)) in
        record {
          number = n;
          enough = omega (arith, low, fewer);
          steps = swept_on p n old new before after more is ∙ steps;
          counted = omega (arith, counted, next);
        }

-- one that emptied a point is the last
stopped : (ls : List refutation.Line) (s : Step) (next : Box → Step) → s.left ≡ None → unless_none ls s next ≡ s
stopped [] s next none = refl
stopped (l ∷ ls) s next none = ap (λ o. continued s.lines o next) none ∙ (λ i. record { lines = s.lines; left = sym none i })

pub swept_out : (p : Problem) (old new : List Line) (before after : List (List ℕ)) (v : ℕ) (all : Step) (begun total : ℕ) → SweepsLeft p old before all begun total → reached new (Some v) after ≡ and_then (reached old None before) (sweep p) → reached new (Some v) after ≡ all
swept_out p old new before after v all begun total left is = by_number left.number left.enough left.steps
  where
    by_number : (n : ℕ) → count (box_of before) < n → and_then (reached old None before) (sweeps n p) ≡ all → reached new (Some v) after ≡ all
    by_number zero low steps = absurd (let bad : ⊥ = omega (arith, low) in bad)
    by_number (suc n) low steps =
        is ∙ ap (λ s. and_then (reached old None before) (λ _. s)) (sym (stopped (sweep p (box_of before)).lines (sweep p (box_of before)) (sweeps n p) (sym (ap (λ (s : Step). s.left) is)))) ∙ steps
