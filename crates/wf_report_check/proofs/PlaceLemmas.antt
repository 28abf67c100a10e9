-- Places of an execution: their processes, points and values.
use Rattle.std.proofs.Common.{◌≡◌, ℕ, zero, suc, ◌-◌, ◌<◌, List, [], ◌∷◌, map, zip, length, get_or, cond, Some, None, refl, sym, ◌∙◌, ap, arith}
use Rattle.std.specs.Prelude.{◌++◌, option_map, slice_get, take}
use Rattle.std.proofs.lemmas.List.{length-map}
use Rattle.std.proofs.lemmas.Option.{slice_get-get_or, slice_get-map}
use Rattle.wf_model.specs.Simplex.{Simplex, processes_of}
use Rattle.wf_model.specs.Task.{Rule, Tuple}
use Rattle.wf_model.specs.Box.{Box, candidates, is_supported, without}
use Rattle.wf_model.specs.Check.{place_of, removal_at, fault, left, no_such, unsound}
use Rattle.wf_simplex.specs.Entries.{place_in}
use Rattle.wf_simplex.proofs.Lemmas.{place_none, place_some}
use Rattle.wf_report_check.specs.Places.{constraint_on, tuples_of, unless_supported}

-- ---- a process and its point

-- the candidates at each place of an execution
pub sets_there : (box : Box) (ps vs : List ℕ) → length vs ≡ length ps → map (λ (at : ℕ × ℕ). candidates box at.1) (zip ps vs) ≡ map (candidates box) vs
sets_there box [] [] long = refl
sets_there box [] (v ∷ vs) long = absurd (omega (arith, long))
sets_there box (p ∷ ps) [] long = absurd (omega (arith, long))
sets_there box (p ∷ ps) (v ∷ vs) long = ap (λ rest. candidates box v ∷ rest) (sets_there box ps vs (omega (arith, long)))

-- ---- the verdict of a removal, by its place

pub no_place : (k a c : ℕ) (box : Box) (boxes : List Box) (s : Simplex) (tuples : List Tuple) (vs : List ℕ) → length vs ≡ length s → place_in 0 c (processes_of s) ≡ None
    → removal_at k a box boxes (constraint_on s tuples vs) (place_of 0 c (constraint_on s tuples vs).scope) ≡ fault (no_such k)
no_place k a c box boxes s tuples vs long h = ap (removal_at k a box boxes (constraint_on s tuples vs)) (place_none 0 c (processes_of s) vs (long ∙ sym (length-map s (λ v. v.0))) h)

pub by_support : (k a c j : ℕ) (box : Box) (boxes : List Box) (s : Simplex) (tuples : List Tuple) (vs : List ℕ) → length vs ≡ length s → place_in 0 c (processes_of s) ≡ Some j
    → removal_at k a box boxes (constraint_on s tuples vs) (place_of 0 c (constraint_on s tuples vs).scope) ≡ unless_supported tuples vs j a k box boxes
by_support k a c j box boxes s tuples vs long h =
    let same : length vs ≡ length (processes_of s) = long ∙ sym (length-map s (λ v. v.0)) in
    let place = place_some 0 c j (processes_of s) vs same h in
    let from : j - 0 ≡ j = omega arith in
    ap (removal_at k a box boxes (constraint_on s tuples vs)) place.at
    ∙ (λ i. cond (is_supported tuples (sets_there box (processes_of s) vs same i) j a) (fault (unsound k)) (left (without box (get_or vs (from i) 0) a ∷ boxes)))

pub place_inside : (c j : ℕ) (s : Simplex) (vs : List ℕ) → length vs ≡ length s → place_in 0 c (processes_of s) ≡ Some j → j < length vs
place_inside c j s vs long h =
    let place = place_some 0 c j (processes_of s) vs (long ∙ sym (length-map s (λ v. v.0))) h in
    omega (arith, place.inside)

-- ---- the tuples of a rule, by its number

pub rule_by_number : (rules : List Rule) (supports : List (List Tuple)) (n : ℕ) (tuples : List Tuple) → supports ≡ tuples_of rules → n < length rules → tuples ≡ get_or supports n tuples
    → option_map (λ (rule : Rule). rule.tuples) (slice_get rules n) ≡ Some tuples
rule_by_number rules supports n tuples all inside is =
    sym (slice_get-map (λ (rule : Rule). rule.tuples) rules n)
    ∙ ap (λ l. slice_get l n) (sym all)
    ∙ slice_get-get_or supports n tuples (omega (arith, inside, ap length all, length-map rules (λ (rule : Rule). rule.tuples)))
    ∙ ap (λ l. Some l) (sym is)

pub one_rule_more : (rules : List Rule) (n : ℕ) (tuples : List Tuple) → option_map (λ (rule : Rule). rule.tuples) (slice_get rules n) ≡ Some tuples → tuples_of (take (suc n) rules) ≡ tuples_of (take n rules) ++ tuples ∷ []
one_rule_more [] n tuples h = absurd (let bad : ⊥ = cc in bad)
one_rule_more (rule ∷ rules) zero tuples h = let same : rule.tuples ≡ tuples = cc in ap (λ l. l ∷ []) same
one_rule_more (rule ∷ rules) (suc n) tuples h = ap (λ l. rule.tuples ∷ l) (one_rule_more rules n tuples h)
