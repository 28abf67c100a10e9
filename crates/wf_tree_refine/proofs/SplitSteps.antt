-- The tuples of a simplex after a split.
use Rattle.std.proofs.Common.{◌≡◌, ℕ, ◌<◌, ◌≤◌, All, Bool, nat_le, nat_lt, None, Some, true, false, List, [], ◌∷◌, ◌++◌, cond, filter, flat_map, get_or, length, map, refl, sym, ap, ◌∙◌, arith}
use Rattle.std.specs.List.{AllByRecursion, list_any}
use Rattle.std.proofs.lemmas.Bool.{cond-true, cond-false, le-leb, le-ltb, lt-leb}
use Rattle.std.proofs.lemmas.List.{get_or-map, length-map}
use Rattle.std.proofs.lemmas.List.Elements.{All-from_recursion}
use Rattle.std.proofs.lemmas.List.Folds.{list_any_none}
use Rattle.std.proofs.lemmas.List.FromFn.{length-map-range_with_len}
use Rattle.wf_model.specs.Simplex.{Simplex, processes_of}
use Rattle.wf_model.specs.Task.{Rule, Task, Tuple}
use Rattle.wf_simplex.proofs.Lemmas.{Has, has-flat_map, has-map, has_of_all}
use Rattle.wf_simplex.specs.Order.{same_simplex-decides}
use Rattle.wf_tree_model.specs.Counting.Rules.{rule_at}
use Rattle.wf_tree_model.specs.Counting.Signs.{keep}
use Rattle.wf_tree_model.specs.Splits.{Splitting, by_stars, choices, tuples_on_face, tuples_split, with_names}
use Rattle.wf_tree_model.specs.Trees.{new_name}
use Rattle.wf_tree_model.specs.Tuples.{choices_of, is_kept, is_part, mask_of}
use Rattle.wf_tree_refine.specs.Limits.{split_fault, tuples_fault, tuples_made}
use Rattle.wf_tree_refine.specs.Names.{has_large_name, most_name, splitting}
use Rattle.wf_tree_refine.specs.Near.{most_at_hand}
use Rattle.wf_tree_refine.specs.declared.fault.RefineFault.{RefineFault}
use Rattle.wf_tree_refine.specs.declared.fault.RefineFault.TheVariants.{TooManyNames, TooManyTuples}
use Rattle.wf_tree_refine.proofs.Assembling.{choices_long}
use Rattle.wf_tree_refine.proofs.CaseSteps.{rule_with}
use Rattle.wf_tree_refine.proofs.PartFaces.{keep_long}

-- a tuple with names on a face, if the face has the tuple
abbrev pub kept_named : Splitting → Rule → Tuple → List Tuple
kept_named s face tuple = let mask = mask_of face.input s.rule.input in cond (is_kept face mask tuple) (keep mask (with_names s tuple) ∷ []) []

-- some elements, each as it is made
pub some_made : {X : Type 0} (p : X → Bool) (f : X → Tuple) (xs : List X) → flat_map (λ x. cond (p x) (f x ∷ []) []) xs ≡ map f (filter p xs)
some_made p f [] = refl
some_made p f (x ∷ xs) = by (some_made p f xs) (p x)
  where
    by : flat_map (λ y. cond (p y) (f y ∷ []) []) xs ≡ map f (filter p xs) → (b : Bool) → cond b (f x ∷ []) [] ++ flat_map (λ y. cond (p y) (f y ∷ []) []) xs ≡ map f (cond b (x ∷ filter p xs) (filter p xs))
    by rest true = ap (λ ys. f x ∷ ys) rest
    by rest false = rest

pub face_made : (s : Splitting) (face : Rule) → flat_map (kept_named s face) s.rule.tuples ≡ tuples_on_face s face
face_made s face = let mask = mask_of face.input s.rule.input in some_made (is_kept face mask) (λ tuple. keep mask (with_names s tuple)) s.rule.tuples

-- a face keeps a value for each of its participants
pub face_keeps : (q s : Simplex) (row : Tuple) → is_part q s ≡ true → length row ≡ length s → length (keep (mask_of q s) row) ≡ length q
face_keeps q s row part long = keep_long (mask_of q s) row s long ∙ ap length ((same_simplex-decides (keep (mask_of q s) s) q).0 part)

pub names_long : (s : Splitting) (tuple : Tuple) → length (with_names s tuple) ≡ length s.rule.input
names_long s tuple = length-map-range_with_len (λ place. s.name place tuple) 0 (length s.rule.input)

pub all_named_long : (s : Splitting) (rows : List Tuple) → All (λ row. length row ≡ length s.rule.input) (map (with_names s) rows)
all_named_long s rows = All-from_recursion _ (map (with_names s) rows) (each rows)
  where
    each : (ts : List Tuple) → AllByRecursion (λ row. length row ≡ length s.rule.input) (map (with_names s) ts)
    each [] = tt
    each (t ∷ ts) = (names_long s t, each ts)

-- where all names fit a byte, none is too large
pub none_large : (s : Splitting) (rows : List Tuple) → AllByRecursion (All (λ name. name ≤ 255)) (map (with_names s) rows) → list_any (has_large_name s) rows ≡ false
none_large s rows h = list_any_none (has_large_name s) rows (All-from_recursion _ rows (each rows h))
  where
    each : (ts : List Tuple) → AllByRecursion (All (λ name. name ≤ 255)) (map (with_names s) ts) → AllByRecursion (λ t. has_large_name s t ≡ false) ts
    each [] g = tt
    each (t ∷ ts) g = (list_any_none (λ name. nat_lt most_name name) (with_names s t) (λ k d low. le-ltb most_name (get_or (with_names s t) k d) (g.0 k d low)), each ts g.1)

pub name_there : (s : Splitting) (rows named : List Tuple) (i : ℕ) (row name : Tuple) → named ≡ map (with_names s) rows → i < length rows → row ≡ get_or rows i row → name ≡ get_or named i name → name ≡ with_names s row
name_there s rows named i row name are low here there = there ∙ ap (λ ns. get_or ns i name) are ∙ get_or-map (with_names s) rows i row name low ∙ ap (with_names s) (sym here)

-- what a split makes has a value for each participant
pub split_long : (s : Splitting) (rule : Rule) → All (λ tuple. length tuple ≡ length rule.input) rule.tuples → (u : Tuple) → Has u (tuples_split s rule) → length u ≡ length rule.input
split_long s rule long u h = by (is_part rule.input s.rule.input) refl h
  where
    by : (b : Bool) → is_part rule.input s.rule.input ≡ b → Has u (cond b (tuples_on_face s rule) (flat_map (choices_of (choices s) (processes_of rule.input)) rule.tuples)) → length u ≡ length rule.input
    by true part there =
        let mask = mask_of rule.input s.rule.input in
        let r = has-map (λ tuple. keep mask (with_names s tuple)) u (filter (is_kept rule mask) s.rule.tuples) there in
        ap length (sym r.2) ∙ face_keeps rule.input s.rule.input (with_names s r.0) part (names_long s r.0)
    by false other there =
        let r = has-flat_map (choices_of (choices s) (processes_of rule.input)) u rule.tuples there in
        let ps = length-map rule.input (λ v. v.0) in
        let row : length r.0 ≡ length rule.input = has_of_all (λ tuple. length tuple ≡ length rule.input) r.0 rule.tuples long r.1 in
        choices_long (choices s) (processes_of rule.input) r.0 u (row ∙ sym ps) r.2 ∙ ps

-- ---- which limit a split is above

pub too_many_names : (s : Splitting) (t : Task) (fault : RefineFault) → list_any (has_large_name s) s.rule.tuples ≡ true → fault ≡ TooManyNames → split_fault s t ≡ Some fault
too_many_names s t fault large is = cond-true (list_any (has_large_name s) s.rule.tuples) (Some TooManyNames) (tuples_fault (tuples_split s) t) large ∙ ap Some (sym is)

pub too_many_tuples : (f : Rule → List Tuple) (t : Task) (fault : RefineFault) → most_at_hand < tuples_made f t → fault ≡ TooManyTuples → tuples_fault f t ≡ Some fault
too_many_tuples f t fault many is = cond-false (nat_le (tuples_made f t) most_at_hand) None (Some TooManyTuples) (lt-leb (tuples_made f t) most_at_hand many) ∙ ap Some (sym is)

pub few_tuples : (f : Rule → List Tuple) (t : Task) → tuples_made f t ≤ most_at_hand → tuples_fault f t ≡ None
few_tuples f t few = cond-true (nat_le (tuples_made f t) most_at_hand) None (Some TooManyTuples) (le-leb (tuples_made f t) most_at_hand few)

pub no_large_name : (s : Splitting) (t : Task) → list_any (has_large_name s) s.rule.tuples ≡ false → split_fault s t ≡ tuples_fault (tuples_split s) t
no_large_name s t none = cond-false (list_any (has_large_name s) s.rule.tuples) (Some TooManyNames) (tuples_fault (tuples_split s) t) none

-- ---- a split as the code has it

pub same_splitting : (t : Task) (i : ℕ) (simplex : Simplex) (rows tuples : List Tuple) (new : ℕ) → rule_at t i ≡ rule_with simplex tuples → rows ≡ tuples → new ≡ new_name t → splitting simplex rows new ≡ by_stars (rule_at t i) (new_name t)
same_splitting t i simplex rows tuples new rule are is = ap (λ rs. by_stars (rule_with simplex rs) new) are ∙ ap (λ r. by_stars r new) (sym rule) ∙ ap (by_stars (rule_at t i)) is

pub rows_under : (a b : ℕ) → a ≤ b → (rows : List Tuple) → AllByRecursion (AllByRecursion (λ x. x < a)) rows → AllByRecursion (AllByRecursion (λ x. x < b)) rows
rows_under a b less [] h = tt
rows_under a b less (row ∷ rows) h = (one row h.0, rows_under a b less rows h.1)
  where
    one : (xs : List ℕ) → AllByRecursion (λ x. x < a) xs → AllByRecursion (λ x. x < b) xs
    one [] g = tt
    one (x ∷ xs) g = (let low = g.0 in omega (arith, low, less), one xs g.1)
