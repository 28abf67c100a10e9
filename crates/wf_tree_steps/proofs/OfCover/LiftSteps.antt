-- The tuples of a simplex after a cover.
use Rattle.std.proofs.Common.{◌≡◌, ℕ, zero, suc, ◌+◌, ◌*◌, ◌==◌, ◌<◌, ◌≤◌, ◌||◌, nat_lt, nat_le, All, Bool, true, false, List, [], ◌∷◌, ◌++◌, None, Some, cond, filter, flat_map, length, map, take, refl, sym, ap, ◌∙◌, subst, arith, append_assoc}
use Rattle.std.specs.List.{AllByRecursion, list_all, range_with_len}
use Rattle.std.specs.Option.{is_some}
use Rattle.std.proofs.Math.Nat.{mul-le-mul_right}
use Rattle.std.proofs.Math.ListN.{set}
use Rattle.std.proofs.lemmas.Bool.{and_parts, cond-true, le-leb, ltb-true}
use Rattle.std.proofs.lemmas.List.{length-map, map-append, take_more_set}
use Rattle.std.proofs.lemmas.List.Folds.{list_any-append}
use Rattle.std.proofs.lemmas.List.FromFn.{length-map-range_with_len, map-range_with_len_more}
use Rattle.wf_model.specs.Lists.{below, has}
use Rattle.wf_model.specs.Simplex.{Simplex, processes_of}
use Rattle.wf_model.specs.Task.{Rule, Task, Tuple}
use Rattle.wf_model.proofs.Lemmas.{Ascends}
use Rattle.wf_simplex.proofs.Lemmas.{Has, has-flat_map, has-map, has_of_all}
use Rattle.wf_simplex.specs.Entries.{place_in}
use Rattle.wf_simplex.specs.Order.{same_simplex-decides}
use Rattle.wf_base.specs.Set.Sets.{values_in}
use Rattle.wf_base.proofs.OfSet.Lemmas.{values_listed}
use Rattle.wf_tree_model.specs.Counting.Rules.{no_rule, rule_at}
use Rattle.wf_tree_model.specs.Counting.Signs.{keep}
use Rattle.wf_tree_model.specs.Covers.{Covering, all_places, corner_vertex, is_corner, is_flat, is_flat_at, is_flat_on, lifted, lifts, lifts_on_corner, lifts_on_face, moved, sheets_of, tuples_covered}
use Rattle.wf_tree_model.proofs.Lemmas.{contains}
use Rattle.wf_tree_model.specs.Trees.{move_by, new_name}
use Rattle.wf_tree_model.specs.Tuples.{choices_of, is_kept, is_part, mask_of, value_at}
use Rattle.wf_tree_refine.specs.Limits.{tuples_fault}
use Rattle.wf_tree_refine.specs.Names.{first_new}
use Rattle.wf_tree_refine.specs.declared.fault.RefineFault.TheVariants.{TooManyNames}
use Rattle.wf_tree_refine.proofs.Lemmas.{choices_long, element_has, rule_with, each_place, face_keeps}
use Rattle.wf_tree_steps.specs.declared.cover.cover.Covering as code_cover
use Rattle.wf_tree_steps.specs.Cover.Faults.{cover_fault, cover_seen, moves_seen}
use Rattle.wf_tree_steps.specs.Cover.LiftSeen.{sheeted}
use Rattle.wf_tree_steps.specs.Cover.Limits.{sheets_fault}
use Rattle.wf_tree_steps.proofs.OfCover.Coverings.{exact}

-- ---- the names of a value on all sheets

later_sheets : (value new a b n : ℕ) → 0 < new → a < b → AllByRecursion (λ y. value + a * new < y) (map (λ sheet. value + sheet * new) (range_with_len b n))
later_sheets value new a b zero some low = tt
later_sheets value new a b (suc n) some low =
    let h = mul-le-mul_right new low in
    (let e : value + a * new < value + b * new = omega (arith, h, some) in e, later_sheets value new a (b + 1) n some (omega (arith, low)))

sheets_ascend : (value new a n : ℕ) → 0 < new → Ascends (map (λ sheet. value + sheet * new) (range_with_len a n))
sheets_ascend value new a zero some = tt
sheets_ascend value new a (suc n) some = (later_sheets value new a (a + 1) n some (omega arith), sheets_ascend value new (a + 1) n some)

pub all_sheets : (value new n : ℕ) (set : List ℕ) → 0 < new → ((z : ℕ) → has (values_in set) z ≡ has (map (λ sheet. value + sheet * new) (below n)) z) → values_in set ≡ map (λ sheet. value + sheet * new) (below n)
all_sheets value new n set some same = values_listed set (map (λ sheet. value + sheet * new) (below n)) (sheets_ascend value new 0 n some) same

or_alone : (a b : Bool) → (a || b) ≡ (a || (b || false))
or_alone true b = refl
or_alone false true = refl
or_alone false false = refl

pub sheet_more : (f : ℕ → ℕ) (n name : ℕ) (set more : List ℕ) → name ≡ f n → ((z : ℕ) → has (values_in more) z ≡ (has (values_in set) z || name == z)) → ((z : ℕ) → has (values_in set) z ≡ has (map f (below n)) z)
    → (z : ℕ) → has (values_in more) z ≡ has (map f (below (n + 1))) z
sheet_more f n name set more is put before z =
    put z ∙ ap (λ b. b || name == z) (before z) ∙ ap (λ x. has (map f (below n)) z || x == z) is ∙ or_alone (has (map f (below n)) z) (f n == z)
    ∙ sym (ap (λ xs. has xs z) (map-range_with_len_more f 0 n n (omega arith)) ∙ list_any-append (λ y. y == z) (map f (below n)) (f n ∷ []))

-- on the last of the sheets the name is below all names
pub name_within : (value sheet sheets new : ℕ) → value < new → sheet < sheets → sheets * new ≤ 256 → value + sheet * new ≤ 255
name_within value sheet sheets new low inside few = let h = mul-le-mul_right new inside in omega (arith, h, low, few)

pub is_placed : (n p : ℕ) (ps : List ℕ) → is_some (place_in n p ps) ≡ has ps p
is_placed n p [] = refl
is_placed n p (q ∷ ps) = by (is_placed (suc n) p ps) (q == p)
  where
    by : is_some (place_in (suc n) p ps) ≡ has ps p → (b : Bool) → is_some (cond b (Some n) (place_in (suc n) p ps)) ≡ (b || has ps p)
    by rest true = refl
    by rest false = rest

-- ---- sheets go over to sheets

pub sheet_there : (c : Covering) (tuple : Tuple) (i j sheet : ℕ) → is_flat_on c tuple ≡ true → i < length c.rule.input → j < length c.rule.input → sheet < c.sheets → moved c tuple i j sheet < c.sheets
sheet_there c tuple i j sheet flat li lj ls =
    let n = length c.rule.input in
    let one = each_place (λ a. all_places c (λ b. all_places c (λ k. list_all (is_flat_at c tuple a b k) (below c.sheets)))) 0 n flat i li in
    let two = each_place (λ b. all_places c (λ k. list_all (is_flat_at c tuple (0 + i) b k) (below c.sheets))) 0 n one j lj in
    let three = each_place (λ k. list_all (is_flat_at c tuple (0 + i) (0 + j) k) (below c.sheets)) 0 n two i li in
    let four = each_place (is_flat_at c tuple (0 + i) (0 + j) (0 + i)) 0 c.sheets three sheet ls in
    let both = and_parts (nat_lt (moved c tuple (0 + i) (0 + j) (0 + sheet)) c.sheets) (moved c tuple (0 + j) (0 + i) (moved c tuple (0 + i) (0 + j) (0 + sheet)) == moved c tuple (0 + i) (0 + i) (0 + sheet)) four in
    let zi : 0 + i ≡ i = omega arith in
    let zj : 0 + j ≡ j = omega arith in
    let zs : 0 + sheet ≡ sheet = omega arith in
    subst (λ s. moved c tuple i j s < c.sheets) zs (subst (λ b. moved c tuple i b (0 + sheet) < c.sheets) zj (subst (λ a. moved c tuple a (0 + j) (0 + sheet) < c.sheets) zi (ltb-true (moved c tuple (0 + i) (0 + j) (0 + sheet)) c.sheets both.0)))

pub lifted_long : (c : Covering) (tuple : Tuple) (sheet : ℕ) → length (lifted c tuple sheet) ≡ length c.rule.input
lifted_long c tuple sheet = length-map-range_with_len (λ place. c.name (value_at tuple place) (moved c tuple c.corner place sheet)) 0 (length c.rule.input)

-- one place more
pub place_lifted : (f : ℕ → ℕ) (values new : List ℕ) (place x : ℕ) → place < length values → new ≡ set values place x → x ≡ f place → take place values ≡ map f (below place) → take (place + 1) new ≡ map f (below (place + 1))
place_lifted f values new place x low is here before =
    ap (take (place + 1)) is ∙ take_more_set values place x low ∙ ap (λ xs. xs ++ x ∷ []) before ∙ ap (λ y. map f (below place) ++ y ∷ []) here ∙ sym (map-range_with_len_more f 0 place place (omega arith))

-- one sheet more
pub lift_pushed : (f : ℕ → Tuple) (old found new : List Tuple) (n : ℕ) (row : Tuple) → row ≡ f n → new ≡ found ++ row ∷ [] → found ≡ old ++ map f (below n) → new ≡ old ++ map f (below (n + 1))
lift_pushed f old found new n row is more before =
    more ∙ ap (λ xs. xs ++ row ∷ []) before ∙ append_assoc old (map f (below n)) (row ∷ []) ∙ ap (λ r. old ++ (map f (below n) ++ r ∷ [])) is ∙ ap (λ xs. old ++ xs) (sym (map-range_with_len_more f 0 n n (omega arith)))

pub lifts_long : (c : Covering) (tuple : Tuple) → length (lifts c tuple) ≡ c.sheets
lifts_long c tuple = length-map-range_with_len (lifted c tuple) 0 c.sheets

-- ---- on the faces

-- a tuple on all sheets on a face, if the face has the tuple
abbrev pub kept_lifts : Covering → Rule → Tuple → List Tuple
kept_lifts c face tuple = let mask = mask_of face.input c.rule.input in cond (is_kept face mask tuple) (map (keep mask) (lifts c tuple)) []

some_lifted : (p : Tuple → Bool) (f : Tuple → List Tuple) (g : Tuple → Tuple) (xs : List Tuple) → flat_map (λ x. cond (p x) (map g (f x)) []) xs ≡ map g (flat_map f (filter p xs))
some_lifted p f g [] = refl
some_lifted p f g (x ∷ xs) = by (some_lifted p f g xs) (p x)
  where
    by : flat_map (λ y. cond (p y) (map g (f y)) []) xs ≡ map g (flat_map f (filter p xs)) → (b : Bool) → cond b (map g (f x)) [] ++ flat_map (λ y. cond (p y) (map g (f y)) []) xs ≡ map g (flat_map f (cond b (x ∷ filter p xs) (filter p xs)))
    by rest true = ap (λ ys. map g (f x) ++ ys) rest ∙ sym (map-append g (f x) (flat_map f (filter p xs)))
    by rest false = rest

pub face_lifted : (c : Covering) (face : Rule) → flat_map (kept_lifts c face) c.rule.tuples ≡ lifts_on_face c face
face_lifted c face = let mask = mask_of face.input c.rule.input in some_lifted (is_kept face mask) (lifts c) (keep mask) c.rule.tuples

-- ---- the corner

pub corner_kept : (value_named : ℕ → ℕ) → ((v : ℕ) → value_named v ≡ v) → (rows : List Tuple) → AllByRecursion (λ row. length row ≡ 1) rows → rows ≡ map (λ tuple. value_named (value_at tuple 0) ∷ []) rows
corner_kept f same [] h = refl
corner_kept f same ([] ∷ rows) h = absurd (let bad : ⊥ = (let e = h.0 in omega (arith, e)) in bad)
corner_kept f same ((x ∷ []) ∷ rows) h = let first = same x in let rest = corner_kept f same rows h.1 in λ i. (sym first i ∷ []) ∷ rest i
corner_kept f same ((x ∷ y ∷ ys) ∷ rows) h = absurd (let bad : ⊥ = (let e = h.0 in omega (arith, e)) in bad)

-- ---- what a cover makes has a value for each participant

pub cover_long : (c : Covering) (rule : Rule) → All (λ tuple. length tuple ≡ length rule.input) rule.tuples → (u : Tuple) → Has u (tuples_covered c rule) → length u ≡ length rule.input
cover_long c rule long u h = by (is_corner c rule) refl (is_part rule.input c.rule.input) refl h
  where
    by : (a : Bool) → is_corner c rule ≡ a → (b : Bool) → is_part rule.input c.rule.input ≡ b
        → Has u (cond a (lifts_on_corner c rule) (cond b (lifts_on_face c rule) (flat_map (choices_of (sheets_of c) (processes_of rule.input)) rule.tuples))) → length u ≡ length rule.input
    by true corner b part there =
        let r = has-map (λ tuple. c.name (value_at tuple 0) 0 ∷ []) u rule.tuples there in
        ap length (sym r.2) ∙ sym (ap length ((same_simplex-decides rule.input (corner_vertex c ∷ [])).0 corner))
    by false other true part there =
        let mask = mask_of rule.input c.rule.input in
        let r = has-map (keep mask) u (flat_map (lifts c) (filter (is_kept rule mask) c.rule.tuples)) there in
        let q = has-flat_map (lifts c) r.0 (filter (is_kept rule mask) c.rule.tuples) r.1 in
        let w = has-map (lifted c q.0) r.0 (below c.sheets) q.2 in
        ap length (sym r.2) ∙ face_keeps rule.input c.rule.input r.0 part (ap length (sym w.2) ∙ lifted_long c q.0 w.0)
    by false other false apart there =
        let r = has-flat_map (choices_of (sheets_of c) (processes_of rule.input)) u rule.tuples there in
        let ps = length-map rule.input (λ v. v.0) in
        let row : length r.0 ≡ length rule.input = has_of_all (λ tuple. length tuple ≡ length rule.input) r.0 rule.tuples long r.1 in
        choices_long (sheets_of c) (processes_of rule.input) r.0 u (row ∙ sym ps) r.2 ∙ ps

-- ---- which limit a cover is above

pub few_sheets : (c : Covering) (t : Task) → c.sheets * new_name t ≤ first_new → sheets_fault c t ≡ tuples_fault (tuples_covered c) t
few_sheets c t few = cond-true (nat_le (c.sheets * new_name t) first_new) (tuples_fault (tuples_covered c) t) (Some TooManyNames) (le-leb (c.sheets * new_name t) first_new few)

-- ---- a cover as the code has it

pub same_cover : (t : Task) (cover : code_cover.Covering) (simplex : Simplex) (rows tuples : List Tuple) (new : ℕ) → rule_at t cover.simplex ≡ rule_with simplex tuples → rows ≡ tuples → new ≡ new_name t → sheeted cover simplex rows new ≡ cover_seen t cover
same_cover t cover simplex rows tuples new rule are is =
    let own : rule_with simplex rows ≡ rule_at t cover.simplex = ap (rule_with simplex) are ∙ sym rule in
    λ j. record { rule = own j; corner = cover.corner; sheets = cover.sheets; move = move_by (moves_seen cover.moves.items); name = λ value sheet. value + sheet * is j }

-- a cover without a fault, where it is a covering
pub faultless : (t : Task) (cover : code_cover.Covering) (simplex : Simplex) (rows : List Tuple) (new : ℕ) → cover.simplex < length t.delta → cover_fault (cover_seen t cover) ≡ None → sheeted cover simplex rows new ≡ cover_seen t cover
    → (cover.corner < length simplex) × (is_flat (sheeted cover simplex rows new) ≡ true)
faultless t cover simplex rows new low none same =
    let listed = contains (rule_at t cover.simplex) t.delta (element_has t.delta cover.simplex no_rule low) in
    let is = (exact t (cover_seen t cover) listed).0 none in
    (subst (λ (q : Covering). q.corner < length q.rule.input) (sym same) is.inside, subst (λ q. is_flat q ≡ true) (sym same) is.flat)
