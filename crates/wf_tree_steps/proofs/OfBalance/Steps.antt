-- One step of a loop over multipliers, tuples or rules.
use Rattle.std.proofs.Common.{◌≡◌, ℕ, suc, ◌+◌, ◌%◌, ◌==◌, ◌<◌, ◌≤◌, Bool, true, false, cond, List, ◌∷◌, drop, get_or, length, All, Option, None, Some, Result, Ok, Err, OnOk, refl, sym, ap, ◌∙◌, subst, arith, add-one, drop-cons}
use Rattle.std.specs.List.{AllByRecursion}
use Rattle.std.proofs.Math.Nat.{mod-add-mod, mod-lt}
use Rattle.std.proofs.lemmas.List.{drop_all, get_or-map, length-map}
use Rattle.std.proofs.lemmas.List.Sums.{sum_by-cons}
use Rattle.wf_model.specs.Simplex.{Simplex}
use Rattle.wf_model.specs.Task.{Rule, Task, Tuple}
use Rattle.wf_tree_model.specs.Balance.{IsMultiplier, input_of, weight_of_vertices}
use Rattle.wf_tree_steps.specs.declared.balance.fault.BalanceFault.{BalanceFault}
use Rattle.wf_tree_steps.specs.declared.balance.fault.BalanceFault.TheVariants.{SumRange, NoSimplex, NoPlace, OthersLength, WeightRange, OtherSum, NotBalanced, OutOfMemory}
use Rattle.wf_tree_steps.specs.declared.balance.multiplier.Multiplier as code
use Rattle.wf_tree_steps.specs.Balance.Judge.{Judges, rules_fault, tuples_fault, unless_fault}
use Rattle.wf_tree_steps.specs.Balance.Keys.{but, digits_code, key_of, weight_at, weight_of, weight_under}
use Rattle.wf_tree_steps.specs.Balance.Multipliers.{multiplier_seen, multipliers_seen}
use Rattle.wf_tree_steps.proofs.OfBalance.Digits.{but_none, but_removed}

-- ---- elements one by one

pub here_first : {X : Type 0} (xs : List X) (i : ℕ) (x : X) → i < length xs → x ≡ get_or xs i x → drop i xs ≡ x ∷ drop (i + 1) xs
here_first xs i x inside here = rw (add-one) (drop-cons xs i x inside ∙ ap (λ y. y ∷ drop (suc i) xs) (sym here))

pub first_left : {X : Type 0} (P : X → Type 0) (xs : List X) (i : ℕ) (x : X) → i < length xs → x ≡ get_or xs i x → AllByRecursion P (drop i xs) → P x × AllByRecursion P (drop (i + 1) xs)
first_left P xs i x inside here h = subst (AllByRecursion P) (here_first xs i x inside here) h

pub one_more : {X : Type 0} (P : X → Type 0) (xs : List X) (i : ℕ) (x : X) → i < length xs → x ≡ get_or xs i x → P x → AllByRecursion P (drop (i + 1) xs) → AllByRecursion P (drop i xs)
one_more P xs i x inside here p h = subst (AllByRecursion P) (sym (here_first xs i x inside here)) (p, h)

pub none_left : {X : Type 0} (P : X → Type 0) (xs : List X) (i : ℕ) → length xs ≤ i → AllByRecursion P (drop i xs)
none_left P xs i past = subst (AllByRecursion P) (sym (drop_all i xs past)) tt

-- ---- faults

-- a part hands its fault on to the whole
pub handed : (e : BalanceFault) (part whole : Option BalanceFault) → Judges (Err e) part → (part ≡ Some e → whole ≡ Some e) → Judges (Err e) whole
handed SumRange p w h f = f h
handed (NoSimplex n) p w h f = f h
handed (NoPlace n) p w h f = f h
handed (OthersLength n) p w h f = f h
handed (WeightRange n) p w h f = f h
handed OtherSum p w h f = f h
handed (NotBalanced n k) p w h f = f h
handed OutOfMemory p w h f = tt

pub accepted : (r : Result (Unit {0}) BalanceFault) (fault : Option BalanceFault) (P : Type 0) → Judges r fault → (fault ≡ None → P) → OnOk r P
accepted (Ok u) fault P h f = f h
accepted (Err e) fault P h f = tt

-- ---- tuples and simplices

pub tuple_next : (test : Tuple → Bool) (s : ℕ) (ys : List Tuple) (i : ℕ) (y : Tuple) → i < length ys → y ≡ get_or ys i y →
    tuples_fault test s i (drop i ys) ≡ cond (test y) (tuples_fault test s (i + 1) (drop (i + 1) ys)) (Some (NotBalanced s i))
tuple_next test s ys i y inside here =
    ap (tuples_fault test s i) (here_first ys i y inside here) ∙ (rw (add-one) refl)

pub rule_next : (test : Simplex → Tuple → Bool) (rules : List Rule) (i : ℕ) (rule : Rule) → i < length rules → rule ≡ get_or rules i rule →
    rules_fault test i (drop i rules) ≡ unless_fault (tuples_fault (test rule.input) i 0 rule.tuples) (rules_fault test (i + 1) (drop (i + 1) rules))
rule_next test rules i rule inside here =
    ap (rules_fault test i) (here_first rules i rule inside here) ∙ (rw (add-one) refl)

-- ---- multipliers

pub multiplier_at : (t : Task) (modulus : ℕ) (xs : List code.Multiplier) (i : ℕ) (x : code.Multiplier) → All (IsMultiplier t modulus) (multipliers_seen xs) → i < length xs → x ≡ get_or xs i x → IsMultiplier t modulus (multiplier_seen x)
multiplier_at t modulus xs i x all inside here =
    let l = length-map xs multiplier_seen in
    let at : get_or (multipliers_seen xs) i (multiplier_seen x) ≡ multiplier_seen x = get_or-map multiplier_seen xs i x (multiplier_seen x) inside ∙ ap multiplier_seen (sym here) in
    subst (IsMultiplier t modulus) at (all i (multiplier_seen x) (omega (arith, l, inside)))

pub vertices_more : (t : Task) (xs : List code.Multiplier) (i : ℕ) (x : code.Multiplier) → i < length xs → x ≡ get_or xs i x →
    weight_of_vertices t (multipliers_seen (drop i xs)) ≡ cond (length (input_of t (multiplier_seen x)) == 1) x.weight 0 + weight_of_vertices t (multipliers_seen (drop (i + 1) xs))
vertices_more t xs i x inside here =
    ap (λ l. weight_of_vertices t (multipliers_seen l)) (here_first xs i x inside here)
    ∙ sum_by-cons (λ y. cond (length (input_of t y) == 1) y.weight 0) (multiplier_seen x) (multipliers_seen (drop (i + 1) xs))

pub weight_more : (t : Task) (xs : List code.Multiplier) (i : ℕ) (x : code.Multiplier) (q : ℕ) → i < length xs → x ≡ get_or xs i x →
    weight_under t (multipliers_seen (drop i xs)) q ≡ weight_of t q (multiplier_seen x) + weight_under t (multipliers_seen (drop (i + 1) xs)) q
weight_more t xs i x q inside here =
    ap (λ l. weight_under t (multipliers_seen l) q) (here_first xs i x inside here)
    ∙ sum_by-cons (weight_of t q) (multiplier_seen x) (multipliers_seen (drop (i + 1) xs))

-- ---- weights

pub at_place : (weights : ℕ → ℕ) (labels place at others value : ℕ) (tuple values : List ℕ) → value ≡ weights at → at ≡ key_of place labels others → others ≡ digits_code (but 0 place values) → values ≡ tuple → value ≡ weight_at weights labels tuple place
at_place weights labels place at others value tuple values e k o v =
    e ∙ ap weights (k ∙ ap (key_of place labels) (o ∙ ap (λ ys. digits_code (but 0 place ys)) v ∙ ap digits_code (but_removed place tuple)))

pub at_whole : (weights : ℕ → ℕ) (labels at others value : ℕ) (tuple values : List ℕ) → length tuple ≤ 4 → value ≡ weights at → at ≡ key_of 4 labels others → others ≡ digits_code (but 0 4 values) → values ≡ tuple → value ≡ weights (key_of 4 labels (digits_code tuple))
at_whole weights labels at others value tuple values few e k o v =
    e ∙ ap weights (k ∙ ap (key_of 4 labels) (o ∙ ap (λ ys. digits_code (but 0 4 ys)) v ∙ ap digits_code (but_none tuple 4 few)))

-- a weight that is added now or later
pub added : (k s w t : ℕ) → ((s + w) % k + t) % k ≡ (s + (w + t)) % k
added k s w t = mod-add-mod (s + w) k t ∙ ap (λ n. n % k) (let e : (s + w) + t ≡ s + (w + t) = omega arith in e)

pub added_if : (b : Bool) (k s w t : ℕ) → (cond b ((s + w) % k) s + t) % k ≡ (s + (cond b w 0 + t)) % k
added_if true k s w t = added k s w t
added_if false k s w t = ap (λ n. n % k) (let e : s + t ≡ s + (0 + t) = omega arith in e)

pub put_small : (b : Bool) (k s w : ℕ) → 0 < k → s < k → cond b ((s + w) % k) s < k
put_small true k s w some small = mod-lt (s + w) some
put_small false k s w some small = small
