-- Tuples by a value at a place.
use Rattle.std.proofs.Common.{◌≡◌, ℕ, ◌+◌, ◌<◌, ◌≤◌, ◌&&◌, ◌||◌, Bool, true, false, List, [], ◌∷◌, ◌++◌, map, filter, length, take, get_or, vec_items, Vec, refl, sym, ap, ◌∙◌}
use Rattle.std.proofs.lemmas.List.{take_more, take_all, map-append}
use Rattle.std.proofs.lemmas.List.Elements.{filter_agree}
use Rattle.wf_model.specs.Lists.{has}
use Rattle.wf_model.specs.Task.{Tuple}
use Rattle.wf_model.specs.Box.{has_at}
use Rattle.wf_model.proofs.Lemmas.{has_at_past}
use Rattle.wf_sat_cnf.specs.Found.{occurs, occurs_in_each}
use Rattle.wf_sat_cnf.proofs.FoundLemmas.{filter_twice}

pub or_nothing : (b : Bool) → b ≡ (b || false)
or_nothing true = refl
or_nothing false = refl

pub has_no_more : (b : Bool) (t : Tuple) (p a : ℕ) → length t ≤ p → b ≡ (b || has_at t p a)
has_no_more b t p a h = or_nothing b ∙ ap (λ c. b || c) (sym (has_at_past t p a h))

pub and_true : (b : Bool) → (b && true) ≡ b
and_true true = refl
and_true false = refl

pub and_assoc : (a b c : Bool) → ((a && b) && c) ≡ (a && (b && c))
and_assoc true b c = refl
and_assoc false b c = refl

-- one list of tuples more
pub each_more : (values : List ℕ) (lists : List (List Tuple)) (tuples : List Tuple) (place : ℕ) (before more after : List ℕ)
    → ((v : ℕ) → has more v ≡ occurs tuples place v) → before ≡ filter (occurs_in_each lists place) values → after ≡ filter (has more) before
    → after ≡ filter (occurs_in_each (lists ++ tuples ∷ []) place) values
each_more values lists tuples place before more after says so_far is =
    is
    ∙ ap (filter (has more)) so_far
    ∙ filter_twice (has more) (occurs_in_each lists place) values
    ∙ filter_agree (λ a. occurs_in_each lists place a && has more a) (occurs_in_each (lists ++ tuples ∷ []) place)
    (λ a. ap (λ b. occurs_in_each lists place a && b) (says a) ∙ sym (last lists a)) values
  where
    last : (ls : List (List Tuple)) (a : ℕ) → occurs_in_each (ls ++ tuples ∷ []) place a ≡ (occurs_in_each ls place a && occurs tuples place a)
    last [] a = and_true (occurs tuples place a)
    last (l ∷ ls) a = ap (λ b. occurs l place a && b) (last ls a) ∙ sym (and_assoc (occurs l place a) (occurs_in_each ls place a) (occurs tuples place a))

-- the items of the first lists, and of one more
pub items_more : {X A : Type 0} (lists : List (Vec X A)) (n : ℕ) (list : Vec X A) → n < length lists → list ≡ get_or lists n list → map vec_items (take (n + 1) lists) ≡ map vec_items (take n lists) ++ vec_items list ∷ []
items_more lists n list low is =
    ap (map vec_items) (take_more lists n list low) ∙ map-append vec_items (take n lists) (get_or lists n list ∷ []) ∙ ap (λ l. map vec_items (take n lists) ++ vec_items l ∷ []) (sym is)

pub items_all : {X A : Type 0} (lists : List (Vec X A)) (n : ℕ) → length lists ≤ n → map vec_items (take n lists) ≡ map vec_items lists
items_all lists n h = ap (map vec_items) (take_all n lists h)

pub each_of_none : (place : ℕ) (values : List ℕ) → values ≡ filter (occurs_in_each [] place) values
each_of_none place [] = refl
each_of_none place (x ∷ values) = ap (λ xs. x ∷ xs) (each_of_none place values)
