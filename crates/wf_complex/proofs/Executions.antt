-- The rounds of the code are the executions of the definitions.
use Rattle.std.proofs.Common.{◌≡◌, ℕ, zero, suc, ◌+◌, ◌*◌, List, [], ◌∷◌, ◌++◌, map, flat_map, length, fold, sym, refl, ap, ◌∙◌, arith, append-nil, length-append}
use Rattle.std.proofs.lemmas.List.{length-map}
use Rattle.std.proofs.lemmas.List.Concat.{flat_map-append}
use Rattle.wf_model.specs.Lists.{lists_of}
use Rattle.wf_model.specs.Word.{Word, words}
use Rattle.wf_model.specs.View.{View, base_views, round}
use Rattle.wf_model.specs.Task.{Task, Rule, inputs, first_block}
use Rattle.wf_model.specs.Execution.{executions_on, executions, last_views}
use Rattle.wf_complex.specs.Rounds.{leaves, leaves_of}
use Rattle.wf_complex.specs.Layout.{turns, execution_total}
use Rattle.wf_complex.proofs.Bounds.{suc_times}

module _ {X Y : Type 0} where
  flat_map-flat_map : {Z : Type 0} (f : Y → List Z) (g : X → List Y) (xs : List X) → flat_map f (flat_map g xs) ≡ flat_map (λ x. flat_map f (g x)) xs
  flat_map-flat_map f g [] = refl
  flat_map-flat_map f g (x ∷ xs) = flat_map-append f (g x) (flat_map g xs) ∙ ap (λ zs. flat_map f (g x) ++ zs) (flat_map-flat_map f g xs)

  flat_map-map : {Z : Type 0} (f : Y → List Z) (g : X → Y) (xs : List X) → flat_map f (map g xs) ≡ flat_map (λ x. f (g x)) xs
  flat_map-map f g [] = refl
  flat_map-map f g (x ∷ xs) = ap (λ zs. f (g x) ++ zs) (flat_map-map f g xs)

  flat_map-same : (f g : X → List Y) → ((x : X) → f x ≡ g x) → (xs : List X) → flat_map f xs ≡ flat_map g xs
  flat_map-same f g h [] = refl
  flat_map-same f g h (x ∷ xs) = λ i. h x i ++ flat_map-same f g h xs i

-- going on round by round gives the views after each list of words
pub leaves_folded : (ws : List Word) (k : ℕ) (vs : List View) → leaves ws k vs ≡ flat_map (λ us. fold round vs us) (lists_of ws k)
leaves_folded ws zero vs = sym (append-nil vs)
leaves_folded ws (suc k) vs =
    flat_map-same (λ w. leaves ws k (round vs w)) (λ w. flat_map (λ us. fold round vs us) (map (λ rest. w ∷ rest) (lists_of ws k)))
    (λ w. leaves_folded ws k (round vs w) ∙ sym (flat_map-map (λ us. fold round vs us) (λ rest. w ∷ rest) (lists_of ws k))) ws
    ∙ sym (flat_map-flat_map (λ us. fold round vs us) (λ w. map (λ rest. w ∷ rest) (lists_of ws k)) ws)

on_rule : (m r : ℕ) (rule : Rule) → flat_map last_views (executions_on m r rule) ≡ leaves_of m r rule.input
on_rule m r rule =
    flat_map-map last_views (λ ws. record { rule = rule; words = ws }) (lists_of (words m (length rule.input)) r)
    ∙ sym (leaves_folded (words m (length rule.input)) r (base_views rule.input))

-- the last views of all executions, one after another
pub last_views-executions : (t : Task) (r : ℕ) → flat_map last_views (executions t r) ≡ flat_map (leaves_of (first_block t) r) (inputs t)
last_views-executions t r =
    let m = first_block t in
    flat_map-flat_map last_views (executions_on m r) t.delta
    ∙ flat_map-same (λ rule. flat_map last_views (executions_on m r rule)) (λ rule. leaves_of m r rule.input) (on_rule m r) t.delta
    ∙ sym (flat_map-map (leaves_of m r) (λ rule. rule.input) t.delta)

-- ---- how many there are

length-flat : {X Y : Type 0} (f : X → List Y) (n : ℕ) → ((x : X) → length (f x) ≡ n) → (xs : List X) → length (flat_map f xs) ≡ length xs * n
length-flat f n h [] = omega arith
length-flat f n h (x ∷ xs) = length-append (f x) (flat_map f xs) ∙ (λ i. h x i + length-flat f n h xs i) ∙ sym (suc_times (length xs) n)

pub length-lists_of : (m n r : ℕ) → length (lists_of (words m n) r) ≡ turns m n r
length-lists_of m n zero = refl
length-lists_of m n (suc r) =
    length-flat (λ x. map (λ rest. x ∷ rest) (lists_of (words m n) r)) (turns m n r) (λ x. length-map (lists_of (words m n) r) (λ rest. x ∷ rest) ∙ length-lists_of m n r) (words m n)

pub length-executions : (t : Task) (r : ℕ) → length (executions t r) ≡ execution_total (first_block t) r (inputs t)
length-executions t r = each (first_block t) t.delta
  where
    each : (m : ℕ) (rules : List Rule) → length (flat_map (executions_on m r) rules) ≡ execution_total m r (map (λ rule. rule.input) rules)
    each m [] = refl
    each m (rule ∷ rules) =
        let here : length (executions_on m r rule) ≡ turns m (length rule.input) r = length-map (lists_of (words m (length rule.input)) r) (λ ws. record { rule = rule; words = ws }) ∙ length-lists_of m (length rule.input) r in
        length-append (executions_on m r rule) (flat_map (executions_on m r) rules) ∙ (λ i. here i + each m rules i)
