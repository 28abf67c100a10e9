-- Entries that are found equal are the same.
use Rattle.std.proofs.Common.{◌≡◌, ℕ, ◌==◌, ◌&&◌, true, List, [], ◌∷◌, refl, ap, eqb-true, eq-eqb}
use Rattle.std.specs.Cmp.Lexicographic.{pointwise}
use Rattle.std.proofs.lemmas.Bool.{and_parts, and_from, false≢true}
use Rattle.wf_complex.specs.declared.node.Node.{Node}
use Rattle.wf_complex.specs.Table.{same_node, hash_writes}

same_numbers : (xs ys : List ℕ) → pointwise (λ a b. a == b) xs ys ≡ true → xs ≡ ys
same_numbers [] [] h = refl
same_numbers [] (y ∷ ys) h = absurd (false≢true h)
same_numbers (x ∷ xs) [] h = absurd (false≢true h)
same_numbers (x ∷ xs) (y ∷ ys) h =
    let b = and_parts (x == y) (pointwise (λ a b. a == b) xs ys) h in
    λ i. eqb-true x y b.0 i ∷ same_numbers xs ys b.1 i

numbers_same : (xs : List ℕ) → pointwise (λ a b. a == b) xs xs ≡ true
numbers_same [] = refl
numbers_same (x ∷ xs) = and_from _ _ (eq-eqb x x refl) (numbers_same xs)

pub same_node-is : (a b : Node) → same_node a b ≡ true → a ≡ b
same_node-is a b h =
    let first = and_parts (a.process == b.process) ((a.count == b.count) && pointwise (λ x y. x == y) a.ids b.ids) h in
    let rest = and_parts (a.count == b.count) (pointwise (λ x y. x == y) a.ids b.ids) first.1 in
    λ i. record { process = eqb-true a.process b.process first.0 i; count = eqb-true a.count b.count rest.0 i; ids = same_numbers a.ids b.ids rest.1 i }

pub same_node-itself : (a : Node) → same_node a a ≡ true
same_node-itself a = and_from _ _ (eq-eqb a.process a.process refl) (and_from _ _ (eq-eqb a.count a.count refl) (numbers_same a.ids))

-- and are hashed alike
pub hashed_alike : (a b : Node) → same_node a b ≡ true → hash_writes a ≡ hash_writes b
hashed_alike a b h = ap hash_writes (same_node-is a b h)
