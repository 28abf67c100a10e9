-- Lists that are parts of others.
use Rattle.std.specs.Prelude.{◌≡◌, ◌⊎◌, List, [], ◌∷◌}

-- these are some of those, in their order
abbrev pub AreAmong : {X : Type 0} → List X → List X → Type 0
AreAmong [] ls = Unit {0}
AreAmong (k ∷ ks) [] = ⊥
AreAmong (k ∷ ks) (l ∷ ls) = ((k ≡ l) × AreAmong ks ls) ⊎ AreAmong (k ∷ ks) ls
