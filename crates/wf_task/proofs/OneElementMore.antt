-- One element more.
use Rattle.std.proofs.Common.{◌≡◌, ℕ, ◌+◌, ◌<◌, Bool, true, false, cond, List, [], ◌∷◌, ◌++◌, filter, length, take, get_or, append-nil, sym, ap, ◌∙◌}
use Rattle.std.proofs.lemmas.List.{take_more}
use Rattle.std.proofs.lemmas.List.Elements.{filter-append}

pub filter_more : {X : Type 0} (p : X → Bool) (xs : List X) (i : ℕ) (d : X) → i < length xs → filter p (take (i + 1) xs) ≡ filter p (take i xs) ++ cond (p (get_or xs i d)) (get_or xs i d ∷ []) []
filter_more p xs i d inside = ap (filter p) (take_more xs i d inside) ∙ filter-append p (take i xs) (get_or xs i d ∷ [])

pub filter-passes : {X : Type 0} (p : X → Bool) (xs : List X) (i : ℕ) (d x : X) → i < length xs → x ≡ get_or xs i d → p x ≡ true → filter p (take (i + 1) xs) ≡ filter p (take i xs) ++ x ∷ []
filter-passes {X} p xs i d x inside is passes =
    filter_more p xs i d inside ∙ ap (λ (y : X). filter p (take i xs) ++ cond (p y) (y ∷ []) []) (sym is) ∙ ap (λ (b : Bool). filter p (take i xs) ++ cond b (x ∷ []) []) passes

pub filter-fails : {X : Type 0} (p : X → Bool) (xs : List X) (i : ℕ) (d x : X) → i < length xs → x ≡ get_or xs i d → p x ≡ false → filter p (take (i + 1) xs) ≡ filter p (take i xs)
filter-fails {X} p xs i d x inside is fails =
    filter_more p xs i d inside ∙ ap (λ (y : X). filter p (take i xs) ++ cond (p y) (y ∷ []) []) (sym is) ∙ ap (λ (b : Bool). filter p (take i xs) ++ cond b (x ∷ []) []) fails ∙ append-nil (filter p (take i xs))
