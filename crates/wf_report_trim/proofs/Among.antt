-- Lists that grow from their fronts to their ends.
use Rattle.std.proofs.Common.{◌≡◌, ◌<◌, ◌+◌, ◌++◌, ℕ, suc, zero, List, [], ◌∷◌, Some, take, length, slice_get, get_or, inl, inr, refl, ap, sym, subst, add-one}
use Rattle.std.proofs.lemmas.Option.{slice_get-get_or}
use Rattle.wf_report_trim.specs.Among.{AreAmong}

among_longer : {X : Type 0} (ks ls : List X) (n : ℕ) → AreAmong ks (take n ls) → AreAmong ks (take (suc n) ls)
among_longer [] ls n h = tt
among_longer (k ∷ ks) [] zero h = absurd h
among_longer (k ∷ ks) [] (suc n) h = absurd h
among_longer (k ∷ ks) (l ∷ ls) zero h = absurd h
among_longer (k ∷ ks) (l ∷ ls) (suc n) (inl (same, h)) = inl (same, among_longer ks ls n h)
among_longer (k ∷ ks) (l ∷ ls) (suc n) (inr h) = inr (among_longer (k ∷ ks) ls n h)

among_last : {X : Type 0} (x : X) (ls : List X) → AreAmong (x ∷ []) (ls ++ x ∷ [])
among_last x [] = inl (refl, tt)
among_last x (l ∷ ls) = inr (among_last x ls)

among_both : {X : Type 0} (ks ls : List X) (x : X) → AreAmong ks ls → AreAmong (ks ++ x ∷ []) (ls ++ x ∷ [])
among_both [] ls x h = among_last x ls
among_both (k ∷ ks) [] x h = absurd h
among_both (k ∷ ks) (l ∷ ls) x (inl (same, h)) = inl (same, among_both ks ls x h)
among_both (k ∷ ks) (l ∷ ls) x (inr h) = inr (among_both (k ∷ ks) ls x h)

one_more : {X : Type 0} (ls : List X) (n : ℕ) (x : X) → slice_get ls n ≡ Some x → take n ls ++ x ∷ [] ≡ take (suc n) ls
one_more [] n x h = absurd (let bad : ⊥ = cc in bad)
one_more (l ∷ ls) zero x h = let is : l ≡ x = cc in ap (λ y. y ∷ []) (sym is)
one_more (l ∷ ls) (suc n) x h = ap (λ xs. l ∷ xs) (one_more ls n x h)

-- the next element is taken, or not
pub among_taken : {X : Type 0} (ks more ls : List X) (n : ℕ) (d : X) → n < length ls → more ≡ ks ++ get_or ls n d ∷ [] → AreAmong ks (take n ls) → AreAmong more (take (n + 1) ls)
among_taken ks more ls n d low is h =
    let known : AreAmong (ks ++ get_or ls n d ∷ []) (take (suc n) ls) =
    subst (AreAmong (ks ++ get_or ls n d ∷ [])) (one_more ls n (get_or ls n d) (slice_get-get_or ls n d low)) (among_both ks (take n ls) (get_or ls n d) h) in
    rw (is, add-one) known

pub among_passed : {X : Type 0} (ks ls : List X) (n : ℕ) → AreAmong ks (take n ls) → AreAmong ks (take (n + 1) ls)
among_passed ks ls n h = rw add-one (among_longer ks ls n h)
