-- Boxes of sets.
use Rattle.std.proofs.Common.{◌≡◌, ℕ, zero, suc, ◌<◌, List, [], ◌∷◌, map, length, replicate, get_or, refl, ap, ◌∙◌}
use Rattle.std.specs.List.{slice_set}
use Rattle.std.proofs.lemmas.List.{map-set, get_or-map}
use Rattle.wf_model.specs.Box.{candidates, decided}
use Rattle.wf_base.specs.Set.Sets.{box_of, values_in}

-- as many times the same set
pub same_sets : (n : ℕ) (set : List ℕ) → map values_in (replicate n set) ≡ replicate n (values_in set)
same_sets zero set = refl
same_sets (suc n) set = ap (λ sets. values_in set ∷ sets) (same_sets n set)

-- the candidates of a point are the values of its set
pub set_at : (sets : List (List ℕ)) (v : ℕ) → v < length sets → candidates (box_of sets) v ≡ values_in (get_or sets v [])
set_at sets v inside = get_or-map values_in sets v [] [] inside

-- a point that is given one value
pub one_value : (sets : List (List ℕ)) (v a : ℕ) (set : List ℕ) → values_in set ≡ a ∷ [] → box_of (slice_set sets v set) ≡ decided (box_of sets) v a
one_value sets v a set alone = map-set values_in sets v set ∙ ap (slice_set (box_of sets) v) alone
