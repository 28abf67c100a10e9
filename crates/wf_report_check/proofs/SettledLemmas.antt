-- Points that are known to have fewer than two candidates.
use Rattle.std.proofs.Common.{◌≡◌, ℕ, zero, suc, ◌≤◌, ◌&&◌, nat_lt, not, Bool, true, false, List, [], ◌∷◌, ◌++◌, length, get_or, reverse, refl, sym, ap, ◌∙◌, arith}
use Rattle.std.specs.List.{slice_set}
use Rattle.std.proofs.lemmas.List.{reverse-append}
use Rattle.wf_base.specs.Set.Sets.{values_in}
use Rattle.wf_report_check.specs.Settled.{are_settled, is_settled}
use Rattle.wf_report_check.specs.declared.boxes.TrailEntry.{TrailEntry}
use Rattle.wf_report_check.specs.declared.boxes.TrailEntry.TheVariants.{Was}
use Rattle.wf_report_check.proofs.BlockLemmas.{set_twice}
use Rattle.wf_report_check.proofs.FirstLemmas.{IsSettled}
use Rattle.std.proofs.lemmas.Bool.{and_parts}

not_true : (b : Bool) → not b ≡ true → b ≡ false
not_true true h = absurd (let bad : ⊥ = cc in bad)
not_true false h = refl

pub settled_at : (low : ℕ) (sets : List (List ℕ)) → is_settled low sets ≡ true → IsSettled low sets
settled_at zero sets h v low inside = absurd (omega (arith, low))
settled_at (suc n) [] h v low inside = absurd (omega (arith, inside))
settled_at (suc n) (s ∷ sets) h zero low inside = not_true (nat_lt 1 (length (values_in s))) (and_parts (not (nat_lt 1 (length (values_in s)))) (is_settled n sets) h).0
settled_at (suc n) (s ∷ sets) h (suc v) low inside =
    settled_at n sets (and_parts (not (nat_lt 1 (length (values_in s)))) (is_settled n sets) h).1 v (omega (arith, low)) (omega (arith, inside))

pub settled_by : (low : ℕ) (sets : List (List ℕ)) → IsSettled low sets → is_settled low sets ≡ true
settled_by zero sets h = refl
settled_by (suc n) [] h = refl
settled_by (suc n) (s ∷ sets) h = (λ i. not (h 0 (omega arith) (omega arith) i) && settled_by n sets (λ v low inside. h (suc v) (omega (arith, low)) (omega (arith, inside))) i)

-- below a point whose set changes, all stays settled
pub settled_set : (low n v : ℕ) (sets : List (List ℕ)) (x : List ℕ) → n ≤ low → n ≤ v → is_settled low sets ≡ true → is_settled n (slice_set sets v x) ≡ true
settled_set low zero v sets x below before h = refl
settled_set zero (suc n) v sets x below before h = absurd (omega (arith, below))
settled_set (suc low) (suc n) zero sets x below before h = absurd (omega (arith, before))
settled_set (suc low) (suc n) (suc v) [] x below before h = refl
settled_set (suc low) (suc n) (suc v) (s ∷ sets) x below before h =
    let parts = and_parts (not (nat_lt 1 (length (values_in s)))) (is_settled low sets) h in
    (λ i. parts.0 i && settled_set low n v sets x (omega (arith, below)) (omega (arith, before)) parts.1 i)

-- one more entry, and one less
way_is : (trail : List TrailEntry) (e : TrailEntry) (sets : List (List ℕ)) → are_settled (reverse (trail ++ e ∷ [])) sets ≡ are_settled (e ∷ reverse trail) sets
way_is trail e sets = ap (λ es. are_settled es sets) (reverse-append trail (e ∷ []))

pub way_changed : (trail after : List TrailEntry) (sets : List (List ℕ)) (v : ℕ) (x w : List ℕ) → after ≡ trail ++ Was v w ∷ [] → w ≡ get_or sets v w → are_settled (reverse trail) sets ≡ true → are_settled (reverse after) (slice_set sets v x) ≡ true
way_changed trail after sets v x w is read h =
    ap (λ es. are_settled (reverse es) (slice_set sets v x)) is
    ∙ way_is trail (Was v w) (slice_set sets v x)
    ∙ ap (λ s. are_settled (reverse trail) (slice_set (slice_set sets v x) v s)) read
    ∙ ap (are_settled (reverse trail)) (set_twice sets v x w)
    ∙ h

pub way_popped : (trail before : List TrailEntry) (e same : TrailEntry) (sets : List (List ℕ)) → before ≡ trail ++ e ∷ [] → e ≡ same → are_settled (reverse before) sets ≡ true → are_settled (same ∷ reverse trail) sets ≡ true
way_popped trail before e same sets is seen h = ap (λ e. are_settled (e ∷ reverse trail) sets) (sym seen) ∙ sym (way_is trail e sets) ∙ ap (λ es. are_settled (reverse es) sets) (sym is) ∙ h
