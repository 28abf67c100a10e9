-- The fault of a map of which the first values are kept, and of the steps behind the map.
use Rattle.std.proofs.Common.{◌≡◌, ◌<◌, ◌≤◌, ◌==◌, ◌⊎◌, ℕ, ◌+◌, Bool, true, false, cond, not, List, [], ◌∷◌, length, take, Option, Some, None, option_map, eqb-true, Result, inl, inr, refl, sym, ap, ◌∙◌, subst, arith, length-take}
use Rattle.std.proofs.lemmas.Bool.{cases_lt, ne_eqb}
use Rattle.std.proofs.lemmas.List.{take_all}
use Rattle.wf_model.specs.Box.{root}
use Rattle.wf_model.specs.Check.{Refusal, body_fault, first_least_fault, first_violated, map_fault, unless_fault, violates, wrong_length}
use Rattle.wf_model.specs.Problem.{Problem}
use Rattle.wf_model.specs.Refutation.{Line}
use Rattle.wf_model.specs.Report as reports
use Rattle.wf_report.specs.declared.fault.CertFault.{CertFault}
use Rattle.wf_report.specs.declared.fault.CertFault.TheVariants as amiss
use Rattle.wf_report_check.specs.Faults.{Fails, Judges}
use Rattle.wf_report_check.specs.Judged.{IsLeastFault}

-- ---- the fault of a map

abbrev fault_by : Problem → List ℕ → Bool → Option Refusal
fault_by p m fits = cond (not fits) (Some wrong_length) (option_map violates (first_violated p m))

-- the values that are kept tell the fault of all
pub kept_fault : (p : Problem) (kept values : List ℕ) → kept ≡ take (p.points + 1) values → map_fault p kept ≡ map_fault p values
kept_fault p kept values is = by_size (cases_lt (p.points + 1) (length values))
  where
    by_size : (p.points + 1 < length values) ⊎ (length values ≤ p.points + 1) → map_fault p kept ≡ map_fault p values
    by_size (inr few) = ap (map_fault p) (is ∙ take_all (p.points + 1) values few)
    by_size (inl many) =
        let cut = length-take (p.points + 1) values in
        let size = ap length is in
        let one : (length kept == p.points) ≡ false = ne_eqb (length kept) p.points (λ e. omega (arith, e, size, cut, many)) in
        let other : (length values == p.points) ≡ false = ne_eqb (length values) p.points (λ e. omega (arith, e, many)) in
        ap (fault_by p kept) one ∙ sym (ap (fault_by p values) other)

-- a map without a fault is kept whole
pub kept_whole : (p : Problem) (kept values : List ℕ) → kept ≡ take (p.points + 1) values → map_fault p kept ≡ None → kept ≡ values
kept_whole p kept values is clear = by_fit (length kept == p.points) refl clear
  where
    by_fit : (fits : Bool) → (length kept == p.points) ≡ fits → fault_by p kept fits ≡ None → kept ≡ values
    by_fit false e h = absurd (let bad : ⊥ = cc in bad)
    by_fit true e h =
        let same = eqb-true (length kept) p.points e in
        let cut = length-take (p.points + 1) values in
        let size = ap length is in
        is ∙ take_all (p.points + 1) values (omega (arith, same, cut, size))

pub judges_kept : {X : Type 0} (p : Problem) (kept values : List ℕ) (verdict : Result X CertFault) → kept ≡ take (p.points + 1) values → Judges verdict (map_fault p kept) → Judges verdict (map_fault p values)
judges_kept p kept values verdict is judged = subst (Judges verdict) (kept_fault p kept values is) judged

-- the first fault comes first
pub fails_first : (e : CertFault) (first next : Option Refusal) → Fails e first → Fails e (unless_fault first next)
fails_first e (Some f) next fails = fails
fails_first amiss.TooLong None next fails = absurd fails
fails_first (amiss.Syntax k) None next fails = absurd fails
fails_first (amiss.Header k) None next fails = absurd (let bad : ⊥ = cc in bad)
fails_first amiss.MapLength None next fails = absurd (let bad : ⊥ = cc in bad)
fails_first (amiss.Violates k) None next fails = absurd (let bad : ⊥ = cc in bad)
fails_first (amiss.NoSuch k) None next fails = absurd (let bad : ⊥ = cc in bad)
fails_first (amiss.Unsound k) None next fails = absurd (let bad : ⊥ = cc in bad)
fails_first (amiss.NotEmpty k) None next fails = absurd (let bad : ⊥ = cc in bad)
fails_first (amiss.NotOpen k) None next fails = absurd (let bad : ⊥ = cc in bad)
fails_first amiss.Unfinished None next fails = absurd (let bad : ⊥ = cc in bad)
fails_first (amiss.Trailing k) None next fails = absurd (let bad : ⊥ = cc in bad)
fails_first (amiss.NotFirst k) None next fails = absurd (let bad : ⊥ = cc in bad)
fails_first (amiss.NotTheMap k) None next fails = absurd (let bad : ⊥ = cc in bad)
fails_first amiss.OutOfMemory None next fails = tt

judges_next : {X : Type 0} (verdict : Result X CertFault) (first next : Option Refusal) → first ≡ None → Judges verdict next → Judges verdict (unless_fault first next)
judges_next verdict first next clear judged = subst (Judges verdict) (sym (ap (λ f. unless_fault f next) clear)) judged

-- a map without a fault, and the verdict on the steps
pub least_judged : {X : Type 0} (p : Problem) (kept values : List ℕ) (steps : List Line) (k : ℕ) (verdict : Result X CertFault) → kept ≡ take (p.points + 1) values → map_fault p kept ≡ None → k ≡ 7 + length values
    → Judges verdict (first_least_fault p kept k steps (root p ∷ [])) → IsLeastFault p values steps verdict
least_judged p kept values steps k verdict is clear number judged =
    let same = kept_whole p kept values is clear in
    judges_next verdict (map_fault p values) (first_least_fault p values (7 + length values) steps (root p ∷ [])) (ap (map_fault p) (sym same) ∙ clear)
    (subst (Judges verdict) (λ i. first_least_fault p (same i) (number i) steps (root p ∷ [])) judged)

-- a map with a fault
pub least_refused : (p : Problem) (kept values : List ℕ) (steps : List Line) (e : CertFault) → kept ≡ take (p.points + 1) values → Fails e (map_fault p kept) → Fails e (body_fault p (reports.least values steps))
least_refused p kept values steps e is fails =
    fails_first e (map_fault p values) (first_least_fault p values (7 + length values) steps (root p ∷ [])) (subst (Fails e) (kept_fault p kept values is) fails)
