-- What the account of a state adds up to.
use Rattle.std.proofs.Common.{◌≡◌, ◌⊎◌, ℕ, suc, ◌+◌, ◌<◌, cond, List, [], ◌∷◌, length, sym, ◌∙◌, subst, ⊎_elim, arith, refl}
use Rattle.std.specs.Prelude.{Some, slice_get}
use Rattle.std.specs.List.{count_by}
use Rattle.std.proofs.lemmas.Option.{same_Some}
use Rattle.wf_core.specs.declared.event.Status.{Status}
use Rattle.wf_core.specs.declared.event.Status.TheVariants as status
use Rattle.wf_core.specs.Account.{was_searched, was_cut}
use Rattle.wf_core.specs.Core.{Is, start}
use Rattle.wf_core.specs.Laws.{AccountsHaveAllBranches, AccountsAddUp, NoneIsCutWithoutAPost}
use Rattle.wf_core.proofs.StepInvariants.{kept_run, kept_start}
use Rattle.wf_core.proofs.Places.{count-cons}

abbrev CountsOnce : Status → Type 0
CountsOnce x = cond (was_searched x) 1 0 + cond (was_cut x) 1 0 ≡ 1

abbrev AreSettled : Status → Type 0
AreSettled x = (Some x ≡ Some status.Posted) ⊎ ((Some x ≡ Some status.Refuted) ⊎ (Some x ≡ Some status.Cut))

once : (x : Status) → AreSettled x → CountsOnce x
once x h = ⊎_elim
    (λ (e : Some x ≡ Some status.Posted). subst CountsOnce (sym (same_Some x status.Posted e)) refl)
    (λ (k : (Some x ≡ Some status.Refuted) ⊎ (Some x ≡ Some status.Cut)). ⊎_elim
    (λ (e : Some x ≡ Some status.Refuted). subst CountsOnce (sym (same_Some x status.Refuted e)) refl)
    (λ (e : Some x ≡ Some status.Cut). subst CountsOnce (sym (same_Some x status.Cut e)) refl)
    k)
    h

all_count : (bs : List Status) → ((i : ℕ) → i < length bs → (slice_get bs i ≡ Some status.Posted) ⊎ ((slice_get bs i ≡ Some status.Refuted) ⊎ (slice_get bs i ≡ Some status.Cut)))
    → count_by was_searched bs + count_by was_cut bs ≡ length bs
all_count [] each = refl
all_count (b ∷ bs) each =
    let rest = all_count bs (λ i lt. each (suc i) (omega arith)) in
    let here = once b (each 0 (omega arith)) in
    let searched = count-cons was_searched b bs in
    let cut = count-cons was_cut b bs in
    omega arith

abbrev cuts : Status → ℕ
cuts x = cond (was_cut x) 1 0

not_cut : (x : Status) → ¬ (Some x ≡ Some status.Cut) → cuts x ≡ 0
not_cut status.Free apart = refl
not_cut (status.Held w) apart = refl
not_cut status.Refuted apart = refl
not_cut status.Posted apart = refl
not_cut status.Cut apart = absurd (apart refl)

none_cut : (bs : List Status) → ((i : ℕ) → ¬ (slice_get bs i ≡ Some status.Cut)) → count_by was_cut bs ≡ 0
none_cut [] none = refl
none_cut (b ∷ bs) none =
    let rest = none_cut bs (λ i. none (suc i)) in
    let here = not_cut b (none 0) in
    let count = count-cons was_cut b bs in
    omega arith

pub accounts_have_all_branches : AccountsHaveAllBranches
accounts_have_all_branches b w es s r = (kept_run b (start b w) es s (kept_start b w) r).size

pub accounts_add_up : AccountsAddUp
accounts_add_up b w es s r settled =
    let size = accounts_have_all_branches b w es s r in
    all_count s.branches (λ i lt. settled i (omega arith)) ∙ size

pub none_is_cut : NoneIsCutWithoutAPost
none_is_cut b w es s r none =
    let k = kept_run b (start b w) es s (kept_start b w) r in (
      ⊎_elim (λ (e : s.least ≡ b). e) (λ (p : Is s s.least status.Posted). absurd (none s.least p)) k.least.reached,
      none_cut s.branches (λ i cut. let below = k.cut i cut in none below.0 below.1),
    )
