-- What stands in the seats' lists, after one view has changed.
use Rattle.std.proofs.Common.{◌≡◌, ◌≢◌, ◌⊎◌, ℕ, suc, ◌<◌, List, [], ◌∷◌, set, refl, sym, ◌∙◌, subst, ⊎_elim, inl, inr, arith}
use Rattle.std.specs.Prelude.{Contains}
use mathlib.Core.Option.{some, some-injective}
use mathlib.Core.Logic.{dite}
use native.Mathlib.Decide.{ℕ_discrete, dec_lt}
use lib.ListN.{get_elem?}
use Rattle.atomic_table.proofs.Lists.{at_set, set_else}
use Rattle.wf_core.specs.Count.{times, times_in}
use Rattle.wf_core.proofs.Lemmas.{Contains-times, put_at, times-Contains, total_one}
use Rattle.wf_board.specs.declared.table.SeatView.{SeatView}
use Rattle.wf_board.specs.Rule.{Stands}

-- a list that grows keeps what stands there
pub stands_kept : (f : SeatView → List ℕ) (views : List SeatView) (id : ℕ) (v w : SeatView) → get_elem? views id ≡ some v → ((x : ℕ) → Contains (f v) x → Contains (f w) x)
    → (x : ℕ) → Stands f views x → Stands f (set views id w) x
stands_kept f views id v w at grows x p = dite (ℕ_discrete p.0 id)
    (λ (e : p.0 ≡ id).
    let same : v ≡ p.1 = some-injective v p.1 (sym at ∙ subst (λ (k : ℕ). get_elem? views k ≡ some p.1) e p.2) in
    (id, w, put_at views id v w at, grows x (subst (λ (u : SeatView). Contains (f u) x) (sym same) p.3)))
    (λ (ne : p.0 ≢ id). (p.0, p.1, set_else views id p.0 w ne ∙ p.2, p.3))

-- what stands there afterwards stood there, or is the new view's
pub stands_before : (f : SeatView → List ℕ) (views : List SeatView) (id : ℕ) (w : SeatView) (x : ℕ) → Stands f (set views id w) x → Stands f views x ⊎ Contains (f w) x
stands_before f views id w x p = ⊎_elim
    (λ (t : (p.0 ≡ id) × (w ≡ p.1)). inr (subst (λ (u : SeatView). Contains (f u) x) (sym t.1) p.3))
    (λ (t : (p.0 ≢ id) × (get_elem? views p.0 ≡ some p.1)). inl (p.0, p.1, t.1, p.3))
    (at_set views id p.0 w p.1 p.2)

-- what is counted stands there, and what stands there is counted

pub counted_stands : (f : SeatView → List ℕ) (views : List SeatView) (x : ℕ) → 0 < times_in f x views → Stands f views x
counted_stands f [] x h = absurd (omega arith)
counted_stands f (v ∷ vs) x h = dite (dec_lt 0 (times x (f v)))
    (λ (here : 0 < times x (f v)). (0, v, refl, times-Contains x (f v) here))
    (λ (apart : ¬ (0 < times x (f v))). let rest = counted_stands f vs x (omega arith) in (suc rest.0, rest.1, rest.2, rest.3))

pub stands_counted : (f : SeatView → List ℕ) (views : List SeatView) (x : ℕ) → Stands f views x → 0 < times_in f x views
stands_counted f views x p =
    let here = Contains-times x (f p.1) p.3 in
    let part = total_one (λ v. times x (f v)) views p.0 p.1 p.2 in
    omega arith

pub stands_not : (f : SeatView → List ℕ) (views : List SeatView) (x : ℕ) → ¬ (Stands f views x) → times_in f x views ≡ 0
stands_not f views x absent = dite (dec_lt 0 (times_in f x views))
    (λ (some_time : 0 < times_in f x views). absurd (absent (counted_stands f views x some_time)))
    (λ (never : ¬ (0 < times_in f x views)). omega arith)
