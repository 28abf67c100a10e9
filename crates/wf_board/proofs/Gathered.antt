-- What several seats know together, and the words at the end.
use Rattle.std.proofs.Common.{◌≡◌, ℕ, zero, suc, ◌+◌, ◌*◌, ◌<◌, ◌≤◌, List, [], ◌∷◌, length, refl, sym, ap, ◌∙◌, subst, arith, length-append, slice_index_or}
use Rattle.std.specs.Prelude.{All, Contains}
use Rattle.std.proofs.lemmas.List.Elements.{All-contains, Contains-append_left, Contains-push}
use mathlib.Core.Option.{some, some-injective}
use lib.ListN.{get_elem?}
use Rattle.atomic_table.specs.Table.{State}
use Rattle.wf_board.specs.declared.table.SeatView.{SeatView}
use Rattle.wf_board.specs.declared.table.Ledger.{Ledger}
use Rattle.wf_board.specs.Rule.{Seated, Shown, Ends}
use Rattle.wf_board.specs.Desk.{Desk, known, joined, gathered, IsLeast}
use Rattle.wf_board.proofs.Parts.{known_least, known_refuted, known_cut, known_seen}

pub length-gathered : (ds : List Desk) → length (gathered ds).seen ≡ length ds
length-gathered [] = refl
length-gathered (d ∷ ds) = let e = length-gathered ds in let a = length-append (gathered ds).seen (d.seen ∷ []) in omega arith

seen_in : (ds : List Desk) (k : ℕ) (d : Desk) → k < length ds → Contains (gathered ds).seen (slice_index_or ds k d).seen
seen_in [] k d h = absurd (omega arith)
seen_in (x ∷ xs) zero d h = Contains-push (gathered xs).seen x.seen
seen_in (x ∷ xs) (suc k) d h = Contains-append_left (gathered xs).seen (x.seen ∷ []) _ (seen_in xs k d (omega arith))

pub each_seen : (P : ℕ → Type 0) (ds : List Desk) → All P (gathered ds).seen → All (λ d. P d.seen) ds
each_seen P ds all k d h = All-contains P (gathered ds).seen _ all (seen_in ds k d h)

-- the words at the end
pub ends : (ledger : Ledger) (s : State (Unit {0}) SeatView) (id : ℕ) (v : SeatView) (ws : List ℕ) (l r c : ℕ) → Shown ledger s → get_elem? s.views id ≡ some v → length v.seen ≡ ledger.workers → s.words ≡ ws
    → get_elem? ws 0 ≡ some l → get_elem? ws 1 ≡ some r → get_elem? ws 2 ≡ some c → Ends ledger.branches ledger.workers v l r c
ends ledger s id v ws l r c h at every same e0 e1 e2 =
    let words : h.least ∷ h.refuted ∷ h.cut ∷ [] ≡ ws = sym h.words ∙ same in
    let il : h.least ≡ l = some-injective h.least l (ap (λ (xs : List ℕ). get_elem? xs 0) words ∙ e0) in
    let ir : h.refuted ≡ r = some-injective h.refuted r (ap (λ (xs : List ℕ). get_elem? xs 1) words ∙ e1) in
    let ic : h.cut ≡ c = some-injective h.cut c (ap (λ (xs : List ℕ). get_elem? xs 2) words ∙ e2) in record {
      least_is = subst (IsLeast ledger.branches v.posted) il (known_least ledger s id v h at every);
      refuted_is = sym ir ∙ known_refuted ledger s id v h at every;
      cut_is = sym ic ∙ known_cut ledger s id v h at every;
      seen = known_seen ledger s id v h at every;
      room = subst (λ (n : ℕ). length v.posted + (length v.refuted + length v.cut) ≤ ledger.branches * n) every (h.fits id v at).room;
    }

pub joined_is : (all next after : Seated) (done : List Desk) (d : Desk) → all ≡ (gathered done, []) → next ≡ (known d, []) → after ≡ (joined all.0 next.0, all.1) → after ≡ (gathered (d ∷ done), [])
joined_is all next after done d a b e = e ∙ (λ k. (joined (a k).0 (b k).0, (a k).1))
