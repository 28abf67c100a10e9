-- What the seats of a table have settled, counted by the statuses of the state that it shows.
use Rattle.std.proofs.Common.{◌≡◌, ◌≢◌, ◌⊎◌, ℕ, ◌+◌, ◌≤◌, Bool, true, false, cond, List, [], ◌∷◌, ◌++◌, length, map, slice_index, refl, sym, ap, ◌∙◌, ⊎_elim, inl, inr, arith, length-append}
use Rattle.std.specs.Prelude.{Contains, Option, Some, None, slice_get}
use Rattle.std.specs.List.{count_by, sum_by}
use Rattle.std.specs.List.Sorted.{IsPermutation}
use Rattle.std.specs.Option.{option_map_or}
use Rattle.std.proofs.lemmas.List.Elements.{All-contains, All-contains_itself, All-weaker}
use Rattle.std.proofs.lemmas.List.Sorted.{sum_by-IsPermutation}
use Rattle.std.proofs.lemmas.List.Sums.{sum_by-cons}
use Rattle.std.proofs.lemmas.Bool.{true≢false}
use Rattle.std.proofs.lemmas.Option.{none-some, same_Some}
use Rattle.wf_core.specs.declared.event.Status.{Status}
use Rattle.wf_core.specs.declared.event.Status.TheVariants as status
use Rattle.wf_core.specs.Account.{was_searched, was_cut}
use Rattle.wf_core.specs.Core.{State as Core}
use Rattle.wf_core.specs.Count.{times, times_in, total}
use Rattle.wf_core.proofs.Lemmas.{Contains-times, count-cons, length-places, times-append, times-Contains}
use Rattle.wf_board.specs.declared.table.SeatView.{SeatView}
use Rattle.wf_board.specs.Desk.{BoardId, Desk, known, joined, nothing, gathered, all_posted, IsLeast}
use Rattle.wf_board.specs.Rule.{Posted, Shown}
use Rattle.wf_board.specs.Shows.{Table, Agree, FinishAnswersTheAccount, ledger_of}
use Rattle.wf_board.proofs.Views.{counted_stands, stands_counted, stands_not}

-- all that stands in one list of each view
abbrev flat : (SeatView → List ℕ) → List SeatView → List ℕ
flat f [] = []
flat f (v ∷ vs) = f v ++ flat f vs

times-flat : (f : SeatView → List ℕ) (x : ℕ) (vs : List SeatView) → times x (flat f vs) ≡ times_in f x vs
times-flat f x [] = refl
times-flat f x (v ∷ vs) = let rest = times-flat f x vs in let both = times-append x (f v) (flat f vs) in omega arith

length-flat : (f : SeatView → List ℕ) (vs : List SeatView) → length (flat f vs) ≡ total (λ v. length (f v)) vs
length-flat f [] = refl
length-flat f (v ∷ vs) = let rest = length-flat f vs in let both = length-append (f v) (flat f vs) in omega arith

-- Branches of one status, which one test tells from the others

module _ (f : SeatView → List ℕ) (views : List SeatView) (c : Core) (x : Status) (p : Status → Bool) (agree : Agree f views c x) (passes : p x ≡ true) (alone : (y : Status) → (p y ≡ false) ⊎ (y ≡ x)) where
  stands_once : (i : ℕ) (at : Option Status) → slice_get c.branches i ≡ at → times_in f i views ≡ cond (option_map_or p at false) 1 0
  stands_once i None e = stands_not f views i (λ q. absurd (none-some x (sym e ∙ agree.listed i q)))
  stands_once i (Some y) e = ⊎_elim
      (λ (other : p y ≡ false).
      let zero_times : times_in f i views ≡ 0 = stands_not f views i (λ q.
      let same : y ≡ x = same_Some y x (sym e ∙ agree.listed i q) in
      true≢false (sym passes ∙ (ap p (sym same) ∙ other))) in
      zero_times ∙ sym (ap (λ (t : Bool). cond t 1 0) other))
      (λ (same : y ≡ x).
      let there = stands_counted f views i (agree.stands i (e ∙ ap Some same)) in
      let most = agree.once i in
      let one_time : times_in f i views ≡ 1 = omega arith in
      one_time ∙ sym (ap (λ (t : Bool). cond t 1 0) (ap p same ∙ passes)))
      (alone y)

  listed_count : total (λ v. length (f v)) views ≡ count_by p c.branches
  listed_count = sym (length-flat f views) ∙ length-places p c.branches (flat f views) (λ i. times-flat f i views ∙ stands_once i (slice_get c.branches i) refl)

-- The tests of the statuses

abbrev is_posted : Status → Bool
is_posted status.Free = false
is_posted (status.Held _) = false
is_posted status.Refuted = false
is_posted status.Posted = true
is_posted status.Cut = false

abbrev is_refuted : Status → Bool
is_refuted status.Free = false
is_refuted (status.Held _) = false
is_refuted status.Refuted = true
is_refuted status.Posted = false
is_refuted status.Cut = false

posted_alone : (y : Status) → (is_posted y ≡ false) ⊎ (y ≡ status.Posted)
posted_alone status.Free = inl refl
posted_alone (status.Held _) = inl refl
posted_alone status.Refuted = inl refl
posted_alone status.Posted = inr refl
posted_alone status.Cut = inl refl

refuted_alone : (y : Status) → (is_refuted y ≡ false) ⊎ (y ≡ status.Refuted)
refuted_alone status.Free = inl refl
refuted_alone (status.Held _) = inl refl
refuted_alone status.Refuted = inr refl
refuted_alone status.Posted = inl refl
refuted_alone status.Cut = inl refl

cut_alone : (y : Status) → (was_cut y ≡ false) ⊎ (y ≡ status.Cut)
cut_alone status.Free = inl refl
cut_alone (status.Held _) = inl refl
cut_alone status.Refuted = inl refl
cut_alone status.Posted = inl refl
cut_alone status.Cut = inr refl

abbrev number : Bool → ℕ
number t = cond t 1 0

searched_one : (y : Status) → number (was_searched y) ≡ number (is_posted y) + number (is_refuted y)
searched_one status.Free = refl
searched_one (status.Held _) = refl
searched_one status.Refuted = refl
searched_one status.Posted = refl
searched_one status.Cut = refl

searched_count : (bs : List Status) → count_by was_searched bs ≡ count_by is_posted bs + count_by is_refuted bs
searched_count [] = refl
searched_count (b ∷ bs) =
    let rest = searched_count bs in
    let here = searched_one b in
    let all = count-cons was_searched b bs in
    let posted = count-cons is_posted b bs in
    let refuted = count-cons is_refuted b bs in
    omega arith

-- What is added up over the views is what the seats know together

total-permutation : (f : SeatView → ℕ) (us vs : List SeatView) → IsPermutation us vs → total f vs ≡ total f us
total-permutation f us vs p = total-sum vs ∙ (sum_by-IsPermutation f us vs p ∙ sym (total-sum us)) where
  total-sum : (ws : List SeatView) → total f ws ≡ sum_by f ws
  total-sum [] = refl
  total-sum (w ∷ ws) = let rest = total-sum ws in let cons = sum_by-cons f w ws in omega arith

module _ (f : SeatView → List ℕ) (g : List ℕ → ℕ) (f-nothing : f nothing ≡ []) (f-joined : (v w : SeatView) → f (joined v w) ≡ f v ++ f w) (g-nil : g [] ≡ 0) (g-append : (xs ys : List ℕ) → g (xs ++ ys) ≡ g xs + g ys) where
  gathered_sum : (ds : List Desk) → g (f (gathered ds)) ≡ total (λ v. g (f v)) (map known ds)
  gathered_sum [] = ap g f-nothing ∙ g-nil
  gathered_sum (d ∷ ds) =
      let rest = gathered_sum ds in
      let both = ap g (f-joined (gathered ds) (known d)) ∙ g-append (f (gathered ds)) (f (known d)) in
      omega arith

  gathered_total : (ds : List Desk) (views : List SeatView) → IsPermutation (map known ds) views → g (f (gathered ds)) ≡ total (λ v. g (f v)) views
  gathered_total ds views p = gathered_sum ds ∙ sym (total-permutation (λ v. g (f v)) (map known ds) views p)

-- The least of the posts

same_least : (b : ℕ) (xs : List ℕ) (l m : ℕ) → IsLeast b xs l → IsLeast b xs m → l ≡ m
same_least b xs l m p q = let a = at_most l m p q in let c = at_most m l q p in omega arith where
  at_most : (j k : ℕ) → IsLeast b xs j → IsLeast b xs k → j ≤ k
  at_most j k u v = ⊎_elim
      (λ (e : k ≡ b). let bound = u.bound in omega arith)
      (λ (there : Contains xs k). All-contains (λ x. j ≤ x) xs k u.below there)
      v.reached

module _ (p : BoardId) (s : Table) (ds : List Desk) (h : Shown (ledger_of p) s) (order : IsPermutation (map known ds) s.views) where
  post_times : (x : ℕ) → times x (all_posted ds) ≡ times_in (λ v. v.posted) x s.views
  post_times x = gathered_total (λ v. v.posted) (times x) refl (λ v w. refl) refl (times-append x) ds s.views order

  post_low : (x : ℕ) → Contains (all_posted ds) x → h.least ≤ x
  post_low x there =
      let counted = Contains-times x (all_posted ds) there in
      let same = post_times x in
      let at = counted_stands (λ v. v.posted) s.views x (omega arith) in
      All-contains (λ y. h.least ≤ y) at.1.posted x (h.fits at.0 at.1 at.2).posts at.3

  least_post : IsLeast p.branches (all_posted ds) h.least
  least_post = record {
    bound = h.least_is.0;
    below = All-weaker (Contains (all_posted ds)) (λ x. h.least ≤ x) post_low (all_posted ds) (All-contains_itself (all_posted ds));
    reached = ⊎_elim
        (λ (e : h.least ≡ p.branches). inl e)
        (λ (q : Posted s.views h.least).
        let counted = stands_counted (λ v. v.posted) s.views h.least q in
        let same = post_times h.least in
        inr (times-Contains h.least (all_posted ds) (omega arith)))
        h.least_is.1;
  }

pub finish_answers_the_account : FinishAnswersTheAccount
finish_answers_the_account p s c ds a seats branches least searched cut =
    let k = seats.shows in
    let h = seats.rule in
    let order = seats.seats in
    let low : h.least ≡ c.least = sym (ap (λ (ws : List ℕ). slice_index ws 0) h.words) ∙ k.least in
    let e0 : a.branches ≡ length c.branches = branches ∙ sym seats.branches in
    let e1 : a.least ≡ c.least = same_least p.branches (all_posted ds) a.least h.least least (least_post p s ds h order) ∙ low in
    let posts = gathered_total (λ v. v.posted) length refl (λ v w. refl) refl length-append ds s.views order
    ∙ listed_count (λ v. v.posted) s.views c status.Posted is_posted k.posted refl posted_alone in
    let refutals = gathered_total (λ v. v.refuted) length refl (λ v w. refl) refl length-append ds s.views order
    ∙ listed_count (λ v. v.refuted) s.views c status.Refuted is_refuted k.refuted refl refuted_alone in
    let cuts = gathered_total (λ v. v.cut) length refl (λ v w. refl) refl length-append ds s.views order
    ∙ listed_count (λ v. v.cut) s.views c status.Cut was_cut k.cut refl cut_alone in
    let both = searched_count c.branches in
    let e2 : a.searched ≡ count_by was_searched c.branches = omega arith in
    let e3 : a.cut ≡ count_by was_cut c.branches = cut ∙ cuts in
    λ j. record { branches = e0 j; least = e1 j; searched = e2 j; cut = e3 j }
