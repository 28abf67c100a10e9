-- The text that lists the branches, line by line, and how large a box is.
use Rattle.std.specs.Prelude.{cond}
use Rattle.std.proofs.Common.{◌≡◌, ◌<◌, ◌≤◌, ◌+◌, ◌*◌, ℕ, zero, suc, nat_lt, Bool, true, false, List, [], ◌∷◌, ◌++◌, take, length, codes, sym, ap, ◌∙◌, arith}
use Rattle.std.specs.List.{enumerate_from, slice_index_or}
use Rattle.std.proofs.lemmas.List.Filters.{length-filter_more}
use Rattle.wf_model.proofs.Lemmas.{length_filter}
use Rattle.wf_model.specs.Lists.{below}
use Rattle.wf_model.specs.Box.{Box, candidates, count}
use Rattle.wf_base.specs.Set.Sets.{holds, values_in}
use Rattle.wf_model.specs.Task.{Task}
use Rattle.wf_model.specs.Execution.{executions}
use Rattle.wf_model.specs.Points.{points}
use Rattle.wf_model.specs.Report.{line}
use Rattle.wf_sat_formula.specs.Branches.{branches}
use Rattle.wf_run_branches.specs.Listing.{branches_text, entries_text, has_several, header_text, open_points}
use Rattle.wf_run_branches.specs.declared.listing.ListingHeader.{ListingHeader}

-- ---- the size of a box

-- a set of the code has at most as many values as there are
pub few_values : (set : List ℕ) → length (values_in set) ≤ 256
unfolding values_in
few_values set = length_filter (holds set) (below 256)

-- so many of the first points are open, and so many candidates are left at them
pub record IsSized (box : Box) (point several left : ℕ) : Type 0 where
  pub open_is : several ≡ open_points (take point box)
  pub left_is : left ≡ count (take point box)
  pub few_open : several ≤ point
  pub few_left : left ≤ 256 * point

count_more : (box : Box) (i : ℕ) → i < length box → count (take (suc i) box) ≡ count (take i box) + length (slice_index_or box i [])
count_more [] i low = absurd (let bad : ⊥ = omega (arith, low) in bad)
count_more (x ∷ xs) zero low = let e : length x + 0 ≡ 0 + length x = omega arith in e
count_more (x ∷ xs) (suc i) low =
    let rest = count_more xs i (omega (arith, low)) in
    let e : length x + count (take (suc i) xs) ≡ (length x + count (take i xs)) + length (slice_index_or xs i []) = omega (arith, rest) in
    e

one_at_most : (b : Bool) → cond b 1 0 ≤ 1
one_at_most true = omega arith
one_at_most false = omega arith

-- a point more
pub next_sized : (box : Box) (point several left values : ℕ) → point < length box → IsSized box point several left → values ≡ length (candidates box point) → values ≤ 256
    → IsSized box (point + 1) (several + cond (nat_lt 1 values) 1 0) (left + values)
next_sized box point several left values low sized is few =
    let e : suc point ≡ point + 1 = omega arith in
    let more : open_points (take (point + 1) box) ≡ open_points (take point box) + cond (has_several (candidates box point)) 1 0 = length-filter_more has_several box point [] low in
    let this : ◌≡◌ {A = ℕ} (cond (nat_lt 1 values) 1 0) (cond (has_several (candidates box point)) 1 0) = ap (λ n. cond (nat_lt 1 n) 1 0) is in
    let counted : count (take (point + 1) box) ≡ count (take point box) + length (candidates box point) = ap (λ k. count (take k box)) (sym e) ∙ count_more box point low in
    let one = one_at_most (nat_lt 1 values) in
    record {
      open_is = omega (arith, sized.open_is, more, this);
      left_is = omega (arith, sized.left_is, counted, is);
      few_open = omega (arith, sized.few_open, one);
      few_left = omega (arith, sized.few_left, few);
    }

-- ---- the whole text

pub whole_text : (t : Task) (r : ℕ) (h : ListingHeader) (boxes : List Box) → h.processes ≡ t.processes → h.rounds ≡ r → h.points ≡ length (points t r) → h.executions ≡ length (executions t r)
    → h.branches ≡ length (branches t r) → boxes ≡ branches t r → header_text h ++ (entries_text (enumerate_from 0 boxes) ++ line (codes "end") []) ≡ branches_text t r
whole_text t r h boxes p q v e n b =
    λ i. header_text (record { processes = p i; rounds = q i; points = v i; executions = e i; branches = n i })
    ++ (entries_text (enumerate_from 0 (b i)) ++ line (codes "end") [])
