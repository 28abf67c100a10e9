-- What a node comes to, by the fault or the task that the code finds.
use Rattle.std.proofs.Common.{◌≡◌, ℕ, suc, ◌<◌, ◌≤◌, nat_lt, not, Bool, true, false, cond, List, ◌∷◌, length, Option, None, Some, Err, sym, ap, ◌∙◌, arith}
use Rattle.std.proofs.lemmas.Bool.{le-ltb, lt-ltb}
use Rattle.wf_model.specs.Task.{Task, Tuple, inputs}
use Rattle.wf_tree_model.specs.Counting.Rules.{rule_at}
use Rattle.wf_tree_model.specs.Cases.{components}
use Rattle.wf_tree_model.specs.Covers.{Covering, covered}
use Rattle.wf_tree_model.specs.Splits.{Splitting, by_stars, split}
use Rattle.wf_tree_model.specs.Trees.{Move, Node, by_sheets, case_node, cover_node, new_name, split_node}
use Rattle.wf_tree_refine.specs.AtHand.{IsAtHand, at_hand}
use Rattle.wf_tree_refine.specs.Limits.{split_fault}
use Rattle.wf_tree_refine.specs.declared.fault.RefineFault.{RefineFault}
use Rattle.wf_tree_refine.specs.declared.fault.RefineFault.TheVariants as refine
use Rattle.wf_tree_refine.proofs.Lemmas.{length-rules_seen}
use Rattle.wf_tree_steps.specs.Cover.Faults.{cover_fault}
use Rattle.wf_tree_steps.specs.Cover.Limits.{sheets_fault}
use Rattle.wf_tree_steps.specs.declared.cover.cover.CoverFault.{CoverFault}
use Rattle.wf_tree_check.specs.Judge.{Judged, judged}
use Rattle.wf_tree_check.specs.Limits.{limit_of}
use Rattle.wf_tree_check.specs.Walk.{IsEntered, cases_judged, fault_at}
use Rattle.wf_tree_check.specs.declared.fault.TreeFault.TheVariants.{NoCover, NoSimplex, Symmetric, TooLarge}

-- ---- the simplex of a node

is_there : (t : Task) (rows : List (List Tuple)) (simplex : ℕ) → IsAtHand t rows → simplex < length rows → nat_lt simplex (length (at_hand t rows).delta) ≡ true
is_there t rows simplex h low =
    let each = h.each in
    let seen = length-rules_seen (inputs t) rows each in
    lt-ltb simplex (length (at_hand t rows).delta) (omega (arith, low, each, seen))

is_past : (t : Task) (rows : List (List Tuple)) (simplex : ℕ) → IsAtHand t rows → length rows ≤ simplex → nat_lt simplex (length (at_hand t rows).delta) ≡ false
is_past t rows simplex h high =
    let each = h.each in
    let seen = length-rules_seen (inputs t) rows each in
    le-ltb simplex (length (at_hand t rows).delta) (omega (arith, high, each, seen))

-- what comes of a step of a task that may be symmetric, at a simplex that may not be there
abbrev if_plain : ℕ → Bool → Bool → Judged → Judged
if_plain k same here more = cond same (Err (Symmetric k)) (cond (not here) (Err (NoSimplex k)) more)

past : (k : ℕ) (same here : Bool) (more : Judged) → same ≡ false → here ≡ false → if_plain k same here more ≡ Err (NoSimplex k)
past k same here more plain is = ap (λ b. if_plain k b here more) plain ∙ ap (λ b. cond (not b) (Err (NoSimplex k)) more) is

there : (k : ℕ) (same here : Bool) (more : Judged) → same ≡ false → here ≡ true → if_plain k same here more ≡ more
there k same here more plain is = ap (λ b. if_plain k b here more) plain ∙ ap (λ b. cond (not b) (Err (NoSimplex k)) more) is

-- what comes of the limits of a step
abbrev if_within : ℕ → Judged → Option RefineFault → Judged
if_within k more o = elim o [ Some fault ↦ Err (TooLarge k (limit_of fault)) | None ↦ more ]

-- a step that is refused, unless memory ran out
refused_step : (t : Task) (rows : List (List Tuple)) (levels k : ℕ) (behind : List Node) (fault : RefineFault) (j : Judged)
    → ((fault ≡ refine.OutOfMemory → ⊥) → j ≡ Err (TooLarge k (limit_of fault))) → IsEntered t rows levels k behind (Err (fault_at k fault)) j
refused_step t rows levels k behind refine.TooManyNames j h = h (λ e. let none : ⊥ = cc in none)
refused_step t rows levels k behind refine.TooManyTuples j h = h (λ e. let none : ⊥ = cc in none)
refused_step t rows levels k behind refine.OutOfMemory j h = tt

-- ---- cases

module _ (t : Task) (rows : List (List Tuple)) (simplex levels k : ℕ) (behind : List Node) (at : IsAtHand t rows) where
  abbrev all_cases : Judged
  all_cases = cases_judged levels (at_hand t rows) simplex (components (rule_at (at_hand t rows) simplex)) (suc k) behind

  pub case_past : length rows ≤ simplex → judged (suc levels) (at_hand t rows) k (case_node simplex ∷ behind) ≡ Err (NoSimplex k)
  case_past high = ap (λ b. cond b all_cases (Err (NoSimplex k))) (is_past t rows simplex at high)

  pub case_there : simplex < length rows → judged (suc levels) (at_hand t rows) k (case_node simplex ∷ behind) ≡ cases_judged levels (at_hand t rows) simplex (components (rule_at (at_hand t rows) simplex)) (suc k) behind
  case_there low = ap (λ b. cond b all_cases (Err (NoSimplex k))) (is_there t rows simplex at low)

-- ---- splits

module _ (t : Task) (rows : List (List Tuple)) (simplex levels k : ℕ) (behind : List Node) (at : IsAtHand t rows) (plain : t.symmetric ≡ false) where
  abbrev splitting : Splitting
  splitting = by_stars (rule_at (at_hand t rows) simplex) (new_name (at_hand t rows))

  abbrev after_split : Judged
  after_split = judged levels (split splitting (at_hand t rows)) (suc k) behind

  pub split_past : length rows ≤ simplex → judged (suc levels) (at_hand t rows) k (split_node simplex ∷ behind) ≡ Err (NoSimplex k)
  split_past high = past k t.symmetric (nat_lt simplex (length (at_hand t rows).delta)) (if_within k after_split (split_fault splitting (at_hand t rows))) plain (is_past t rows simplex at high)

  split_there : simplex < length rows → judged (suc levels) (at_hand t rows) k (split_node simplex ∷ behind) ≡ if_within k after_split (split_fault splitting (at_hand t rows))
  split_there low = there k t.symmetric (nat_lt simplex (length (at_hand t rows).delta)) (if_within k after_split (split_fault splitting (at_hand t rows))) plain (is_there t rows simplex at low)

  pub split_made : (found : List (List Tuple)) → simplex < length rows → split_fault splitting (at_hand t rows) ≡ None → at_hand t found ≡ split splitting (at_hand t rows)
      → judged (suc levels) (at_hand t rows) k (split_node simplex ∷ behind) ≡ judged levels (at_hand t found) (suc k) behind
  split_made found low none made = split_there low ∙ ap (if_within k after_split) none ∙ ap (λ u. judged levels u (suc k) behind) (sym made)

  pub split_refused : (fault : RefineFault) → simplex < length rows → ((fault ≡ refine.OutOfMemory → ⊥) → split_fault splitting (at_hand t rows) ≡ Some fault)
      → IsEntered t rows levels k behind (Err (fault_at k fault)) (judged (suc levels) (at_hand t rows) k (split_node simplex ∷ behind))
  split_refused fault low h =
      refused_step t rows levels k behind fault (judged (suc levels) (at_hand t rows) k (split_node simplex ∷ behind)) (λ ne. split_there low ∙ ap (if_within k after_split) (h ne))

-- ---- covers

abbrev if_cover : ℕ → Judged → Option CoverFault → Judged
if_cover k more o = elim o [ Some fault ↦ Err (NoCover k fault) | None ↦ more ]

module _ (t : Task) (rows : List (List Tuple)) (simplex sheets corner : ℕ) (moves : List Move) (levels k : ℕ) (behind : List Node) (at : IsAtHand t rows) (plain : t.symmetric ≡ false) where
  abbrev covering : Covering
  covering = by_sheets (at_hand t rows) (rule_at (at_hand t rows) simplex) sheets corner moves

  abbrev after_cover : Judged
  after_cover = judged levels (covered covering (at_hand t rows)) (suc k) behind

  abbrev if_sheets : Judged
  if_sheets = if_within k after_cover (sheets_fault covering (at_hand t rows))

  pub cover_past : length rows ≤ simplex → judged (suc levels) (at_hand t rows) k (cover_node simplex sheets corner moves ∷ behind) ≡ Err (NoSimplex k)
  cover_past high = past k t.symmetric (nat_lt simplex (length (at_hand t rows).delta)) (if_cover k if_sheets (cover_fault covering)) plain (is_past t rows simplex at high)

  cover_there : simplex < length rows → judged (suc levels) (at_hand t rows) k (cover_node simplex sheets corner moves ∷ behind) ≡ if_cover k if_sheets (cover_fault covering)
  cover_there low = there k t.symmetric (nat_lt simplex (length (at_hand t rows).delta)) (if_cover k if_sheets (cover_fault covering)) plain (is_there t rows simplex at low)

  pub cover_none : (fault : CoverFault) → simplex < length rows → cover_fault covering ≡ Some fault → judged (suc levels) (at_hand t rows) k (cover_node simplex sheets corner moves ∷ behind) ≡ Err (NoCover k fault)
  cover_none fault low is = cover_there low ∙ ap (if_cover k if_sheets) is
