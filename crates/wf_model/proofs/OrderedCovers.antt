-- Ordered covers: what they say of maps, and that splitting gives one.
use Rattle.std.proofs.Common.{◌≡◌, ℕ, zero, suc, ◌<◌, ◌⊎◌, ◌&&◌, Bool, true, false, List, [], ◌∷◌, ◌++◌, flat_map, filter_map, length, get_or, nat_lt, Option, Some, None, All, sym, refl, ◌∙◌, subst, inl, inr, arith}
use Rattle.std.specs.List.{AllByRecursion, Any, cons_option, list_any}
use Rattle.std.proofs.lemmas.Bool.{cases_order}
use Rattle.std.proofs.lemmas.List.Elements.{recursion_from_All, All-from_recursion}
use Rattle.wf_model.specs.Lists.{IsBelow}
use Rattle.wf_model.specs.Simplex.{is_ascending}
use Rattle.wf_model.specs.Problem.{Problem, IsSolution, IsWellFormed}
use Rattle.wf_model.specs.Box.{Box, LiesIn, root, candidates, branches_at, first_open}
use Rattle.wf_model.specs.Refutation.{Line}
use Rattle.wf_model.specs.Closing.{sweep, closing}
use Rattle.wf_model.specs.Split.{closed, is_open, children_at, children, level_if, levels, split_from, split, IsOrderedCover}
use Rattle.wf_model.specs.Laws.{IsLeastIn, IsClosedBranch, LiesAt, LiesInExactlyOne}
use Rattle.wf_model.proofs.MapsAreSolutions.{weaker}
use Rattle.wf_model.proofs.Headline.{each_append, each_flat, both}
use Rattle.wf_model.proofs.TreesAreSound.{none_refutes}
use Rattle.wf_model.proofs.CanonicalSteps.{Leaves, leaves_weaker}
use Rattle.wf_model.proofs.CanonicalRefutations.{LeadsTo, leads_closing}
use Rattle.wf_model.proofs.Ascending.{Ascends, ascends_from, is_ascending_from}
use Rattle.wf_model.proofs.Order.{below_itself, below_one_way, OneOf, EachPair, all_pairs_from, Before, branches_in_order}
use Rattle.wf_model.proofs.ClosingKeeps.{Full, Ascending, candidates_ascend, IsInside, closing_inside, closing_keeps_solution}
use Rattle.wf_model.proofs.ClosedBoxes.{filled}
use Rattle.wf_model.proofs.LeastSolutions.{IsClosed, leaves_closed, each_decided, branches_within, to_branches, root_is_box}

-- ---- maps in the boxes of a cover

module _ (p : Problem) (box : Box) (boxes : List Box) (cover : IsOrderedCover p box boxes) where
  -- maps of two boxes are in the boxes' order
  pub in_order : (i j : ℕ) (m n : List ℕ) → i < j → LiesAt m boxes i → LiesAt n boxes j → IsBelow m n
  in_order i j m n less here there = cover.ordered i j [] less there.0 m n here.1 there.1

  one_place : (i j : ℕ) (m : List ℕ) → LiesAt m boxes i → LiesAt m boxes j → j ≡ i
  one_place i j m here there =
      elim (cases_order j i) [
        | inl same ↦ same
        | inr (inl less) ↦ absurd (below_itself m (in_order j i m m less there here))
        | inr (inr more) ↦ absurd (below_itself m (in_order i j m m more here there))
      ]

  -- the place of a solution of the box
  place : (m : List ℕ) → IsSolution p m → LiesIn m box → (i : ℕ) × LiesAt m boxes i
  place m solves lies =
      let found = cover.covers m solves lies in
      (found.0, (found.2, subst (LiesIn m) (sym (same_at boxes found.0 found.1 [] found.2 found.3)) found.4))
    where
      same_at : (xs : List Box) (k : ℕ) (x d : Box) → k < length xs → get_or xs k x ≡ x → get_or xs k d ≡ x
      same_at [] k x d within is = absurd (let none : ⊥ = omega (arith, within) in none)
      same_at (y ∷ xs) zero x d within is = is
      same_at (y ∷ xs) (suc k) x d within is = same_at xs k x d (omega (arith, within)) is

  -- a solution lies in exactly one box
  pub in_exactly_one : (m : List ℕ) → IsSolution p m → LiesIn m box → LiesInExactlyOne m boxes
  in_exactly_one m solves lies = let at = place m solves lies in (at.0, at.1, λ j there. one_place at.0 j m at.1 there)

  -- the least solution of the first box that has one is the least of all
  pub first_least : (i : ℕ) (m : List ℕ) → i < length boxes → IsLeastIn p (get_or boxes i []) m → LiesIn m box → ((j : ℕ) (n : List ℕ) → j < i → IsSolution p n → LiesAt n boxes j → ⊥) → IsLeastIn p box m
  first_least i m within least lies none = record { solves = least.solves; lies = lies; least = λ other solves inside. against other solves (place other solves inside) }
    where
      against : (other : List ℕ) → IsSolution p other → (j : ℕ) × LiesAt other boxes j → (m ≡ other) ⊎ IsBelow m other
      against other solves (j, there) =
          elim (cases_order j i) [
            | inl same ↦ least.least other solves (subst (λ k. LiesIn other (get_or boxes k [])) same there.1)
            | inr (inl less) ↦ absurd (none j other less solves there)
            | inr (inr more) ↦ inr (in_order i j m other more (within, least.lies) there)
          ]

-- a box has one least solution
pub one_least : (p : Problem) (box : Box) (m n : List ℕ) → IsLeastIn p box m → IsLeastIn p box n → m ≡ n
one_least p box m n first second = by_order (first.least n second.solves second.lies) (second.least m first.solves first.lies)
  where
    by_order : (m ≡ n) ⊎ IsBelow m n → (n ≡ m) ⊎ IsBelow n m → m ≡ n
    by_order (inl same) back = same
    by_order (inr less) (inl same) = sym same
    by_order (inr less) (inr more) = absurd (below_one_way m n less more)

-- ---- lists of boxes, one after another

one_append_left : {X : Type 0} (P : X → Type 0) (xs ys : List X) → OneOf P xs → OneOf P (xs ++ ys)
one_append_left P [] ys h = absurd h
one_append_left P (x ∷ xs) ys (inl here) = inl here
one_append_left P (x ∷ xs) ys (inr later) = inr (one_append_left P xs ys later)

one_append_right : {X : Type 0} (P : X → Type 0) (xs ys : List X) → OneOf P ys → OneOf P (xs ++ ys)
one_append_right P [] ys h = h
one_append_right P (x ∷ xs) ys h = inr (one_append_right P xs ys h)

any_from : {X : Type 0} (P : X → Type 0) (xs : List X) → OneOf P xs → Any P xs
any_from P [] h = absurd h
any_from P (x ∷ xs) (inl here) = (0, x, omega arith, refl, here)
any_from P (x ∷ xs) (inr later) = let found = any_from P xs later in (suc found.0, found.1, omega (arith, found.2), found.3, found.4)

pairs_append : {X : Type 0} (R : X → X → Type 0) (xs ys : List X) → EachPair R xs → EachPair R ys → AllByRecursion (λ x. AllByRecursion (R x) ys) xs → EachPair R (xs ++ ys)
pairs_append R [] ys h k across = k
pairs_append R (x ∷ xs) ys h k across = (each_append (R x) xs ys h.0 across.0, pairs_append R xs ys h.1 k across.1)

-- ---- the boxes after closing

module _ (p : Problem) (well : IsWellFormed p) where
  each_closed : (Q : Box → Type 0) (xs : List Box) → AllByRecursion (λ x. Leaves Q (closed p x)) xs → AllByRecursion Q (filter_map (closed p) xs)
  each_closed Q [] h = tt
  each_closed Q (x ∷ xs) h = with_option (closed p x) (filter_map (closed p) xs) h.0 (each_closed Q xs h.1)
    where
      with_option : (o : Option Box) (rest : List Box) → Leaves Q o → AllByRecursion Q rest → AllByRecursion Q (cons_option o rest)
      with_option None rest h k = k
      with_option (Some b) rest h k = (h, k)

  -- what is before a box is before what closing leaves of it
  before_closed : (b : Box) (xs : List Box) → AllByRecursion (Before b) xs → AllByRecursion (Before b) (filter_map (closed p) xs)
  before_closed b xs h =
      each_closed (Before b) xs
      (weaker (Before b) (λ x. Leaves (Before b) (closed p x))
      (λ x before. leaves_weaker (IsInside x) (Before b) (λ c in' m n here there. before m n here (in'.smaller n there)) (closed p x) (closing_inside p x)) xs h)

  pairs_closed : (xs : List Box) → EachPair Before xs → EachPair Before (filter_map (closed p) xs)
  pairs_closed [] h = tt
  pairs_closed (x ∷ xs) h = with_option (closed p x) (filter_map (closed p) xs) (closing_inside p x) (before_closed x xs h.0) (pairs_closed xs h.1)
    where
      with_option : (o : Option Box) (rest : List Box) → Leaves (IsInside x) o → AllByRecursion (Before x) rest → EachPair Before rest → EachPair Before (cons_option o rest)
      with_option None rest in' h k = k
      with_option (Some b) rest in' h k = (weaker (Before x) (Before b) (λ c before m n here there. before m n (in'.smaller m here) there) rest h, k)

  -- a box in which closing empties a point has no solution
  none_where_emptied : (box : Box) (m : List ℕ) → IsSolution p m → LiesIn m box → (ls : List Line) (left : Option Box) → LeadsTo p box ls left → left ≡ None → ⊥
  none_where_emptied box m solves lies ls None leads is = none_refutes p well.in_range m solves leads.0 box leads.2 lies
  none_where_emptied box m solves lies ls (Some b) leads is = let none : ⊥ = cc in none

  one_closed : (m : List ℕ) → IsSolution p m → (xs : List Box) → OneOf (LiesIn m) xs → OneOf (LiesIn m) (filter_map (closed p) xs)
  one_closed m solves [] h = absurd h
  one_closed m solves (x ∷ xs) (inr later) = with_option (closed p x) (one_closed m solves xs later)
    where
      with_option : (o : Option Box) → OneOf (LiesIn m) (filter_map (closed p) xs) → OneOf (LiesIn m) (cons_option o (filter_map (closed p) xs))
      with_option None h = h
      with_option (Some b) h = inr h
  one_closed m solves (x ∷ xs) (inl here) = with_option (closed p x) (filter_map (closed p) xs) refl (closing_keeps_solution p well.in_range m solves x here)
    where
      with_option : (o : Option Box) (rest : List Box) → closed p x ≡ o → Leaves (LiesIn m) o → OneOf (LiesIn m) (cons_option o rest)
      with_option None rest is h = absurd (none_where_emptied x m solves here (closing p x).lines (closing p x).left (leads_closing p x) is)
      with_option (Some b) rest is h = inl h

  -- ---- the children of a box

  -- a closed box within the root
  record IsBranch (b : Box) : Type 0 where
    long : length b ≡ p.points
    ascending : Ascending b
    stable : (sweep p b).lines ≡ []
    full : Full b
    within : (m : List ℕ) → LiesIn m b → LiesIn m (root p)

  branch_from : (x b : Box) → length x ≡ p.points → Ascending x → ((m : List ℕ) → LiesIn m x → LiesIn m (root p)) → IsClosed p well x b → IsBranch b
  branch_from x b long up within is = record {
    long = is.inside.long ∙ long;
    ascending = is.inside.ascending up;
    stable = is.stable;
    full = is.inside.full;
    within = λ m lies. within m (is.inside.smaller m lies);
  }

  -- what the children of a box are
  record AreChildren (box : Box) (boxes : List Box) : Type 0 where
    cover : (m : List ℕ) → IsSolution p m → LiesIn m box → OneOf (LiesIn m) boxes
    pairs : EachPair Before boxes
    branches : AllByRecursion IsBranch boxes
    within : AllByRecursion (λ b. (m : List ℕ) → LiesIn m b → LiesIn m box) boxes

  children_of : (box : Box) → IsBranch box → AreChildren box (children p box)
  children_of box is = by_open (first_open box) refl
    where
      by_open : (o : Option ℕ) → first_open box ≡ o → AreChildren box (children_at o p box)
      by_open None none = record { cover = λ m solves lies. inl lies; pairs = (tt, tt); branches = (is, tt); within = (λ m lies. lies, tt) }
      by_open (Some v) open' =
          let here = branches_at box v in
          let shape = each_decided p box v (candidates box v) is.long is.ascending in
          let whole = branches_within box v in record {
            cover = λ m solves lies. one_closed m solves here (to_branches m box v open' lies);
            pairs = pairs_closed here (branches_in_order box v open' (candidates_ascend box v is.ascending));
            branches = each_closed IsBranch here
                (both (λ b. (length b ≡ p.points) × Ascending b) (λ b. (m : List ℕ) → LiesIn m b → LiesIn m box) (λ b. Leaves IsBranch (closed p b))
                (λ x h up. leaves_weaker (IsClosed p well x) IsBranch (λ b c. branch_from x b h.0 h.1 (λ m lies. is.within m (up m lies)) c) (closed p x) (leaves_closed p well x)) here shape whole);
            within = each_closed (λ b. (m : List ℕ) → LiesIn m b → LiesIn m box) here
                (weaker (λ x. (m : List ℕ) → LiesIn m x → LiesIn m box) (λ x. Leaves (λ b. (m : List ℕ) → LiesIn m b → LiesIn m box) (closed p x))
                (λ x up. leaves_weaker (IsInside x) (λ b. (m : List ℕ) → LiesIn m b → LiesIn m box) (λ b in' m lies. up m (in'.smaller m lies)) (closed p x) (closing_inside p x)) here whole);
          }

  -- ---- levels of children

  -- what the boxes of a level are, within the root
  abbrev AreBranches : List Box → Type 0
  AreBranches boxes = AreChildren (root p) boxes

  cover_children : (boxes : List Box) → AllByRecursion IsBranch boxes → (m : List ℕ) → IsSolution p m → OneOf (LiesIn m) boxes → OneOf (LiesIn m) (flat_map (children p) boxes)
  cover_children [] h m solves one = absurd one
  cover_children (b ∷ boxes) h m solves (inl here) = one_append_left (LiesIn m) (children p b) (flat_map (children p) boxes) ((children_of b h.0).cover m solves here)
  cover_children (b ∷ boxes) h m solves (inr later) = one_append_right (LiesIn m) (children p b) (flat_map (children p) boxes) (cover_children boxes h.1 m solves later)

  before_children : (b : Box) (boxes : List Box) → AllByRecursion IsBranch boxes → AllByRecursion (Before b) boxes → AllByRecursion (Before b) (flat_map (children p) boxes)
  before_children b boxes h before =
      each_flat (Before b) (children p) boxes
      (both IsBranch (Before b) (λ c. AllByRecursion (Before b) (children p c))
      (λ c is before. weaker (λ d. (m : List ℕ) → LiesIn m d → LiesIn m c) (Before b) (λ d up m n here there. before m n here (up n there)) (children p c) (children_of c is).within) boxes h before)

  pairs_children : (boxes : List Box) → AllByRecursion IsBranch boxes → EachPair Before boxes → EachPair Before (flat_map (children p) boxes)
  pairs_children [] h pairs = tt
  pairs_children (b ∷ boxes) h pairs =
      let below = children_of b h.0 in
      pairs_append Before (children p b) (flat_map (children p) boxes) below.pairs (pairs_children boxes h.1 pairs.1)
      (weaker (λ d. (m : List ℕ) → LiesIn m d → LiesIn m b) (λ d. AllByRecursion (Before d) (flat_map (children p) boxes))
      (λ d up. weaker (Before b) (Before d) (λ c before m n here there. before m n (up m here) there) (flat_map (children p) boxes) (before_children b boxes h.1 pairs.0)) (children p b) below.within)

  next_level : (boxes : List Box) → AreBranches boxes → AreBranches (flat_map (children p) boxes)
  next_level boxes h =
      let branches = each_flat IsBranch (children p) boxes (weaker IsBranch (λ b. AllByRecursion IsBranch (children p b)) (λ b is. (children_of b is).branches) boxes h.branches) in record {
        cover = λ m solves lies. cover_children boxes h.branches m solves (h.cover m solves lies);
        pairs = pairs_children boxes h.branches h.pairs;
        branches = branches;
        within = weaker IsBranch (λ b. (m : List ℕ) → LiesIn m b → LiesIn m (root p)) (λ b is. is.within) (flat_map (children p) boxes) branches;
      }

  all_levels : (n : ℕ) (boxes : List Box) → AreBranches boxes → AreBranches (levels n p boxes)
  all_levels zero boxes h = h
  all_levels (suc n) boxes h = by_test (nat_lt (length boxes) 64 && list_any is_open boxes) (all_levels n (flat_map (children p) boxes) (next_level boxes h))
    where
      by_test : (b : Bool) → AreBranches (levels n p (flat_map (children p) boxes)) → AreBranches (level_if b p boxes (levels n p))
      by_test false next = h
      by_test true next = next

  split_branches : AreBranches (split p)
  split_branches = by_closed (closed p (root p)) refl (closing_keeps_root) (leaves_closed p well (root p))
    where
      closing_keeps_root : (m : List ℕ) → IsSolution p m → LiesIn m (root p) → Leaves (LiesIn m) (closed p (root p))
      closing_keeps_root m solves lies = closing_keeps_solution p well.in_range m solves (root p) lies

      by_closed : (o : Option Box) → closed p (root p) ≡ o → ((m : List ℕ) → IsSolution p m → LiesIn m (root p) → Leaves (LiesIn m) o) → Leaves (IsClosed p well (root p)) o → AreBranches (split_from p o)
      by_closed None is keeps c = record {
        cover = λ m solves lies. absurd (none_where_emptied (root p) m solves lies (closing p (root p)).lines (closing p (root p)).left (leads_closing p (root p)) is);
        pairs = tt;
        branches = tt;
        within = tt;
      }
      by_closed (Some b) is keeps c = all_levels 8 (b ∷ []) (record {
        cover = λ m solves lies. inl (keeps m solves lies);
        pairs = (tt, tt);
        branches = (branch_from (root p) b (root_is_box p well).long root_ascends (λ m lies. lies) c, tt);
        within = (c.inside.smaller, tt);
      })
        where
          root_ascends : Ascending (root p)
          root_ascends = weaker (λ set. is_ascending set ≡ true) Ascends (λ set h. ascends_from set h) (root p) (recursion_from_All _ (root p) (root_is_box p well).ascending)

  -- splitting gives an ordered cover of the root
  pub split_covers : IsOrderedCover p (root p) (split p)
  split_covers = record {
    covers = λ m solves lies. any_from (LiesIn m) (split p) (split_branches.cover m solves lies);
    ordered = all_pairs_from Before (split p) split_branches.pairs;
  }

  -- each branch is a closed box
  pub split_closed : All (IsClosedBranch p (root p)) (split p)
  split_closed =
      All-from_recursion _ (split p)
      (weaker IsBranch (IsClosedBranch p (root p))
      (λ b is. record {
        is_box = record { long = is.long; ascending = All-from_recursion _ b (weaker Ascends (λ set. is_ascending set ≡ true) is_ascending_from b is.ascending) };
        closed = is.stable;
        filled = filled b is.full;
        within = is.within;
      })
      (split p) split_branches.branches)
