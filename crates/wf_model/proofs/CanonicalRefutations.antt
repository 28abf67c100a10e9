-- What the canonical search writes where it finds no map is a refutation,
-- with its branches at first open points.
use Rattle.std.proofs.Common.{◌≡◌, ℕ, zero, suc, ◌+◌, ◌<◌, ◌≤◌, ◌&&◌, ◌==◌, Bool, true, not, List, [], ◌∷◌, ◌++◌, map, filter, flat_map, length, slice_get, Option, Some, None, sym, refl, ap, ◌∙◌, subst, arith, inl, inr, length-set, eqb-true}
use Rattle.std.specs.List.{AllByRecursion, enumerate_from}
use Rattle.std.specs.Cmp.Lexicographic.{pointwise}
use Rattle.std.proofs.lemmas.Bool.{cases_Bool, or_cases, and_parts, and_from, or_left, or_right, not-true, both_ways, false_from_ne_true}
use Rattle.std.proofs.lemmas.List.Quantifiers.{position-Some}
use Rattle.std.proofs.lemmas.List.{nil_from_length}
use Rattle.wf_model.specs.Lists.{has}
use Rattle.wf_model.specs.Problem.{Problem, Constraint}
use Rattle.wf_model.specs.Task.{Tuple}
use Rattle.wf_model.specs.Box.{Box, candidates, without, branches_at, count, first_open, first_empty, has_at, is_alive, is_supported, is_supported_in}
use Rattle.wf_model.specs.Refutation.{Line, remove, branch, Tree, emptied, removed, branched, Trees, no_trees, tree, lines, lines_each, Refutes, RefutesEach, IsUnsupported}
use Rattle.wf_model.specs.LeastTree.{BranchesFirst, BranchesFirstEach}
use Rattle.wf_model.specs.Closing.{Step, Trace, Loss, same_candidate, continued, taken_out, take_out, take_out_each, places, lost_at, lost, sweep_from, sweep, unless_none, sweeps, closing_at, closing, before, in_turn, branching_at, branching, searched, search_within, canonical}
use Rattle.wf_model.proofs.MapsAreSolutions.{weaker}
use Rattle.wf_model.proofs.Headline.{each_flat, each_map, each_distinct, always}
use Rattle.wf_model.proofs.CanonicalSteps.{Leaves, leaves_weaker, closing_count, Few, branches_few, open_point}

-- b is a with candidates taken out
pub record IsWithin (b a : Box) : Type 0 where
  pub long : length b ≡ length a
  pub has_fewer : (v x : ℕ) → has (candidates b v) x ≡ true → has (candidates a v) x ≡ true

pub within_itself : (a : Box) → IsWithin a a
within_itself a = record { long = refl; has_fewer = λ v x h. h }

pub has_filtered : (test : ℕ → Bool) (xs : List ℕ) (x : ℕ) → has (filter test xs) x ≡ true → has xs x ≡ true
has_filtered test [] x h = h
has_filtered test (y ∷ xs) x h = grind (arith, has_filtered test xs x, h)

pub without_within : (b a : Box) (v x : ℕ) → IsWithin b a → IsWithin (without b v x) a
without_within b a v x w = record {
  long = length-set b v (filter (λ y. not (y == x)) (candidates b v)) ∙ w.long;
  has_fewer = λ u y h. w.has_fewer u y (smaller b v u y h);
}
  where
    smaller : (b : Box) (v u y : ℕ) → has (candidates (without b v x) u) y ≡ true → has (candidates b u) y ≡ true
    smaller [] v u y h = h
    smaller (s ∷ b) zero zero y h = has_filtered (λ z. not (z == x)) s y h
    smaller (s ∷ b) zero (suc u) y h = h
    smaller (s ∷ b) (suc v) zero y h = h
    smaller (s ∷ b) (suc v) (suc u) y h = smaller b v u y h

-- what is supported in a box is supported in a larger one
alive_in_larger : (b a : Box) (scope : List (ℕ × ℕ)) (tuple : Tuple) → IsWithin b a → pointwise has (map (λ at. candidates b at.1) scope) tuple ≡ true → pointwise has (map (λ at. candidates a at.1) scope) tuple ≡ true
alive_in_larger b a [] [] w h = h
alive_in_larger b a [] (x ∷ tuple) w h = h
alive_in_larger b a (at ∷ scope) [] w h = h
alive_in_larger b a (at ∷ scope) (x ∷ tuple) w h =
    let parts = and_parts (has (candidates b at.1) x) (pointwise has (map (λ at. candidates b at.1) scope) tuple) h in
    and_from (has (candidates a at.1) x) (pointwise has (map (λ at. candidates a at.1) scope) tuple) (w.has_fewer at.1 x parts.0) (alive_in_larger b a scope tuple w parts.1)

supported_in_larger : (b a : Box) (scope : List (ℕ × ℕ)) (tuples : List Tuple) (place x : ℕ) → IsWithin b a →
    is_supported tuples (map (λ at. candidates b at.1) scope) place x ≡ true → is_supported tuples (map (λ at. candidates a at.1) scope) place x ≡ true
supported_in_larger b a scope [] place x w h = h
supported_in_larger b a scope (t ∷ ts) place x w h =
    elim (or_cases (has_at t place x && is_alive (map (λ at. candidates b at.1) scope) t) (is_supported ts (map (λ at. candidates b at.1) scope) place x) h) [
      | inl here ↦ (let parts = and_parts (has_at t place x) (is_alive (map (λ at. candidates b at.1) scope) t) here in
          or_left (has_at t place x && is_alive (map (λ at. candidates a at.1) scope) t) _ (and_from _ _ parts.0 (alive_in_larger b a scope t w parts.1)))
      | inr later ↦ or_right (has_at t place x && is_alive (map (λ at. candidates a at.1) scope) t) _ (supported_in_larger b a scope ts place x w later)
    ]

-- so what is lost in a box is lost in a smaller one
pub lost_in_smaller : (p : Problem) (b a : Box) (e c x v : ℕ) → IsWithin b a → IsUnsupported p a e c x v → IsUnsupported p b e c x v
lost_in_smaller p b a e c x v w l = record {
  constraint = l.constraint;
  at = l.at;
  place = l.place;
  point = l.point;
  unsupported = false_from_ne_true _ (λ yes'. both_ways _ l.unsupported (supported_in_larger b a l.constraint.scope l.constraint.tuples l.place x w yes'));
}

-- lines that take out lost values one after another lead from the first box to the second
abbrev pub TakesOut : Problem → List Line → Box → Box → Type 0
TakesOut p [] box b = box ≡ b
TakesOut p (l ∷ ls) box b = (e c a v : ℕ) × (l ≡ remove e c a) × IsUnsupported p box e c a v × TakesOut p ls (without box v a) b

pub take_out_both : (p : Problem) (ls ms : List Line) (box b c : Box) → TakesOut p ls box b → TakesOut p ms b c → TakesOut p (ls ++ ms) box c
take_out_both p [] ms box b c h k = subst (λ x. TakesOut p ms x c) (sym h) k
take_out_both p (l ∷ ls) ms box b c (e, process, a, v, is, lost, rest) k = (e, process, a, v, is, lost, take_out_both p ls ms (without box v a) b c rest k)

-- what holds before a lost value is taken out where it holds after, holds before all of the lines
pub before_losses : (p : Problem) (R : Box → List Line → Type 0) → ((box : Box) (e c a v : ℕ) (ls : List Line) → IsUnsupported p box e c a v → R (without box v a) ls → R box (remove e c a ∷ ls)) →
    (ls : List Line) (box b : Box) → TakesOut p ls box b → (more : List Line) → R b more → R box (ls ++ more)
before_losses p R one [] box b h more r = subst (λ x. R x more) (sym h) r
before_losses p R one (l ∷ ls) box b (e, c, a, v, is, lost, rest) more r =
    subst (λ x. R box (x ∷ (ls ++ more))) (sym is) (one box e c a v (ls ++ more) lost (before_losses p R one ls (without box v a) b rest more r))

module _ (p : Problem) where
  -- some tree with these lines refutes the box, and branches at first open points
  abbrev pub Refutable : Box → List Line → Type 0
  Refutable box ls = (t : Tree) × (lines t ≡ ls) × Refutes p t box × BranchesFirst t box

  pub refutable_before : (ls : List Line) (box b : Box) → TakesOut p ls box b → (more : List Line) → Refutable b more → Refutable box (ls ++ more)
  refutable_before = before_losses p Refutable (λ box e c a v ls lost r. (removed e c a v r.0, ap (λ ms. remove e c a ∷ ms) r.1, (lost, r.2), r.3))

  -- lines that lead from a box to what they leave: they refute it, or take lost values out
  abbrev pub LeadsTo : Box → List Line → Option Box → Type 0
  LeadsTo box ls None = Refutable box ls
  LeadsTo box ls (Some b) = TakesOut p ls box b

  leads_on : (box b : Box) (ls ms : List Line) (left : Option Box) → TakesOut p ls box b → LeadsTo b ms left → LeadsTo box (ls ++ ms) left
  leads_on box b ls ms None h k = refutable_before ls box b h ms k
  leads_on box b ls ms (Some c) h k = take_out_both p ls ms box b c h k

  leads_continued : (box : Box) (ls : List Line) (left : Option Box) (next : Box → Step) → LeadsTo box ls left → Leaves (λ b. LeadsTo b (next b).lines (next b).left) left →
      LeadsTo box (continued ls left next).lines (continued ls left next).left
  leads_continued box ls None next h k = h
  leads_continued box ls (Some b) next h k = leads_on box b ls (next b).lines (next b).left h k

  leads_nowhere : (box : Box) → LeadsTo box [] (Some box)
  leads_nowhere box = refl

  -- a loss is one of this box
  abbrev pub IsLoss : Box → ℕ → Loss → Type 0
  IsLoss box e x = IsUnsupported p box e x.process x.value x.point × (x.point < length box)

  leads_taken_out : (e : ℕ) (x : Loss) (box : Box) (set : List ℕ) → candidates (without box x.point x.value) x.point ≡ set → IsLoss box e x →
      LeadsTo box (taken_out e x (without box x.point x.value) set).lines (taken_out e x (without box x.point x.value) set).left
  leads_taken_out e x box [] is h =
      (removed e x.process x.value x.point (emptied x.point), refl, (h.0, (subst (λ n. x.point < n) (sym (length-set box x.point _)) h.1, is)), tt)
  leads_taken_out e x box (a ∷ set) is h = (e, x.process, x.value, x.point, refl, h.0, refl)

  taken_out_leaves : (P : Box → Type 0) (e : ℕ) (x : Loss) (box : Box) (set : List ℕ) → P box → Leaves P (taken_out e x box set).left
  taken_out_leaves P e x box [] h = tt
  taken_out_leaves P e x box (a ∷ set) h = h

  leads_take_out_each : (e : ℕ) (xs : List Loss) (old box : Box) → IsWithin box old → AllByRecursion (IsLoss old e) xs → LeadsTo box (take_out_each e xs box).lines (take_out_each e xs box).left
  leads_take_out_each e [] old box w h = leads_nowhere box
  leads_take_out_each e (x ∷ xs) old box w h =
      leads_continued box (take_out e x box).lines (take_out e x box).left (take_out_each e xs)
      (leads_taken_out e x box (candidates (without box x.point x.value) x.point) refl
      (lost_in_smaller p box old e x.process x.value x.point w h.0.0, subst (λ n. x.point < n) (sym w.long) h.0.1))
      (taken_out_leaves (λ b. LeadsTo b (take_out_each e xs b).lines (take_out_each e xs b).left) e x (without box x.point x.value) (candidates (without box x.point x.value) x.point)
      (leads_take_out_each e xs old (without box x.point x.value) (without_within box old x.point x.value w) h.1))

-- ---- what is lost in an execution

each_in_box : (box : Box) (v : ℕ) → AllByRecursion (λ a. v < length box) (candidates box v)
each_in_box [] v = tt
each_in_box (s ∷ box) zero = always (λ a. 0 < length (s ∷ box)) (λ a. omega arith) s
each_in_box (s ∷ box) (suc v) = weaker (λ a. v < length box) (λ a. suc v < length (s ∷ box)) (λ a h. omega (arith, h)) (candidates box v) (each_in_box box v)

each_filtered : {X : Type 0} (P : X → Type 0) (test : X → Bool) (xs : List X) → AllByRecursion P xs → AllByRecursion (λ x. P x × (test x ≡ true)) (filter test xs)
each_filtered P test [] h = tt
each_filtered P test (x ∷ xs) h =
    elim (cases_Bool (test x)) [
      | inl pass ↦ rw pass ((h.0, pass), each_filtered P test xs h.1)
      | inr fail ↦ rw fail (each_filtered P test xs h.1)
    ]

-- the pairs of a list with its places are those that stand there
each_place : (whole scope : List (ℕ × ℕ)) (n : ℕ) → ((i : ℕ) → slice_get whole (n + i) ≡ slice_get scope i) → AllByRecursion (λ at. slice_get whole at.0 ≡ Some at.1) (enumerate_from n scope)
each_place whole [] n h = tt
each_place whole (at ∷ scope) n h = (
  (let e : n + 0 ≡ n = omega arith in subst (λ k. slice_get whole k ≡ Some at) e (h 0)),
  each_place whole scope (n + 1) (λ i. let e : (n + 1) + i ≡ n + suc i = omega arith in rw e (h (suc i))),
)

module _ (p : Problem) (box : Box) (e : ℕ) (k : Constraint) (at : slice_get p.constraints e ≡ Some k) where
  lost_at_place : (q : ℕ × ℕ × ℕ) → slice_get k.scope q.0 ≡ Some (q.1, q.2) → AllByRecursion (IsLoss p box e) (lost_at box k q)
  lost_at_place q stands =
      each_map (IsLoss p box e) (λ a. record { process = q.1; value = a; point = q.2 }) (filter (λ a. not (is_supported_in k box q.0 a)) (candidates box q.2))
      (weaker (λ a. (q.2 < length box) × (not (is_supported_in k box q.0 a) ≡ true)) (λ a. IsLoss p box e (record { process = q.1; value = a; point = q.2 }))
      (λ a h. (record { constraint = k; at = at; place = q.0; point = stands; unsupported = not-true (is_supported_in k box q.0 a) h.1 }, h.0))
      (filter (λ a. not (is_supported_in k box q.0 a)) (candidates box q.2))
      (each_filtered (λ a. q.2 < length box) (λ a. not (is_supported_in k box q.0 a)) (candidates box q.2) (each_in_box box q.2)))

  pub lost_is_lost : AllByRecursion (IsLoss p box e) (lost box k)
  lost_is_lost =
      each_distinct (IsLoss p box e) same_candidate (flat_map (lost_at box k) (places k.scope))
      (each_flat (IsLoss p box e) (lost_at box k) (places k.scope)
      (each_map (λ q. AllByRecursion (IsLoss p box e) (lost_at box k q)) (λ (a : ℕ × (ℕ × ℕ)). (a.0, a.1.0, a.1.1)) (enumerate_from 0 k.scope)
      (weaker (λ (a : ℕ × (ℕ × ℕ)). slice_get k.scope a.0 ≡ Some a.1) (λ (a : ℕ × (ℕ × ℕ)). AllByRecursion (IsLoss p box e) (lost_at box k (a.0, a.1.0, a.1.1)))
      (λ a h. lost_at_place (a.0, a.1.0, a.1.1) h) (enumerate_from 0 k.scope)
      (each_place k.scope k.scope 0 (λ i. let z : 0 + i ≡ i = omega arith in rw z refl)))))

-- ---- sweeps and closing

module _ (p : Problem) where
  all_leave : (P : Box → Type 0) → ((b : Box) → P b) → (o : Option Box) → Leaves P o
  all_leave P f None = tt
  all_leave P f (Some b) = f b

  leads_sweep : (e : ℕ) (ks : List Constraint) (box : Box) → ((i : ℕ) → slice_get p.constraints (e + i) ≡ slice_get ks i) → LeadsTo p box (sweep_from e ks box).lines (sweep_from e ks box).left
  leads_sweep e [] box h = leads_nowhere p box
  leads_sweep e (k ∷ ks) box h =
      let here : slice_get p.constraints e ≡ Some k = (let z : e + 0 ≡ e = omega arith in subst (λ n. slice_get p.constraints n ≡ Some k) z (h 0)) in
      leads_continued p box (take_out_each e (lost box k) box).lines (take_out_each e (lost box k) box).left (sweep_from (suc e) ks)
      (leads_take_out_each p e (lost box k) box box (within_itself box) (lost_is_lost p box e k here))
      (all_leave (λ b. LeadsTo p b (sweep_from (suc e) ks b).lines (sweep_from (suc e) ks b).left)
      (λ b. leads_sweep (suc e) ks b (λ i. let z : suc e + i ≡ e + suc i = omega arith in rw z (h (suc i)))) (take_out_each e (lost box k) box).left)

  leads_unless_none : (box : Box) (ls : List Line) (s : Step) (next : Box → Step) → LeadsTo p box s.lines s.left → ((b : Box) → LeadsTo p b (next b).lines (next b).left) →
      LeadsTo p box (unless_none ls s next).lines (unless_none ls s next).left
  leads_unless_none box [] s next h k = h
  leads_unless_none box (l ∷ ls) s next h k = leads_continued p box s.lines s.left next h (all_leave (λ b. LeadsTo p b (next b).lines (next b).left) k s.left)

  leads_sweeps : (n : ℕ) (box : Box) → LeadsTo p box (sweeps n p box).lines (sweeps n p box).left
  leads_sweeps zero box = leads_nowhere p box
  leads_sweeps (suc n) box =
      leads_unless_none box (sweep p box).lines (sweep p box) (sweeps n p)
      (leads_sweep 0 p.constraints box (λ i. let z : 0 + i ≡ i = omega arith in rw z refl)) (leads_sweeps n)

  pub leads_closing : (box : Box) → LeadsTo p box (closing p box).lines (closing p box).left
  leads_closing box = by_empty (first_empty box) refl
    where
      by_empty : (o : Option ℕ) → first_empty box ≡ o → LeadsTo p box (closing_at o p box).lines (closing_at o p box).left
      by_empty None is = leads_sweeps (suc (count box)) box
      by_empty (Some v) is =
          let there = position-Some (λ (set : List ℕ). length set == 0) box v [] is in
          (emptied v, refl, (there.0, nil_from_length (candidates box v) (eqb-true (length (candidates box v)) 0 there.1)), tt)

  -- ---- the search

  abbrev pub NoMap : Option (List ℕ) → Type 0
  NoMap None = Unit {0}
  NoMap (Some m) = ⊥

  -- a search that refutes the boxes in which it finds no map
  abbrev pub IsSound : ℕ → (Box → Trace) → Type 0
  IsSound n f = (box : Box) → count box < n → NoMap (f box).map → Refutable p box (f box).lines

  both_none : (ls : List Line) (o : Option (List ℕ)) (t : Trace) → NoMap (before ls o t).map → NoMap o × NoMap t.map
  both_none ls None t h = (tt, h)
  both_none ls (Some m) t h = absurd h

  lines_before : (ls : List Line) (o : Option (List ℕ)) (t : Trace) → NoMap o → (before ls o t).lines ≡ ls ++ t.lines
  lines_before ls None t h = refl
  lines_before ls (Some m) t h = absurd h

  refutes_in_turn : (n : ℕ) (f : Box → Trace) → IsSound n f → (boxes : List Box) → Few n boxes → NoMap (in_turn f boxes).map → (ts : Trees) × (lines_each ts ≡ (in_turn f boxes).lines) × RefutesEach p ts boxes × BranchesFirstEach ts boxes
  refutes_in_turn n f s [] few h = (no_trees, refl, tt, tt)
  refutes_in_turn n f s (box ∷ boxes) few h =
      let parts = both_none (f box).lines (f box).map (in_turn f boxes) h in
      let first = s box few.0 parts.0 in
      let rest = refutes_in_turn n f s boxes few.1 parts.1 in (
        tree first.0 rest.0,
        (λ i. first.1 i ++ rest.1 i) ∙ sym (lines_before (f box).lines (f box).map (in_turn f boxes) parts.0),
        (first.2, rest.2),
        (first.3, rest.3),
      )

  refutes_branching : (n : ℕ) (f : Box → Trace) → IsSound n f → (box : Box) → count box ≤ n → NoMap (branching f box).map → Refutable p box (branching f box).lines
  refutes_branching n f s box few h = by_open (first_open box) refl h
    where
      by_open : (o : Option ℕ) → first_open box ≡ o → NoMap (branching_at o f box).map → Refutable p box (branching_at o f box).lines
      by_open None is h = absurd h
      by_open (Some v) is h =
          let wide = open_point box v is in
          let ts = refutes_in_turn n f s (branches_at box v) (branches_few n box v (candidates box v) wide few) h in
          (branched v ts.0, ap (λ ls. branch v ∷ ls) ts.1, (wide, ts.2), (is, ts.3))

  refutes_searched : (n : ℕ) (f : Box → Trace) (box : Box) (ls : List Line) (left : Option Box) → LeadsTo p box ls left → Leaves (λ b. count b ≤ n) left →
      ((b : Box) → count b ≤ n → NoMap (f b).map → Refutable p b (f b).lines) → NoMap (searched ls left f).map → Refutable p box (searched ls left f).lines
  refutes_searched n f box ls None leads few s h = leads
  refutes_searched n f box ls (Some b) leads few s h = refutable_before p ls box b leads (f b).lines (s b few h)

  pub refutes_within : (n : ℕ) → IsSound n (search_within n p)
  refutes_within zero box few h = absurd (let none : ⊥ = omega (arith, few) in none)
  refutes_within (suc n) box few h =
      refutes_searched n (branching (search_within n p)) box (closing p box).lines (closing p box).left (leads_closing box)
      (leaves_weaker (λ b. count b ≤ count box) (λ b. count b ≤ n) (λ b c. omega (arith, c, few)) (closing p box).left (closing_count p box))
      (λ b c. refutes_branching n (search_within n p) (refutes_within n) b c) h

  -- where the canonical search finds no map, its lines are those of a tree that refutes the box
  pub canonical_refutes : (box : Box) → NoMap (canonical p box).map → Refutable p box (canonical p box).lines
  canonical_refutes box h = refutes_within (suc (count box)) box (omega arith) h

  pub canonical_none_refutes : (box : Box) → (canonical p box).map ≡ None → (t : Tree) × (lines t ≡ (canonical p box).lines) × Refutes p t box
  canonical_none_refutes box h = let refuted = canonical_refutes box (subst NoMap (sym h) tt) in (refuted.0, refuted.1, refuted.2)
