-- A worker stays honest with each call, and keeps what may be asked for.
use Rattle.std.proofs.Common.{◌≡◌, ℕ, ◌<◌, ◌≤◌, Bool, true, false, cond, nat_lt, List, [], ◌∷◌, ◌++◌, map, refl, sym, ap, subst, arith}
use Rattle.std.specs.Prelude.{All, Some, None, filter}
use Rattle.std.proofs.lemmas.List.Elements.{All-nil, All-push, All-weaker, All-contains, All-filter}
use Rattle.std.proofs.lemmas.Bool.{lt-ltb, le-ltb}
use mathlib.Core.Logic.{dite}
use native.Mathlib.Decide.{dec_lt}
use Rattle.wf_model.specs.Problem.{Problem}
use Rattle.wf_core.specs.Count.{times}
use Rattle.wf_core.proofs.Lemmas.{times-append, times_other, times-Contains}
use Rattle.wf_board.specs.Desk.{BoardId, Desk, fresh_desk, settled, posted, searched, is_cut}
use Rattle.wf_box.specs.Boxes.{ServeFor}
use Rattle.wf_base.specs.declared.lines.line.Line.{Line}
use Rattle.wf_pool.specs.declared.answer.KeptLines.{KeptLines}
use Rattle.wf_pool.specs.declared.worker.Finds.{Finds}
use Rattle.wf_pool.specs.declared.worker.Worker.{Worker}
use Rattle.wf_pool.specs.declared.worker.BranchMap.{BranchMap}
use Rattle.wf_pool.specs.declared.worker.BranchLines.{BranchLines}
use Rattle.wf_pool.specs.Branches.{has_map, IsMapAt, AreLinesAt}
use Rattle.wf_pool.specs.Work.{IsHonest, IsMapFound, IsSeat, IsFresh, HasLooked, map_branches}
use Rattle.wf_pool.proofs.Branches.{map_is, lines_are}
use Rattle.wf_pool.proofs.SettledOnce.{in_settled}
use Rattle.wf_pool.proofs.Totals.{lines_pushed}

-- a number that is below all of a list isn't in it
not_there : (l j : ℕ) (xs : List ℕ) → All (λ x. l ≤ x) xs → j < l → times j xs ≡ 0
not_there l j xs low below = dite (dec_lt 0 (times j xs))
    (λ (there : 0 < times j xs). let a = All-contains (λ x. l ≤ x) xs j low (times-Contains j xs there) in absurd (omega arith))
    (λ (no : ¬ (0 < times j xs)). omega arith)

other : (j i : ℕ) → j < i → times j (i ∷ []) ≡ 0
other j i lt = let t = times_other j i [] (λ (e : j ≡ i). omega arith) in omega arith

pub looked_honest : (p : Problem) (kept : KeptLines) (d e : Desk) (f : Finds) → HasLooked d e → IsHonest p kept d f → IsHonest p kept e f
looked_honest p kept d e f look h =
    subst (λ (k : Desk). IsHonest p kept k f) (sym look.same) (record {
      posted = h.posted;
      refuted = h.refuted;
      cut = All-weaker (λ i. d.seen < i) (λ i. e.seen < i) (λ i a. let b = look.down in omega arith) d.cut h.cut;
      finds = h.finds;
      map_kept = λ i a. h.map_kept i (let b = look.down in omega arith);
      lines_kept = λ i a. h.lines_kept i (let b = look.down in omega arith);
    })

-- a branch is posted, which is the least one: its map is kept in the place of any other
pub least_posted : (p : Problem) (kept : KeptLines) (d : Desk) (f : Finds) (i : ℕ) (m : BranchMap)
    → IsHonest p kept d f → IsMapAt p kept m.branch m.map.items m.lines.items → m.branch ≡ i
    → times i (settled d) ≡ 0 → (i ≤ d.seen) × All (λ x. i ≤ x) d.posted
    → IsHonest p kept (posted d i i) (record f { map = Some m })
least_posted p kept d f i m h found is fresh low = record {
  posted = All-push (λ j. has_map p j ≡ true) d.posted i h.posted (subst (λ k. has_map p k ≡ true) is (map_is p kept m.branch m.map.items m.lines.items found));
  refuted = h.refuted;
  cut = All-weaker (λ j. d.seen < j) (λ j. i < j) (λ j a. let b = low.0 in omega arith) d.cut h.cut;
  finds = record { map = found; lines = h.finds.lines };
  map_kept = λ j a.
      let t = times-append j d.posted (i ∷ []) in
      let same : times j (m.branch ∷ []) ≡ times j (i ∷ []) = ap (λ k. times j (k ∷ [])) is in
      dite (dec_lt j i)
      (λ (lt : j < i). let n = not_there i j d.posted low.1 lt in omega arith)
      (λ (no : ¬ (j < i)).
      let e : j ≡ i = omega arith in
      let s = in_settled i d.posted d.refuted d.cut in
      let n : times j d.posted ≡ 0 = subst (λ k. times k d.posted ≡ 0) (sym e) (omega arith) in
      omega arith);
  lines_kept = λ j a. h.lines_kept j (let b = low.0 in omega arith);
}

-- a branch is posted, and a lower one was: its map isn't kept
pub later_posted : (p : Problem) (kept : KeptLines) (d : Desk) (f : Finds) (i l : ℕ) (m : List ℕ) (ls : List Line)
    → IsHonest p kept d f → IsMapAt p kept i m ls → l < i → l ≤ d.seen
    → IsHonest p kept (posted d i l) f
later_posted p kept d f i l m ls h found above low = record {
  posted = All-push (λ j. has_map p j ≡ true) d.posted i h.posted (map_is p kept i m ls found);
  refuted = h.refuted;
  cut = All-weaker (λ j. d.seen < j) (λ j. l < j) (λ j a. omega arith) d.cut h.cut;
  finds = h.finds;
  map_kept = λ j a.
      let t = times-append j d.posted (i ∷ []) in
      let n = other j i (omega arith) in
      let k = h.map_kept j (omega arith) in
      omega arith;
  lines_kept = λ j a. h.lines_kept j (omega arith);
}

-- a branch is refuted, and its lines are kept
pub kept_refuted : (p : Problem) (kept : KeptLines) (d : Desk) (f g : Finds) (i : ℕ) (l : BranchLines)
    → IsHonest p kept d f → AreLinesAt p kept l.branch l.lines.items → l.branch ≡ i
    → g.map ≡ f.map → g.lines.items ≡ f.lines.items ++ l ∷ []
    → IsHonest p kept (searched d i) g
kept_refuted p kept d f g i l h found is same more = record {
  posted = h.posted;
  refuted = All-push (λ j. has_map p j ≡ false) d.refuted i h.refuted (subst (λ k. has_map p k ≡ false) is (lines_are p kept l.branch l.lines.items found));
  cut = h.cut;
  finds = record {
    map = subst (IsMapFound p kept) (sym same) h.finds.map;
    lines = subst (All (λ k. AreLinesAt p kept k.branch k.lines.items)) (sym more) (All-push (λ k. AreLinesAt p kept k.branch k.lines.items) f.lines.items l h.finds.lines found);
  };
  map_kept = λ j a. let k = h.map_kept j a in let e = ap (λ m. times j (map_branches m)) same in omega arith;
  lines_kept = λ j a.
      let k = h.lines_kept j a in
      let t = times-append j d.refuted (i ∷ []) in
      let u = lines_pushed j f.lines.items l in
      let e = ap (λ ls. times j (map (λ n. n.branch) ls)) more in
      let b = ap (λ k. times j (k ∷ [])) is in
      omega arith;
}

-- a branch is refuted that nobody will ask for
pub other_refuted : (p : Problem) (kept : KeptLines) (d : Desk) (f : Finds) (i : ℕ) (ls : List Line)
    → IsHonest p kept d f → AreLinesAt p kept i ls → d.seen ≤ i
    → IsHonest p kept (searched d i) f
other_refuted p kept d f i ls h found above = record {
  posted = h.posted;
  refuted = All-push (λ j. has_map p j ≡ false) d.refuted i h.refuted (lines_are p kept i ls found);
  cut = h.cut;
  finds = h.finds;
  map_kept = h.map_kept;
  lines_kept = λ j a.
      let k = h.lines_kept j a in
      let t = times-append j d.refuted (i ∷ []) in
      let n = other j i (omega arith) in
      omega arith;
}

pub cut_honest : (p : Problem) (kept : KeptLines) (d : Desk) (f : Finds) (i : ℕ) → IsHonest p kept d f → d.seen < i → IsHonest p kept (is_cut d i) f
cut_honest p _ d f i h below = record {
  posted = h.posted;
  refuted = h.refuted;
  cut = All-push (λ j. d.seen < j) d.cut i h.cut below;
  finds = h.finds;
  map_kept = h.map_kept;
  lines_kept = h.lines_kept;
}

-- a worker that has a fresh seat, has found nothing, and keeps right answers
pub fresh_is : (p : Problem) (kept : KeptLines) (b : BoardId) (w : Worker) → w.seat ≡ fresh_desk b → w.finds.map ≡ None → w.finds.lines.items ≡ [] → ServeFor p w.answers → IsFresh p kept b w
fresh_is p kept b w seat none empty serve =
    subst (λ (d : Desk). (IsSeat b d × IsHonest p kept d w.finds × ServeFor p w.answers) × (settled d ≡ [])) (sym seat) (
      (
        (refl, refl),
        record {
          posted = All-nil (λ i. has_map p i ≡ true);
          refuted = All-nil (λ i. has_map p i ≡ false);
          cut = All-nil (λ i. b.branches < i);
          finds = record {
            map = subst (IsMapFound p kept) (sym none) tt;
            lines = subst (All (λ k. AreLinesAt p kept k.branch k.lines.items)) (sym empty) (All-nil (λ k. AreLinesAt p kept k.branch k.lines.items));
          };
          map_kept = λ i a. omega arith;
          lines_kept = λ i a. omega arith;
        },
        serve,
      ),
      refl,
    )

filtered_times : (i b : ℕ) (ls : List BranchLines) → i < b → times i (map (λ l. l.branch) (filter (λ l. nat_lt l.branch b) ls)) ≡ times i (map (λ l. l.branch) ls)
filtered_times i b [] low = refl
filtered_times i b (l ∷ ls) low =
    let rest = filtered_times i b ls low in
    let kept_if : Bool → ℕ = λ t. times i (map (λ k. k.branch) (cond t (l ∷ filter (λ k. nat_lt k.branch b) ls) (filter (λ k. nat_lt k.branch b) ls))) in
    dite (dec_lt l.branch b)
    (λ (kept : l.branch < b). let e = ap kept_if (lt-ltb l.branch b kept) in omega arith)
    (λ (gone : ¬ (l.branch < b)).
    let e = ap kept_if (le-ltb l.branch b (omega arith)) in
    let t = times_other i l.branch (map (λ k. k.branch) ls) (λ (same : i ≡ l.branch). omega arith) in omega arith)

-- the lines of branches that are not below the least posted one are dropped
pub forgotten : (p : Problem) (kept : KeptLines) (d : Desk) (f g : Finds) → IsHonest p kept d f → g.map ≡ f.map → g.lines.items ≡ filter (λ l. nat_lt l.branch d.seen) f.lines.items → IsHonest p kept d g
forgotten p kept d f g h same less = record {
  posted = h.posted;
  refuted = h.refuted;
  cut = h.cut;
  finds = record {
    map = subst (IsMapFound p kept) (sym same) h.finds.map;
    lines = subst (All (λ k. AreLinesAt p kept k.branch k.lines.items)) (sym less) (All-filter (λ l. nat_lt l.branch d.seen) (λ k. AreLinesAt p kept k.branch k.lines.items) f.lines.items h.finds.lines);
  };
  map_kept = λ j a. let k = h.map_kept j a in let e = ap (λ m. times j (map_branches m)) same in omega arith;
  lines_kept = λ j a.
      let k = h.lines_kept j a in
      let e = ap (λ ls. times j (map (λ n. n.branch) ls)) less in
      let t = filtered_times j d.seen f.lines.items a in
      omega arith;
}
