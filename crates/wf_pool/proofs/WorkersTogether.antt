-- What all workers have settled, put together.
use Rattle.std.proofs.Common.{◌≡◌, ◌⊎◌, ℕ, ◌+◌, ◌<◌, ◌≤◌, false, List, [], ◌∷◌, ◌++◌, length, map, refl, sym, ap, ◌∙◌, subst, ⊎_elim, arith, length-append}
use Rattle.std.specs.Prelude.{All, Contains, Option}
use Rattle.std.proofs.lemmas.List.Elements.{All-nil, All-cons, All-head, All-tail, All-append, All-weaker, All-contains, All-map}
use mathlib.Core.Logic.{dite}
use native.Mathlib.Decide.{dec_lt}
use Rattle.wf_core.specs.Count.{times, once_below, times_in}
use Rattle.wf_core.proofs.Lemmas.{times-append, times_same, once_in, once_out, times-Contains, length-le_below, length-ge_below}
use Rattle.wf_model.specs.Problem.{Problem}
use Rattle.wf_board.specs.Desk.{BoardId, Desk, gathered, all_posted, all_refuted, all_cut, IsLeast}
use Rattle.wf_pool.specs.declared.worker.Worker.{Worker}
use Rattle.wf_pool.specs.declared.answer.AllFinds.{AllFinds}
use Rattle.wf_pool.specs.declared.answer.KeptLines.{KeptLines}
use Rattle.wf_pool.specs.declared.worker.BranchMap.{BranchMap}
use Rattle.wf_pool.specs.Branches.{has_map, NoneBelow}
use Rattle.wf_pool.specs.Work.{AreLinesFound, AreWorkers, IsMapFound, IsWorker, times_settled, map_branches, lines_branches}
use Rattle.wf_core.specs.declared.event.Account.{Account}
use Rattle.wf_pool.specs.Together.{Tells}
use Rattle.wf_pool.proofs.SettledOnce.{in_settled}

-- Lists

unmapped : {X Y : Type 0} (P : Y → Type 0) (f : X → Y) (xs : List X) → All P (map f xs) → All (λ x. P (f x)) xs
unmapped P f [] all = All-nil (λ x. P (f x))
unmapped P f (x ∷ xs) all = All-cons (λ y. P (f y)) x xs (All-head P (f x) (map f xs) all) (unmapped P f xs (All-tail P (f x) (map f xs) all))

all_times : (xs : List ℕ) → All (λ y. 0 < times y xs) xs
all_times [] = All-nil (λ y. 0 < times y [])
all_times (x ∷ xs) = All-cons (λ y. 0 < times y (x ∷ xs)) x xs
    (let t = times_same x x xs refl in omega arith)
    (All-weaker (λ y. 0 < times y xs) (λ y. 0 < times y (x ∷ xs)) (λ y h. omega arith) xs (all_times xs))

contained_times : (xs : List ℕ) (x : ℕ) → Contains xs x → 0 < times x xs
contained_times xs x there = All-contains (λ y. 0 < times y xs) xs x (all_times xs) there

times_in-le : {X : Type 0} (f g : X → List ℕ) (x : ℕ) (xs : List X) → All (λ w. times x (f w) ≤ times x (g w)) xs → times_in f x xs ≤ times_in g x xs
times_in-le f g x [] all = omega arith
times_in-le f g x (w ∷ ws) all =
    let here = All-head (λ v. times x (f v) ≤ times x (g v)) w ws all in
    let rest = times_in-le f g x ws (All-tail (λ v. times x (f v) ≤ times x (g v)) w ws all) in
    omega arith

times_in-map : {X Y : Type 0} (f : Y → List ℕ) (g : X → Y) (x : ℕ) (xs : List X) → times_in f x (map g xs) ≡ times_in (λ w. f (g w)) x xs
times_in-map f g x [] = refl
times_in-map f g x (w ∷ ws) = ap (λ n. times x (f (g w)) + n) (times_in-map f g x ws)

-- Seats

abbrev pub seats_of : List Worker → List Desk
seats_of ws = map (λ w. w.seat) ws

abbrev pub maps_of : List Worker → List (Option BranchMap)
maps_of ws = map (λ w. w.finds.map) ws

all_of : (f : Desk → List ℕ) (g : List Desk → List ℕ) → g [] ≡ [] → ((d : Desk) (ds : List Desk) → g (d ∷ ds) ≡ g ds ++ f d) → (P : ℕ → Type 0) (ds : List Desk) → All (λ d. All P (f d)) ds → All P (g ds)
all_of f g nil cons P [] all = subst (All P) (sym nil) (All-nil P)
all_of f g nil cons P (d ∷ ds) all = subst (All P) (sym (cons d ds))
    (All-append P (g ds) (f d) (all_of f g nil cons P ds (All-tail (λ e. All P (f e)) d ds all)) (All-head (λ e. All P (f e)) d ds all))

refuted_of : (P : ℕ → Type 0) (ds : List Desk) → All (λ d. All P d.refuted) ds → All P (all_refuted ds)
refuted_of P ds all = all_of (λ d. d.refuted) (λ l. (gathered l).refuted) refl (λ d l. refl) P ds all

cut_of : (P : ℕ → Type 0) (ds : List Desk) → All (λ d. All P d.cut) ds → All P (all_cut ds)
cut_of P ds all = all_of (λ d. d.cut) (λ l. (gathered l).cut) refl (λ d l. refl) P ds all

posted_counted : (x : ℕ) (ws : List Worker) → times x (all_posted (seats_of ws)) ≡ times_in (λ w. w.seat.posted) x ws
posted_counted x [] = refl
posted_counted x (w ∷ ws) = let e = posted_counted x ws in let a = times-append x (gathered (seats_of ws)).posted w.seat.posted in omega arith

refuted_counted : (x : ℕ) (ws : List Worker) → times x (all_refuted (seats_of ws)) ≡ times_in (λ w. w.seat.refuted) x ws
refuted_counted x [] = refl
refuted_counted x (w ∷ ws) = let e = refuted_counted x ws in let a = times-append x (gathered (seats_of ws)).refuted w.seat.refuted in omega arith

counted : (x : ℕ) (ws : List Worker) → times x (all_posted (seats_of ws)) + (times x (all_refuted (seats_of ws)) + times x (all_cut (seats_of ws))) ≡ times_settled x ws
counted x [] = omega arith
counted x (w ∷ ws) =
    let d = w.seat in
    let ds = seats_of ws in
    let e = counted x ws in
    let a = times-append x (gathered ds).posted d.posted in
    let b = times-append x (gathered ds).refuted d.refuted in
    let c = times-append x (gathered ds).cut d.cut in
    let s = in_settled x d.posted d.refuted d.cut in
    omega arith

-- The lists of a board's seats, once all branches are settled

abbrev WasSeen : ℕ → List ℕ → ℕ → Type 0
WasSeen b ps s = (s ≡ b) ⊎ Contains ps s

abbrev IsCutAbove : ℕ → List ℕ → ℕ → Type 0
IsCutAbove b ps i = (s : ℕ) × WasSeen b ps s × (s < i)

pub record Settled (p : Problem) (b least : ℕ) (ps rs cs : List ℕ) : Type 0 where
  pub least_is : IsLeast b ps least
  pub refuted : All (λ i. has_map p i ≡ false) rs
  pub cut : All (IsCutAbove b ps) cs
  pub each : (x : ℕ) → times x ps + (times x rs + times x cs) ≡ once_below x b

-- the workers of a board that is finished, and its least number
pub record Finished (p : Problem) (kept : KeptLines) (at : BoardId) (least : ℕ) (ws : List Worker) : Type 0 where
  pub honest : AreWorkers p kept at ws
  pub whole : (x : ℕ) → times_settled x ws ≡ once_below x at.branches
  pub least_is : IsLeast at.branches (all_posted (seats_of ws)) least
  pub seen : All (λ d. (d.seen ≡ at.branches) ⊎ Contains (all_posted (seats_of ws)) d.seen) (seats_of ws)

cuts_of : (p : Problem) (kept : KeptLines) (at : BoardId) (b : ℕ) (ps : List ℕ) (ws : List Worker) → AreWorkers p kept at ws → All (λ w. WasSeen b ps w.seat.seen) ws → All (λ d. All (IsCutAbove b ps) d.cut) (seats_of ws)
cuts_of p kept at b ps ws honest seen = All-map (λ d. All (IsCutAbove b ps) d.cut) (λ w. w.seat) ws
    (All-weaker (λ w. IsWorker p kept at w × WasSeen b ps w.seat.seen) (λ w. All (IsCutAbove b ps) w.seat.cut)
    (λ w h. All-weaker (λ i. w.seat.seen < i) (IsCutAbove b ps) (λ i a. (w.seat.seen, h.1, a)) w.seat.cut h.0.1.cut)
    ws (λ k d h. (honest k d h, seen k d h)))

pub settled_of : (p : Problem) (kept : KeptLines) (at : BoardId) (least : ℕ) (ws : List Worker) → Finished p kept at least ws
    → Settled p at.branches least (all_posted (seats_of ws)) (all_refuted (seats_of ws)) (all_cut (seats_of ws))
settled_of p kept at least ws f =
    let b = at.branches in
    let ps = all_posted (seats_of ws) in record {
      least_is = f.least_is;
      refuted = refuted_of (λ i. has_map p i ≡ false) (seats_of ws)
          (All-map (λ d. All (λ i. has_map p i ≡ false) d.refuted) (λ w. w.seat) ws
          (All-weaker (IsWorker p kept at) (λ w. All (λ i. has_map p i ≡ false) w.seat.refuted) (λ w h. h.1.refuted) ws f.honest));
      cut = cut_of (IsCutAbove b ps) (seats_of ws) (cuts_of p kept at b ps ws f.honest (unmapped (λ d. WasSeen b ps d.seen) (λ w. w.seat) ws f.seen));
      each = λ x. counted x ws ∙ f.whole x;
    }

-- a branch up to the least posted one isn't cut
not_cut : (p : Problem) (b l : ℕ) (ps rs cs : List ℕ) → Settled p b l ps rs cs → (x : ℕ) → x ≤ l → times x cs ≡ 0
not_cut p b l ps rs cs s x low = dite (dec_lt 0 (times x cs))
    (λ (there : 0 < times x cs).
    let c = All-contains (IsCutAbove b ps) cs x s.cut (times-Contains x cs there) in
    let k = s.least_is.bound in
    let above : c.0 < x = c.2 in
    ⊎_elim
    (λ (e : c.0 ≡ b). absurd (omega arith))
    (λ (posted : Contains ps c.0). let a = All-contains (λ y. l ≤ y) ps c.0 s.least_is.below posted in absurd (omega arith))
    c.1)
    (λ (none : ¬ (0 < times x cs)). omega arith)

-- a branch below the least posted one isn't posted
not_posted : (b l : ℕ) (ps : List ℕ) → IsLeast b ps l → (x : ℕ) → x < l → times x ps ≡ 0
not_posted b l ps least x low = dite (dec_lt 0 (times x ps))
    (λ (there : 0 < times x ps). let a = All-contains (λ y. l ≤ y) ps x least.below (times-Contains x ps there) in absurd (omega arith))
    (λ (none : ¬ (0 < times x ps)). omega arith)

pub none_below : (p : Problem) (b l : ℕ) (ps rs cs : List ℕ) → Settled p b l ps rs cs → NoneBelow p l
none_below p b l ps rs cs s j low =
    let k = s.least_is.bound in
    let e = s.each j in
    let o = once_in j b (omega arith) in
    let c = not_cut p b l ps rs cs s j (omega arith) in
    let n = not_posted b l ps s.least_is j low in
    All-contains (λ i. has_map p i ≡ false) rs j s.refuted (times-Contains j rs (omega arith))

pub all_counted : (p : Problem) (b l : ℕ) (ps rs cs : List ℕ) → Settled p b l ps rs cs → length ps + length rs + length cs ≡ b
all_counted p b l ps rs cs s =
    let all = ps ++ (rs ++ cs) in
    let is : (x : ℕ) → times x all ≡ once_below x b = λ x. let a = times-append x ps (rs ++ cs) in let c = times-append x rs cs in let e = s.each x in omega arith in
    let le = length-le_below b all (λ x. let e = is x in omega arith) in
    let ge = length-ge_below b all (λ x. let e = is x in omega arith) in
    let a = length-append ps (rs ++ cs) in
    let c = length-append rs cs in
    omega arith

pub enough : (p : Problem) (b l : ℕ) (ps rs cs : List ℕ) → Settled p b l ps rs cs → l < b → l + 1 ≤ length ps + length rs
enough p b l ps rs cs s lt =
    let n = length-ge_below (l + 1) (ps ++ rs) (λ x.
    let a = times-append x ps rs in
    dite (dec_lt x (l + 1))
    (λ (inside : x < l + 1). let o = once_in x (l + 1) inside in let u = once_in x b (omega arith) in let c = not_cut p b l ps rs cs s x (omega arith) in let e = s.each x in omega arith)
    (λ (out : ¬ (x < l + 1)). let o = once_out x (l + 1) (omega arith) in omega arith)) in
    let a = length-append ps rs in
    omega arith

pub none_cut : (p : Problem) (b l : ℕ) (ps rs cs : List ℕ) → Settled p b l ps rs cs → l ≡ b → length cs ≡ 0
none_cut p b l ps rs [] s e = refl
none_cut p b l ps rs (y ∷ ys) s e =
    let here = times_same y y ys refl in
    let is = s.each y in
    dite (dec_lt y b)
    (λ (inside : y < b). let c = not_cut p b l ps rs (y ∷ ys) s y (omega arith) in absurd (omega arith))
    (λ (out : ¬ (y < b)). let o = once_out y b (omega arith) in absurd (omega arith))

-- What is kept

seen_above : (b l : ℕ) (ps : List ℕ) (s : ℕ) → IsLeast b ps l → WasSeen b ps s → l ≤ s
seen_above b l ps s least seen = ⊎_elim
    (λ (e : s ≡ b). let k = least.bound in omega arith)
    (λ (there : Contains ps s). All-contains (λ y. l ≤ y) ps s least.below there)
    seen

all_above : (p : Problem) (kept : KeptLines) (at : BoardId) (least : ℕ) (ws : List Worker) → Finished p kept at least ws → All (λ w. IsWorker p kept at w × (least ≤ w.seat.seen)) ws
all_above p _ at least ws f =
    let ps = all_posted (seats_of ws) in
    let seen = unmapped (λ d. WasSeen at.branches ps d.seen) (λ w. w.seat) ws f.seen in
    let above = All-weaker (λ w. WasSeen at.branches ps w.seat.seen) (λ w. least ≤ w.seat.seen) (λ w h. seen_above at.branches least ps w.seat.seen f.least_is h) ws seen in
    λ k d h. (f.honest k d h, above k d h)

-- the map of the least posted branch is kept
pub map_there : (p : Problem) (kept : KeptLines) (at : BoardId) (least : ℕ) (ws : List Worker) → Finished p kept at least ws → least < at.branches → 0 < times_in map_branches least (maps_of ws)
map_there p kept at least ws f lt =
    let ps = all_posted (seats_of ws) in
    let posted : 0 < times least ps = ⊎_elim (λ (e : least ≡ at.branches). absurd (omega arith)) (λ (there : Contains ps least). contained_times ps least there) f.least_is.reached in
    let c = posted_counted least ws in
    let le = times_in-le (λ w. w.seat.posted) (λ w. map_branches w.finds.map) least ws
    (All-weaker (λ w. IsWorker p kept at w × (least ≤ w.seat.seen)) (λ w. times least w.seat.posted ≤ times least (map_branches w.finds.map)) (λ w h. h.0.1.map_kept least h.1) ws (all_above p kept at least ws f)) in
    let m = times_in-map map_branches (λ w. w.finds.map) least ws in
    omega arith

-- the lines of every branch below it are kept
pub lines_there : (p : Problem) (kept : KeptLines) (at : BoardId) (least : ℕ) (ws : List Worker) → Finished p kept at least ws → (i : ℕ) → i < least
    → 0 < times_in lines_branches i (map (λ w. w.finds.lines) ws)
lines_there p kept at least ws f i below =
    let ps = all_posted (seats_of ws) in
    let s = settled_of p kept at least ws f in
    let k = f.least_is.bound in
    let e = s.each i in
    let o = once_in i at.branches (omega arith) in
    let n = not_posted at.branches least ps f.least_is i below in
    let c = not_cut p at.branches least ps (all_refuted (seats_of ws)) (all_cut (seats_of ws)) s i (omega arith) in
    let r = refuted_counted i ws in
    let le = times_in-le (λ w. w.seat.refuted) (λ w. lines_branches w.finds.lines) i ws
    (All-weaker (λ w. IsWorker p kept at w × (least ≤ w.seat.seen)) (λ w. times i w.seat.refuted ≤ times i (lines_branches w.finds.lines)) (λ w h. h.0.1.lines_kept i (let a = h.1 in omega arith)) ws (all_above p kept at least ws f)) in
    let m = times_in-map lines_branches (λ w. w.finds.lines) i ws in
    omega arith

pub maps_honest : (p : Problem) (kept : KeptLines) (at : BoardId) (ws : List Worker) → AreWorkers p kept at ws → All (IsMapFound p kept) (maps_of ws)
maps_honest p kept at ws honest = All-map (IsMapFound p kept) (λ w. w.finds.map) ws (All-weaker (IsWorker p kept at) (λ w. IsMapFound p kept w.finds.map) (λ w h. h.1.finds.map) ws honest)

pub lines_honest : (p : Problem) (kept : KeptLines) (at : BoardId) (ws : List Worker) → AreWorkers p kept at ws → All (AreLinesFound p kept) (map (λ w. w.finds.lines) ws)
lines_honest p kept at ws honest = All-map (AreLinesFound p kept) (λ w. w.finds.lines) ws (All-weaker (IsWorker p kept at) (λ w. AreLinesFound p kept w.finds.lines) (λ w h. h.1.finds.lines) ws honest)

-- what the board's account of these seats says, with the finds of their workers
pub tells : (p : Problem) (kept : KeptLines) (at : BoardId) (a : Account) (ws : List Worker) (ds : List Desk) (all : AllFinds)
    → ds ≡ seats_of ws → all.maps.items ≡ maps_of ws → all.lines.items ≡ map (λ w. w.finds.lines) ws
    → AreWorkers p kept at ws → ((x : ℕ) → times_settled x ws ≡ once_below x at.branches)
    → a.branches ≡ at.branches → IsLeast at.branches (all_posted ds) a.least
    → a.searched ≡ length (all_posted ds) + length (all_refuted ds) → a.cut ≡ length (all_cut ds)
    → All (λ d. (d.seen ≡ at.branches) ⊎ Contains (all_posted ds) d.seen) ds
    → Tells p kept a all
tells p kept at a ws ds all seats maps lines honest whole branches least searched cut seen =
    let f : Finished p kept at a.least ws = record {
      honest = honest;
      whole = whole;
      least_is = subst (λ es. IsLeast at.branches (all_posted es) a.least) seats least;
      seen = subst (λ es. All (λ d. (d.seen ≡ at.branches) ⊎ Contains (all_posted es) d.seen) es) seats seen;
    } in
    let ps = all_posted (seats_of ws) in
    let rs = all_refuted (seats_of ws) in
    let cs = all_cut (seats_of ws) in
    let b = at.branches in
    let s = settled_of p kept at a.least ws f in
    let n : a.searched ≡ length ps + length rs = subst (λ es. a.searched ≡ length (all_posted es) + length (all_refuted es)) seats searched in
    let m : a.cut ≡ length cs = subst (λ es. a.cut ≡ length (all_cut es)) seats cut in record {
      least = (let k = least.bound in omega arith);
      none = none_below p b a.least ps rs cs s;
      all = (let k = all_counted p b a.least ps rs cs s in omega arith);
      enough = λ lt. (let k = enough p b a.least ps rs cs s (omega arith) in omega arith);
      none_cut = λ e. m ∙ none_cut p b a.least ps rs cs s (e ∙ branches);
      maps = subst (All (IsMapFound p kept)) (sym maps) (maps_honest p kept at ws honest);
      found = subst (All (AreLinesFound p kept)) (sym lines) (lines_honest p kept at ws honest);
      map = λ lt. subst (λ l. 0 < times_in map_branches a.least l) (sym maps) (map_there p kept at a.least ws f (omega arith));
      lines = λ i lt. subst (λ l. 0 < times_in lines_branches i l) (sym lines) (lines_there p kept at a.least ws f i lt);
    }
