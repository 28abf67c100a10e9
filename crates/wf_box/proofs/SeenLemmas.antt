-- Changes of sets, as changes of candidates.
use Rattle.std.proofs.Common.{◌≡◌, ℕ, ◌≤◌, List, [], ◌∷◌, ◌++◌, map, length, length-append, drop, take, refl, sym, ap, ◌∙◌, subst, arith, Option, Some, None, IfSome, Bool, true, false}
use Rattle.std.specs.Bool.{OnTrue}
use Rattle.std.specs.List.{slice_set}
use Rattle.std.proofs.lemmas.List.{drop_all, drop-append-le, drop-map, length-map, length-take-le, map-append, map-set, take-append-drop}
use Rattle.wf_model.specs.Problem.{Constraint, Problem}
use Rattle.wf_model.specs.Box.{Box, first_empty}
use Rattle.wf_model.specs.Closing.{sweep}
use Rattle.wf_model.specs.Laws.{IsBoxOf}
use Rattle.wf_base.specs.Set.Sets.{box_of, values_in}
use Rattle.wf_box.specs.Changes.{IsGrown, taken_back, words_after}
use Rattle.wf_box.specs.Quiet as quiet
use Rattle.wf_network.specs.Revising.{AreKnown}
use Rattle.wf_box.specs.Boxes.{Grows, IsFor, Tracked, Was, WasClosed, box_after, change_seen, closed_if, put_back}
use Rattle.wf_network.specs.declared.memo.CacheEntry.{CacheEntry}
use Rattle.wf_box.specs.declared.tracked.Change.{Change}

-- the sets as the box that a clause sees
abbrev pub tracked_seen : List (List ℕ) → List Change → Option ℕ → List (Option CacheEntry) → Tracked
tracked_seen words trail closed known = record { sets = box_of words; trail = map change_seen trail; closed = closed; known = known }

pub back_seen : (cs : List Change) (words : List (List ℕ)) → box_of (taken_back cs words) ≡ put_back (map change_seen cs) (box_of words)
back_seen [] words = refl
back_seen (c ∷ cs) words = map-set values_in (taken_back cs words) c.point c.before ∙ ap (λ b. slice_set b c.point (values_in c.before)) (back_seen cs words)

pub after_seen : (n : ℕ) (trail : List Change) (words : List (List ℕ)) (closed : Option ℕ) (known : List (Option CacheEntry)) → box_of (words_after n trail words) ≡ box_after n (tracked_seen words trail closed known)
after_seen n trail words closed known = back_seen (drop n trail) words ∙ ap (λ ws. put_back ws (box_of words)) (sym (drop-map change_seen n trail))

-- no answer is kept
pub known_none : (ks : List Constraint) → AreKnown ks []
known_none ks = λ i d low. absurd (let none : ⊥ = omega (arith, low) in none)

-- ---- further changes

pub put_more : (xs ys : List Was) (box : Box) → put_back (xs ++ ys) box ≡ put_back xs (put_back ys box)
put_more [] ys box = refl
put_more (x ∷ xs) ys box = ap (λ b. slice_set b x.point x.set) (put_more xs ys box)

pub grown_seen : (words : List (List ℕ)) (trail : List Change) (fewer : List (List ℕ)) (more : List Change) (before after : Option ℕ) (known newer : List (Option CacheEntry)) → IsGrown words trail fewer more → Grows (tracked_seen words trail before known) (tracked_seen fewer more after newer)
grown_seen words trail fewer more before after known newer grown = record {
  added = map change_seen grown.added;
  trail_is = ap (map change_seen) grown.trail_is ∙ map-append change_seen trail grown.added;
  sets_are = sym (back_seen grown.added fewer) ∙ ap box_of grown.words_are;
}

-- what the box was after earlier changes
pub after_grown : (old new : Tracked) (n : ℕ) → Grows old new → n ≤ length old.trail → box_after n new ≡ box_after n old
after_grown old new n grown low =
    ap (λ t. put_back (drop n t) new.sets) grown.trail_is
    ∙ ap (λ ws. put_back ws new.sets) (drop-append-le n old.trail grown.added low)
    ∙ put_more (drop n old.trail) grown.added new.sets
    ∙ ap (put_back (drop n old.trail)) grown.sets_are

pub grown_trail : (old new : Tracked) → Grows old new → length old.trail ≤ length new.trail
grown_trail old new grown = omega (arith, ap length grown.trail_is, length-append old.trail grown.added)

pub still_closed : (p : Problem) (old new : Tracked) (n : ℕ) → Grows old new → WasClosed p old n → WasClosed p new n
still_closed p old new n grown was = record {
  within = omega (arith, was.within, grown_trail old new grown);
  filled = ap first_empty (after_grown old new n grown was.within) ∙ was.filled;
  closed = ap (λ b. (sweep p b).lines) (after_grown old new n grown was.within) ∙ was.closed;
}

pub if_some : {A : Type 0} (P Q : A → Type 0) (o : Option A) → ((x : A) → P x → Q x) → IfSome o P → IfSome o Q
if_some P Q None f h = tt
if_some P Q (Some x) f h = f x h

pub still_for : (p : Problem) (old new : Tracked) → Grows old new → new.closed ≡ old.closed → new.known ≡ old.known → IsBoxOf p new.sets → IsFor p old → IsFor p new
still_for p old new grown same memo is_box is = record {
  is_box = is_box;
  closed = subst (λ o. IfSome o (WasClosed p new)) (sym same) (if_some (WasClosed p old) (WasClosed p new) old.closed (λ n was. still_closed p old new n grown was) is.closed);
  known = subst (AreKnown p.constraints) (sym memo) is.known;
}

-- ---- closed boxes

pub was_seen : (p : Problem) (trail : List Change) (words : List (List ℕ)) (closed : Option ℕ) (known : List (Option CacheEntry)) (n : ℕ) → quiet.WasClosed p trail words n → WasClosed p (tracked_seen words trail closed known) n
was_seen p trail words closed known n was = record {
  within = omega (arith, was.within, length-map trail change_seen);
  filled = ap first_empty (sym (after_seen n trail words closed known)) ∙ was.filled;
  closed = ap (λ b. (sweep p b).lines) (sym (after_seen n trail words closed known)) ∙ was.closed;
}

pub seen_was : (p : Problem) (trail : List Change) (words : List (List ℕ)) (closed : Option ℕ) (known : List (Option CacheEntry)) (n : ℕ) → WasClosed p (tracked_seen words trail closed known) n → quiet.WasClosed p trail words n
seen_was p trail words closed known n was = record {
  within = omega (arith, was.within, length-map trail change_seen);
  filled = ap first_empty (after_seen n trail words closed known) ∙ was.filled;
  closed = ap (λ b. (sweep p b).lines) (after_seen n trail words closed known) ∙ was.closed;
}

pub if_was : (p : Problem) (trail : List Change) (words : List (List ℕ)) (closed : Option ℕ) (known : List (Option CacheEntry)) → IfSome closed (WasClosed p (tracked_seen words trail closed known)) → IfSome closed (quiet.WasClosed p trail words)
if_was p trail words closed known was = if_some (WasClosed p (tracked_seen words trail closed known)) (quiet.WasClosed p trail words) closed (λ n w. seen_was p trail words closed known n w) was

-- ---- taking back

-- what the box was after fewer changes
pub after_undone : (old new : Tracked) (m n : ℕ) → m ≤ n → n ≤ length old.trail → new.sets ≡ box_after n old → new.trail ≡ take n old.trail → box_after m new ≡ box_after m old
after_undone old new m n low inside sets trail =
    ap (λ t. put_back (drop m t) new.sets) trail
    ∙ ap (put_back (drop m (take n old.trail))) sets
    ∙ sym (put_more (drop m (take n old.trail)) (drop n old.trail) old.sets)
    ∙ ap (λ ws. put_back ws old.sets) (sym (drop-append-le m (take n old.trail) (drop n old.trail) (omega (arith, low, length-take-le n old.trail inside))) ∙ ap (drop m) (take-append-drop n old.trail))

pub closed_undone : (p : Problem) (old new : Tracked) (m n : ℕ) → m ≤ n → n ≤ length old.trail → new.sets ≡ box_after n old → new.trail ≡ take n old.trail → WasClosed p old m → WasClosed p new m
closed_undone p old new m n low inside sets trail was = record {
  within = omega (arith, low, ap length trail, length-take-le n old.trail inside);
  filled = ap first_empty (after_undone old new m n low inside sets trail) ∙ was.filled;
  closed = ap (λ b. (sweep p b).lines) (after_undone old new m n low inside sets trail) ∙ was.closed;
}

pub undone_for : (p : Problem) (old new : Tracked) (n : ℕ) (is_closed : Bool) → n ≤ length old.trail → new.sets ≡ box_after n old → new.trail ≡ take n old.trail → new.closed ≡ closed_if is_closed n → IsBoxOf p new.sets → AreKnown p.constraints new.known → OnTrue is_closed (WasClosed p old n) → IsFor p new
undone_for p old new n is_closed inside sets trail closed is_box known was = record {
  is_box = is_box;
  closed = subst (λ o. IfSome o (WasClosed p new)) (sym closed) (by_test is_closed was);
  known = known;
}
  where
    by_test : (b : Bool) → OnTrue b (WasClosed p old n) → IfSome (closed_if b n) (WasClosed p new)
    by_test true w = closed_undone p old new n n (omega arith) inside sets trail w
    by_test false w = tt

-- ---- a copy

pub if_closed : (is_closed : Bool) (old : Tracked) → OnTrue is_closed (old.closed ≡ Some (length old.trail)) → IfSome (closed_if is_closed 0) (λ n. (n ≡ 0) × (old.closed ≡ Some (length old.trail)))
if_closed true old was = (refl, was)
if_closed false old was = tt

-- a box without a change to take back that is another one closed after all its changes
pub copied_for : (p : Problem) (old new : Tracked) → new.sets ≡ old.sets → new.trail ≡ [] → new.known ≡ [] → IsBoxOf p new.sets → IfSome new.closed (λ n. (n ≡ 0) × (old.closed ≡ Some (length old.trail))) → IsFor p old → IsFor p new
copied_for p old new sets trail memo is_box closed is = record {
  is_box = is_box;
  closed = if_some (λ n. (n ≡ 0) × (old.closed ≡ Some (length old.trail))) (WasClosed p new) new.closed (λ n h. subst (WasClosed p new) (sym h.0) (at_start (subst (λ o. IfSome o (WasClosed p old)) h.1 is.closed))) closed;
  known = subst (AreKnown p.constraints) (sym memo) (known_none p.constraints);
}
  where
    same : box_after 0 new ≡ box_after (length old.trail) old
    same =
        ap (λ t. put_back t new.sets) trail ∙ sets ∙ sym (ap (λ t. put_back t old.sets) (drop_all (length old.trail) old.trail (omega arith)))

    at_start : WasClosed p old (length old.trail) → WasClosed p new 0
    at_start was = record {
      within = omega arith;
      filled = ap first_empty same ∙ was.filled;
      closed = ap (λ b. (sweep p b).lines) same ∙ was.closed;
    }
