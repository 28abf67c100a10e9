-- Outlines as gaps.
use Rattle.std.proofs.Common.{◌≡◌, ℕ, zero, suc, ◌-◌, ◌<◌, ◌≤◌, ◌&&◌, ◌||◌, ◌==◌, nat_lt, true, false, List, [], ◌∷◌, ◌++◌, map, flat_map, length, get_or, take, Bool, refl, sym, ap, ◌∙◌, subst, arith, Option, Some, None, IfSome, IfOk, Result, Ok, Err, ltb-true, Vec, ◌⊎◌, inl, inr}
use Rattle.std.specs.List.{AllByRecursion, list_any}
use Rattle.std.specs.Bool.{OnTrue}
use Rattle.std.proofs.lemmas.List.{append_assoc, append-nil, length-map, length-take-le, map-append}
use Rattle.std.proofs.lemmas.Grind.{flat_map-append}
use Rattle.std.proofs.lemmas.Bool.{or_right, lt-ltb, false_from_ne_true}
use Rattle.wf_model.specs.Lists.{has}
use Rattle.wf_model.specs.Problem.{Problem}
use Rattle.wf_model.specs.Box.{Box, decided, branches_at, first_empty, first_open}
use Rattle.wf_model.specs.Refutation as refutation
use Rattle.wf_model.specs.Closing.{closing, sweep}
use Rattle.wf_model.specs.Laws.{IsBoxOf}
use Rattle.wf_model.specs.Split.{is_open}
use Rattle.wf_model.specs.Outline.{Item, written, left_out, box_left, closed_to, opened_at, opened, boxes_left_out, opened_if, opened_levels, filled, filled_up_to}
use Rattle.wf_model.proofs.Lemmas.{boxes_append, each_append, closed_branch}
use Rattle.wf_base.specs.Lines.Lines.{line_of}
use Rattle.wf_base.specs.declared.lines.line.Line.{Line}
use Rattle.wf_base.specs.Set.Sets.{values_in}
use Rattle.wf_search.specs.declared.outline.Gap.{Gap}
use Rattle.wf_search.specs.Cover.{each_seen}
use Rattle.wf_box.specs.Boxes.{Grows, IsFor, Tracked, WasClosed, box_after}
use Rattle.wf_network.specs.Revising.{AreKnown}
use Rattle.wf_box.proofs.Lemmas.{on_true, after_grown, closed_undone, grown_trail, known_none, still_closed}
use Rattle.wf_search.specs.Outline.{IsClosedBox, IsJustClosed, as_written, gap_seen, gaps_filled, is_to_open}
use Rattle.wf_search.proofs.SearchLemmas.{branches_are_boxes}
use Rattle.wf_search.proofs.PendingLemmas.{last_state}

-- ---- the boxes

boxes_written : (ls : List refutation.Line) (items : List Item) → boxes_left_out (map written ls ++ items) ≡ boxes_left_out items
boxes_written [] items = refl
boxes_written (l ∷ ls) items = boxes_written ls items

no_boxes : (ls : List refutation.Line) → boxes_left_out (map written ls) ≡ []
no_boxes [] = refl
no_boxes (l ∷ ls) = no_boxes ls

boxes_gaps : (gaps : List Gap) → boxes_left_out (flat_map gap_seen gaps) ≡ map (λ (s : Gap). s.boxed.sets) gaps
boxes_gaps [] = refl
boxes_gaps (s ∷ gaps) =
    boxes_append (gap_seen s) (flat_map gap_seen gaps)
    ∙ ap (λ bs. bs ++ boxes_left_out (flat_map gap_seen gaps)) (boxes_written (map line_of s.before.items) (left_out s.boxed.sets ∷ []))
    ∙ ap (λ bs. s.boxed.sets ∷ bs) (boxes_gaps gaps)

pub boxes_seen : (gaps : List Gap) (after : List Line) → boxes_left_out (flat_map gap_seen gaps ++ as_written after) ≡ map (λ (s : Gap). s.boxed.sets) gaps
boxes_seen gaps after =
    boxes_append (flat_map gap_seen gaps) (as_written after)
    ∙ ap (λ bs. boxes_left_out (flat_map gap_seen gaps) ++ bs) (no_boxes (map line_of after))
    ∙ append-nil (boxes_left_out (flat_map gap_seen gaps))
    ∙ boxes_gaps gaps

pub number_seen : (gaps : List Gap) (after : List Line) → length (boxes_left_out (flat_map gap_seen gaps ++ as_written after)) ≡ length gaps
number_seen gaps after = ap length (boxes_seen gaps after) ∙ length-map gaps (λ (s : Gap). s.boxed.sets)

pub box_at : (gaps : List Gap) (i : ℕ) (s : Gap) → i < length gaps → s ≡ get_or gaps i s → s.boxed.sets ≡ get_or (map (λ (s : Gap). s.boxed.sets) gaps) i []
box_at [] i s low is = absurd (let none : ⊥ = omega (arith, low) in none)
box_at (x ∷ gaps) zero s low is = ap (λ (s : Gap). s.boxed.sets) is
box_at (x ∷ gaps) (suc i) s low is = box_at gaps i s (omega (arith, low)) is

any_gap : (gaps : List Gap) → list_any is_open (map (λ (s : Gap). s.boxed.sets) gaps) ≡ list_any (λ (s : Gap). is_open s.boxed.sets) gaps
any_gap [] = refl
any_gap (s ∷ gaps) = ap (λ b. is_open s.boxed.sets || b) (any_gap gaps)

pub to_open_seen : (gaps : List Gap) (after : List Line) → is_to_open (flat_map gap_seen gaps ++ as_written after) ≡ (nat_lt (length gaps) 64 && list_any (λ (s : Gap). is_open s.boxed.sets) gaps)
to_open_seen gaps after =
    ap (λ n. nat_lt n 64 && list_any is_open (boxes_left_out (flat_map gap_seen gaps ++ as_written after))) (number_seen gaps after)
    ∙ ap (λ bs. nat_lt (length gaps) 64 && list_any is_open bs) (boxes_seen gaps after)
    ∙ ap (λ b. nat_lt (length gaps) 64 && b) (any_gap gaps)

-- ---- adding to an outline

-- ---- filling

filled_after : (ls : List refutation.Line) (items : List Item) (lists : List (List refutation.Line)) → filled (map written ls ++ items) lists ≡ ls ++ filled items lists
filled_after [] items lists = refl
filled_after (l ∷ ls) items lists = ap (λ ms. l ∷ ms) (filled_after ls items lists)

up_to_after : (ls : List refutation.Line) (items : List Item) (lists : List (List refutation.Line)) → filled_up_to (map written ls ++ items) lists ≡ ls ++ filled_up_to items lists
up_to_after [] items lists = refl
up_to_after (l ∷ ls) items lists = ap (λ ms. l ∷ ms) (up_to_after ls items lists)

-- the first gap's lines come first, then its box
first_gap : (s : Gap) (gaps : List Gap) (items : List Item) → flat_map gap_seen (s ∷ gaps) ++ items ≡ as_written s.before.items ++ left_out s.boxed.sets ∷ (flat_map gap_seen gaps ++ items)
first_gap s gaps items = append_assoc (gap_seen s) (flat_map gap_seen gaps) items ∙ append_assoc (as_written s.before.items) (left_out s.boxed.sets ∷ []) (flat_map gap_seen gaps ++ items)

module _ {A : Type 0} where
  filled_seen : (gaps : List Gap) (lists : List (Vec Line A)) (after : List refutation.Line) → length lists ≡ length gaps
      → filled (flat_map gap_seen gaps ++ map written after) (each_seen lists) ≡ gaps_filled gaps lists ++ after
  filled_seen [] [] after same = ap (λ items. filled items []) (sym (append-nil (map written after))) ∙ filled_after after [] [] ∙ append-nil after
  filled_seen [] (list ∷ lists) after same = absurd (let none : ⊥ = omega (arith, same) in none)
  filled_seen (s ∷ gaps) [] after same = absurd (let none : ⊥ = omega (arith, same) in none)
  filled_seen (s ∷ gaps) (list ∷ lists) after same =
      let before = map line_of s.before.items in
      let here = map line_of list.items in
      ap (λ items. filled items (each_seen (list ∷ lists))) (first_gap s gaps (map written after))
      ∙ filled_after before (left_out s.boxed.sets ∷ (flat_map gap_seen gaps ++ map written after)) (each_seen (list ∷ lists))
      ∙ ap (λ ms. before ++ (here ++ ms)) (filled_seen gaps lists after (omega (arith, same)))
      ∙ ap (λ ms. before ++ ms) (sym (append_assoc here (gaps_filled gaps lists) after))
      ∙ sym (append_assoc before (here ++ gaps_filled gaps lists) after)

  up_to_seen : (gaps : List Gap) (lists : List (Vec Line A)) (after : List refutation.Line) → 0 < length lists → length lists ≤ length gaps
      → filled_up_to (flat_map gap_seen gaps ++ map written after) (each_seen lists) ≡ gaps_filled gaps lists
  up_to_seen gaps [] after some few = absurd (let none : ⊥ = omega (arith, some) in none)
  up_to_seen [] (list ∷ lists) after some few = absurd (let none : ⊥ = omega (arith, few) in none)
  up_to_seen (s ∷ gaps) (list ∷ []) after some few =
      ap (λ items. filled_up_to items (each_seen (list ∷ []))) (first_gap s gaps (map written after))
      ∙ up_to_after (map line_of s.before.items) (left_out s.boxed.sets ∷ (flat_map gap_seen gaps ++ map written after)) (each_seen (list ∷ []))
      ∙ ap (λ ms. map line_of s.before.items ++ ms) (sym (append-nil (map line_of list.items)))
  up_to_seen (s ∷ gaps) (list ∷ next ∷ lists) after some few =
      ap (λ items. filled_up_to items (each_seen (list ∷ next ∷ lists))) (first_gap s gaps (map written after))
      ∙ up_to_after (map line_of s.before.items) (left_out s.boxed.sets ∷ (flat_map gap_seen gaps ++ map written after)) (each_seen (list ∷ next ∷ lists))
      ∙ ap (λ ms. map line_of s.before.items ++ (map line_of list.items ++ ms)) (up_to_seen gaps (next ∷ lists) after (omega arith) (omega (arith, few)))

-- ---- opening

module _ (p : Problem) where
  open_written : (ls : List refutation.Line) (items : List Item) → flat_map (opened p) (map written ls ++ items) ≡ map written ls ++ flat_map (opened p) items
  open_written [] items = refl
  open_written (l ∷ ls) items = ap (λ is. written l ∷ is) (open_written ls items)

  pub open_gap : (s : Gap) (items : List Item) → flat_map (opened p) (gap_seen s ++ items) ≡ as_written s.before.items ++ (opened p (left_out s.boxed.sets) ++ flat_map (opened p) items)
  open_gap s items =
      ap (flat_map (opened p)) (append_assoc (as_written s.before.items) (left_out s.boxed.sets ∷ []) items)
      ∙ open_written (map line_of s.before.items) (left_out s.boxed.sets ∷ items)

  pub open_end : (after : List Line) → flat_map (opened p) (as_written after) ≡ as_written after
  open_end after =
      ap (flat_map (opened p)) (sym (append-nil (as_written after))) ∙ open_written (map line_of after) [] ∙ append-nil (as_written after)

  -- a further level, or none
  pub level_more : (n : ℕ) (items : List Item) → 0 < n → is_to_open items ≡ true → opened_levels n p items ≡ opened_levels (n - 1) p (flat_map (opened p) items)
  level_more zero items some is = absurd (let none : ⊥ = omega (arith, some) in none)
  level_more (suc n) items some is = let e : suc n - 1 ≡ n = omega arith in ap (λ b. opened_if b p items (opened_levels n p)) is ∙ ap (λ k. opened_levels k p (flat_map (opened p) items)) (sym e)

  pub level_last : (n : ℕ) (items : List Item) → is_to_open items ≡ false → opened_levels n p items ≡ items
  level_last zero items is = refl
  level_last (suc n) items is = ap (λ b. opened_if b p items (opened_levels n p)) is

  pub level_none : (n : ℕ) (items : List Item) → n ≡ 0 → opened_levels n p items ≡ items
  level_none zero items is = refl
  level_none (suc n) items is = absurd (let none : ⊥ = omega (arith, is) in none)

  -- ---- the boxes are the problem's

  closing_boxes : (box : Box) → IsBoxOf p box → (items : List Item) → AllByRecursion (IsClosedBox p) (boxes_left_out items) → AllByRecursion (IsClosedBox p) (boxes_left_out (closed_to (closing p box) ++ items))
  closing_boxes box is items all = subst (AllByRecursion (IsClosedBox p)) (sym (boxes_append (closed_to (closing p box)) items)) (each_append (IsClosedBox p) (boxes_left_out (closed_to (closing p box))) (boxes_left_out items) (pub_closing box is) all)
    where
      pub_closing : (box : Box) → IsBoxOf p box → AllByRecursion (IsClosedBox p) (boxes_left_out (closed_to (closing p box)))
      pub_closing box is = subst (AllByRecursion (IsClosedBox p)) (sym (boxes_written (closing p box).lines (box_left (closing p box).left))) (by_left (closing p box).left refl)
        where
          by_left : (o : Option Box) → (closing p box).left ≡ o → AllByRecursion (IsClosedBox p) (boxes_left_out (box_left o))
          by_left None left = tt
          by_left (Some b) left = let branch = closed_branch p box b is left in (record { is_box = branch.is_box; closed = branch.closed; filled = branch.filled }, tt)

  pub root_boxes : (box : Box) → IsBoxOf p box → (items : List Item) → items ≡ closed_to (closing p box) → AllByRecursion (IsClosedBox p) (boxes_left_out items)
  root_boxes box is items same = subst (λ (is : List Item). AllByRecursion (IsClosedBox p) (boxes_left_out is)) (append-nil (closed_to (closing p box)) ∙ sym same) (closing_boxes box is [] tt)

  each_closed : (boxes : List Box) → AllByRecursion (IsBoxOf p) boxes → AllByRecursion (IsClosedBox p) (boxes_left_out (flat_map (λ b. closed_to (closing p b)) boxes))
  each_closed [] all = tt
  each_closed (box ∷ boxes) all = closing_boxes box all.0 (flat_map (λ b. closed_to (closing p b)) boxes) (each_closed boxes all.1)

  pub level_boxes : (items : List Item) → AllByRecursion (IsClosedBox p) (boxes_left_out items) → AllByRecursion (IsClosedBox p) (boxes_left_out (flat_map (opened p) items))
  level_boxes [] all = tt
  level_boxes (written l ∷ items) all = level_boxes items all
  level_boxes (left_out box ∷ items) all =
      subst (AllByRecursion (IsClosedBox p)) (sym (boxes_append (opened p (left_out box)) (flat_map (opened p) items)))
      (each_append (IsClosedBox p) (boxes_left_out (opened p (left_out box))) (boxes_left_out (flat_map (opened p) items)) (by_open (first_open box)) (level_boxes items all.1))
    where
      by_open : (o : Option ℕ) → AllByRecursion (IsClosedBox p) (boxes_left_out (opened_at o p box))
      by_open None = (all.0, tt)
      by_open (Some v) = each_closed (branches_at box v) (branches_are_boxes p box v all.0.is_box)

  -- ---- the branches of a point, one after another

  abbrev pub branches_closed : Box → ℕ → List ℕ → List Item
  branches_closed box v values = flat_map (λ b. closed_to (closing p b)) (map (decided box v) values)

  pub one_branch : (old new whole : List Item) (box branch : Box) (v value : ℕ) (values more : List ℕ) → values ≡ value ∷ more → branch ≡ decided box v value → new ≡ old ++ closed_to (closing p branch)
      → old ++ branches_closed box v values ≡ whole → new ++ branches_closed box v more ≡ whole
  one_branch old new whole box branch v value values more split is grown same =
      ap (λ items. items ++ branches_closed box v more) (grown ∙ ap (λ b. old ++ closed_to (closing p b)) is)
      ∙ append_assoc old (closed_to (closing p (decided box v value))) (branches_closed box v more)
      ∙ ap (λ vs. old ++ branches_closed box v vs) (sym split)
      ∙ same

pub others_there : (set : List ℕ) (value : ℕ) (values more : List ℕ) → values ≡ value ∷ more → ((a : ℕ) → has values a ≡ true → has set a ≡ true) → (a : ℕ) → has more a ≡ true → has set a ≡ true
others_there set value values more split there a is = there a (subst (λ vs. has vs a ≡ true) (sym split) (or_right (value == a) (has more a) is))

-- ---- a box that is given the same state again and again

-- it has the state of the mark: these candidates after so many changes
pub record IsAtMark (p : Problem) (box : Box) (n : ℕ) (is_closed : Bool) (b : Tracked) : Type 0 where
  pub sets : b.sets ≡ box
  pub long : length b.trail ≡ n
  pub closed : OnTrue is_closed (WasClosed p b n)
  pub is : IsFor p b

-- what was closed then is known after further changes
pub closed_still : (p : Problem) (box : Box) (n : ℕ) (is_closed : Bool) (b mid new : Tracked) → IsAtMark p box n is_closed b → Grows b mid → Grows mid new → OnTrue is_closed (WasClosed p new n)
closed_still p box n is_closed b mid new at first more =
    on_true is_closed (WasClosed p b n) (WasClosed p new n) (λ was. still_closed p mid new n more (still_closed p b mid n first was)) at.closed

pub at_mark_again : (p : Problem) (box : Box) (n : ℕ) (is_closed : Bool) (b mid new back : Tracked) → IsAtMark p box n is_closed b → Grows b mid → Grows mid new
    → back.sets ≡ box_after n new → back.trail ≡ take n new.trail → IsFor p back → IsAtMark p box n is_closed back
at_mark_again p box n is_closed b mid new back at first more sets trail is =
    let low : n ≤ length b.trail = omega (arith, at.long) in
    let low_mid : n ≤ length mid.trail = omega (arith, low, grown_trail b mid first) in
    let low_new : n ≤ length new.trail = omega (arith, low_mid, grown_trail mid new more) in
    record {
      sets = sets ∙ after_grown mid new n more low_mid ∙ after_grown b mid n first low ∙ ap (λ k. box_after k b) (sym at.long) ∙ last_state b ∙ at.sets;
      long = ap length trail ∙ length-take-le n new.trail low_new;
      closed = on_true is_closed (WasClosed p new n) (WasClosed p back n) (closed_undone p new back n n (omega arith) low_new sets trail) (closed_still p box n is_closed b mid new at first more);
      is = is;
    }

-- ---- closed boxes

pub if_ok_both : {X E : Type 0} (r : Result X E) (P Q R : X → Type 0) → ((x : X) → P x → Q x → R x) → IfOk r P → IfOk r Q → IfOk r R
if_ok_both (Ok x) P Q R f some more = f x some more
if_ok_both (Err e) P Q R f some more = tt

-- a box that was closed just now is of each problem in which its candidates are closed
pub closed_for : (p : Problem) (b : Tracked) → IsJustClosed b → IsClosedBox p b.sets → IsFor p b
closed_for p b now closed =
    let last = last_state b in
    let was : WasClosed p b (length b.trail) = record {
      within = omega arith;
      filled = ap first_empty last ∙ closed.filled;
      closed = ap (λ box. (sweep p box).lines) last ∙ closed.closed;
    } in
    record {
      is_box = closed.is_box;
      closed = subst (λ o. IfSome o (WasClosed p b)) (sym now.closed) was;
      known = subst (AreKnown p.constraints) (sym now.fresh) (known_none p.constraints);
    }

pub gap_closed : (gaps : List Gap) (i : ℕ) (s : Gap) → AllByRecursion (λ (s : Gap). IsJustClosed s.boxed) gaps → i < length gaps → s ≡ get_or gaps i s → IsJustClosed s.boxed
gap_closed [] i s all low is = absurd (let none : ⊥ = omega (arith, low) in none)
gap_closed (x ∷ gaps) zero s all low is = subst (λ (t : Gap). IsJustClosed t.boxed) (sym is) all.0
gap_closed (x ∷ gaps) (suc i) s all low is = gap_closed gaps i s all.1 (omega (arith, low)) is

-- ---- the loops' steps

pub few_enough : (gaps : List Gap) (after : List Line) (items : List Item) (n : ℕ) → n ≡ length gaps → flat_map gap_seen gaps ++ as_written after ≡ items → n < 64 → list_any (λ (s : Gap). is_open s.boxed.sets) gaps ≡ is_to_open items
few_enough gaps after items n same seen few =
    sym (ap (λ b. b && list_any (λ (s : Gap). is_open s.boxed.sets) gaps) (lt-ltb (length gaps) 64 (omega (arith, same, few))))
    ∙ sym (to_open_seen gaps after) ∙ ap is_to_open seen

pub enough : (gaps : List Gap) (after : List Line) (items : List Item) (n : ℕ) → n ≡ length gaps → flat_map gap_seen gaps ++ as_written after ≡ items → 64 ≤ n → nat_lt n 64 ≡ is_to_open items
enough gaps after items n same seen many =
    let no : (m : ℕ) → 64 ≤ m → nat_lt m 64 ≡ false = λ m h. false_from_ne_true (nat_lt m 64) (λ yes'. let less = ltb-true m 64 yes' in let none : ⊥ = omega (arith, less, h) in none) in
    no n many
    ∙ sym (ap (λ b. b && list_any (λ (s : Gap). is_open s.boxed.sets) gaps) (no (length gaps) (omega (arith, same, many))))
    ∙ sym (to_open_seen gaps after) ∙ ap is_to_open seen

pub fill_step : {A : Type 0} (gaps more : List Gap) (lists others : List (Vec Line A)) (s : Gap) (list : Vec Line A) (old mid new : List Line) (whole : List refutation.Line)
    → gaps ≡ s ∷ more → lists ≡ list ∷ others → mid ≡ old ++ s.before.items → new ≡ mid ++ list.items
    → map line_of old ++ gaps_filled gaps lists ≡ whole → map line_of new ++ gaps_filled more others ≡ whole
fill_step gaps more lists others s list old mid new whole here there first then all =
    let rest = gaps_filled more others in
    ap (λ ls. ls ++ rest)
    (ap (map line_of) (then ∙ ap (λ ls. ls ++ list.items) first) ∙ map-append line_of (old ++ s.before.items) list.items ∙ ap (λ ls. ls ++ map line_of list.items) (map-append line_of old s.before.items))
    ∙ append_assoc (map line_of old ++ map line_of s.before.items) (map line_of list.items) rest
    ∙ append_assoc (map line_of old) (map line_of s.before.items) (map line_of list.items ++ rest)
    ∙ ap (λ ss. map line_of old ++ gaps_filled ss (list ∷ others)) (sym here)
    ∙ ap (λ ls. map line_of old ++ gaps_filled gaps ls) (sym there)
    ∙ all

-- no gap is left, or no list
pub fill_end : {A : Type 0} (gaps : List Gap) (lists : List (Vec Line A)) (lines whole : List refutation.Line) → (gaps ≡ []) ⊎ (lists ≡ []) → lines ++ gaps_filled gaps lists ≡ whole → lines ≡ whole
fill_end gaps [] lines whole ends all = sym (append-nil lines) ∙ all
fill_end [] (l ∷ lists) lines whole ends all = sym (append-nil lines) ∙ all
fill_end (s ∷ gaps) (l ∷ lists) lines whole ends all = elim ends [ inl e ↦ absurd (let none : ⊥ = cc in none) | inr e ↦ absurd (let none : ⊥ = cc in none) ]

pub opened_step : (p : Problem) (gaps more : List Gap) (s : Gap) (old mid new whole : List Item) (lines : List Line)
    → gaps ≡ s ∷ more → lines ≡ s.before.items → mid ≡ old ++ as_written lines → new ≡ mid ++ opened p (left_out s.boxed.sets)
    → old ++ flat_map (opened p) (flat_map gap_seen gaps) ≡ whole → new ++ flat_map (opened p) (flat_map gap_seen more) ≡ whole
opened_step p gaps more s old mid new whole lines here same first then all =
    let rest = flat_map gap_seen more in
    ap (λ items. items ++ flat_map (opened p) rest) (then ∙ ap (λ items. items ++ opened p (left_out s.boxed.sets)) (first ∙ ap (λ ls. old ++ as_written ls) same))
    ∙ append_assoc (old ++ as_written s.before.items) (opened p (left_out s.boxed.sets)) (flat_map (opened p) rest)
    ∙ append_assoc old (as_written s.before.items) (opened p (left_out s.boxed.sets) ++ flat_map (opened p) rest)
    ∙ ap (λ items. old ++ items) (sym (open_gap p s rest))
    ∙ ap (λ ss. old ++ flat_map (opened p) (flat_map gap_seen ss)) (sym here)
    ∙ all

pub opened_last : (p : Problem) (gaps none : List Gap) (after lines : List Line) (old new items : List Item) → none ≡ [] → lines ≡ after → new ≡ old ++ as_written lines
    → old ++ flat_map (opened p) (flat_map gap_seen none) ≡ flat_map (opened p) (flat_map gap_seen gaps) → flat_map gap_seen gaps ++ as_written after ≡ items → new ≡ flat_map (opened p) items
opened_last p gaps none after lines old new items past same grown all seen =
    grown ∙ ap (λ ls. old ++ as_written ls) same
    ∙ ap (λ is. is ++ as_written after)
    (sym (append-nil old) ∙ ap (λ ss. old ++ flat_map (opened p) (flat_map gap_seen ss)) (sym past) ∙ all)
    ∙ ap (λ is. flat_map (opened p) (flat_map gap_seen gaps) ++ is) (sym (open_end p after))
    ∙ sym (flat_map-append (opened p) (flat_map gap_seen gaps) (as_written after))
    ∙ ap (flat_map (opened p)) seen

pub boxes_of_gaps : (P : Box → Type 0) (gaps : List Gap) (after : List Line) (items : List Item) → flat_map gap_seen gaps ++ as_written after ≡ items → AllByRecursion P (boxes_left_out items) → AllByRecursion P (map (λ (s : Gap). s.boxed.sets) gaps)
boxes_of_gaps P gaps after items seen all = subst (AllByRecursion P) (ap boxes_left_out (sym seen) ∙ boxes_seen gaps after) all

pub no_more_branches : (p : Problem) (old whole : List Item) (box : Box) (v : ℕ) (left : List ℕ) → values_in left ≡ [] → old ++ branches_closed p box v (values_in left) ≡ whole → old ≡ whole
no_more_branches p old whole box v left none all = sym (append-nil old) ∙ ap (λ vs. old ++ branches_closed p box v vs) (sym none) ∙ all

pub fill_last : {A : Type 0} (gaps : List Gap) (after : List Line) (lists : List (Vec Line A)) (old new more : List Line) (items : List Item) → length lists ≡ length gaps
    → map line_of old ≡ gaps_filled gaps lists → new ≡ old ++ more → more ≡ after → flat_map gap_seen gaps ++ as_written after ≡ items → map line_of new ≡ filled items (each_seen lists)
fill_last gaps after lists old new more items long so_far grown same seen =
    ap (map line_of) (grown ∙ ap (λ ls. old ++ ls) same) ∙ map-append line_of old after
    ∙ ap (λ ls. ls ++ map line_of after) so_far
    ∙ sym (filled_seen gaps lists (map line_of after) long)
    ∙ ap (λ is. filled is (each_seen lists)) seen

pub fill_first : {A : Type 0} (gaps : List Gap) (after : List Line) (lists : List (Vec Line A)) (items : List Item) → 0 < length lists → length lists ≤ length gaps
    → flat_map gap_seen gaps ++ as_written after ≡ items → gaps_filled gaps lists ≡ filled_up_to items (each_seen lists)
fill_first gaps after lists items some few seen = sym (up_to_seen gaps lists (map line_of after) some few) ∙ ap (λ is. filled_up_to is (each_seen lists)) seen

pub none_of : {X : Type 0} (xs : List X) → length xs ≡ 0 → xs ≡ []
none_of [] none = refl
none_of (x ∷ xs) none = absurd (let bad : ⊥ = omega (arith, none) in bad)
