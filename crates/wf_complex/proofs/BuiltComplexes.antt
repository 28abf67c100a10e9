-- What is built keeps what each protocol complex keeps, and is the one of the task.
use Rattle.std.proofs.Common.{◌≡◌, ◌<◌, ◌≤◌, ℕ, Bool, List, [], ◌∷◌, map, flat_map, length, slice_index, All, sym, refl, ap, ◌∙◌, subst, arith}
use Rattle.std.specs.List.{AllByRecursion, AllPairs}
use Rattle.std.proofs.lemmas.Bool.{and_parts, false≢true}
use Rattle.std.proofs.lemmas.List.{length-map}
use Rattle.std.proofs.lemmas.List.Elements.{recursion_from_All}
use Rattle.wf_model.specs.Lists.{distinct}
use Rattle.wf_model.specs.Simplex.{Simplex, is_nonempty, is_ascending, processes_of}
use Rattle.wf_model.specs.View.{View, same_view}
use Rattle.wf_model.specs.Task.{Task, IsTask, inputs, first_block, IsSimplexWithin}
use Rattle.wf_simplex.proofs.Lemmas.{length-within}
use Rattle.wf_complex.specs.declared.layout.ExecutionSlot.{ExecutionSlot}
use Rattle.wf_complex.specs.Rounds.{views_at, leaves_of, cost_of_each}
use Rattle.wf_complex.specs.Layout.{execution_total, place_total, laid_out}
use Rattle.wf_complex.specs.Places.{IsOn, LieFrom, firsts_at}
use Rattle.wf_complex.specs.Classes.{class_by, ArePoints}
use Rattle.wf_complex.specs.Numbering.{picked}
use Rattle.wf_complex.specs.Protocol.{IsProtocol}
use Rattle.wf_complex.specs.ProtocolSeen.{points_seen, scopes_seen}
use Rattle.wf_complex.proofs.Bounds.{IsSized, cost_bound, length-last_views}
use Rattle.wf_complex.proofs.LayoutLemmas.{place_few}
use Rattle.wf_complex.proofs.RoundLemmas.{length-views}
use Rattle.wf_complex.proofs.Cuts.{length-laid_out, laid_simplices}
use Rattle.wf_complex.proofs.DifferentViews.{all_picked, few_firsts, firsts_ascend, firsts_low}
use Rattle.wf_complex.proofs.FirstPlaces.{picked_twice}
use Rattle.wf_complex.proofs.ExecutionsInOrder.{all_lie, all_on}
use Rattle.wf_complex.proofs.PackedLemmas.{IsSpanWithin, spans_within}
use Rattle.wf_complex.proofs.BuiltLemmas.{view_count_is, points_are, firsts_are, scopes_are}
use Rattle.wf_model.proofs.Lemmas.{weaker}

-- ---- sizes

sized : (s : Simplex) → IsSimplexWithin 4 255 s → IsSized s
sized [] h = absurd (false≢true (and_parts (is_nonempty {X = ℕ × ℕ} []) (is_ascending (processes_of [])) h.is_simplex).0)
sized (v ∷ s) h = (omega arith, length-within 4 255 (v ∷ s) h)

pub all_sized : (ss : List Simplex) → All (IsSimplexWithin 4 255) ss → AllByRecursion IsSized ss
all_sized ss h = weaker (IsSimplexWithin 4 255) IsSized sized ss (recursion_from_All (IsSimplexWithin 4 255) ss h)

pub all_small : (ss : List Simplex) → AllByRecursion IsSized ss → AllByRecursion (λ s. length s ≤ 4) ss
all_small ss h = weaker IsSized (λ s. length s ≤ 4) (λ s k. k.1) ss h

pub few_views : (m r : ℕ) (ss : List Simplex) → 1 ≤ m → m ≤ 4 → r ≤ 8 → execution_total m r ss ≤ 500000 → length ss ≤ 4096 → AllByRecursion IsSized ss → cost_of_each m r ss ≤ 16016384
few_views m r ss one most rounds few inputs h = omega (arith, cost_bound m r ss one most rounds h, few, inputs)

-- ---- what is kept

-- the executions of these inputs, whose places have these numbers, and the places at which each
-- number stands first
pub record AreLaid (inputs : List Simplex) (spans : List ExecutionSlot) (firsts numbers : List ℕ) : Type 0 where
  pub lying : LieFrom 0 (length numbers) spans
  pub on : All (IsOn inputs) spans
  pub within : All (IsSpanWithin (length numbers)) spans
  pub few : length spans ≤ 500000
  pub placed : All (λ j. j < length numbers) firsts
  pub ascending : AllPairs (λ i j. i < j) firsts

module _ (m r : ℕ) (ss : List Simplex) (few : execution_total m r ss ≤ 500000) (h : AllByRecursion IsSized ss) (table : List View) (lasts : List ℕ) (made : views_at table lasts ≡ flat_map (leaves_of m r) ss) where
  pub length-lasts : length lasts ≡ place_total m r ss
  length-lasts = sym (length-views table lasts) ∙ ap length made ∙ length-last_views m r ss

  pub few_lasts : length lasts ≤ 2000000
  few_lasts = omega (arith, length-lasts, place_few m r ss (all_small ss h), few)

  few_laid : length (laid_out m r 0 0 ss) ≤ 500000
  few_laid = omega (arith, length-laid_out m r 0 0 ss, few)

  module _ (f : View → View) (grown : List View) (classes firsts numbers : List ℕ) (points : ArePoints grown (map f (views_at table lasts)) classes firsts numbers) where
    length-ids : length points.ids ≡ length lasts
    length-ids = sym (length-views grown points.ids) ∙ ap length points.named ∙ length-map (views_at table lasts) f ∙ length-views table lasts

    pub length-numbers : length numbers ≡ length lasts
    length-numbers = sym (length-map numbers (λ p. slice_index classes p)) ∙ ap length points.numbered.found ∙ length-ids

    pub length-classes : length classes ≡ length firsts
    length-classes = ap length points.numbered.different_are ∙ length-map firsts (λ j. slice_index points.ids j)

    -- what each protocol complex keeps
    numbers_lie : LieFrom 0 (length numbers) (laid_out m r 0 0 ss)
    numbers_lie = all_lie m r (length numbers) ss (length-numbers ∙ length-lasts)

    pub few_points : length classes ≤ 2000000
    few_points = omega (arith, length-classes, few_firsts points.ids firsts points.numbered.firsts_are, length-ids, few_lasts)

    pub classes_viewed : All (λ id. id < length grown) classes
    classes_viewed =
        subst (All (λ id. id < length grown)) (sym points.numbered.different_are)
        (all_picked (λ id. id < length grown) points.ids firsts points.within (firsts_low points.ids firsts points.numbered.firsts_are))

    firsts_placed : All (λ j. j < length numbers) firsts
    firsts_placed = subst (λ n. All (λ j. j < n) firsts) (length-ids ∙ sym length-numbers) (firsts_low points.ids firsts points.numbered.firsts_are)

    pub numbers_long : length numbers ≡ place_total m r ss
    numbers_long = length-numbers ∙ length-lasts

    pub are_laid : (spans : List ExecutionSlot) → spans ≡ laid_out m r 0 0 ss → AreLaid ss spans firsts numbers
    are_laid spans laid =
        let lying : LieFrom 0 (length numbers) spans = subst (LieFrom 0 (length numbers)) (sym laid) numbers_lie in
        let on : All (IsOn ss) spans = subst (All (IsOn ss)) (sym laid) (all_on m r ss) in
        record {
          lying = lying;
          on = on;
          within = spans_within ss (length numbers) spans lying on h;
          few = omega (arith, ap length laid, few_laid);
          placed = firsts_placed;
          ascending = firsts_ascend points.ids firsts points.numbered.firsts_are;
        }

-- ---- what is built

module _ (t : Task) (task : IsTask t) (r : ℕ) (ss : List Simplex) (given : inputs t ≡ ss) (symmetric : Bool) (named : t.symmetric ≡ symmetric) (m : ℕ) (least : first_block t ≡ m)
    (table : List View) (lasts : List ℕ) (made : views_at table lasts ≡ flat_map (leaves_of m r) ss)
    (es : List ExecutionSlot) (laid : es ≡ laid_out m r 0 0 ss) (view_count : ℕ) (counted : view_count ≡ length (distinct same_view (views_at table lasts)))
    (grown : List View) (classes firsts numbers : List ℕ) (points : ArePoints grown (map (class_by symmetric) (views_at table lasts)) classes firsts numbers) where
  the_lasts : views_at table lasts ≡ flat_map (leaves_of (first_block t) r) (inputs t)
  the_lasts = made ∙ sym (λ i. flat_map (leaves_of (least i) r) (given i))

  the_classes : views_at grown points.ids ≡ map (class_by t.symmetric) (views_at table lasts)
  the_classes = points.named ∙ ap (λ b. map (class_by b) (views_at table lasts)) (sym named)

  the_ids : map (λ p. slice_index points.ids (slice_index firsts p)) numbers ≡ points.ids
  the_ids = sym (picked_twice points.ids firsts numbers points.numbered.low) ∙ ap (λ ds. picked ds numbers) (sym points.numbered.different_are) ∙ points.numbered.found

  the_executions : es ≡ laid_out (first_block t) r 0 0 (inputs t)
  the_executions = laid ∙ sym (λ i. laid_out (least i) r 0 0 (given i))

  pub is_protocol : IsProtocol t r (record {
    rounds = r;
    table = grown;
    points = points_seen grown classes;
    view_count = view_count;
    firsts = firsts_at ss es firsts;
    simplices = map (λ (e : ExecutionSlot). e.simplex) es;
    scopes = scopes_seen ss numbers es;
  })
  is_protocol = record {
    task = task;
    rounds_are = refl;
    points_are = ap (points_seen grown) points.numbered.different_are ∙ points_are t r table lasts the_lasts grown points.once points.ids points.within the_classes firsts points.numbered.firsts_are;
    views_are = counted ∙ view_count_is t r table lasts the_lasts;
    firsts_are = (λ i. firsts_at (sym given i) (the_executions i) firsts) ∙ firsts_are t r table lasts the_lasts grown points.once points.ids points.within the_classes firsts points.numbered.firsts_are;
    simplices_are = ap (map (λ (e : ExecutionSlot). e.simplex)) the_executions ∙ laid_simplices t r;
    scopes_are =
        (λ i. scopes_seen (sym given i) numbers (the_executions i))
        ∙ scopes_are t r table lasts the_lasts grown points.once points.ids points.within the_classes firsts points.numbered.firsts_are numbers points.numbered.low the_ids;
  }
