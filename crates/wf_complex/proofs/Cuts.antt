-- The executions that are laid out cut the list of places into the executions' parts.
use Rattle.std.proofs.Common.{◌≡◌, ℕ, zero, suc, ◌+◌, ◌*◌, List, [], ◌∷◌, ◌++◌, map, flat_map, fold, take, drop, length, sym, refl, ap, ◌∙◌, subst, arith, append_assoc, length-append}
use Rattle.std.specs.List.{AllByRecursion, enumerate_from}
use Rattle.std.proofs.lemmas.List.{length-map, map-append, take-map, drop-map}
use Rattle.std.proofs.lemmas.List.Folds.{flat_map-map}
use Rattle.std.proofs.Math.Seq.{take-append_seam, drop-append_seam}
use Rattle.wf_model.specs.Lists.{lists_of}
use Rattle.wf_model.specs.Simplex.{Simplex}
use Rattle.wf_model.specs.Word.{Word, words}
use Rattle.wf_model.specs.View.{View, base_views, round}
use Rattle.wf_model.specs.Task.{Task, Rule, inputs, first_block}
use Rattle.wf_model.specs.Execution.{executions_on, executions, last_views}
use Rattle.wf_complex.specs.declared.layout.ExecutionSlot.{ExecutionSlot}
use Rattle.wf_complex.specs.Layout.{turns, execution_total, laid_on, laid_out}
use Rattle.wf_complex.specs.Places.{part_of}
use Rattle.wf_complex.specs.Protocol.{simplices_of}
use Rattle.wf_complex.proofs.Bounds.{suc_times}
use Rattle.wf_complex.proofs.RoundLemmas.{length-round}
use Rattle.wf_complex.proofs.InputLemmas.{length-base_views}
use Rattle.wf_complex.proofs.Executions.{length-lists_of}
use Rattle.wf_model.proofs.Lemmas.{weaker, each_map, words_long, each_of_lists}

-- ---- cutting

-- the executions lie one after another from place p on, and have these parts
abbrev pub AreCut : {X : Type 0} → ℕ → List ExecutionSlot → List (List X) → Type 0
AreCut p [] [] = Unit {0}
AreCut p [] (q ∷ qs) = ⊥
AreCut p (e ∷ es) [] = ⊥
AreCut p (e ∷ es) (q ∷ qs) = (e.place ≡ p) × ((e.size ≡ length q) × AreCut (p + length q) es qs)

abbrev pub joined : {X : Type 0} → List (List X) → List X
joined qs = flat_map (λ q. q) qs

module _ {X : Type 0} where
  first_part : (front q rest : List X) (e : ExecutionSlot) → e.place ≡ length front → e.size ≡ length q → part_of (front ++ (q ++ rest)) e ≡ q
  first_part front q rest e place size =
      (λ i. take (size i) (drop (place i) (front ++ (q ++ rest))))
      ∙ ap (take (length q)) (drop-append_seam front (q ++ rest))
      ∙ take-append_seam q rest

  cut_after : (front : List X) (es : List ExecutionSlot) (qs : List (List X)) → AreCut (length front) es qs → map (part_of (front ++ joined qs)) es ≡ qs
  cut_after front [] [] h = refl
  cut_after front [] (q ∷ qs) h = absurd h
  cut_after front (e ∷ es) [] h = absurd h
  cut_after front (e ∷ es) (q ∷ qs) h =
      let later : AreCut (length (front ++ q)) es qs = subst (λ n. AreCut n es qs) (sym (length-append front q)) h.1.1 in
      let rest : map (part_of (front ++ (q ++ joined qs))) es ≡ qs = ap (λ xs. map (part_of xs) es) (sym (append_assoc front q (joined qs))) ∙ cut_after (front ++ q) es qs later in
      λ i. first_part front q (joined qs) e h.0 h.1.0 i ∷ rest i

  -- the parts of what they have together
  pub parts_cut : (es : List ExecutionSlot) (qs : List (List X)) → AreCut 0 es qs → map (part_of (joined qs)) es ≡ qs
  parts_cut es qs h = cut_after [] es qs h

pub part_of-map : {X Y : Type 0} (f : X → Y) (xs : List X) (e : ExecutionSlot) → part_of (map f xs) e ≡ map f (part_of xs e)
part_of-map f xs e = ap (take e.size) (drop-map f e.place xs) ∙ take-map f e.size (drop e.place xs)

pub parts-map : {X Y : Type 0} (f : X → Y) (xs : List X) (es : List ExecutionSlot) → map (part_of (map f xs)) es ≡ map (λ e. map f (part_of xs e)) es
parts-map f xs [] = refl
parts-map f xs (e ∷ es) = λ i. part_of-map f xs e i ∷ parts-map f xs es i

-- ---- what is laid out

laid_then : {X : Type 0} (k n c p : ℕ) (ps : List (List X)) → length ps ≡ c → AllByRecursion (λ q. length q ≡ n) ps → (es : List ExecutionSlot) (qs : List (List X)) → AreCut (p + c * n) es qs → AreCut p (laid_on k n p c ++ es) (ps ++ qs)
laid_then k n zero p [] long each es qs h = let e : p + 0 * n ≡ p = omega arith in subst (λ m. AreCut m es qs) e h
laid_then k n zero p (q ∷ ps) long each es qs h = absurd (let none : ⊥ = omega (arith, long) in none)
laid_then k n (suc c) p [] long each es qs h = absurd (let none : ⊥ = omega (arith, long) in none)
laid_then k n (suc c) p (q ∷ ps) long each es qs h =
    let e : p + suc c * n ≡ (p + n) + c * n = omega (arith, suc_times c n) in (
      refl,
      (
        sym each.0,
        subst (λ m. AreCut m (laid_on k n (p + n) c ++ es) (ps ++ qs)) (ap (λ m. p + m) (sym each.0)) (laid_then k n c (p + n) ps (omega (arith, long)) each.1 es qs (subst (λ m. AreCut m es qs) e h)),
      ),
    )

length-folded : (n : ℕ) (ws : List Word) (vs : List View) → AllByRecursion (λ w. length w ≡ n) ws → length vs ≡ n → length (fold round vs ws) ≡ n
length-folded n [] vs h e = e
length-folded n (w ∷ ws) vs h e = length-folded n ws (round vs w) h.1 (length-round vs w (e ∙ sym h.0) ∙ e)

-- the last views of the executions on a rule are as many as its input has processes
parts_long : (m r : ℕ) (rule : Rule) → AllByRecursion (λ q. length q ≡ length rule.input) (map last_views (executions_on m r rule))
parts_long m r rule =
    let n = length rule.input in
    each_map (λ q. length q ≡ length rule.input) last_views (executions_on m r rule)
    (each_map (λ e. length (last_views e) ≡ length rule.input) (λ ws. record { rule = rule; words = ws }) (lists_of (words m n) r)
    (weaker (AllByRecursion (λ (w : Word). length w ≡ length rule.input)) (λ ws. length (fold round (base_views rule.input) ws) ≡ length rule.input) (λ ws k. length-folded (length rule.input) ws (base_views rule.input) k (length-base_views rule.input)) (lists_of (words m n) r)
    (each_of_lists (λ (w : Word). length w ≡ length rule.input) (words m n) r (words_long m n))))

parts_count : (m r : ℕ) (rule : Rule) → length (map last_views (executions_on m r rule)) ≡ turns m (length rule.input) r
parts_count m r rule =
    length-map (executions_on m r rule) last_views
    ∙ length-map (lists_of (words m (length rule.input)) r) (λ ws. record { rule = rule; words = ws })
    ∙ length-lists_of m (length rule.input) r

laid_out_cut : (m r k p : ℕ) (rules : List Rule) → AreCut p (laid_out m r k p (map (λ rule. rule.input) rules)) (map last_views (flat_map (executions_on m r) rules))
laid_out_cut m r k p [] = tt
laid_out_cut m r k p (rule ∷ rules) =
    let n = length rule.input in
    subst (AreCut p (laid_out m r k p (map (λ rule. rule.input) (rule ∷ rules)))) (sym (map-append last_views (executions_on m r rule) (flat_map (executions_on m r) rules)))
    (laid_then k n (turns m n r) p (map last_views (executions_on m r rule)) (parts_count m r rule) (parts_long m r rule) (laid_out m r (k + 1) (p + turns m n r * n) (map (λ rule. rule.input) rules)) (map last_views (flat_map (executions_on m r) rules))
    (laid_out_cut m r (k + 1) (p + turns m n r * n) rules))

-- ---- how many they are

length-laid_on : (k n c p : ℕ) → length (laid_on k n p c) ≡ c
length-laid_on k n zero p = refl
length-laid_on k n (suc c) p = ap suc (length-laid_on k n c (p + n))

pub length-laid_out : (m r k p : ℕ) (ss : List Simplex) → length (laid_out m r k p ss) ≡ execution_total m r ss
length-laid_out m r k p [] = refl
length-laid_out m r k p (s ∷ ss) =
    length-append (laid_on k (length s) p (turns m (length s) r)) (laid_out m r (k + 1) (p + turns m (length s) r * length s) ss)
    ∙ (λ i. length-laid_on k (length s) (turns m (length s) r) p i + length-laid_out m r (k + 1) (p + turns m (length s) r * length s) ss i)

-- ---- whose executions they are

laid_on_simplices : {X : Type 0} (k n c p : ℕ) (xs : List X) → length xs ≡ c → map (λ (e : ExecutionSlot). e.simplex) (laid_on k n p c) ≡ map (λ x. k) xs
laid_on_simplices k n zero p [] h = refl
laid_on_simplices k n zero p (x ∷ xs) h = absurd (let none : ⊥ = omega (arith, h) in none)
laid_on_simplices k n (suc c) p [] h = absurd (let none : ⊥ = omega (arith, h) in none)
laid_on_simplices k n (suc c) p (x ∷ xs) h = ap (λ ks. k ∷ ks) (laid_on_simplices k n c (p + n) xs (omega (arith, h)))

on_rules : (m r k p : ℕ) (rules : List Rule) →
    map (λ (e : ExecutionSlot). e.simplex) (laid_out m r k p (map (λ rule. rule.input) rules)) ≡ flat_map (λ (at : ℕ × Rule). map (λ e. at.0) (executions_on m r at.1)) (enumerate_from k rules)
on_rules m r k p [] = refl
on_rules m r k p (rule ∷ rules) =
    let n = length rule.input in
    let count : length (executions_on m r rule) ≡ turns m (length rule.input) r = sym (length-map (executions_on m r rule) last_views) ∙ parts_count m r rule in
    map-append (λ (e : ExecutionSlot). e.simplex) (laid_on k n p (turns m n r)) (laid_out m r (k + 1) (p + turns m n r * n) (map (λ rule. rule.input) rules))
    ∙ (λ i. laid_on_simplices k n (turns m n r) p (executions_on m r rule) count i ++ on_rules m r (k + 1) (p + turns m n r * n) rules i)

module _ (t : Task) (r : ℕ) where
  pub laid_simplices : map (λ (e : ExecutionSlot). e.simplex) (laid_out (first_block t) r 0 0 (inputs t)) ≡ simplices_of t r
  laid_simplices = on_rules (first_block t) r 0 0 t.delta

  -- the executions cut the list of all last views into theirs
  pub last_views_cut : map (part_of (flat_map last_views (executions t r))) (laid_out (first_block t) r 0 0 (inputs t)) ≡ map last_views (executions t r)
  last_views_cut =
      let laid = laid_out (first_block t) r 0 0 (inputs t) in
      ap (λ vs. map (part_of vs) laid) (sym (flat_map-map (λ q. q) last_views (executions t r)))
      ∙ parts_cut laid (map last_views (executions t r)) (laid_out_cut (first_block t) r 0 0 t.delta)
