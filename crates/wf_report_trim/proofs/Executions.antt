-- Where the executions after more rounds stand, and those that they go on from.
use Rattle.std.proofs.Common.{◌≡◌, ℕ, zero, suc, ◌+◌, ◌*◌, ◌<◌, ◌≤◌, List, [], ◌∷◌, ◌++◌, map, flat_map, take, length, Some, slice_get, refl, sym, ap, ◌∙◌, subst, arith, length-append}
use Rattle.std.specs.List.{AllByRecursion}
use Rattle.std.proofs.lemmas.List.{length-map}
use Rattle.std.proofs.lemmas.Option.{slice_get_within}
use Rattle.wf_model.specs.Lists.{lists_of}
use Rattle.wf_model.specs.Word.{Word, words}
use Rattle.wf_model.specs.Task.{Task, Rule, inputs, first_block}
use Rattle.wf_model.specs.Execution.{Execution, executions_on, executions}
use Rattle.wf_model.proofs.Lemmas.{each_at, each_of_lists, words_long}
use Rattle.wf_complex.specs.Layout.{turns}
use Rattle.wf_complex.specs.Protocol.{simplices_of}
use Rattle.wf_complex.proofs.Lemmas.{length-lists_of}
use Rattle.wf_report_trim.specs.declared.stretch.Stretch.{Stretch}
use Rattle.wf_report_trim.specs.Stretches.{stretches, earlier}
use Rattle.wf_report_trim.proofs.Places.{begun, begins, MadeOf, made_of, made_there, of_mapped, in_mapped}
use Rattle.wf_report_trim.proofs.WordListCounts.{turns_add, divided}

-- ---- the words of the rounds before

-- a list of words for r + k rounds, with the words of the first r and their
-- place among the lists for r rounds
pub record Parted (m n r k o : ℕ) (ws : List Word) : Type 0 where
  pub first : List Word
  pub last : List Word
  pub place : ℕ
  pub rest : ℕ
  pub is : ws ≡ first ++ last
  pub there : slice_get (lists_of (words m n) r) place ≡ Some first
  pub last_there : slice_get (lists_of (words m n) k) rest ≡ Some last
  pub at : o ≡ place * turns m n k + rest

pub parted : (m n r k o : ℕ) (ws : List Word) → slice_get (lists_of (words m n) (r + k)) o ≡ Some ws → Parted m n r k o ws
parted m n zero k o ws h =
    let same : 0 + k ≡ k = omega arith in record {
      first = [];
      last = ws;
      place = 0;
      rest = o;
      is = refl;
      there = refl;
      last_there = subst (λ j. slice_get (lists_of (words m n) j) o ≡ Some ws) same h;
      at = omega arith;
    }
parted m n (suc r) k o ws h =
    let same : suc r + k ≡ suc (r + k) = omega arith in
    let b = begun (lists_of (words m n) (r + k)) (words m n) o ws (subst (λ j. slice_get (lists_of (words m n) j) o ≡ Some ws) same h) in
    let p = parted m n r k b.rest_place b.rest b.rest_there in record {
      first = b.first ∷ p.first;
      last = p.last;
      place = b.first_place * length (lists_of (words m n) r) + p.place;
      rest = p.rest;
      is = b.is ∙ ap (λ rest. b.first ∷ rest) p.is;
      there = begins (lists_of (words m n) r) (words m n) b.first_place p.place b.first p.first b.first_there p.there;
      last_there = p.last_there;
      at = joined b.first_place (length (lists_of (words m n) r)) p.place (turns m n k) p.rest (length (lists_of (words m n) (r + k))) o b.rest_place b.place p.at
          (length-lists_of m n (r + k) ∙ turns_add m n r k ∙ ap (λ x. x * turns m n k) (sym (length-lists_of m n r)));
    }
  where
    joined : (i a p b q l o j : ℕ) → o ≡ i * l + j → j ≡ p * b + q → l ≡ a * b → o ≡ (i * a + p) * b + q
    joined i a p b q l o j h k e = grind (arith, h, k, e)

each_last_long : (m n k rest : ℕ) (last : List Word) → slice_get (lists_of (words m n) k) rest ≡ Some last → AllByRecursion (λ w. length w ≡ n) last
each_last_long m n k rest last there =
    each_at (AllByRecursion (λ w. length w ≡ n)) (lists_of (words m n) k) rest last (each_of_lists (λ w. length w ≡ n) (words m n) k (words_long m n)) there

-- how long each list of words for k rounds is
as_many_words : (ws : List Word) (k o : ℕ) (us : List Word) → slice_get (lists_of ws k) o ≡ Some us → length us ≡ k
as_many_words ws zero zero us h = let same : [] ≡ us = cc in ap length (sym same)
as_many_words ws zero (suc o) us h = absurd (let none : ⊥ = cc in none)
as_many_words ws (suc k) o us h =
    let b = begun (lists_of ws k) ws o us h in
    ap length b.is ∙ ap suc (as_many_words ws k b.rest_place b.rest b.rest_there)

-- ---- the executions of a task

abbrev with_words : Rule → List Word → Execution
with_words rule ws = record { rule = rule; words = ws }

pub length-on : (m r : ℕ) (rule : Rule) → length (executions_on m r rule) ≡ turns m (length rule.input) r
length-on m r rule = length-map (lists_of (words m (length rule.input)) r) (with_words rule) ∙ length-lists_of m (length rule.input) r

-- the stretch of an input simplex, by the executions on those before it
stretch_at : (m r k : ℕ) (rules : List Rule) (number before after : ℕ) (rule : Rule) → slice_get rules number ≡ Some rule →
    slice_get (stretches m r k before after (map (λ rule. rule.input) rules)) number ≡ Some (record {
      before = before + length (flat_map (executions_on m r) (take number rules));
      after = after + length (flat_map (executions_on m (r + k)) (take number rules));
      each = turns m (length rule.input) k;
    })
stretch_at m r k [] number before after rule h = absurd (let none : ⊥ = cc in none)
stretch_at m r k (a ∷ rules) zero before after rule h =
    let same : a ≡ rule = cc in
    let b : before ≡ before + 0 = omega arith in
    let c : after ≡ after + 0 = omega arith in
    λ i. Some (record { before = b i; after = c i; each = turns m (length (same i).input) k })
stretch_at m r k (a ∷ rules) (suc number) before after rule h =
    let b : before + turns m (length a.input) r + length (flat_map (executions_on m r) (take number rules)) ≡ before + length (executions_on m r a ++ flat_map (executions_on m r) (take number rules)) =
    omega (arith, length-on m r a, length-append (executions_on m r a) (flat_map (executions_on m r) (take number rules))) in
    let c : after + turns m (length a.input) (r + k) + length (flat_map (executions_on m (r + k)) (take number rules)) ≡ after + length (executions_on m (r + k) a ++ flat_map (executions_on m (r + k)) (take number rules)) =
    omega (arith, length-on m (r + k) a, length-append (executions_on m (r + k) a) (flat_map (executions_on m (r + k)) (take number rules))) in
    stretch_at m r k rules number (before + turns m (length a.input) r) (after + turns m (length a.input) (r + k)) rule h
    ∙ (λ i. Some (record { before = b i; after = c i; each = turns m (length rule.input) k }))

-- an execution after r + k rounds, its stretch, and the execution after r
-- rounds that it goes on from
pub record StandsBefore (t : Task) (r k e s : ℕ) (x : Execution) : Type 0 where
  pub rule : Rule
  pub first : List Word
  pub last : List Word
  pub is : x ≡ record { rule = rule; words = first ++ last }
  pub last_many : length last ≡ k
  pub first_long : AllByRecursion (λ w. length w ≡ length rule.input) first
  pub last_long : AllByRecursion (λ w. length w ≡ length rule.input) last
  pub stretch : Stretch
  pub stretch_there : slice_get (stretches (first_block t) r k 0 0 (inputs t)) s ≡ Some stretch
  pub begun : stretch.after ≤ e
  pub some : 1 ≤ stretch.each
  pub there : slice_get (executions t r) (earlier stretch e) ≡ Some (record { rule = rule; words = first })
  pub rule_there : slice_get t.delta s ≡ Some rule

pub stands_before : (t : Task) (r k e s : ℕ) (x : Execution) → slice_get (executions t (r + k)) e ≡ Some x → slice_get (simplices_of t (r + k)) e ≡ Some s → StandsBefore t r k e s x
stands_before t r k e s x there on =
    let m = first_block t in
    let at : MadeOf (executions_on m (r + k)) t.delta 0 e s = made_of (executions_on m (r + k)) t.delta 0 e s on in
    let rule = at.element in
    let n = length rule.input in
    let number_is : at.number ≡ s = omega (arith, at.numbered) in
    let before = length (flat_map (executions_on m r) (take at.number t.delta)) in
    let after = length (flat_map (executions_on m (r + k)) (take at.number t.delta)) in
    let here : slice_get (executions_on m (r + k) rule) at.place ≡ Some x =
    sym (made_there (executions_on m (r + k)) t.delta at.number rule at.place at.there at.within) ∙ ap (slice_get (executions t (r + k))) (sym at.at) ∙ there in
    let (ws, ws_there, ws_is) = of_mapped (with_words rule) (lists_of (words m n) (r + k)) at.place x here in
    let p = parted m n r k at.place ws ws_there in
    let stretch : Stretch = record { before = 0 + before; after = 0 + after; each = turns m n k } in
    let low : p.rest < turns m n k = subst (λ l. p.rest < l) (length-lists_of m n k) (slice_get_within (lists_of (words m n) k) p.rest p.last p.last_there) in
    let place_is : earlier stretch e ≡ before + p.place = divided before after (turns m n k) p.place p.rest at.place e low p.at at.at in
    let inside : p.place < length (executions_on m r rule) =
    subst (λ l. p.place < l) (sym (length-map (lists_of (words m n) r) (with_words rule))) (slice_get_within (lists_of (words m n) r) p.place p.first p.there) in record {
      rule = rule;
      first = p.first;
      last = p.last;
      is = sym ws_is ∙ ap (with_words rule) p.is;
      last_many = as_many_words (words m n) k p.rest p.last p.last_there;
      first_long = each_last_long m n r p.place p.first p.there;
      last_long = each_last_long m n k p.rest p.last p.last_there;
      stretch = stretch;
      stretch_there = subst (λ j. slice_get (stretches m r k 0 0 (inputs t)) j ≡ Some stretch) number_is (stretch_at m r k t.delta at.number 0 0 rule at.there);
      begun = omega (arith, at.at);
      some = omega (arith, low);
      there = ap (slice_get (executions t r)) place_is ∙ made_there (executions_on m r) t.delta at.number rule p.place at.there inside
          ∙ in_mapped (with_words rule) (lists_of (words m n) r) p.place p.first p.there;
      rule_there = subst (λ j. slice_get t.delta j ≡ Some rule) number_is at.there;
    }
