-- Parts of equations: what executions on a simplex count, with their signs. Where each allowed
-- tuple counts the same on both sides, the parts add up to the same on both sides.
use Rattle.std.proofs.Common.{◌≡◌, ℕ, ◌+◌, ◌%◌, ◌&&◌, not, Bool, true, false, cond, List, [], ◌∷◌, filter, length, refl, sym, ap, ◌∙◌, subst, inl, inr, arith}
use Rattle.std.specs.List.{AllByRecursion, list_any}
use Rattle.std.proofs.lemmas.Bool.{cases_Bool, false≢true}
use Rattle.wf_model.specs.Lists.{lists_of}
use Rattle.wf_model.specs.Simplex.{Simplex, processes_of}
use Rattle.wf_model.specs.Word.{Word, words}
use Rattle.wf_model.specs.View.{View}
use Rattle.wf_model.specs.Task.{Rule, Task, Tuple, first_block}
use Rattle.wf_model.specs.DecisionMap.{IsDecisionMap}
use Rattle.wf_tree_model.specs.Counting.Signs.{is_even, same_sign, total}
use Rattle.wf_tree_model.proofs.OfCounting.Lemmas.{both_same, Between, total_add, total_none, total_same}
use Rattle.wf_tree_model.proofs.Members.{Has, contains, from_each}
use Rattle.wf_tree_model.proofs.Maps.{decided}
use Rattle.wf_tree_model.specs.Alike.{are_alike}
use Rattle.wf_tree_model.proofs.Alike.{alike_across, alike_long, alike_on, decide_alike, decided_on}

-- a side of an equation: a simplex, and what each tuple that is decided there counts
pub record Part : Type 0 where
  pub positive : Bool
  pub simplex : Simplex
  pub counts : Tuple → ℕ

-- ---- sums

pub total_modulo : {X : Type 0} (k : ℕ) (f g : X → ℕ) (xs : List X) → AllByRecursion (λ x. f x % k ≡ g x % k) xs → total f xs % k ≡ total g xs % k
total_modulo k f g [] h = refl
total_modulo k f g (x ∷ xs) h = both_same k (f x) (g x) (total f xs) (total g xs) h.0 (total_modulo k f g xs h.1)

total_filter : {X : Type 0} (test : X → Bool) (f : X → ℕ) (xs : List X) → total f (filter test xs) ≡ total (λ x. cond (test x) (f x) 0) xs
total_filter test f [] = refl
total_filter test f (x ∷ xs) =
    elim (cases_Bool (test x)) [
      | inl yes' ↦ rw yes' (ap (λ n. f x + n) (total_filter test f xs))
      | inr no' ↦ rw no' (let e = total_filter test f xs in omega (arith, e))
    ]

-- what passes, and what doesn't
total_parted : {X : Type 0} (test : X → Bool) (f : X → ℕ) (xs : List X) → total f xs ≡ total (λ x. cond (test x) (f x) 0) xs + total f (filter (λ x. not (test x)) xs)
total_parted test f [] = refl
total_parted test f (x ∷ xs) =
    let e = total_parted test f xs in
    elim (cases_Bool (test x)) [
      | inl yes' ↦ rw yes' (omega (arith, e))
      | inr no' ↦ rw no' (omega (arith, e))
    ]

signs_turned : (a b c : Bool) → same_sign (same_sign a b) c ≡ same_sign (same_sign a c) b
signs_turned true true true = refl
signs_turned true true false = refl
signs_turned true false true = refl
signs_turned true false false = refl
signs_turned false true true = refl
signs_turned false true false = refl
signs_turned false false true = refl
signs_turned false false false = refl

-- ---- parts at one simplex

-- what a tuple of the simplex counts on a side
abbrev pub count_at : Task → Bool → List Part → Simplex → Tuple → ℕ
count_at t side ps s tuple = total (λ p. cond (are_alike t p.simplex s && same_sign side p.positive) (p.counts tuple) 0) ps

-- each tuple that a rule allows counts the same on both sides
abbrev pub IsEven : Task → ℕ → List Part → Rule → Type 0
IsEven t modulus ps rule = (tuple : Tuple) → Has tuple rule.tuples → count_at t true ps rule.input tuple % modulus ≡ count_at t false ps rule.input tuple % modulus

hidden : (here gone sign : Bool) (n : ℕ) → (here ≡ true → gone ≡ true) → cond (not gone) (cond (here && sign) n 0) 0 ≡ 0
hidden true true sign n h = refl
hidden true false sign n h = absurd (false≢true (h refl))
hidden false true sign n h = refl
hidden false false sign n h = refl

shown : (here gone sign : Bool) (n : ℕ) → (here ≡ true → gone ≡ false) → cond (not gone) (cond (here && sign) n 0) 0 ≡ cond (here && sign) n 0
shown true true sign n h = absurd (false≢true (sym (h refl)))
shown true false sign n h = refl
shown false true sign n h = refl
shown false false sign n h = refl

module _ (t : Task) where
  abbrev at_simplex : Simplex → Part → Bool
  at_simplex s p = are_alike t p.simplex s

  -- the parts at other simplices
  abbrev elsewhere : Simplex → List Part → List Part
  elsewhere gone ps = filter (λ p. not (at_simplex gone p)) ps

  count_gone : (side : Bool) (ps : List Part) (gone s : Simplex) (tuple : Tuple) → are_alike t s gone ≡ true → count_at t side (elsewhere gone ps) s tuple ≡ 0
  count_gone side ps gone s tuple same =
      let f = λ (p : Part). cond (at_simplex s p && same_sign side p.positive) (p.counts tuple) 0 in
      total_filter (λ p. not (at_simplex gone p)) f ps
      ∙ total_same (λ p. cond (not (at_simplex gone p)) (f p) 0) (λ p. 0) ps
      (λ p. hidden (at_simplex s p) (at_simplex gone p) (same_sign side p.positive) (p.counts tuple) (λ here. alike_on t p.simplex s gone here same))
      ∙ total_none ps

  count_kept : (side : Bool) (ps : List Part) (gone s : Simplex) (tuple : Tuple) → are_alike t s gone ≡ false → count_at t side (elsewhere gone ps) s tuple ≡ count_at t side ps s tuple
  count_kept side ps gone s tuple apart =
      let f = λ (p : Part). cond (at_simplex s p && same_sign side p.positive) (p.counts tuple) 0 in
      total_filter (λ p. not (at_simplex gone p)) f ps
      ∙ total_same (λ p. cond (not (at_simplex gone p)) (f p) 0) f ps
      (λ p. shown (at_simplex s p) (at_simplex gone p) (same_sign side p.positive) (p.counts tuple)
      (λ here. not_both (at_simplex gone p) (λ there. alike_across t p.simplex s gone here there)))
    where
      not_both : (b : Bool) → (b ≡ true → are_alike t s gone ≡ true) → b ≡ false
      not_both true h = absurd (false≢true (sym apart ∙ h refl))
      not_both false h = refl

  even_elsewhere : (modulus : ℕ) (ps : List Part) (gone : Simplex) (rule : Rule) → IsEven t modulus ps rule → IsEven t modulus (elsewhere gone ps) rule
  even_elsewhere modulus ps gone rule h tuple there =
      elim (cases_Bool (are_alike t rule.input gone)) [
        | inl same ↦ ap (λ n. n % modulus) (count_gone true ps gone rule.input tuple same ∙ sym (count_gone false ps gone rule.input tuple same))
        | inr apart ↦
            ap (λ n. n % modulus) (count_kept true ps gone rule.input tuple apart)
            ∙ h tuple there
            ∙ ap (λ n. n % modulus) (sym (count_kept false ps gone rule.input tuple apart))
      ]

-- ---- what a map counts

-- the executions with a sign in which the map decides what the part counts
abbrev pub executions_count : Task → ℕ → (View → ℕ) → Bool → Part → ℕ
executions_count t r m b p = total (λ ws. cond (same_sign b (is_even ws)) (p.counts (decided_on t m p.simplex ws)) 0) (lists_of (words 1 (length p.simplex)) r)

-- on one side what is added, with its sign, and on the other what is taken away
abbrev pub part_count : Task → ℕ → (View → ℕ) → Bool → Part → ℕ
part_count t r m side p = executions_count t r m (same_sign side p.positive) p

-- a part at a simplex that is like the input of one of these rules
pub record IsCovered (t : Task) (rules : List Rule) (p : Part) : Type 0 where
  pub ascending : Between 0 (processes_of p.simplex) t.processes
  pub listed : list_any (λ rule. are_alike t p.simplex rule.input) rules ≡ true

module _ (t : Task) (all_words : first_block t ≡ 1) (modulus r : ℕ) (m : View → ℕ) (decides : IsDecisionMap t r m) where
  -- one part, counted by the tuples of a rule with a simplex like its own
  counted_there : (side : Bool) (p : Part) (rule : Rule) → Between 0 (processes_of p.simplex) t.processes → Between 0 (processes_of rule.input) t.processes → (c : Bool) → are_alike t p.simplex rule.input ≡ c →
      cond c (part_count t r m side p) 0
      ≡ total (λ ws. cond (c && same_sign (same_sign side (is_even ws)) p.positive) (p.counts (decided_on t m rule.input ws)) 0) (lists_of (words 1 (length rule.input)) r)
  counted_there side p rule p_up up true is =
      ap (λ n. total (λ ws. cond (same_sign (same_sign side p.positive) (is_even ws)) (p.counts (decided_on t m p.simplex ws)) 0) (lists_of (words 1 n) r)) (alike_long t p.simplex rule.input is)
      ∙ total_same (λ ws. cond (same_sign (same_sign side p.positive) (is_even ws)) (p.counts (decided_on t m p.simplex ws)) 0) (λ ws. cond (same_sign (same_sign side (is_even ws)) p.positive) (p.counts (decided_on t m rule.input ws)) 0) (lists_of (words 1 (length rule.input)) r)
      (λ ws. λ i. cond (signs_turned side p.positive (is_even ws) i) (p.counts (decide_alike t m p.simplex rule.input p_up up is ws i)) 0)
  counted_there side p rule p_up up false is = sym (total_none (lists_of (words 1 (length rule.input)) r))

  -- the parts at one simplex, execution by execution
  group_counted : (side : Bool) (ps : List Part) (rules : List Rule) (rule : Rule) → AllByRecursion (IsCovered t rules) ps → Between 0 (processes_of rule.input) t.processes →
      total (λ p. cond (at_simplex t rule.input p) (part_count t r m side p) 0) ps
      ≡ total (λ ws. count_at t (same_sign side (is_even ws)) ps rule.input (decided_on t m rule.input ws)) (lists_of (words 1 (length rule.input)) r)
  group_counted side [] rules rule h up = sym (total_none (lists_of (words 1 (length rule.input)) r))
  group_counted side (p ∷ ps) rules rule h up =
      let all = lists_of (words 1 (length rule.input)) r in
      let one = counted_there side p rule h.0.ascending up (at_simplex t rule.input p) refl in
      let rest = group_counted side ps rules rule h.1 up in
      let f = λ (ws : List Word). cond (at_simplex t rule.input p && same_sign (same_sign side (is_even ws)) p.positive) (p.counts (decided_on t m rule.input ws)) 0 in
      let g = λ (ws : List Word). count_at t (same_sign side (is_even ws)) ps rule.input (decided_on t m rule.input ws) in
      let both = total_add f g all in
      omega (arith, one, rest, both)

  group_even : (ps : List Part) (rules : List Rule) (rule : Rule) → Has rule t.delta → AllByRecursion (IsCovered t rules) ps → Between 0 (processes_of rule.input) t.processes → IsEven t modulus ps rule →
      total (λ p. cond (at_simplex t rule.input p) (part_count t r m true p) 0) ps % modulus ≡ total (λ p. cond (at_simplex t rule.input p) (part_count t r m false p) 0) ps % modulus
  group_even ps rules rule there h up even =
      let all = lists_of (words 1 (length rule.input)) r in
      let count = λ (side : Bool) (ws : List Word). count_at t (same_sign side (is_even ws)) ps rule.input (decided_on t m rule.input ws) in
      ap (λ n. n % modulus) (group_counted true ps rules rule h up)
      ∙ total_modulo modulus (count true) (count false) all
      (from_each (λ ws. count true ws % modulus ≡ count false ws % modulus) all
      (λ ws run. by (decided_on t m rule.input ws) (even (decided_on t m rule.input ws) (decided t r m decides rule (contains rule t.delta there) ws (subst (λ n. Has ws (lists_of (words n (length rule.input)) r)) (sym all_words) run))) (is_even ws)))
      ∙ ap (λ n. n % modulus) (sym (group_counted false ps rules rule h up))
    where
      by : (tuple : Tuple) → count_at t true ps rule.input tuple % modulus ≡ count_at t false ps rule.input tuple % modulus → (b : Bool) →
          count_at t (same_sign true b) ps rule.input tuple % modulus ≡ count_at t (same_sign false b) ps rule.input tuple % modulus
      by tuple h true = h
      by tuple h false = sym h

  covered_elsewhere : (ps : List Part) (rule : Rule) (rules : List Rule) → AllByRecursion (IsCovered t (rule ∷ rules)) ps → AllByRecursion (IsCovered t rules) (elsewhere t rule.input ps)
  covered_elsewhere [] rule rules h = tt
  covered_elsewhere (p ∷ ps) rule rules h =
      let rest = covered_elsewhere ps rule rules h.1 in
      elim (cases_Bool (at_simplex t rule.input p)) [
        | inl here ↦ rw here rest
        | inr away ↦ let listed = h.0.listed in rw away (record { ascending = h.0.ascending; listed = rw away at listed }, rest)
      ]

  -- over the rules, and for each the parts at its simplex
  pub parts_even : (rules : List Rule) (ps : List Part) → AllByRecursion (λ rule. Has rule t.delta × Between 0 (processes_of rule.input) t.processes) rules →
      ((rule : Rule) → Has rule t.delta → IsEven t modulus ps rule) → AllByRecursion (IsCovered t rules) ps →
      total (part_count t r m true) ps % modulus ≡ total (part_count t r m false) ps % modulus
  parts_even [] [] of even covered = refl
  parts_even [] (p ∷ ps) of even covered = absurd (false≢true covered.0.listed)
  parts_even (rule ∷ rules) ps of even covered =
      let s = rule.input in
      let far = elsewhere t s ps in
      let group = λ (side : Bool). total (λ p. cond (at_simplex t s p) (part_count t r m side p) 0) ps in
      let near = group_even ps (rule ∷ rules) rule of.0.0 covered of.0.1 (even rule of.0.0) in
      let rest = parts_even rules far of.1 (λ q there. even_elsewhere t modulus ps s q (even q there)) (covered_elsewhere ps rule rules covered) in
      ap (λ n. n % modulus) (total_parted (at_simplex t s) (part_count t r m true) ps)
      ∙ both_same modulus (group true) (group false) (total (part_count t r m true) far) (total (part_count t r m false) far) near rest
      ∙ ap (λ n. n % modulus) (sym (total_parted (at_simplex t s) (part_count t r m false) ps))
