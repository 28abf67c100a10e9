-- Clauses in one list of literals.
use Rattle.std.proofs.Common.{◌≡◌, ◌≢◌, ℕ, ◌+◌, ◌-◌, ◌<◌, ◌≤◌, zero, suc, List, [], ◌∷◌, ◌++◌, refl, sym, ◌∙◌, ap, arith, length, take, drop, get_or, set, length-drop, length-append, ◌⊎◌, inl, inr, subst}
use Rattle.std.specs.List.{All, AllPairs, Contains, slice_range}
use Rattle.std.proofs.lemmas.List.{take-append-le, drop-append-le, map-append, drop-set-lt, drop-set-add, take-set-le, length-set, get_or_append_left, get_or-append-add, get_or-append_right, get_or_default, get_or_past, get_or-set_other, get_or-set_same, map-set}
use Rattle.std.proofs.Math.Seq.{drop-append_seam, take-length}
use Rattle.std.proofs.lemmas.Bool.{cases_eq, cases_lt}
use Rattle.std.proofs.lemmas.List.Quantifiers.{all_pairs_push}
use Rattle.std.proofs.lemmas.List.Elements.{All-contains, All-push, All-set, Contains-append_left, Contains-push}
use Rattle.std.proofs.lemmas.Grind.{get_or-set_at}
use Rattle.wf_sat_check.specs.declared.store.clauses.ClauseRange.{ClauseRange}
use Rattle.wf_sat_check.specs.Store.Laid.{AreLaid, HasNoHead, IsWithin, clause_at, clauses_in, head_word, span_at}

-- more literals behind change no clause
pub clause_at-append : (arena more : List ℕ) (s : ClauseRange) → IsWithin (length arena) s → clause_at (arena ++ more) s ≡ clause_at arena s
clause_at-append arena more s h =
    let ordered : s.start ≤ s.«end» = h.ordered in
    let bounded : s.«end» ≤ length arena = h.bounded in
    let starts : s.start ≤ length arena = omega arith in
    let room : s.«end» - s.start ≤ length (drop s.start arena) = omega (arith, length-drop s.start arena) in
    ap (take (s.«end» - s.start)) (drop-append-le s.start arena more starts)
    ∙ take-append-le (s.«end» - s.start) (drop s.start arena) more room

pub clauses_in-append : (arena more : List ℕ) (spans : List ClauseRange) → All (IsWithin (length arena)) spans → clauses_in (arena ++ more) spans ≡ clauses_in arena spans
clauses_in-append arena more [] all = refl
clauses_in-append arena more (s ∷ spans) all =
    let rest : All (IsWithin (length arena)) spans = λ k d h. let deeper : suc k < length (s ∷ spans) = omega arith in all (suc k) d deeper in
    let first : 0 < length (s ∷ spans) = omega arith in
    let one : clause_at (arena ++ more) s ≡ clause_at arena s = clause_at-append arena more s (all 0 s first) in
    let others : clauses_in (arena ++ more) spans ≡ clauses_in arena spans = clauses_in-append arena more spans rest in
    ap (λ x. x ∷ clauses_in (arena ++ more) spans) one ∙ ap (λ xs. clause_at arena s ∷ xs) others

-- the literals behind are the new clause
pub clause_at-new : (arena more : List ℕ) (s : ClauseRange) → s.start ≡ length arena → s.«end» ≡ length arena + length more → clause_at (arena ++ more) s ≡ more
clause_at-new arena more s starts ends =
    let long : s.«end» - s.start ≡ length more = omega arith in
    rw (long, starts, drop-append_seam arena more) (take-length more)

pub clauses_in-push : (arena more : List ℕ) (spans : List ClauseRange) (s : ClauseRange) → All (IsWithin (length arena)) spans
    → s.start ≡ length arena → s.«end» ≡ length arena + length more
    → clauses_in (arena ++ more) (spans ++ s ∷ []) ≡ clauses_in arena spans ++ more ∷ []
clauses_in-push arena more spans s all starts ends =
    map-append (clause_at (arena ++ more)) spans (s ∷ [])
    ∙ ap (λ xs. xs ++ clause_at (arena ++ more) s ∷ []) (clauses_in-append arena more spans all)
    ∙ ap (λ x. clauses_in arena spans ++ x ∷ []) (clause_at-new arena more s starts ends)

-- with more words behind, the spans still lie within
pub within-append : (arena more : List ℕ) (spans : List ClauseRange) → All (IsWithin (length arena)) spans → All (IsWithin (length (arena ++ more))) spans
within-append arena more spans all = λ k d h.
    let old : IsWithin (length arena) (get_or spans k d) = all k d h in
    let bounded : (get_or spans k d).«end» ≤ length arena = old.bounded in
    record { headed = old.headed; ordered = old.ordered; bounded = omega (arith, length-append arena more, bounded) }

-- ---- where clauses begin

-- what was read there says that a clause begins
pub begun-read : (arena : List ℕ) (place word : ℕ) → place < length arena → word ≡ get_or arena place word → word ≡ head_word → get_or arena place 0 ≡ head_word
begun-read arena place word inside is head = get_or_default arena place 0 word inside ∙ sym is ∙ head

-- where a clause begins, its words lie within
pub begun-within : (arena : List ℕ) (spans : List ClauseRange) (place : ℕ) → AreLaid arena spans → get_or arena place 0 ≡ head_word → IsWithin (length arena) (span_at arena place)
begun-within arena spans place h is = All-contains (IsWithin (length arena)) spans (span_at arena place) h.within (h.marked place is)

-- the words behind the first one begin no clause where the list is short
pub begun-alone : (arena : List ℕ) (spans : List ClauseRange) (place : ℕ) → AreLaid arena spans → get_or arena place 0 ≡ head_word → get_or arena (place + 1) 0 ≡ head_word → ⊥
begun-alone arena spans place h is next =
    let bounded : get_or arena (place + 1) 0 ≤ length arena = (begun-within arena spans place h is).bounded in
    let few : length arena < head_word = h.few in
    omega (arith, bounded, few, next)

span_at-same : (old new : List ℕ) (place : ℕ) → get_or new (place + 1) 0 ≡ get_or old (place + 1) 0 → span_at new place ≡ span_at old place
span_at-same old new place same = λ i. record { start = place + 4; «end» = same i }

marked-append : (arena more : List ℕ) (spans : List ClauseRange) → AreLaid arena spans → HasNoHead more → (place : ℕ) → get_or (arena ++ more) place 0 ≡ head_word → Contains spans (span_at (arena ++ more) place)
marked-append arena more spans h none place is = elim (cases_lt place (length arena)) [
  | inl here ↦
      let old : get_or arena place 0 ≡ head_word = sym (get_or_append_left arena more 0 place here) ∙ is in
      let ordered : place + 4 ≤ get_or arena (place + 1) 0 = (begun-within arena spans place h old).ordered in
      let bounded : get_or arena (place + 1) 0 ≤ length arena = (begun-within arena spans place h old).bounded in
      subst (Contains spans) (sym (span_at-same arena (arena ++ more) place (get_or_append_left arena more 0 (place + 1) (omega (arith, ordered, bounded))))) (h.marked place old)
  | inr behind ↦ absurd (none (place - length arena) (sym (get_or-append_right arena more (length arena) place 0 refl behind) ∙ is))
]

pub laid-append : (arena more : List ℕ) (spans : List ClauseRange) → HasNoHead more → length (arena ++ more) < head_word → AreLaid arena spans → AreLaid (arena ++ more) spans
laid-append arena more spans none few h =
    record { within = within-append arena more spans h.within; apart = h.apart; marked = marked-append arena more spans h none; few = few }

-- a word that is written outside a part changes nothing in it
slice-set-before : (xs : List ℕ) (i v a b : ℕ) → i < a → slice_range (set xs i v) a b ≡ slice_range xs a b
slice-set-before xs i v a b h = ap (take (b - a)) (drop-set-lt a xs i v h)

slice-set-behind : (xs : List ℕ) (j v a b : ℕ) → b ≤ a + j → slice_range (set xs (a + j) v) a b ≡ slice_range xs a b
slice-set-behind xs j v a b h =
    let short : b - a ≤ j = omega arith in
    ap (take (b - a)) (drop-set-add a xs j v) ∙ take-set-le (b - a) (drop a xs) j v short

slice-set : (xs : List ℕ) (i v a b : ℕ) → a ≤ b → (i < a) ⊎ (b ≤ i) → slice_range (set xs i v) a b ≡ slice_range xs a b
slice-set xs i v a b h (inl before) = slice-set-before xs i v a b before
slice-set xs i v a b h (inr behind) =
    let far : b ≤ a + (i - a) = omega arith in
    let same : a + (i - a) ≡ i = omega arith in
    let P : ℕ → Type 0 = λ n. slice_range (set xs n v) a b ≡ slice_range xs a b in
    subst P same (slice-set-behind xs (i - a) v a b far)

clauses_in-same : (old new : List ℕ) (spans : List ClauseRange) → All (λ s. clause_at new s ≡ clause_at old s) spans → clauses_in new spans ≡ clauses_in old spans
clauses_in-same old new [] all = refl
clauses_in-same old new (s ∷ spans) all =
    let rest : All (λ t. clause_at new t ≡ clause_at old t) spans = λ k d h. let deeper : suc k < length (s ∷ spans) = omega arith in all (suc k) d deeper in
    let first : 0 < length (s ∷ spans) = omega arith in
    let one : clause_at new s ≡ clause_at old s = all 0 s first in
    ap (λ x. x ∷ clauses_in new spans) one ∙ ap (λ xs. clause_at old s ∷ xs) (clauses_in-same old new spans rest)

-- where the word of a span's head lies, as the other spans see it
head-outside : (arena : List ℕ) (spans : List ClauseRange) (n i k : ℕ) (d : ClauseRange) → AreLaid arena spans → n < length spans → k < length spans
    → i < (get_or spans n d).start → (get_or spans n d).start ≤ i + 4
    → (i < (get_or spans k d).start) ⊎ ((get_or spans k d).«end» ≤ i)
head-outside arena spans n i k d h inside here below near = elim (cases_lt k n) [
  | inl less ↦ let gap : (get_or spans k d).«end» + 4 ≤ (get_or spans n d).start = h.apart k n d less inside in inr (omega arith)
  | inr more ↦ elim (cases_lt n k) [
    | inl less ↦ let gap : (get_or spans n d).«end» + 4 ≤ (get_or spans k d).start = h.apart n k d less here in
        let mine : (get_or spans n d).start ≤ (get_or spans n d).«end» = (h.within n d inside).ordered in inl (omega arith)
    | inr others ↦ let same : k ≡ n = omega arith in
        let P : ℕ → Type 0 = λ m. i < (get_or spans m d).start in inl (subst P (sym same) below)
  ]
]

-- what is written at a span's head changes no clause
pub clauses_in-head : (arena : List ℕ) (spans : List ClauseRange) (n i v : ℕ) (d : ClauseRange) → AreLaid arena spans → n < length spans
    → i < (get_or spans n d).start → (get_or spans n d).start ≤ i + 4 → clauses_in (set arena i v) spans ≡ clauses_in arena spans
clauses_in-head arena spans n i v d h inside below near =
    clauses_in-same arena (set arena i v) spans (λ k e here.
    let whole : d ≡ d = refl in
    let at_k : get_or spans k e ≡ get_or spans k d = get_or_default spans k e d here in
    let P : ClauseRange → Type 0 = λ s. clause_at (set arena i v) s ≡ clause_at arena s in
    subst P (sym at_k) (slice-set arena i v _ _ (h.within k d here).ordered (head-outside arena spans n i k d h inside here below near)))

get-set : (arena : List ℕ) (i v place : ℕ) → (v ≡ head_word → ⊥) → get_or (set arena i v) place 0 ≡ head_word → get_or arena place 0 ≡ head_word
get-set arena i v place other is = elim (cases_lt place i) [
  | inl less ↦ sym (get_or-set_other arena i place v 0 (λ same. let bad : ⊥ = omega (arith, less, same) in bad)) ∙ is
  | inr more ↦ elim (cases_lt i place) [
    | inl less ↦ sym (get_or-set_other arena i place v 0 (λ same. let bad : ⊥ = omega (arith, less, same) in bad)) ∙ is
    | inr rest ↦ elim (cases_lt i (length arena)) [
      | inl inside ↦ let same : place ≡ i = omega (arith, more, rest) in absurd (other (sym (get_or-set_at arena i place v 0 same inside) ∙ is))
      | inr outside ↦
          let beyond : length (set arena i v) ≤ place = omega (arith, outside, rest, more, length-set arena i v) in
          absurd (let bad : ⊥ = omega (arith, sym (get_or_past (set arena i v) place 0 beyond) ∙ is) in bad)
    ]
  ]
]

-- a word is written that begins no clause, and doesn't say where one ends
pub laid-set : (arena : List ℕ) (spans : List ClauseRange) (i v : ℕ) → (v ≡ head_word → ⊥) → ((place : ℕ) → get_or arena place 0 ≡ head_word → place + 1 ≡ i → ⊥)
    → AreLaid arena spans → AreLaid (set arena i v) spans
laid-set arena spans i v other apart h =
    let P : ℕ → Type 0 = λ size. All (IsWithin size) spans in
    record {
      within = subst P (sym (length-set arena i v)) h.within;
      apart = h.apart;
      marked = λ place is.
          let old : get_or arena place 0 ≡ head_word = get-set arena i v place other is in
          subst (Contains spans) (sym (span_at-same arena (set arena i v) place (get_or-set_other arena i (place + 1) v 0 (apart place old)))) (h.marked place old);
      few = omega (arith, length-set arena i v, h.few);
    }

-- the span of a new clause lies behind the others
pub laid-push : (arena : List ℕ) (spans : List ClauseRange) (s : ClauseRange) → AreLaid arena spans → IsWithin (length arena) s
    → ((k : ℕ) (d : ClauseRange) → k < length spans → (get_or spans k d).«end» + 4 ≤ s.start) → AreLaid arena (spans ++ s ∷ [])
laid-push arena spans s h mine behind = record {
  within = All-push (IsWithin (length arena)) spans s h.within mine;
  apart = all_pairs_push (λ x y. x.«end» + 4 ≤ y.start) spans s h.apart behind;
  marked = λ place is. Contains-append_left spans (s ∷ []) (span_at arena place) (h.marked place is);
  few = h.few;
}

-- the word is written with which a clause begins that lies there
pub laid-begin : (arena : List ℕ) (spans : List ClauseRange) (i : ℕ) → Contains spans (span_at arena i) → ((place : ℕ) → get_or arena place 0 ≡ head_word → place + 1 ≡ i → ⊥)
    → AreLaid arena spans → AreLaid (set arena i head_word) spans
laid-begin arena spans i there apart h =
    let P : ℕ → Type 0 = λ size. All (IsWithin size) spans in
    let new = set arena i head_word in
    record {
      within = subst P (sym (length-set arena i head_word)) h.within;
      apart = h.apart;
      marked = λ place is. elim (cases_eq place i) [
        | inl same ↦
            let next : place + 1 ≢ i = λ e. let bad : ⊥ = omega (arith, same, e) in bad in
            subst (Contains spans) (sym (span_at-same arena new place (get_or-set_other arena i (place + 1) head_word 0 next)))
            (subst (λ n. Contains spans (span_at arena n)) (sym same) there)
        | inr other ↦
            let old : get_or arena place 0 ≡ head_word = sym (get_or-set_other arena i place head_word 0 other) ∙ is in
            subst (Contains spans) (sym (span_at-same arena new place (get_or-set_other arena i (place + 1) head_word 0 (apart place old)))) (h.marked place old)
      ];
      few = omega (arith, length-set arena i head_word, h.few);
    }

-- between a place and itself there is nothing
pub clause_at-nothing : (arena : List ℕ) (start : ℕ) → clause_at arena (record { start = start; «end» = start }) ≡ []
clause_at-nothing arena start =
    let none : start - start ≡ 0 = omega arith in
    ap (λ n. take n (drop start arena)) none

-- ---- words of a clause that begins at a place

module _ (arena : List ℕ) (spans : List ClauseRange) (place : ℕ) (h : AreLaid arena spans) (begun : get_or arena place 0 ≡ head_word) where
  -- it watches another literal
  pub laid-watch : (first : ℕ) → (first ≡ head_word → ⊥) → AreLaid (set arena (place + 2) first) spans
  laid-watch first other =
      laid-set arena spans (place + 2) first other
      (λ p is same. begun-alone arena spans place h begun (let e : p ≡ place + 1 = omega (arith, same) in subst (λ n. get_or arena n 0 ≡ head_word) e is)) h

  -- what it watches changes no clause
  pub clauses_in-watch : (first second : ℕ) → (first ≡ head_word → ⊥)
      → clauses_in (set (set arena (place + 2) first) (place + 3) second) spans ≡ clauses_in arena spans
  clauses_in-watch first second other =
      let (k, inside, same) = h.marked place begun in
      let s = span_at arena place in
      let starts : (get_or spans k s).start ≡ place + 4 = ap (λ t. t.start) same in
      clauses_in-head (set arena (place + 2) first) spans k (place + 3) second s (laid-watch first other) inside (omega (arith, starts)) (omega (arith, starts))
      ∙ clauses_in-head arena spans k (place + 2) first s h inside (omega (arith, starts)) (omega (arith, starts))

-- ---- a new clause

no-head-four : (e first second : ℕ) → (e ≡ head_word → ⊥) → (first ≡ head_word → ⊥) → (second ≡ head_word → ⊥) → HasNoHead (0 ∷ e ∷ first ∷ second ∷ [])
no-head-four e first second p q r zero is = omega arith
no-head-four e first second p q r (suc zero) is = p is
no-head-four e first second p q r (suc (suc zero)) is = q is
no-head-four e first second p q r (suc (suc (suc zero))) is = r is
no-head-four e first second p q r (suc (suc (suc (suc n)))) is = omega arith

module _ (arena more : List ℕ) (spans : List ClauseRange) (e first second : ℕ) (h : AreLaid arena spans) (long : e ≡ length arena + 4 + length more) (few : e < head_word)
    (one : first ≡ head_word → ⊥) (two : second ≡ head_word → ⊥) (none : HasNoHead more) where
  abbrev four : List ℕ
  four = 0 ∷ e ∷ first ∷ second ∷ []

  abbrev span : ClauseRange
  span = record { start = length arena + 4; «end» = e }

  size : length (arena ++ four) ≡ length arena + 4
  size = length-append arena four

  whole : length (arena ++ four ++ more) ≡ e
  whole = length-append (arena ++ four) more ∙ ap (λ n. n + length more) size ∙ sym long

  laid-head : AreLaid (arena ++ four) spans
  laid-head = laid-append arena four spans (no-head-four e first second (λ same. let bad : ⊥ = omega (arith, few, same) in bad) one two) (omega (arith, size, long, few)) h

  pub laid-words : AreLaid (arena ++ four ++ more) spans
  laid-words = laid-append (arena ++ four) more spans none (omega (arith, whole, few)) laid-head

  laid-span : AreLaid (arena ++ four ++ more) (spans ++ span ∷ [])
  laid-span = laid-push (arena ++ four ++ more) spans span laid-words
      (record { headed = omega arith; ordered = omega (arith, long); bounded = omega (arith, whole) })
      (λ k d here. let bounded = (h.within k d here).bounded in omega (arith, bounded))

  ends : get_or (arena ++ four ++ more) (length arena + 1) 0 ≡ e
  ends = get_or_append_left (arena ++ four) more 0 (length arena + 1) (omega (arith, size)) ∙ get_or-append-add arena four 1 0

  there : Contains (spans ++ span ∷ []) (span_at (arena ++ four ++ more) (length arena))
  there = subst (λ n. Contains (spans ++ span ∷ []) (record { start = length arena + 4; «end» = n })) (sym ends) (Contains-push spans span)

  -- its first word is written
  pub laid-new : AreLaid (set (arena ++ four ++ more) (length arena) head_word) (spans ++ span ∷ [])
  laid-new = laid-begin (arena ++ four ++ more) (spans ++ span ∷ []) (length arena) there
      (λ place is next.
      let inside : place < length arena = omega (arith, next) in
      let old : get_or arena place 0 ≡ head_word =
      sym (get_or_append_left (arena ++ four) more 0 place (omega (arith, size, inside)) ∙ get_or_append_left arena four 0 place inside) ∙ is in
      let ordered = (begun-within arena spans place h old).ordered in
      let bounded = (begun-within arena spans place h old).bounded in
      omega (arith, ordered, bounded, next)) laid-span

  pub clauses_in-words : clauses_in (arena ++ four ++ more) spans ≡ clauses_in arena spans
  clauses_in-words = clauses_in-append (arena ++ four) more spans laid-head.within ∙ clauses_in-append arena four spans h.within

  pub clauses_in-new : clauses_in (set (arena ++ four ++ more) (length arena) head_word) (spans ++ span ∷ []) ≡ clauses_in arena spans ++ more ∷ []
  clauses_in-new =
      let (k, inside, same) = Contains-push spans span in
      let starts : (get_or (spans ++ span ∷ []) k span).start ≡ length arena + 4 = ap (λ t. t.start) same in
      clauses_in-head (arena ++ four ++ more) (spans ++ span ∷ []) k (length arena) head_word span laid-span inside (omega (arith, starts)) (omega (arith, starts))
      ∙ clauses_in-push (arena ++ four) more spans span laid-head.within (sym size) (long ∙ ap (λ n. n + length more) (sym size))
      ∙ ap (λ xs. xs ++ more ∷ []) (clauses_in-append arena four spans h.within)

-- ---- a clause that is no longer kept

module _ (arena : List ℕ) (spans : List ClauseRange) (n from : ℕ) (d : ClauseRange) (h : AreLaid arena spans) (inside : n < length spans) (is : from ≡ (get_or spans n d).start) where
  -- where it starts, with nothing in it
  abbrev none : ClauseRange
  none = record { start = from; «end» = from }

  abbrev forgotten : List ℕ
  forgotten = set arena (from - 3) from

  headed : 4 ≤ from
  headed = let low = (h.within n d inside).headed in omega (arith, low, is)

  room : from ≤ length arena
  room = let ordered = (h.within n d inside).ordered in let bounded = (h.within n d inside).bounded in omega (arith, ordered, bounded, is)

  no_head : from ≡ head_word → ⊥
  no_head same = let few : length arena < head_word = h.few in omega (arith, room, few, same)

  within : All (IsWithin (length forgotten)) (set spans n none)
  within = subst (λ size. All (IsWithin size) (set spans n none)) (sym (length-set arena (from - 3) from))
      (All-set (IsWithin (length arena)) spans n none (record { headed = headed; ordered = omega arith; bounded = room }) h.within)

  at : (k : ℕ) (e : ClauseRange) → k < length spans → (k ≡ n → ⊥) → get_or (set spans n none) k e ≡ get_or spans k e
  at k e here other = get_or-set_other spans n k none e other

  -- it starts where it did, and ends no later
  same_start : (k : ℕ) (e : ClauseRange) → k < length spans → (get_or (set spans n none) k e).start ≡ (get_or spans k e).start
  same_start k e here = elim (cases_eq k n) [
    | inl same ↦
        ap (λ t. t.start) (get_or-set_at spans n k none e same inside) ∙ is
        ∙ ap (λ t. t.start) (get_or_default spans n d e inside) ∙ ap (λ m. (get_or spans m e).start) (sym same)
    | inr other ↦ ap (λ t. t.start) (at k e here other)
  ]

  less_end : (k : ℕ) (e : ClauseRange) → k < length spans → (get_or (set spans n none) k e).«end» ≤ (get_or spans k e).«end»
  less_end k e here = elim (cases_eq k n) [
    | inl same ↦
        let ends : (get_or (set spans n none) k e).«end» ≡ from = ap (λ t. t.«end») (get_or-set_at spans n k none e same inside) in
        let starts : (get_or spans k e).start ≡ from = sym (same_start k e here) ∙ ap (λ t. t.start) (get_or-set_at spans n k none e same inside) in
        let ordered = (h.within k e here).ordered in
        omega (arith, ends, starts, ordered)
    | inr other ↦
        let ends : (get_or (set spans n none) k e).«end» ≡ (get_or spans k e).«end» = ap (λ t. t.«end») (at k e here other) in
        omega (arith, ends)
  ]

  apart : AllPairs (λ s t. s.«end» + 4 ≤ t.start) (set spans n none)
  apart i j e less low =
      let here : j < length spans = omega (arith, low, length-set spans n none) in
      let before : i < length spans = omega (arith, less, here) in
      let gap = h.apart i j e less here in
      omega (arith, gap, same_start j e here, less_end i e before)

  marked : (place : ℕ) → get_or forgotten place 0 ≡ head_word → Contains (set spans n none) (span_at forgotten place)
  marked place head =
      let old : get_or arena place 0 ≡ head_word = get-set arena (from - 3) from place no_head head in
      elim (cases_eq place (from - 4)) [
        | inl same ↦
            let start : from ≡ place + 4 = omega (arith, same, headed) in
            let next : place + 1 ≡ from - 3 = omega (arith, same, headed) in
            let last : from ≡ get_or forgotten (place + 1) 0 = sym (get_or-set_at arena (from - 3) (place + 1) from 0 next (omega (arith, room, headed))) in
            let one : Contains (set spans n none) none = (n, omega (arith, inside, length-set spans n none), get_or-set_same spans n none none inside) in
            subst (Contains (set spans n none)) (λ i. record { start = start i; «end» = last i }) one
        | inr other ↦
            let (k, low, found) = h.marked place old in
            let starts : (get_or spans k (span_at arena place)).start ≡ place + 4 = ap (λ t. t.start) found in
            let mine : (get_or spans n (span_at arena place)).start ≡ from = ap (λ t. t.start) (get_or_default spans n (span_at arena place) d inside) ∙ sym is in
            let apart_of : k ≡ n → ⊥ = λ same. other (let e : place + 4 ≡ from = sym starts ∙ ap (λ m. (get_or spans m (span_at arena place)).start) same ∙ mine in omega (arith, e)) in
            let next : place + 1 ≢ from - 3 = λ e. other (omega (arith, e, headed)) in
            subst (Contains (set spans n none)) (sym (span_at-same arena forgotten place (get_or-set_other arena (from - 3) (place + 1) from 0 next)))
            (k, omega (arith, low, length-set spans n none), get_or-set_other spans n k none (span_at arena place) apart_of ∙ found)
      ]

  pub laid-forget : AreLaid forgotten (set spans n none)
  laid-forget = record { within = within; apart = apart; marked = marked; few = omega (arith, length-set arena (from - 3) from, h.few) }

  pub clauses_in-forget : clauses_in forgotten (set spans n none) ≡ set (clauses_in arena spans) n []
  clauses_in-forget =
      map-set (clause_at forgotten) spans n none
      ∙ ap (λ x. set (clauses_in forgotten spans) n x) (clause_at-nothing forgotten from)
      ∙ ap (λ xs. set xs n []) (clauses_in-head arena spans n (from - 3) from d h inside (omega (arith, is, headed)) (omega (arith, is, headed)))
