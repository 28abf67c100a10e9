-- Tuples joined one after the other with the first of their key.
use Rattle.std.proofs.Common.{◌≡◌, ℕ, ◌+◌, ◌==◌, ◌<◌, ◌≤◌, List, Option, None, Some, cond, unwrap_or, length, max, min, ◌⊎◌, inl, inr, refl, sym, ap, ◌∙◌, arith}
use Rattle.std.proofs.lemmas.Bool.{cases_eq, cases_lt, cond-true, cond-false, cond_both, eq-eqb, eqb-true, ne_eqb}
use Rattle.wf_tree_refine.specs.Forest.{merged}
use Rattle.wf_tree_refine.specs.Keys.{IsEvenAt, IsJoined, key_without, row_at}

abbrev pub key_at : ℕ → List (List ℕ) → ℕ → ℕ
key_at place rows i = key_without place 0 (row_at rows i)

-- the first of each key is kept in a map, and what has its key has its root
pub record IsJoining (place : ℕ) (rows : List (List ℕ)) (count : ℕ) (firsts : ℕ → Option ℕ) (old new : ℕ → ℕ) : Type 0 where
  pub first : (q j : ℕ) → firsts q ≡ Some j → (j < count) × (key_at place rows j ≡ q)
  pub met : (i : ℕ) → i < count → (j : ℕ) × (firsts (key_at place rows i) ≡ Some j) × (new j ≡ new i)
  pub kept : (i j : ℕ) → old i ≡ old j → new i ≡ new j
  pub only : (f : ℕ → ℕ) → IsEvenAt place rows f → ((i : ℕ) → i < length rows → f (old i) ≡ f i) → (i : ℕ) → i < length rows → f (new i) ≡ f i

same_some : (a b : ℕ) → Some a ≡ Some b → a ≡ b
same_some a b e = cc

pub none_joined : (place : ℕ) (rows : List (List ℕ)) (firsts : ℕ → Option ℕ) (old : ℕ → ℕ) → ((q : ℕ) → firsts q ≡ None) → IsJoining place rows 0 firsts old old
none_joined place rows firsts old empty = record {
  first = λ q j e. absurd (let bad : None ≡ Some j = sym (empty q) ∙ e in cc);
  met = λ i low. absurd (let bad : ⊥ = omega (arith, low) in bad);
  kept = λ i j e. e;
  only = λ f even h. h;
}

pub all_joined : (place : ℕ) (rows : List (List ℕ)) (count : ℕ) (firsts : ℕ → Option ℕ) (old new : ℕ → ℕ) → length rows ≤ count → IsJoining place rows count firsts old new → IsJoined place rows old new
all_joined place rows count firsts old new all g = record {
  even = λ i j li lj e.
      let a = g.met i (omega (arith, li, all)) in
      let b = g.met j (omega (arith, lj, all)) in
      let same : a.0 ≡ b.0 = same_some a.0 b.0 (sym a.1 ∙ ap firsts e ∙ b.1) in
      sym a.2 ∙ ap new same ∙ b.2;
  kept = g.kept;
  only = g.only;
}

-- ---- one more

two_equal : (a b : ℕ) → (max a b ≡ a) × (min a b ≡ b) ⊎ (max a b ≡ b) × (min a b ≡ a)
two_equal a b = elim (cases_lt a b) [ inl e ↦ inr (omega (arith, e), omega (arith, e)) | inr e ↦ inl (omega (arith, e), omega (arith, e)) ]

instead : ℕ → ℕ → ℕ → ℕ
instead a b n = cond (n == max a b) (min a b) n

instead_both : (a b : ℕ) → instead a b a ≡ instead a b b
unfolding instead
instead_both a b = elim (two_equal a b) [
  | inl e ↦ cond-true (a == max a b) (min a b) a (eq-eqb a (max a b) (sym e.0)) ∙ e.1 ∙ sym (cond_both (b == max a b) (min a b) b (λ n. n ≡ b) (λ h. e.1) (λ h. refl))
  | inr e ↦ cond_both (a == max a b) (min a b) a (λ n. n ≡ a) (λ h. e.1) (λ h. refl) ∙ sym e.1 ∙ sym (cond-true (b == max a b) (min a b) b (eq-eqb b (max a b) (sym e.0)))
]

-- what does not tell apart two numbers does not tell apart what stands for one
instead_even : (f : ℕ → ℕ) (a b n : ℕ) → f a ≡ f b → f (instead a b n) ≡ f n
unfolding instead
instead_even f a b n e =
    cond_both (n == max a b) (min a b) n (λ m. f m ≡ f n)
    (λ h. let is = eqb-true n (max a b) h in elim (two_equal a b) [
      | inl o ↦ ap f o.1 ∙ sym e ∙ ap f (sym o.0) ∙ ap f (sym is)
      | inr o ↦ ap f o.1 ∙ e ∙ ap f (sym o.0) ∙ ap f (sym is)
    ])
    (λ h. refl)

pub one_joined : (place : ℕ) (rows : List (List ℕ)) (i next key first : ℕ) (before after : ℕ → Option ℕ) (old new : ℕ → ℕ) → next ≡ i + 1 → i < length rows → key ≡ key_at place rows i → first ≡ unwrap_or (before key) i
    → ((q : ℕ) → after q ≡ cond (key == q) (Some first) (before q)) → IsJoining place rows i before old new → IsJoining place rows next after old (merged new (new first) (new i))
unfolding instead
one_joined place rows i next key first before after old new step inside here is put g =
    let found = at_first (before key) refl in
    record {
      first = λ q j e. elim (cases_eq key q) [
        | inl same ↦ let at : first ≡ j = same_some first j (sym (cond-true (key == q) (Some first) (before q) (eq-eqb key q same)) ∙ sym (put q) ∙ e) in
            (let low = found.0 in omega (arith, low, at, step), ap (key_at place rows) (sym at) ∙ found.1 ∙ same)
        | inr apart ↦ let r = g.first q j (sym (cond-false (key == q) (Some first) (before q) (ne_eqb key q apart)) ∙ sym (put q) ∙ e) in
            (let low = r.0 in omega (arith, low, step), r.1)
      ];
      met = λ j low. elim (cases_eq key (key_at place rows j)) [
        | inl same ↦ (first, put (key_at place rows j) ∙ cond-true (key == key_at place rows j) (Some first) (before (key_at place rows j)) (eq-eqb key (key_at place rows j) same), both ∙ last j low same)
        | inr apart ↦
            let ne : j ≡ i → ⊥ = λ e. apart (here ∙ ap (key_at place rows) (sym e)) in
            let r = g.met j (omega (arith, low, step, ne)) in
            (r.0, put (key_at place rows j) ∙ cond-false (key == key_at place rows j) (Some first) (before (key_at place rows j)) (ne_eqb key (key_at place rows j) apart) ∙ r.1, ap (instead (new first) (new i)) r.2)
      ];
      kept = λ j k e. ap (instead (new first) (new i)) (g.kept j k e);
      only = λ f even h j low.
          let one : f (new first) ≡ f first = g.only f even h first (let l = found.0 in omega (arith, l, inside)) in
          let two : f (new i) ≡ f i = g.only f even h i inside in
          let same : f first ≡ f i = even first i (let l = found.0 in omega (arith, l, inside)) inside (found.1 ∙ here) in
          instead_even f (new first) (new i) (new j) (one ∙ same ∙ sym two) ∙ g.only f even h j low;
    }
  where
    at_first : (o : Option ℕ) → before key ≡ o → (first < i + 1) × (key_at place rows first ≡ key)
    at_first None e = let at : first ≡ i = is ∙ ap (λ o. unwrap_or o i) e in (omega (arith, at), ap (key_at place rows) at ∙ sym here)
    at_first (Some j) e = let at : first ≡ j = is ∙ ap (λ o. unwrap_or o i) e in let r = g.first key j e in (let low = r.0 in omega (arith, low, at), ap (key_at place rows) at ∙ r.1)

    both : merged new (new first) (new i) first ≡ merged new (new first) (new i) i
    both = instead_both (new first) (new i)

    last : (j : ℕ) → j < next → key ≡ key_at place rows j → merged new (new first) (new i) i ≡ merged new (new first) (new i) j
    last j low same = elim (cases_eq j i) [
      | inl e ↦ ap (merged new (new first) (new i)) (sym e)
      | inr ne ↦
          let r = g.met j (omega (arith, low, step, ne)) in
          let at : first ≡ r.0 = is ∙ ap (λ o. unwrap_or o i) (ap before same ∙ r.1) in
          sym both ∙ ap (instead (new first) (new i)) (ap new at ∙ r.2)
    ]

-- ---- numbers that came before

pub first_low : (o : Option ℕ) (i first : ℕ) → first ≡ unwrap_or o i → ((j : ℕ) → o ≡ Some j → j < i) → first < i + 1
first_low None i first e low = omega (arith, e)
first_low (Some j) i first e low = let l = low j refl in omega (arith, e, l)

pub later_low : (i next key first : ℕ) (before after : ℕ → Option ℕ) → next ≡ i + 1 → first ≡ unwrap_or (before key) i → ((q : ℕ) → after q ≡ cond (key == q) (Some first) (before q)) → ((q j : ℕ) → before q ≡ Some j → j < i) → (q j : ℕ) → after q ≡ Some j → j < next
later_low i next key first before after step is put low q j e = elim (cases_eq key q) [
  | inl same ↦ (let at : first ≡ j = same_some first j (sym (cond-true (key == q) (Some first) (before q) (eq-eqb key q same)) ∙ sym (put q) ∙ e) in let l = first_low (before key) i first is (low key) in omega (arith, l, at, step))
  | inr apart ↦ (let l = low q j (sym (cond-false (key == q) (Some first) (before q) (ne_eqb key q apart)) ∙ sym (put q) ∙ e) in omega (arith, l, step))
]
