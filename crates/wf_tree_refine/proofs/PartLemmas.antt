-- The parts of a list of tuples.
use Rattle.std.proofs.Common.{◌≡◌, ℕ, zero, suc, ◌<◌, Bool, true, false, not, List, [], ◌∷◌, cond, filter, flat_map, get_or, length, ◌⊎◌, inl, inr, refl, sym, ap, ◌∙◌, subst, arith}
use Rattle.std.specs.List.{list_any}
use Rattle.std.proofs.lemmas.Bool.{cases_Bool, both_ways, cond-true, cond-false, false≢true, not-true, not_from_false}
use Rattle.wf_model.specs.Task.{Tuple}
use Rattle.wf_simplex.proofs.Lemmas.{Has, filter-has, flat_map-has, has-filter, has-flat_map}
use Rattle.wf_tree_model.specs.Parts.{parts}
use Rattle.wf_tree_model.specs.Tuples.{has_tuple}
use Rattle.wf_tree_refine.specs.Near.{part_of}
use Rattle.wf_tree_refine.proofs.Membership.{Earlier, Once, any_has, has_any, has_tuple-has, has-has_tuple}

-- ---- parts have no tuple in common

abbrev pub Apart : List (List Tuple) → Type 0
Apart [] = Unit {0}
Apart (p ∷ ps) = ((q : List Tuple) → Has q ps → (a : Tuple) → Has a p → Has a q → ⊥) × Apart ps

apart_kept : (f : List Tuple → Bool) (ps : List (List Tuple)) → Apart ps → Apart (filter f ps)
apart_kept f [] h = tt
apart_kept f (p ∷ ps) h = by (apart_kept f ps h.1) (f p)
  where
    by : Apart (filter f ps) → (b : Bool) → Apart (cond b (p ∷ filter f ps) (filter f ps))
    by rest true = (λ q has a ap aq. h.0 q (has-filter f q ps has).0 a ap aq, rest)
    by rest false = rest

one_part : (ps : List (List Tuple)) (p q : List Tuple) (a : Tuple) → Apart ps → Has p ps → Has q ps → Has a p → Has a q → p ≡ q
one_part [] p q a h hp hq ap aq = absurd hp
one_part (r ∷ ps) p q a h (inl e) (inl d) ap aq = sym e ∙ d
one_part (r ∷ ps) p q a h (inl e) (inr d) ap aq = absurd (h.0 q d a (subst (Has a) (sym e) ap) aq)
one_part (r ∷ ps) p q a h (inr e) (inl d) ap aq = absurd (h.0 p e a (subst (Has a) (sym d) aq) ap)
one_part (r ∷ ps) p q a h (inr e) (inr d) ap aq = one_part ps p q a h.1 e d ap aq

-- a tuple before it in each part before its own
abbrev pub Leads : List Tuple → Tuple → List (List Tuple) → Type 0
Leads xs t [] = Unit {0}
Leads xs t (p ∷ ps) = Has t p ⊎ (((a : Tuple) × Has a p × Earlier xs a t) × Leads xs t ps)

leads_kept : (f : List Tuple → Bool) (xs : List Tuple) (t : Tuple) (ps : List (List Tuple)) → ((p : List Tuple) → Has p ps → Has t p → f p ≡ true) → Leads xs t ps → Leads xs t (filter f ps)
leads_kept f xs t [] own h = tt
leads_kept f xs t (p ∷ ps) own h = by (leads_kept f xs t ps (λ q hq. own q (inr hq))) (f p) refl h
  where
    by : (Leads xs t ps → Leads xs t (filter f ps)) → (b : Bool) → f p ≡ b → Leads xs t (p ∷ ps) → Leads xs t (cond b (p ∷ filter f ps) (filter f ps))
    by rest true e (inl here) = inl here
    by rest true e (inr later) = inr (later.0, rest later.1)
    by rest false e (inl here) = absurd (false≢true (sym e ∙ own p (inl refl) here))
    by rest false e (inr later) = rest later.1

leads_more : (x : Tuple) (xs : List Tuple) (t : Tuple) (ps : List (List Tuple)) → Leads xs t ps → Leads (x ∷ xs) t ps
leads_more x xs t [] h = tt
leads_more x xs t (p ∷ ps) (inl here) = inl here
leads_more x xs t (p ∷ ps) (inr later) = inr ((later.0.0, later.0.1, inr later.0.2), leads_more x xs t ps later.1)

-- ---- what parts are

module _ (near : Tuple → Tuple → Bool) where
  in_joined : (x a : Tuple) (others : List (List Tuple)) → Has a (flat_map (λ part. part) (filter (list_any (near x)) others)) → (p : List Tuple) × Has p others × (list_any (near x) p ≡ true) × Has a p
  in_joined x a others h =
      let r = has-flat_map (λ part. part) a (filter (list_any (near x)) others) h in
      let s = has-filter (list_any (near x)) r.0 others r.1 in
      (r.0, s.0, s.1, r.2)

  joined_in : (x a : Tuple) (others : List (List Tuple)) (p : List Tuple) → Has p others → list_any (near x) p ≡ true → Has a p → Has a (flat_map (λ part. part) (filter (list_any (near x)) others))
  joined_in x a others p hp n ha = flat_map-has (λ part. part) a p (filter (list_any (near x)) others) (filter-has (list_any (near x)) p others hp n) ha

  in_rest : (x : Tuple) (others : List (List Tuple)) (p : List Tuple) → Has p (filter (λ part. not (list_any (near x) part)) others) → Has p others × (list_any (near x) p ≡ false)
  in_rest x others p h = let r = has-filter (λ part. not (list_any (near x) part)) p others h in (r.0, not-true (list_any (near x) p) r.1)

  rest_in : (x : Tuple) (others : List (List Tuple)) (p : List Tuple) → Has p others → list_any (near x) p ≡ false → Has p (filter (λ part. not (list_any (near x) part)) others)
  rest_in x others p hp n = filter-has (λ part. not (list_any (near x) part)) p others hp (not_from_false (list_any (near x) p) n)

  -- parts have tuples of the list
  pub inside : (xs : List Tuple) (p : List Tuple) (a : Tuple) → Has p (parts near xs) → Has a p → Has a xs
  inside [] p a hp ha = absurd hp
  inside (x ∷ xs) p a (inl e) ha = elim (subst (Has a) (sym e) ha) [
    | inl is ↦ inl is
    | inr h ↦ (let r = in_joined x a (parts near xs) h in inr (inside xs r.0 a r.1 r.3))
  ]
  inside (x ∷ xs) p a (inr h) ha = inr (inside xs p a (in_rest x (parts near xs) p h).0 ha)

  -- each tuple is in a part
  pub covered : (xs : List Tuple) (a : Tuple) → Has a xs → (p : List Tuple) × Has p (parts near xs) × Has a p
  covered [] a h = absurd h
  covered (x ∷ xs) a (inl e) = (_, inl refl, inl e)
  covered (x ∷ xs) a (inr h) =
      let r = covered xs a h in
      elim (cases_Bool (list_any (near x) r.0)) [
        | inl n ↦ (_, inl refl, inr (joined_in x a (parts near xs) r.0 r.1 n r.2))
        | inr n ↦ (r.0, inr (rest_in x (parts near xs) r.0 r.1 n), r.2)
      ]

  pub apart : (xs : List Tuple) → Once xs → Apart (parts near xs)
  apart [] once = tt
  apart (x ∷ xs) once =
      let others = apart xs once.1 in (
        λ q hq a hp ha.
            let r = in_rest x (parts near xs) q hq in
            elim hp [
              | inl e ↦ once.0 (inside xs q x r.0 (subst (λ t. Has t q) (sym e) ha))
              | inr h ↦ (let s = in_joined x a (parts near xs) h in
                  both_ways (list_any (near x) q) r.1 (subst (λ p. list_any (near x) p ≡ true) (one_part (parts near xs) s.0 q a others s.1 r.0 s.3 ha) s.2))
            ],
        apart_kept (λ part. not (list_any (near x) part)) (parts near xs) others,
      )

  -- near tuples are in the same parts
  pub closed : ((a b : Tuple) → near a b ≡ true → near b a ≡ true) → (xs : List Tuple) (p : List Tuple) (a b : Tuple) → Has p (parts near xs) → Has a p → Has b xs → near a b ≡ true → Has b p
  closed turn [] p a b hp ha hb n = absurd hp
  closed turn (x ∷ xs) p a b (inl e) ha hb n = subst (Has b) e (elim hb [
    | inl is ↦ inl is
    | inr later ↦ inr (elim (subst (Has a) (sym e) ha) [
      | inl is ↦ (let r = covered xs b later in joined_in x b (parts near xs) r.0 r.1 (has_any (near x) b r.0 r.2 (ap (λ t. near t b) is ∙ n)) r.2)
      | inr h ↦ (let r = in_joined x a (parts near xs) h in joined_in x b (parts near xs) r.0 r.1 r.2 (closed turn xs r.0 a b r.1 r.3 later n))
    ])
  ])
  closed turn (x ∷ xs) p a b (inr h) ha (inl is) n =
      let r = in_rest x (parts near xs) p h in
      absurd (both_ways (list_any (near x) p) r.1 (has_any (near x) a p ha (ap (λ t. near t a) is ∙ turn a b n)))
  closed turn (x ∷ xs) p a b (inr h) ha (inr later) n = closed turn xs p a b (in_rest x (parts near xs) p h).0 ha later n

  -- the tuples of a part are joined: what is the same for near tuples is the same for them
  pub held : (f : Tuple → ℕ) (xs : List Tuple) → ((a b : Tuple) → Has a xs → Has b xs → near a b ≡ true → f a ≡ f b) → (p : List Tuple) (a b : Tuple) → Has p (parts near xs) → Has a p → Has b p → f a ≡ f b
  held f [] even p a b hp ha hb = absurd hp
  held f (x ∷ xs) even p a b (inl e) ha hb =
      let before = held f xs (λ c d hc hd n. even c d (inr hc) (inr hd) n) in
      to_first before a (subst (Has a) (sym e) ha) ∙ sym (to_first before b (subst (Has b) (sym e) hb))
    where
      to_first : ((q : List Tuple) (c d : Tuple) → Has q (parts near xs) → Has c q → Has d q → f c ≡ f d) → (t : Tuple) → Has t (x ∷ flat_map (λ part. part) (filter (list_any (near x)) (parts near xs))) → f t ≡ f x
      to_first before t (inl is) = ap f (sym is)
      to_first before t (inr h) =
          let r = in_joined x t (parts near xs) h in
          let y = any_has (near x) r.0 r.2 in
          before r.0 t y.0 r.1 r.3 y.1 ∙ sym (even x y.0 (inl refl) (inr (inside xs r.0 y.0 r.1 y.1)) y.2)
  held f (x ∷ xs) even p a b (inr h) ha hb = held f xs (λ c d hc hd n. even c d (inr hc) (inr hd) n) p a b (in_rest x (parts near xs) p h).0 ha hb

  -- before each tuple stands one of each part before its own
  pub leads : (xs : List Tuple) → Once xs → (t : Tuple) → Has t xs → Leads xs t (parts near xs)
  leads [] once t h = absurd h
  leads (x ∷ xs) once t (inl e) = inl (inl e)
  leads (x ∷ xs) once t (inr h) =
      let r = covered xs t h in
      elim (cases_Bool (list_any (near x) r.0)) [
        | inl n ↦ inl (inr (joined_in x t (parts near xs) r.0 r.1 n r.2))
        | inr n ↦ inr (
          (x, inl refl, inl (refl, h)),
          leads_more x xs t (filter (λ part. not (list_any (near x) part)) (parts near xs))
              (leads_kept (λ part. not (list_any (near x) part)) xs t (parts near xs)
              (λ p hp ht. not_from_false (list_any (near x) p) (subst (λ q. list_any (near x) q ≡ false) (one_part (parts near xs) r.0 p t (apart xs once.1) r.1 hp r.2 ht) n))
              (leads xs once.1 t h)),
        )
      ]

-- ---- the numbers of parts

-- tuples of the same parts have one number
pub same_number : (ps : List (List Tuple)) (a b : Tuple) → ((p : List Tuple) → Has p ps → Has a p → Has b p) → ((p : List Tuple) → Has p ps → Has b p → Has a p) → part_of ps a ≡ part_of ps b
same_number [] a b f g = refl
same_number (p ∷ ps) a b f g =
    let rest = same_number ps a b (λ q h. f q (inr h)) (λ q h. g q (inr h)) in
    elim (cases_Bool (has_tuple p a)) [
      | inl e ↦ cond-true (has_tuple p a) 0 (suc (part_of ps a)) e ∙ sym (cond-true (has_tuple p b) 0 (suc (part_of ps b)) (has-has_tuple p b (f p (inl refl) (has_tuple-has p a e))))
      | inr e ↦ elim (cases_Bool (has_tuple p b)) [
        | inl d ↦ absurd (both_ways (has_tuple p a) e (has-has_tuple p a (g p (inl refl) (has_tuple-has p b d))))
        | inr d ↦ cond-false (has_tuple p a) 0 (suc (part_of ps a)) e ∙ ap suc rest ∙ sym (cond-false (has_tuple p b) 0 (suc (part_of ps b)) d)
      ]
    ]

-- tuples of one number are in one part
pub shared : (ps : List (List Tuple)) (a b : Tuple) → ((p : List Tuple) × Has p ps × Has a p) → ((p : List Tuple) × Has p ps × Has b p) → part_of ps a ≡ part_of ps b → (p : List Tuple) × Has p ps × Has a p × Has b p
shared [] a b ha hb e = absurd ha.1
shared (p ∷ ps) a b ha hb e =
    elim (cases_Bool (has_tuple p a)) [
      | inl is ↦ elim (cases_Bool (has_tuple p b)) [
        | inl js ↦ (p, inl refl, has_tuple-has p a is, has_tuple-has p b js)
        | inr js ↦ (let bad : 0 ≡ suc (part_of ps b) = sym (cond-true (has_tuple p a) 0 (suc (part_of ps a)) is) ∙ e ∙ cond-false (has_tuple p b) 0 (suc (part_of ps b)) js in absurd (let none : ⊥ = omega (arith, bad) in none))
      ]
      | inr is ↦ elim (cases_Bool (has_tuple p b)) [
        | inl js ↦ (let bad : suc (part_of ps a) ≡ 0 = sym (cond-false (has_tuple p a) 0 (suc (part_of ps a)) is) ∙ e ∙ cond-true (has_tuple p b) 0 (suc (part_of ps b)) js in absurd (let none : ⊥ = omega (arith, bad) in none))
        | inr js ↦
            let less : part_of ps a ≡ part_of ps b = let s : suc (part_of ps a) ≡ suc (part_of ps b) = sym (cond-false (has_tuple p a) 0 (suc (part_of ps a)) is) ∙ e ∙ cond-false (has_tuple p b) 0 (suc (part_of ps b)) js in omega (arith, s) in
            let r = shared ps a b (deeper a is ha) (deeper b js hb) less in
            (r.0, inr r.1, r.2, r.3)
      ]
    ]
  where
    deeper : (t : Tuple) → has_tuple p t ≡ false → ((q : List Tuple) × Has q (p ∷ ps) × Has t q) → (q : List Tuple) × Has q ps × Has t q
    deeper t out h = elim h.1 [
      | inl is ↦ absurd (both_ways (has_tuple p t) out (has-has_tuple p t (subst (Has t) (sym is) h.2)))
      | inr later ↦ (h.0, later, h.2)
    ]

-- each number below that of a tuple is that of an earlier one
pub met_earlier : (xs : List Tuple) (ps : List (List Tuple)) (t : Tuple) (v : ℕ) → Apart ps → Leads xs t ps → v < part_of ps t → (a : Tuple) × ((q : List Tuple) × Has q ps × Has a q) × Earlier xs a t × (part_of ps a ≡ v)
met_earlier xs [] t v own h low = absurd (let bad : ⊥ = omega (arith, low) in bad)
met_earlier xs (p ∷ ps) t v own h low =
    elim (cases_Bool (has_tuple p t)) [
      | inl is ↦ (let e = cond-true (has_tuple p t) 0 (suc (part_of ps t)) is in absurd (let bad : ⊥ = omega (arith, low, e) in bad))
      | inr is ↦ elim h [
        | inl here ↦ absurd (both_ways (has_tuple p t) is (has-has_tuple p t here))
        | inr later ↦ by (λ n ls small. met_earlier xs ps t n own.1 ls small) v (subst (λ n. v < n) (cond-false (has_tuple p t) 0 (suc (part_of ps t)) is) low) later
      ]
    ]
  where
    by : ((n : ℕ) → Leads xs t ps → n < part_of ps t → (a : Tuple) × ((q : List Tuple) × Has q ps × Has a q) × Earlier xs a t × (part_of ps a ≡ n)) → (n : ℕ) → n < suc (part_of ps t) → ((a : Tuple) × Has a p × Earlier xs a t) × Leads xs t ps → (a : Tuple) × ((q : List Tuple) × Has q (p ∷ ps) × Has a q) × Earlier xs a t × (part_of (p ∷ ps) a ≡ n)
    by before zero small later = (later.0.0, (p, inl refl, later.0.1), later.0.2, cond-true (has_tuple p later.0.0) 0 (suc (part_of ps later.0.0)) (has-has_tuple p later.0.0 later.0.1))
    by before (suc n) small later =
        let r = before n later.1 (omega (arith, small)) in
        let away : has_tuple p r.0 ≡ false = elim (cases_Bool (has_tuple p r.0)) [
          | inl here ↦ absurd (own.0 r.1.0 r.1.1 r.0 (has_tuple-has p r.0 here) r.1.2)
          | inr is ↦ is
        ] in
        (r.0, (r.1.0, inr r.1.1, r.1.2), r.2, cond-false (has_tuple p r.0) 0 (suc (part_of ps r.0)) away ∙ ap suc r.3)

-- ---- parts by their numbers

pub part_place : (ps : List (List Tuple)) (t : Tuple) → ((q : List Tuple) × Has q ps × Has t q) → (part_of ps t < length ps) × Has t (get_or ps (part_of ps t) [])
part_place [] t h = absurd h.1
part_place (p ∷ ps) t h =
    elim (cases_Bool (has_tuple p t)) [
      | inl is ↦ subst (λ k. (k < suc (length ps)) × Has t (get_or (p ∷ ps) k [])) (sym (cond-true (has_tuple p t) 0 (suc (part_of ps t)) is)) (omega arith, has_tuple-has p t is)
      | inr is ↦
          let r = part_place ps t (elim h.1 [
            | inl e ↦ absurd (both_ways (has_tuple p t) is (has-has_tuple p t (subst (Has t) (sym e) h.2)))
            | inr later ↦ (h.0, later, h.2)
          ]) in
          subst (λ k. (k < suc (length ps)) × Has t (get_or (p ∷ ps) k [])) (sym (cond-false (has_tuple p t) 0 (suc (part_of ps t)) is)) (let low = r.0 in omega (arith, low), r.1)
    ]

pub part_met : (ps : List (List Tuple)) (k : ℕ) → Apart ps → ((p : List Tuple) → Has p ps → (a : Tuple) × Has a p) → k < length ps → (t : Tuple) × ((q : List Tuple) × Has q ps × Has t q) × (part_of ps t ≡ k)
part_met [] k own some low = absurd (let bad : ⊥ = omega (arith, low) in bad)
part_met (p ∷ ps) zero own some low =
    let a = some p (inl refl) in
    (a.0, (p, inl refl, a.1), cond-true (has_tuple p a.0) 0 (suc (part_of ps a.0)) (has-has_tuple p a.0 a.1))
part_met (p ∷ ps) (suc k) own some low =
    let r = part_met ps k own.1 (λ q h. some q (inr h)) (omega (arith, low)) in
    let away : has_tuple p r.0 ≡ false = elim (cases_Bool (has_tuple p r.0)) [
      | inl here ↦ absurd (own.0 r.1.0 r.1.1 r.0 (has_tuple-has p r.0 here) r.1.2)
      | inr is ↦ is
    ] in
    (r.0, (r.1.0, inr r.1.1, r.1.2), cond-false (has_tuple p r.0) 0 (suc (part_of ps r.0)) away ∙ ap suc r.2)

-- no part is empty
pub some_tuple : (near : Tuple → Tuple → Bool) (xs : List Tuple) (p : List Tuple) → Has p (parts near xs) → (a : Tuple) × Has a p
some_tuple near [] p h = absurd h
some_tuple near (x ∷ xs) p (inl e) = (x, subst (Has x) e (inl refl))
some_tuple near (x ∷ xs) p (inr h) = some_tuple near xs p (in_rest near x (parts near xs) p h).0

pub has_place : (ps : List (List Tuple)) (k : ℕ) → k < length ps → Has (get_or ps k []) ps
has_place [] k low = absurd (let bad : ⊥ = omega (arith, low) in bad)
has_place (p ∷ ps) zero low = inl refl
has_place (p ∷ ps) (suc k) low = inr (has_place ps k (omega (arith, low)))

pub number_of : (ps : List (List Tuple)) (k : ℕ) (t : Tuple) → Apart ps → k < length ps → Has t (get_or ps k []) → part_of ps t ≡ k
number_of [] k t own low h = absurd (let bad : ⊥ = omega (arith, low) in bad)
number_of (p ∷ ps) zero t own low h = cond-true (has_tuple p t) 0 (suc (part_of ps t)) (has-has_tuple p t h)
number_of (p ∷ ps) (suc k) t own low h =
    let small : k < length ps = omega (arith, low) in
    let away : has_tuple p t ≡ false = elim (cases_Bool (has_tuple p t)) [
      | inl here ↦ absurd (own.0 (get_or ps k []) (has_place ps k small) t (has_tuple-has p t here) h)
      | inr is ↦ is
    ] in
    cond-false (has_tuple p t) 0 (suc (part_of ps t)) away ∙ ap suc (number_of ps k t own.1 small h)
