-- Laws of clauses that lie one behind the other.
use Rattle.std.proofs.Common.{◌≡◌, ℕ, ◌+◌, ◌-◌, ◌<◌, ◌≤◌, zero, suc, List, [], ◌∷◌, ◌++◌, refl, sym, ◌∙◌, ap, subst, arith, length, take, drop, get_or, set, replicate, length-drop, length-append}
use Rattle.std.specs.Prelude.{None, Some}
use Rattle.std.specs.List.{CopiedTo, SameBelow, SameFrom, slice_range}
use Rattle.std.proofs.lemmas.List.{ext_get_or, get_or-drop, get_or-take, get_or_append_left, get_or_default, length-take-le, map-append}
use Rattle.wf_sat_check.specs.Lrat.Slots.{AreLaid, ArePacked, clause_of, codes_at, slot_at, slots_in}
use Rattle.wf_sat_check.proofs.OfLrat.SlotLemmas.{length-one, size-words, slot-words, slot_at-some, slots_in-nothing, with_place, with_words}

pub laid_range : (arena : List ℕ) (from : ℕ) (places : List ℕ) (to : ℕ) → AreLaid arena from places to → from ≤ to
laid_range arena from [] to h = h
laid_range arena from (zero ∷ ps) to h = laid_range arena from ps to h
laid_range arena from (suc at ∷ ps) to h =
    let first = h.0 in
    let rest : suc at + get_or arena at 0 ≤ to = laid_range arena (suc at + get_or arena at 0) ps to h.1 in
    omega (arith, first, rest)

pub laid_lower : (arena : List ℕ) (low from : ℕ) (places : List ℕ) (to : ℕ) → low ≤ from → AreLaid arena from places to → AreLaid arena low places to
laid_lower arena low from [] to below h = omega (arith, below, h)
laid_lower arena low from (zero ∷ ps) to below h = laid_lower arena low from ps to below h
laid_lower arena low from (suc at ∷ ps) to below h = let first = h.0 in (omega (arith, below, first), h.1)

pub laid_higher : (arena : List ℕ) (from : ℕ) (places : List ℕ) (to high : ℕ) → to ≤ high → AreLaid arena from places to → AreLaid arena from places high
laid_higher arena from [] to high above h = omega (arith, above, h)
laid_higher arena from (zero ∷ ps) to high above h = laid_higher arena from ps to high above h
laid_higher arena from (suc at ∷ ps) to high above h = (h.0, laid_higher arena (suc at + get_or arena at 0) ps to high above h.1)

pub laid-packed : (arena : List ℕ) (from : ℕ) (places : List ℕ) (to : ℕ) → ArePacked arena from places to → AreLaid arena from places to
laid-packed arena from [] to h = omega (arith, h)
laid-packed arena from (zero ∷ ps) to h = laid-packed arena from ps to h
laid-packed arena from (suc at ∷ ps) to h = let first = h.0 in (omega (arith, first), laid-packed arena (suc at + get_or arena at 0) ps to h.1)

pub laid-append : (arena : List ℕ) (from : ℕ) (xs : List ℕ) (mid : ℕ) (ys : List ℕ) (to : ℕ) → AreLaid arena from xs mid → AreLaid arena mid ys to → AreLaid arena from (xs ++ ys) to
laid-append arena from [] mid ys to h more = laid_lower arena from mid ys to h more
laid-append arena from (zero ∷ ps) mid ys to h more = laid-append arena from ps mid ys to h more
laid-append arena from (suc at ∷ ps) mid ys to h more = (h.0, laid-append arena (suc at + get_or arena at 0) ps mid ys to h.1 more)

pub packed-append : (arena : List ℕ) (from : ℕ) (xs : List ℕ) (mid : ℕ) (ys : List ℕ) (to : ℕ) → ArePacked arena from xs mid → ArePacked arena mid ys to → ArePacked arena from (xs ++ ys) to
packed-append arena from [] mid ys to h more = subst (λ n. ArePacked arena n ys to) (sym h) more
packed-append arena from (zero ∷ ps) mid ys to h more = packed-append arena from ps mid ys to h more
packed-append arena from (suc at ∷ ps) mid ys to h more = (h.0, packed-append arena (suc at + get_or arena at 0) ps mid ys to h.1 more)

-- a clause less
pub laid-set : (arena : List ℕ) (from : ℕ) (places : List ℕ) (to n : ℕ) → AreLaid arena from places to → AreLaid arena from (set places n 0) to
laid-set arena from [] to n h = h
laid-set arena from (zero ∷ ps) to zero h = h
laid-set arena from (suc at ∷ ps) to zero h = let first = h.0 in laid_lower arena from (suc at + get_or arena at 0) ps to (omega (arith, first)) h.1
laid-set arena from (zero ∷ ps) to (suc n) h = laid-set arena from ps to n h
laid-set arena from (suc at ∷ ps) to (suc n) h = (h.0, laid-set arena (suc at + get_or arena at 0) ps to n h.1)

-- ---- other words

-- from one word on and before another one they are the same
abbrev pub SameWords : List ℕ → List ℕ → ℕ → ℕ → Type 0
SameWords old new low high = (k : ℕ) → low ≤ k → k < high → get_or new k 0 ≡ get_or old k 0

pub laid-same : (old new : List ℕ) (from : ℕ) (places : List ℕ) (to : ℕ) → SameWords old new from to → AreLaid old from places to → AreLaid new from places to
laid-same old new from [] to same h = h
laid-same old new from (zero ∷ ps) to same h = laid-same old new from ps to same h
laid-same old new from (suc at ∷ ps) to same h =
    let first = h.0 in
    let past = suc at + get_or old at 0 in
    let within : past ≤ to = laid_range old past ps to h.1 in
    let size : get_or new at 0 ≡ get_or old at 0 = same at first (omega (arith, within)) in
    (first, subst (λ n. AreLaid new (suc at + n) ps to) (sym size) (laid-same old new past ps to (λ k low high. same k (omega (arith, low, first)) high) h.1))

pub packed-same : (old new : List ℕ) (from : ℕ) (places : List ℕ) (to : ℕ) → SameWords old new from to → ArePacked old from places to → ArePacked new from places to
packed-same old new from [] to same h = h
packed-same old new from (zero ∷ ps) to same h = packed-same old new from ps to same h
packed-same old new from (suc at ∷ ps) to same h =
    let first = h.0 in
    let past = suc at + get_or old at 0 in
    let within : past ≤ to = laid_range old past ps to (laid-packed old past ps to h.1) in
    let size : get_or new at 0 ≡ get_or old at 0 = same at (omega (arith, first)) (omega (arith, within)) in
    (first, subst (λ n. ArePacked new (suc at + n) ps to) (sym size) (packed-same old new past ps to (λ k low high. same k (omega (arith, low, first)) high) h.1))

codes_at-suc : (arena : List ℕ) (at : ℕ) → codes_at arena (suc at) ≡ take (get_or arena at 0) (drop (suc at) arena)
codes_at-suc arena at =
    let one : suc at - 1 ≡ at = omega arith in
    let span : (suc at + get_or arena at 0) - suc at ≡ get_or arena at 0 = omega arith in
    ap (λ n. slice_range arena (suc at) (suc at + get_or arena n 0)) one ∙ ap (λ n. take n (drop (suc at) arena)) span

-- the words of a clause stand elsewhere
module _ (old new : List ℕ) (at to : ℕ)
    (within : suc at + get_or old at 0 ≤ length old)
    (room : suc to + get_or old at 0 ≤ length new)
    (moved : (k : ℕ) → k ≤ get_or old at 0 → get_or new (to + k) 0 ≡ get_or old (at + k) 0) where
  size_moved : get_or new to 0 ≡ get_or old at 0
  size_moved =
      let here : to + 0 ≡ to = omega arith in
      let there : at + 0 ≡ at = omega arith in
      ap (λ n. get_or new n 0) (sym here) ∙ moved 0 (omega arith) ∙ ap (λ n. get_or old n 0) there

  literals_moved : take (get_or old at 0) (drop (suc to) new) ≡ take (get_or old at 0) (drop (suc at) old)
  literals_moved =
      let size = get_or old at 0 in
      let there : length (take size (drop (suc to) new)) ≡ size = length-take-le size (drop (suc to) new) (omega (arith, room, length-drop (suc to) new)) in
      let here : length (take size (drop (suc at) old)) ≡ size = length-take-le size (drop (suc at) old) (omega (arith, within, length-drop (suc at) old)) in
      ext_get_or 0 _ _ (there ∙ sym here) (λ i less.
      let inside : i < size = omega (arith, less, there) in
      let to_i : suc to + i ≡ to + suc i = omega arith in
      let at_i : at + suc i ≡ suc at + i = omega arith in
      get_or-take size (drop (suc to) new) i 0 inside ∙ get_or-drop (suc to) new i 0 ∙ ap (λ n. get_or new n 0) to_i
      ∙ moved (suc i) (omega (arith, inside)) ∙ ap (λ n. get_or old n 0) at_i ∙ sym (get_or-drop (suc at) old i 0) ∙ sym (get_or-take size (drop (suc at) old) i 0 inside))

  pub slot_moved : slot_at new (suc to) ≡ slot_at old (suc at)
  slot_moved =
      let one : 0 < suc to = omega arith in
      let other : 0 < suc at = omega arith in
      slot_at-some new (suc to) one
      ∙ ap (λ codes. Some (clause_of codes)) (codes_at-suc new to ∙ ap (λ n. take n (drop (suc to) new)) size_moved ∙ literals_moved ∙ sym (codes_at-suc old at))
      ∙ sym (slot_at-some old (suc at) other)

-- clauses whose words are the same
pub slots_in-same : (old new : List ℕ) (from : ℕ) (places : List ℕ) (to : ℕ) → to ≤ length old → to ≤ length new → SameWords old new from to → AreLaid old from places to
    → slots_in new places ≡ slots_in old places
slots_in-same old new from [] to within room same h = refl
slots_in-same old new from (zero ∷ ps) to within room same h = ap (λ slots. slot_at old zero ∷ slots) (slots_in-same old new from ps to within room same h)
slots_in-same old new from (suc at ∷ ps) to within room same h =
    let first = h.0 in
    let past = suc at + get_or old at 0 in
    let below : past ≤ to = laid_range old past ps to h.1 in
    ap (λ slot. slot ∷ slots_in new ps)
    (slot_moved old new at at (omega (arith, below, within)) (omega (arith, below, room)) (λ k less. same (at + k) (omega (arith, first)) (omega (arith, less, below))))
    ∙ ap (λ slots. slot_at old (suc at) ∷ slots)
    (slots_in-same old new past ps to within room (λ k low high. same k (omega (arith, low, first)) high) h.1)

-- ---- each clause lies in the list

within_list : (arena : List ℕ) (from : ℕ) (places : List ℕ) (to n : ℕ) → to ≤ length arena → AreLaid arena from places to → n < length places → 0 < get_or places n 0
    → get_or places n 0 + get_or arena (get_or places n 0 - 1) 0 ≤ length arena
within_list arena from [] to n within h less pos = absurd (let bad : ⊥ = omega (arith, less) in bad)
within_list arena from (zero ∷ ps) to zero within h less pos = absurd (let bad : ⊥ = omega (arith, pos) in bad)
within_list arena from (suc at ∷ ps) to zero within h less pos =
    let below : suc at + get_or arena at 0 ≤ to = laid_range arena (suc at + get_or arena at 0) ps to h.1 in
    let one : suc at - 1 ≡ at = omega arith in
    subst (λ n. suc at + get_or arena n 0 ≤ length arena) (sym one) (omega (arith, below, within))
within_list arena from (zero ∷ ps) to (suc n) within h less pos = within_list arena from ps to n within h (omega (arith, less)) pos
within_list arena from (suc at ∷ ps) to (suc n) within h less pos = within_list arena (suc at + get_or arena at 0) ps to n within h.1 (omega (arith, less)) pos

-- the clause at one of these places lies in the list
pub place_within : (arena places : List ℕ) (n place : ℕ) → AreLaid arena 0 places (length arena) → n < length places → place ≡ get_or places n place → 0 < place
    → place + get_or arena (place - 1) 0 ≤ length arena
place_within arena places n place h less is pos =
    let read : place ≡ get_or places n 0 = is ∙ get_or_default places n place 0 less in
    subst (λ p. p + get_or arena (p - 1) 0 ≤ length arena) (sym read) (within_list arena 0 places (length arena) n (omega arith) h less (omega (arith, pos, read)))

-- ---- more words behind, and a clause more

same_append : (arena more : List ℕ) → SameWords arena (arena ++ more) 0 (length arena)
same_append arena more k low high = get_or_append_left arena more 0 k high

pub laid-words : (arena more places : List ℕ) → AreLaid arena 0 places (length arena) → AreLaid (arena ++ more) 0 places (length (arena ++ more))
laid-words arena more places h =
    laid_higher (arena ++ more) 0 places (length arena) (length (arena ++ more)) (omega (arith, length-append arena more))
    (laid-same arena (arena ++ more) 0 places (length arena) (same_append arena more) h)

-- the clauses before are the same
pub slots_in-append : (arena more places : List ℕ) → AreLaid arena 0 places (length arena) → slots_in (arena ++ more) places ≡ slots_in arena places
slots_in-append arena more places h =
    slots_in-same arena (arena ++ more) 0 places (length arena) (omega arith) (omega (arith, length-append arena more)) (same_append arena more) h

pub slots_in-words : (arena clause places : List ℕ) → AreLaid arena 0 places (length arena) → slots_in (with_words arena clause) places ≡ slots_in arena places
slots_in-words arena clause places h =
    slots_in-append (arena ++ length clause ∷ []) clause places (laid-words arena (length clause ∷ []) places h) ∙ slots_in-append arena (length clause ∷ []) places h

laid-nothing : (arena : List ℕ) (from gap : ℕ) → AreLaid arena from (replicate gap 0) from
laid-nothing arena from zero = omega arith
laid-nothing arena from (suc gap) = laid-nothing arena from gap

pub laid-put : (arena clause places : List ℕ) (gap place : ℕ) → place ≡ length arena + 1 → AreLaid arena 0 places (length arena)
    → AreLaid (with_words arena clause) 0 (with_place places gap place) (length (with_words arena clause))
laid-put arena clause places gap place is h =
    let words = with_words arena clause in
    let head = length arena in
    let next : length arena + 1 ≡ suc head = omega arith in
    let long : length words ≡ suc head + length clause = omega (arith, length-append (arena ++ length clause ∷ []) clause, length-one arena (length clause)) in
    let last : AreLaid words head (suc head ∷ []) (length words) = (omega arith, omega (arith, long, size-words arena clause)) in
    laid-append words 0 places head (replicate gap 0 ++ place ∷ []) (length words)
    (laid-same (arena ++ length clause ∷ []) words 0 places head
    (λ k low high. same_append (arena ++ length clause ∷ []) clause k low (omega (arith, high, length-one arena (length clause))))
    (laid-same arena (arena ++ length clause ∷ []) 0 places head (same_append arena (length clause ∷ [])) h))
    (laid-append words head (replicate gap 0) head (place ∷ []) (length words) (laid-nothing words head gap)
    (subst (λ n. AreLaid words head (n ∷ []) (length words)) (sym (is ∙ next)) last))

pub slots_in-put : (arena clause places : List ℕ) (gap place : ℕ) → place ≡ length arena + 1 → AreLaid arena 0 places (length arena)
    → slots_in (with_words arena clause) (with_place places gap place) ≡ slots_in arena places ++ (replicate gap None ++ Some (clause_of clause) ∷ [])
slots_in-put arena clause places gap place is h =
    let words = with_words arena clause in
    map-append (slot_at words) places (replicate gap 0 ++ place ∷ [])
    ∙ ap (λ xs. xs ++ slots_in words (replicate gap 0 ++ place ∷ [])) (slots_in-words arena clause places h)
    ∙ ap (λ xs. slots_in arena places ++ xs)
    (map-append (slot_at words) (replicate gap 0) (place ∷ [])
    ∙ ap (λ xs. xs ++ slot_at words place ∷ []) (slots_in-nothing words gap)
    ∙ ap (λ x. replicate gap None ++ x ∷ []) (ap (slot_at words) is ∙ slot-words arena clause))

-- ---- a clause moves down

module _ (old new : List ℕ) (xs ys : List ℕ) (end at : ℕ)
    (packed : ArePacked old 0 xs end)
    (laid : AreLaid old end (suc at ∷ ys) (length old))
    (long : length new ≡ length old)
    (copied : CopiedTo old new at end (suc (get_or old at 0)))
    (below : SameBelow old new end)
    (above : SameFrom old new (end + suc (get_or old at 0))) where
  past_within : suc at + get_or old at 0 ≤ length old
  past_within = laid_range old (suc at + get_or old at 0) ys (length old) laid.1

  moved_word : (k : ℕ) → k ≤ get_or old at 0 → get_or new (end + k) 0 ≡ get_or old (at + k) 0
  moved_word k less =
      let by : (end + k) - end ≡ k = omega arith in
      copied (end + k) 0 (omega arith) (omega (arith, less)) ∙ ap (λ n. get_or old (at + n) 0) by

  pub packed-moved : ArePacked new 0 (xs ++ suc end ∷ []) (end + suc (get_or old at 0))
  packed-moved =
      let zero_moved : get_or new (end + 0) 0 ≡ get_or old (at + 0) 0 = moved_word 0 (omega arith) in
      let here : end + 0 ≡ end = omega arith in
      let there : at + 0 ≡ at = omega arith in
      let size : get_or new end 0 ≡ get_or old at 0 = ap (λ n. get_or new n 0) (sym here) ∙ zero_moved ∙ ap (λ n. get_or old n 0) there in
      packed-append new 0 xs end (suc end ∷ []) (end + suc (get_or old at 0))
      (packed-same old new 0 xs end (λ k low high. below k 0 high) packed)
      (refl, omega (arith, size))

  same_behind : SameWords old new (suc at + get_or old at 0) (length old)
  same_behind k low high = let first = laid.0 in above k 0 (omega (arith, low, first))

  pub laid-moved : AreLaid new (end + suc (get_or old at 0)) ys (length new)
  laid-moved =
      let first = laid.0 in
      subst (AreLaid new (end + suc (get_or old at 0)) ys) (sym long)
      (laid_lower new (end + suc (get_or old at 0)) (suc at + get_or old at 0) ys (length old) (omega (arith, first))
      (laid-same old new (suc at + get_or old at 0) ys (length old) same_behind laid.1))

  pub slots_in-moved : slots_in new (xs ++ suc end ∷ ys) ≡ slots_in old (xs ++ suc at ∷ ys)
  slots_in-moved =
      let first = laid.0 in
      let past = suc at + get_or old at 0 in
      let before : end ≤ length old = omega (arith, first, past_within) in
      map-append (slot_at new) xs (suc end ∷ ys)
      ∙ ap (λ slots. slots ++ slots_in new (suc end ∷ ys))
      (slots_in-same old new 0 xs end before (omega (arith, before, long)) (λ k low high. below k 0 high) (laid-packed old 0 xs end packed))
      ∙ ap (λ slot. slots_in old xs ++ slot ∷ slots_in new ys)
      (slot_moved old new at end past_within (omega (arith, first, past_within, long)) moved_word)
      ∙ ap (λ slots. slots_in old xs ++ slot_at old (suc at) ∷ slots)
      (slots_in-same old new past ys (length old) (omega arith) (omega (arith, long)) same_behind laid.1)
      ∙ sym (map-append (slot_at old) xs (suc at ∷ ys))
