-- Executions that lie one after another, each on an input simplex.
use Rattle.std.proofs.Common.{◌≡◌, ◌<◌, ◌≤◌, ℕ, zero, suc, ◌+◌, ◌*◌, List, [], ◌∷◌, ◌++◌, length, take, get_or, All, sym, refl, ap, ◌∙◌, subst, arith, append_assoc, length-append}
use Rattle.std.specs.List.{AllByRecursion}
use Rattle.std.proofs.Math.Seq.{get_or-append_seam}
use Rattle.std.proofs.lemmas.List.Elements.{All-from_recursion, recursion_from_All}
use Rattle.std.proofs.lemmas.Option.{get_or_from_slice_get, slice_get_within}
use Rattle.wf_model.specs.Simplex.{Simplex}
use Rattle.wf_model.proofs.Lemmas.{each_append}
use Rattle.wf_complex.specs.declared.layout.ExecutionSlot.{ExecutionSlot}
use Rattle.wf_complex.specs.Layout.{turns, place_total, laid_on, laid_out}
use Rattle.wf_complex.specs.Places.{EndsBy, LieFrom, BelongsTo, IsOn}
use Rattle.wf_complex.proofs.Bounds.{suc_times}

-- ---- where they lie

lie_up : (first end : ℕ) (es : List ExecutionSlot) → LieFrom first end es → first ≤ end
lie_up first end [] h = omega (arith, h)
lie_up first end (e ∷ es) h = omega (arith, lie_up (first + e.size) end es h.1)

lie_ends : (first end : ℕ) (es : List ExecutionSlot) → LieFrom first end es → AllByRecursion (EndsBy end) es
lie_ends first end [] h = tt
lie_ends first end (e ∷ es) h = (omega (arith, h.0, lie_up (first + e.size) end es h.1), lie_ends (first + e.size) end es h.1)

pub all_end : (end : ℕ) (es : List ExecutionSlot) → LieFrom 0 end es → All (EndsBy end) es
all_end end es h = All-from_recursion (EndsBy end) es (lie_ends 0 end es h)

pub lie_after : (first end : ℕ) (es : List ExecutionSlot) → LieFrom first end es → (j : ℕ) (d : ExecutionSlot) → j < length es → first ≤ (get_or es j d).place
lie_after first end [] h j d inside = absurd (let none : ⊥ = omega (arith, inside) in none)
lie_after first end (e ∷ es) h zero d inside = omega (arith, h.0)
lie_after first end (e ∷ es) h (suc j) d inside = omega (arith, lie_after (first + e.size) end es h.1 j d (omega (arith, inside)))

-- where all end by a place, the end is not past it
lie_end : (first end place : ℕ) (es : List ExecutionSlot) → LieFrom first end es → first ≤ place → AllByRecursion (EndsBy place) es → end ≤ place
lie_end first end place [] h low ended = omega (arith, h, low)
lie_end first end place (e ∷ es) h low ended = lie_end (first + e.size) end place es h.1 (omega (arith, h.0, ended.0)) ended.1

-- where those before an execution end by a place, it begins by then
lie_begun : (first end place n : ℕ) (d : ExecutionSlot) (es : List ExecutionSlot) → LieFrom first end es → first ≤ place → n < length es → AllByRecursion (EndsBy place) (take n es) → (get_or es n d).place ≤ place
lie_begun first end place n d [] h low inside ended = absurd (let none : ⊥ = omega (arith, inside) in none)
lie_begun first end place zero d (e ∷ es) h low inside ended = omega (arith, h.0, low)
lie_begun first end place (suc n) d (e ∷ es) h low inside ended = lie_begun (first + e.size) end place n d es h.1 (omega (arith, h.0, ended.0)) (omega (arith, inside)) ended.1

-- where an execution begins by a place, those before it end by then
lie_ended : (first end place n : ℕ) (d : ExecutionSlot) (es : List ExecutionSlot) → LieFrom first end es → n < length es → (get_or es n d).place ≤ place → AllByRecursion (EndsBy place) (take n es)
lie_ended first end place n d [] h inside begun = absurd (let none : ⊥ = omega (arith, inside) in none)
lie_ended first end place zero d (e ∷ es) h inside begun = tt
lie_ended first end place (suc n) d (e ∷ es) h inside begun =
    let within : n < length es = omega (arith, inside) in
    (omega (arith, h.0, lie_after (first + e.size) end es h.1 n d within, begun), lie_ended (first + e.size) end place n d es h.1 within begun)

module _ (end place : ℕ) (es : List ExecutionSlot) (lying : LieFrom 0 end es) where
  pub all_ended : All (EndsBy place) es → end ≤ place
  all_ended ended = lie_end 0 end place es lying (omega arith) (recursion_from_All (EndsBy place) es ended)

  pub has_begun : (n : ℕ) (d : ExecutionSlot) → n < length es → All (EndsBy place) (take n es) → (get_or es n d).place ≤ place
  has_begun n d inside ended = lie_begun 0 end place n d es lying (omega arith) inside (recursion_from_All (EndsBy place) (take n es) ended)

  -- those before the execution of a place end by any later one
  pub earlier_ended : (n before : ℕ) → BelongsTo before es n → before ≤ place → All (EndsBy place) (take n es)
  earlier_ended n before at low =
      let inside : n < length es = slice_get_within es n at.execution at.there in
      let begun : (get_or es n at.execution).place ≤ place = omega (arith, at.begun, low, ap (λ (d : ExecutionSlot). d.place) (get_or_from_slice_get es n at.execution at.execution at.there)) in
      All-from_recursion (EndsBy place) (take n es) (lie_ended 0 end place n at.execution es lying inside begun)

-- ---- those that are laid out

lie_append : (first middle end : ℕ) (es fs : List ExecutionSlot) → LieFrom first middle es → LieFrom middle end fs → LieFrom first end (es ++ fs)
lie_append first middle end [] fs h k = subst (λ n. LieFrom n end fs) (sym h) k
lie_append first middle end (e ∷ es) fs h k = (h.0, lie_append (first + e.size) middle end es fs h.1 k)

laid_on_lie : (k n c p : ℕ) → LieFrom p (p + c * n) (laid_on k n p c)
laid_on_lie k n zero p = omega arith
laid_on_lie k n (suc c) p =
    let e : (p + n) + c * n ≡ p + suc c * n = omega (arith, suc_times c n) in
    (refl, subst (λ end. LieFrom (p + n) end (laid_on k n (p + n) c)) e (laid_on_lie k n c (p + n)))

laid_out_lie : (m r k p : ℕ) (ss : List Simplex) → LieFrom p (p + place_total m r ss) (laid_out m r k p ss)
laid_out_lie m r k p [] = omega arith
laid_out_lie m r k p (s ∷ ss) =
    let c = turns m (length s) r in
    let n = length s in
    let e : (p + c * n) + place_total m r ss ≡ p + (c * n + place_total m r ss) = omega arith in
    lie_append p (p + c * n) (p + (c * n + place_total m r ss)) (laid_on k n p c) (laid_out m r (k + 1) (p + c * n) ss) (laid_on_lie k n c p)
    (subst (λ end. LieFrom (p + c * n) end (laid_out m r (k + 1) (p + c * n) ss)) e (laid_out_lie m r (k + 1) (p + c * n) ss))

pub all_lie : (m r end : ℕ) (ss : List Simplex) → end ≡ place_total m r ss → LieFrom 0 end (laid_out m r 0 0 ss)
all_lie m r end ss e =
    let long : 0 + place_total m r ss ≡ end = omega (arith, e) in
    subst (λ n. LieFrom 0 n (laid_out m r 0 0 ss)) long (laid_out_lie m r 0 0 ss)

-- ---- on the input simplices

laid_on_on : (inputs : List Simplex) (k n p c : ℕ) → k < length inputs → n ≡ length (get_or inputs k []) → AllByRecursion (IsOn inputs) (laid_on k n p c)
laid_on_on inputs k n p zero low size = tt
laid_on_on inputs k n p (suc c) low size = ((low, size), laid_on_on inputs k n (p + n) c low size)

laid_out_on : (m r k p : ℕ) (front ss : List Simplex) → k ≡ length front → AllByRecursion (IsOn (front ++ ss)) (laid_out m r k p ss)
laid_out_on m r k p front [] long = tt
laid_out_on m r k p front (s ∷ ss) long =
    let c = turns m (length s) r in
    let n = length s in
    let inside : k < length (front ++ s ∷ ss) = omega (arith, long, length-append front (s ∷ ss)) in
    let here : n ≡ length (get_or (front ++ s ∷ ss) k []) = sym (ap (λ i. length (get_or (front ++ s ∷ ss) i [])) long ∙ ap length (get_or-append_seam front s ss [])) in
    each_append (IsOn (front ++ s ∷ ss)) (laid_on k n p c) (laid_out m r (k + 1) (p + c * n) ss)
    (laid_on_on (front ++ s ∷ ss) k n p c inside here)
    (subst (λ inputs. AllByRecursion (IsOn inputs) (laid_out m r (k + 1) (p + c * n) ss)) (append_assoc front (s ∷ []) ss)
    (laid_out_on m r (k + 1) (p + c * n) (front ++ s ∷ []) ss (omega (arith, long, length-append front (s ∷ [])))))

pub all_on : (m r : ℕ) (ss : List Simplex) → All (IsOn ss) (laid_out m r 0 0 ss)
all_on m r ss = All-from_recursion (IsOn ss) (laid_out m r 0 0 ss) (laid_out_on m r 0 0 [] ss refl)
