-- Places of executions: the points there, and which execution and process stands at each.
use Rattle.std.proofs.Common.{◌≡◌, ◌<◌, ◌≤◌, ℕ, zero, suc, ◌+◌, ◌-◌, ◌==◌, if◌then◌else◌, Some, List, [], ◌∷◌, ◌++◌, flat_map, zip, drop, length, get_or, All, subst, ◌≢◌, inl, inr, eqb-true, sym, ap, ◌∙◌, arith, length-take, length-drop}
use Rattle.std.specs.List.{AllByRecursion, enumerate_from}
use Rattle.std.proofs.lemmas.List.{drop_more, get_or-map, length-map, get_or_append_left, get_or-append_right}
use Rattle.std.proofs.lemmas.List.Elements.{All-get_or, recursion_from_All}
use Rattle.std.proofs.lemmas.Option.{slice_get-get_or, slice_get_within}
use Rattle.std.proofs.lemmas.Bool.{cases_Bool}
use Rattle.wf_model.specs.Simplex.{Simplex, processes_of}
use Rattle.wf_complex.specs.declared.layout.ExecutionSlot.{ExecutionSlot}
use Rattle.wf_complex.specs.Places.{part_of, EndsBy, LieFrom, BelongsTo, IsOn, processes_on, places_on, places_on_all}
use Rattle.wf_complex.specs.Protocol.{point_in}
use Rattle.wf_complex.proofs.ExecutionsInOrder.{lie_after}
use Rattle.wf_complex.proofs.RuleAt.{got}

-- ---- an execution's part

pub length-part_of : {X : Type 0} (xs : List X) (e : ExecutionSlot) → EndsBy (length xs) e → length (part_of xs e) ≡ e.size
length-part_of xs e h = omega (arith, length-take e.size (drop e.place xs), length-drop e.place xs, h)

pub length-processes_on : (inputs : List Simplex) (e : ExecutionSlot) → IsOn inputs e → length (processes_on inputs e) ≡ e.size
length-processes_on inputs e on = length-map (get_or inputs e.simplex []) (λ v. v.0) ∙ sym on.1

-- the input simplex of an execution
pub input_there : (inputs : List Simplex) (e : ExecutionSlot) (s : Simplex) → IsOn inputs e → s ≡ get_or inputs e.simplex s → s ≡ get_or inputs e.simplex []
input_there inputs e s on is = is ∙ got inputs e.simplex (get_or inputs e.simplex []) s (slice_get-get_or inputs e.simplex [] on.0)

-- ---- the point of a process

point_in-more : (c : ℕ) (processes points : List ℕ) (i : ℕ) → i < length processes → length processes ≡ length points →
    point_in c (zip (drop i processes) (drop i points)) ≡ (if get_or processes i 0 == c then Some (get_or points i 0) else point_in c (zip (drop (i + 1) processes) (drop (i + 1) points)))
point_in-more c processes points i low long = λ k. point_in c (zip (drop_more processes i 0 low k) (drop_more points i 0 (omega (arith, low, long)) k))

pub point_in-other : (c : ℕ) (processes points : List ℕ) (i : ℕ) → i < length processes → length processes ≡ length points → get_or processes i 0 ≢ c →
    point_in c (zip (drop (i + 1) processes) (drop (i + 1) points)) ≡ point_in c (zip (drop i processes) (drop i points))
point_in-other c processes points i low long other =
    elim (cases_Bool (get_or processes i 0 == c)) [
      | inl same ↦ absurd (other (eqb-true _ _ same))
      | inr apart ↦ sym (point_in-more c processes points i low long ∙ ap (λ b. if b then Some (get_or points i 0) else point_in c (zip (drop (i + 1) processes) (drop (i + 1) points))) apart)
    ]

-- ---- the execution and the process of a place

place_here : (inputs : List Simplex) (k n i : ℕ) (e : ExecutionSlot) → IsOn inputs e → k ≡ n → i < e.size → get_or (places_on inputs (k, e)) i (0, 0) ≡ (n, get_or (processes_on inputs e) i 0)
place_here inputs k n i e on same low =
    get_or-map (λ c. (k, c)) (processes_on inputs e) i 0 (0, 0) (omega (arith, low, length-processes_on inputs e on))
    ∙ ap (λ m. (m, get_or (processes_on inputs e) i 0)) same

length-places_on : (inputs : List Simplex) (k : ℕ) (e : ExecutionSlot) → IsOn inputs e → length (places_on inputs (k, e)) ≡ e.size
length-places_on inputs k e on = length-map (processes_on inputs e) (λ c. (k, c)) ∙ length-processes_on inputs e on

pub place_there : (inputs : List Simplex) (k first end place : ℕ) (es : List ExecutionSlot) → LieFrom first end es → AllByRecursion (IsOn inputs) es → (n : ℕ) (d : ExecutionSlot) → n < length es →
    (get_or es n d).place ≤ place → place < (get_or es n d).place + (get_or es n d).size →
    get_or (flat_map (places_on inputs) (enumerate_from k es)) (place - first) (0, 0) ≡ (k + n, get_or (processes_on inputs (get_or es n d)) (place - (get_or es n d).place) 0)
place_there inputs k first end place [] lying on n d inside low high = absurd (let none : ⊥ = omega (arith, inside) in none)
place_there inputs k first end place (e ∷ es) lying on zero d inside low high =
    let rest = flat_map (places_on inputs) (enumerate_from (k + 1) es) in
    let same : place - first ≡ place - e.place = ap (λ p. place - p) (sym lying.0) in
    let short : place - e.place < e.size = omega (arith, low, high) in
    let number : k ≡ k + 0 = omega arith in
    ap (λ i. get_or (places_on inputs (k, e) ++ rest) i (0, 0)) same
    ∙ get_or_append_left (places_on inputs (k, e)) rest (0, 0) (place - e.place) (omega (arith, short, length-places_on inputs k e on.0))
    ∙ place_here inputs k (k + 0) (place - e.place) e on.0 number short
place_there inputs k first end place (e ∷ es) lying on (suc n) d inside low high =
    let rest = flat_map (places_on inputs) (enumerate_from (k + 1) es) in
    let f = get_or es n d in
    let within : n < length es = omega (arith, inside) in
    let later : first + e.size ≤ place = omega (arith, lie_after (first + e.size) end es lying.1 n d within, low) in
    let left : place - first - e.size ≡ place - (first + e.size) = omega arith in
    let number : (k + 1) + n ≡ k + suc n = omega arith in
    get_or-append_right (places_on inputs (k, e)) rest e.size (place - first) (0, 0) (length-places_on inputs k e on.0) (omega (arith, later))
    ∙ ap (λ i. get_or rest i (0, 0)) left
    ∙ place_there inputs (k + 1) (first + e.size) end place es lying.1 on.1 n d within low high
    ∙ ap (λ m. (m, get_or (processes_on inputs f) (place - f.place) 0)) number

-- the execution and the process of a place
pub place_is : (inputs : List Simplex) (end : ℕ) (es : List ExecutionSlot) (place k : ℕ) (e : ExecutionSlot) (s : Simplex) → LieFrom 0 end es → All (IsOn inputs) es → BelongsTo place es k → e ≡ get_or es k e → s ≡ get_or inputs e.simplex s →
    get_or (places_on_all inputs es) place (0, 0) ≡ (k, get_or (processes_of s) (place - e.place) 0)
place_is inputs end es place k e s lying on at there input =
    let inside : k < length es = slice_get_within es k at.execution at.there in
    let same : get_or es k e ≡ at.execution = got es k at.execution e at.there in
    let here : IsOn inputs e = subst (IsOn inputs) (sym there) (All-get_or (IsOn inputs) es k e inside on) in
    let place_is : place - 0 ≡ place = omega arith in
    let number : 0 + k ≡ k = omega arith in
    let found =
    place_there inputs 0 0 end place es lying (recursion_from_All (IsOn inputs) es on) k e inside
    (omega (arith, at.begun, ap (λ (d : ExecutionSlot). d.place) same))
    (omega (arith, at.before_its_end, ap (λ (d : ExecutionSlot). d.place + d.size) same)) in
    ap (λ j. get_or (places_on_all inputs es) j (0, 0)) (sym place_is)
    ∙ found
    ∙ (λ i. (number i, get_or (processes_on inputs (sym there i)) (place - (sym there i).place) 0))
    ∙ ap (λ (t : Simplex). (k, get_or (processes_of t) (place - e.place) 0)) (sym (input_there inputs e s here input))
