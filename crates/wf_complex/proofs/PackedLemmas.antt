-- Executions with their points.
use Rattle.std.proofs.Common.{◌≡◌, ◌<◌, ◌≤◌, ◌∙◌, ◌+◌, ℕ, List, [], ◌∷◌, All, map, zip, take, length, get_or, refl, sym, ap, subst, arith}
use Rattle.std.specs.List.{AllByRecursion}
use Rattle.std.proofs.lemmas.Simd.{map-map}
use Rattle.std.proofs.lemmas.List.{get_or-map, get_or_default, length-map, length-take-le}
use Rattle.std.proofs.lemmas.List.Elements.{All-from_recursion, recursion_from_All}
use Rattle.wf_model.specs.Simplex.{Simplex, processes_of}
use Rattle.wf_complex.specs.declared.layout.ExecutionSlot.{ExecutionSlot}
use Rattle.wf_complex.specs.declared.packed.PackedExecution.{PackedExecution}
use Rattle.wf_complex.specs.Places.{IsOn, LieFrom, part_of, processes_on, scope_on}
use Rattle.wf_complex.specs.Packed.{IsPackedOn, four_of, packed_on, scope_in}
use Rattle.wf_complex.specs.ProtocolSeen.{scopes_seen}
use Rattle.wf_complex.proofs.Bounds.{IsSized}
use Rattle.wf_complex.proofs.ExecutionsInOrder.{all_end}
use Rattle.wf_complex.proofs.PlaceLemmas.{length-part_of, length-processes_on}
use Rattle.wf_model.proofs.Lemmas.{map_same}

-- ---- four points

pub four_long : (ps : List ℕ) → length ps ≤ 4 → length (four_of ps) ≡ 4
four_long [] few = refl
four_long (a ∷ []) few = refl
four_long (a ∷ b ∷ []) few = refl
four_long (a ∷ b ∷ c ∷ []) few = refl
four_long (a ∷ b ∷ c ∷ d ∷ []) few = refl
four_long (a ∷ b ∷ c ∷ d ∷ e ∷ ps) few = absurd (let bad : ⊥ = omega (arith, few) in bad)

pub four_part : (ps : List ℕ) → length ps ≤ 4 → take (length ps) (four_of ps) ≡ ps
four_part [] few = refl
four_part (a ∷ []) few = refl
four_part (a ∷ b ∷ []) few = refl
four_part (a ∷ b ∷ c ∷ []) few = refl
four_part (a ∷ b ∷ c ∷ d ∷ []) few = refl
four_part (a ∷ b ∷ c ∷ d ∷ e ∷ ps) few = absurd (let bad : ⊥ = omega (arith, few) in bad)

pub four_all : (P : ℕ → Type 0) (ps : List ℕ) → 0 < length ps → length ps ≤ 4 → All P ps → All P (four_of ps)
four_all P [] some few all = absurd (let bad : ⊥ = omega (arith, some) in bad)
four_all P (a ∷ []) some few all = let at = recursion_from_All P (a ∷ []) all in All-from_recursion P (a ∷ a ∷ a ∷ a ∷ []) (at.0, (at.0, (at.0, (at.0, tt))))
four_all P (a ∷ b ∷ []) some few all = let at = recursion_from_All P (a ∷ b ∷ []) all in All-from_recursion P (a ∷ b ∷ a ∷ a ∷ []) (at.0, (at.1.0, (at.0, (at.0, tt))))
four_all P (a ∷ b ∷ c ∷ []) some few all = let at = recursion_from_All P (a ∷ b ∷ c ∷ []) all in All-from_recursion P (a ∷ b ∷ c ∷ a ∷ []) (at.0, (at.1.0, (at.1.1.0, (at.0, tt))))
four_all P (a ∷ b ∷ c ∷ d ∷ []) some few all = all
four_all P (a ∷ b ∷ c ∷ d ∷ e ∷ ps) some few all = absurd (let bad : ⊥ = omega (arith, few) in bad)

-- ---- a list beside a longer one

pub zip_part : (cs xs ys : List ℕ) → length cs ≡ length ys → take (length ys) xs ≡ ys → zip cs xs ≡ zip cs ys
zip_part [] xs ys long is = refl
zip_part (c ∷ cs) xs [] long is = absurd (let bad : ⊥ = omega (arith, long) in bad)
zip_part (c ∷ cs) [] (y ∷ ys) long is = absurd (let bad : ⊥ = cc in bad)
zip_part (c ∷ cs) (x ∷ xs) (y ∷ ys) long is =
    let first : x ≡ y = cc in
    let rest : take (length ys) xs ≡ ys = cc in
    λ j. (c, first j) ∷ zip_part cs xs ys (omega (arith, long)) rest j

pub seconds_part : (cs xs : List ℕ) → length cs ≤ length xs → map (λ (at : ℕ × ℕ). at.1) (zip cs xs) ≡ take (length cs) xs
seconds_part [] xs few = refl
seconds_part (c ∷ cs) [] few = absurd (let bad : ⊥ = omega (arith, few) in bad)
seconds_part (c ∷ cs) (x ∷ xs) few = ap (λ rest. x ∷ rest) (seconds_part cs xs (omega (arith, few)))

pub zip_taken : (cs xs : List ℕ) → length cs ≤ length xs → zip cs (take (length cs) xs) ≡ zip cs xs
zip_taken [] xs few = refl
zip_taken (c ∷ cs) [] few = absurd (let bad : ⊥ = omega (arith, few) in bad)
zip_taken (c ∷ cs) (x ∷ xs) few = ap (λ rest. (c, x) ∷ rest) (zip_taken cs xs (omega (arith, few)))

-- ---- what is packed

-- one to four places, which are there
pub record IsSpanWithin (end : ℕ) (e : ExecutionSlot) : Type 0 where
  pub some : 0 < e.size
  pub few : e.size ≤ 4
  pub ends : e.place + e.size ≤ end

pub spans_within : (inputs : List Simplex) (end : ℕ) (spans : List ExecutionSlot) → LieFrom 0 end spans → All (IsOn inputs) spans → AllByRecursion IsSized inputs → All (IsSpanWithin end) spans
spans_within inputs end spans lying on sized k d low =
    let e = get_or spans k d in
    let here : IsOn inputs e = on k d low in
    let size : IsSized (get_or inputs e.simplex []) = All-from_recursion IsSized inputs sized e.simplex [] here.0 in
    record {
      some = omega (arith, here.1, size.0);
      few = omega (arith, here.1, size.1);
      ends = all_end end spans lying k d low;
    }

module _ (inputs : List Simplex) (numbers : List ℕ) (spans : List ExecutionSlot) (on : All (IsOn inputs) spans) (within : All (IsSpanWithin (length numbers)) spans) where
  part_few : (k : ℕ) (d : ExecutionSlot) → k < length spans → (length (part_of numbers (get_or spans k d)) ≡ (get_or spans k d).size) × (length (part_of numbers (get_or spans k d)) ≤ 4)
  part_few k d low =
      let e = get_or spans k d in
      let w : IsSpanWithin (length numbers) e = within k d low in
      let long = length-part_of numbers e w.ends in
      (long, omega (arith, long, w.few))

  scope_same : All (λ e. scope_in inputs (packed_on numbers e) ≡ scope_on inputs numbers e) spans
  scope_same k d low =
      let e = get_or spans k d in
      let part = part_of numbers e in
      let p = part_few k d low in
      zip_part (processes_on inputs e) (four_of part) part (length-processes_on inputs e (on k d low) ∙ sym p.0) (four_part part p.1)

  pub scopes_packed : map (scope_in inputs) (map (packed_on numbers) spans) ≡ scopes_seen inputs numbers spans
  scopes_packed =
      map-map (scope_in inputs) (packed_on numbers) spans
      ∙ map_same (λ e. scope_in inputs (packed_on numbers e)) (scope_on inputs numbers) spans (recursion_from_All (λ e. scope_in inputs (packed_on numbers e) ≡ scope_on inputs numbers e) spans scope_same)

  pub simplices_packed : map (λ (e : PackedExecution). e.simplex) (map (packed_on numbers) spans) ≡ map (λ (e : ExecutionSlot). e.simplex) spans
  simplices_packed = map-map (λ (e : PackedExecution). e.simplex) (packed_on numbers) spans

  pub all_packed : All (IsPackedOn inputs) (map (packed_on numbers) spans)
  all_packed k x low =
      let inside : k < length spans = omega (arith, low, length-map spans (packed_on numbers)) in
      let d : ExecutionSlot = record { place = 0; simplex = 0; size = 0 } in
      let e = get_or spans k d in
      let part = part_of numbers e in
      let here : IsOn inputs e = on k d inside in
      let p = part_few k d inside in
      let size : length (get_or inputs e.simplex []) ≡ length part = sym here.1 ∙ sym p.0 in
      subst (IsPackedOn inputs) (sym (get_or-map (packed_on numbers) spans k d x inside)) (record {
        simplex = here.0;
        long = four_long part p.1;
        few = omega (arith, size, p.1);
        four = ap (λ n. four_of (take n (four_of part))) size ∙ ap four_of (four_part part p.1);
      })

-- ---- an execution that is kept

-- its points, one for each process
pub points_in : (inputs : List Simplex) (e : PackedExecution) → IsPackedOn inputs e → map (λ (at : ℕ × ℕ). at.1) (scope_in inputs e) ≡ take (length (get_or inputs e.simplex [])) e.points
points_in inputs e h =
    let cs = processes_of (get_or inputs e.simplex []) in
    let long : length cs ≡ length (get_or inputs e.simplex []) = length-map (get_or inputs e.simplex []) (λ v. v.0) in
    seconds_part cs e.points (omega (arith, long, h.few, h.long)) ∙ ap (λ n. take n e.points) long

-- they are the ones that it has, up to four
pub four_in : (inputs : List Simplex) (e : PackedExecution) → IsPackedOn inputs e → e.points ≡ four_of (map (λ (at : ℕ × ℕ). at.1) (scope_in inputs e))
four_in inputs e h = sym h.four ∙ ap four_of (sym (points_in inputs e h))

pub fours_in : (inputs : List Simplex) (es : List PackedExecution) → All (IsPackedOn inputs) es → map (λ (e : PackedExecution). e.points) es ≡ map (λ scope. four_of (map (λ (at : ℕ × ℕ). at.1) scope)) (map (scope_in inputs) es)
fours_in inputs es all =
    map_same (λ (e : PackedExecution). e.points) (λ e. four_of (map (λ (at : ℕ × ℕ). at.1) (scope_in inputs e))) es
    (recursion_from_All (λ e. e.points ≡ four_of (map (λ (at : ℕ × ℕ). at.1) (scope_in inputs e))) es (λ k d low. four_in inputs (get_or es k d) (all k d low)))
    ∙ sym (map-map (λ scope. four_of (map (λ (at : ℕ × ℕ). at.1) scope)) (scope_in inputs) es)

-- one of those that are kept, which has this number
pub record IsIn (inputs : List Simplex) (es : List PackedExecution) (k : ℕ) (e : PackedExecution) (s : Simplex) : Type 0 where
  pub packed : IsPackedOn inputs e
  pub input : s ≡ get_or inputs e.simplex []
  pub scope : get_or (map (scope_in inputs) es) k [] ≡ scope_in inputs e

pub is_in : (inputs : List Simplex) (es xs : List PackedExecution) (k : ℕ) (e : PackedExecution) (s : Simplex) → All (IsPackedOn inputs) es → k < length (map (scope_in inputs) es) → xs ≡ es → e ≡ get_or xs k e → s ≡ get_or inputs e.simplex s → IsIn inputs es k e s
is_in inputs es xs k e s all low same is input =
    let inside : k < length es = omega (arith, low, length-map es (scope_in inputs)) in
    let here : e ≡ get_or es k e = is ∙ ap (λ ys. get_or ys k e) same in
    let packed : IsPackedOn inputs e = subst (IsPackedOn inputs) (sym here) (all k e inside) in
    record {
      packed = packed;
      input = input ∙ get_or_default inputs e.simplex s [] packed.simplex;
      scope = get_or-map (scope_in inputs) es k e [] inside ∙ ap (scope_in inputs) (sym here);
    }

-- its points
pub points_at : (inputs : List Simplex) (es : List PackedExecution) (k : ℕ) (e : PackedExecution) (s : Simplex) → IsIn inputs es k e s → take (length s) e.points ≡ map (λ (at : ℕ × ℕ). at.1) (get_or (map (scope_in inputs) es) k [])
points_at inputs es k e s h = ap (λ (x : Simplex). take (length x) e.points) h.input ∙ sym (points_in inputs e h.packed) ∙ ap (map (λ (at : ℕ × ℕ). at.1)) (sym h.scope)

-- as many as its processes
pub points_long_at : (inputs : List Simplex) (es : List PackedExecution) (k : ℕ) (e : PackedExecution) (s : Simplex) → IsIn inputs es k e s → length s ≡ length (map (λ (at : ℕ × ℕ). at.1) (get_or (map (scope_in inputs) es) k []))
points_long_at inputs es k e s h =
    omega (arith, ap length (points_at inputs es k e s h), length-take-le (length s) e.points (omega (arith, h.packed.long, h.packed.few, ap (λ (x : Simplex). length x) h.input)))

-- its processes beside its points
pub scope_at : (inputs : List Simplex) (es : List PackedExecution) (k : ℕ) (e : PackedExecution) (s : Simplex) → IsIn inputs es k e s → zip (processes_of s) (map (λ (at : ℕ × ℕ). at.1) (get_or (map (scope_in inputs) es) k [])) ≡ get_or (map (scope_in inputs) es) k []
scope_at inputs es k e s h =
    let cs = processes_of s in
    let long : length cs ≡ length s = length-map s (λ v. v.0) in
    ap (zip cs) (sym (points_at inputs es k e s h) ∙ ap (λ n. take n e.points) (sym long))
    ∙ zip_taken cs e.points (omega (arith, long, h.packed.long, h.packed.few, ap (λ (x : Simplex). length x) h.input))
    ∙ ap (λ (x : Simplex). zip (processes_of x) e.points) h.input ∙ sym h.scope
