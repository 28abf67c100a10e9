-- What stands for the values of tuples, place by place.
use Rattle.std.proofs.Common.{◌≡◌, ℕ, zero, suc, ◌+◌, ◌-◌, ◌<◌, ◌≤◌, List, [], ◌∷◌, ◌++◌, flat_map, get_or, length, map, refl, sym, ap, ◌∙◌, subst, arith, append_assoc, append-nil}
use Rattle.std.proofs.lemmas.List.{get_or-map, length-map, map-append}
use Rattle.std.proofs.lemmas.Grind.{flat_map-append}
use Rattle.std.proofs.lemmas.List.FromFn.{get_or-range_with_len}
use Rattle.std.specs.Prelude.{◌==◌, Bool, true, false}
use Rattle.std.proofs.lemmas.List.Elements.{All-append}
use Rattle.wf_model.specs.Lists.{below}
use Rattle.wf_model.specs.Simplex.{is_nonempty}
use Rattle.wf_model.specs.Task.{Tuple}
use Rattle.wf_model.proofs.Lemmas.{below_next, length-below}
use Rattle.wf_tree_model.specs.Splits.{Splitting, with_names}
use Rattle.wf_tree_explain.specs.Calls.{AreInside, IsRenamed, call_seen, calls_seen, splitting_of}
use Rattle.wf_tree_explain.specs.declared.split.Call as code_call
use Rattle.wf_tree_explain.specs.declared.split.Renamed as code

pub named_at : (s : Splitting) (tuple : Tuple) (place : ℕ) → place < length s.rule.input → get_or (with_names s tuple) place 0 ≡ s.name place tuple
named_at s tuple place low =
    let n = length s.rule.input in
    let long = length-below n in
    let at = get_or-range_with_len 0 n place 0 low in
    let e : 0 + place ≡ place = omega arith in
    get_or-map (λ p. s.name p tuple) (below n) place 0 0 (omega (arith, long, low)) ∙ ap (λ p. s.name p tuple) (at ∙ e)

width : (s : Splitting) (tuple : Tuple) → length (with_names s tuple) ≡ length s.rule.input
width s tuple = length-map (below (length s.rule.input)) (λ p. s.name p tuple) ∙ length-below (length s.rule.input)

pub row_named : (r : code.Renamed) → IsRenamed r → (k : ℕ) (row d : Tuple) → k < length r.rows.now → row ≡ get_or r.rows.now k row → get_or r.named.now k d ≡ with_names (splitting_of r) row
row_named r h k row d low is =
    ap (λ rows. get_or rows k d) h.named ∙ get_or-map (with_names (splitting_of r)) r.rows.now k row d low
    ∙ ap (with_names (splitting_of r)) (sym is)

pub wide : (r : code.Renamed) → IsRenamed r → (k : ℕ) (d : Tuple) → k < length r.named.now → length (get_or r.named.now k d) ≡ length r.simplex.now
wide r h k d low =
    let s = splitting_of r in
    let same = ap length h.named in
    let long = length-map r.rows.now (with_names s) in
    ap (λ rows. length (get_or rows k d)) h.named ∙ ap length (get_or-map (with_names s) r.rows.now k [] d (omega (arith, low, same, long))) ∙ width s (get_or r.rows.now k [])

column_of : (s : Splitting) (rows : List Tuple) (place : ℕ) → place < length s.rule.input → map (λ row. get_or row place 0) (map (with_names s) rows) ≡ map (s.name place) rows
column_of s [] place low = refl
column_of s (row ∷ rows) place low = let one = named_at s row place low in let rest = column_of s rows place low in λ i. one i ∷ rest i

pub column : (r : code.Renamed) → IsRenamed r → (place : ℕ) → place < length r.simplex.now → map (λ row. get_or row place 0) r.named.now ≡ map ((splitting_of r).name place) r.rows.now
column r h place low = ap (map (λ row. get_or row place 0)) h.named ∙ column_of (splitting_of r) r.rows.now place low

-- ---- new names

-- so many new names at a place
abbrev pub some_calls : ℕ → ℕ → ℕ → List (ℕ × ℕ)
some_calls place new k = map (λ name. (place, name)) (map (λ j. new + j) (below k))

calls_next : (place new k : ℕ) → some_calls place new (k + 1) ≡ some_calls place new k ++ (place, new + k) ∷ []
calls_next place new k =
    ap (λ js. map (λ (name : ℕ). (place, name)) (map (λ j. new + j) js)) (below_next k)
    ∙ ap (map (λ (name : ℕ). (place, name))) (map-append (λ j. new + j) (below k) (k ∷ []))
    ∙ map-append (λ (name : ℕ). (place, name)) (map (λ j. new + j) (below k)) ((new + k) ∷ [])

pub call_more : (calls more : List code_call.Call) (call : code_call.Call) (initial : List (ℕ × ℕ)) (place new number : ℕ) → new ≤ number → call_seen call ≡ (place, number) → more ≡ calls ++ call ∷ [] → calls_seen calls ≡ initial ++ some_calls place new (number - new)
    → calls_seen more ≡ initial ++ some_calls place new (number + 1 - new)
call_more calls more call initial place new number from seen pushed so_far =
    let k = number - new in
    let e : new + k ≡ number = omega (arith, from) in
    let d : k + 1 ≡ number + 1 - new = omega (arith, from) in
    ap calls_seen pushed ∙ map-append call_seen calls (call ∷ []) ∙ ap (λ xs. xs ++ call_seen call ∷ []) so_far
    ∙ append_assoc initial (some_calls place new k) (call_seen call ∷ [])
    ∙ ap (λ c. initial ++ (some_calls place new k ++ c ∷ [])) (seen ∙ ap (λ n. (place, n)) (sym e))
    ∙ ap (λ xs. initial ++ xs) (sym (calls_next place new k)) ∙ ap (λ n. initial ++ some_calls place new n) d

pub place_more : (f : ℕ → List (ℕ × ℕ)) (place : ℕ) (calls more : List (ℕ × ℕ)) → calls ≡ flat_map f (below place) → more ≡ calls ++ f place → more ≡ flat_map f (below (place + 1))
place_more f place calls more so_far added =
    added ∙ ap (λ xs. xs ++ f place) so_far ∙ ap (λ xs. flat_map f (below place) ++ xs) (sym (append-nil (f place)))
    ∙ sym (flat_map-append f (below place) (place ∷ [])) ∙ ap (flat_map f) (sym (below_next place))

pub some_call : (calls : List code_call.Call) (empty : Bool) → empty ≡ (length calls == 0) → empty ≡ false → is_nonempty (calls_seen calls) ≡ true
some_call [] empty is some = absurd (let bad : ⊥ = cc in bad)
some_call (call ∷ calls) empty is some = refl

one_inside : (r : code.Renamed) (call : code_call.Call) → call.place < length r.simplex.now → AreInside r (call ∷ [])
one_inside r call inside zero d low = inside
one_inside r call inside (suc k) d low = absurd (let bad : ⊥ = omega (arith, low) in bad)

pub inside_more : (r : code.Renamed) (calls more : List code_call.Call) (call : code_call.Call) → AreInside r calls → call.place < length r.simplex.now → more ≡ calls ++ call ∷ [] → AreInside r more
inside_more r calls more call before inside pushed =
    subst (AreInside r) (sym pushed) (All-append (λ (c : code_call.Call). c.place < length r.simplex.now) calls (call ∷ []) before (one_inside r call inside))
