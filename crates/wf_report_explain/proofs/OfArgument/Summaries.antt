-- The executions of a summary: who takes part, how many have a size, and of which lines speak.
use Rattle.std.proofs.Common.{◌≡◌, ℕ, suc, ◌+◌, ◌-◌, ◌<◌, ◌≤◌, ◌==◌, ◌&&◌, ◌||◌, ◌++◌, not, List, [], ◌∷◌, map, length, get_or, Bool, true, false, cond, Option, Some, append_assoc, eq-eqb, eqb-true, refl, sym, ap, ◌∙◌, arith}
use Rattle.std.specs.List.{filter, list_any, range_with_len}
use Rattle.std.specs.Option.{is_some}
use Rattle.std.proofs.lemmas.List.{length-map}
use Rattle.wf_model.specs.Limits.{most_processes}
use Rattle.wf_model.specs.Lists.{has}
use Rattle.wf_model.specs.Problem.{Participant, Problem, Constraint, no_constraint}
use Rattle.wf_model.specs.Refutation as refutation
use Rattle.wf_model.specs.Simplex.{processes_of}
use Rattle.wf_complex.specs.Protocol.{point_in}
use Rattle.wf_report_explain.specs.declared.words.summary.SizeCount.{SizeCount}
use Rattle.wf_report_explain.specs.Argument.Text.{count_of_size, is_in, is_some_count, used_scopes}
use Rattle.wf_report_explain.specs.Argument.Used.{MarksEach, marked_scopes, sizes_left}

-- ---- who takes part

takes_place : (c : ℕ) (scope : List Participant) → is_some (point_in c scope) ≡ has (processes_of scope) c
takes_place c [] = refl
takes_place c (at ∷ scope) = by (at.0 == c) (takes_place c scope)
  where
    by : (b : Bool) → is_some (point_in c scope) ≡ has (processes_of scope) c → is_some (cond b (Some at.1) (point_in c scope)) ≡ (b || has (processes_of scope) c)
    by true rest = refl
    by false rest = rest

-- a process that has a point in an execution takes part there
pub is_there : (b r : Bool) (v : Option ℕ) (scope : List Participant) (c : ℕ) → b ≡ true → r ≡ is_some v → v ≡ point_in c scope → r ≡ (b && has (processes_of scope) c)
is_there b r v scope c marked is at = is ∙ ap is_some at ∙ takes_place c scope ∙ ap (λ b. b && has (processes_of scope) c) (sym marked)

-- ---- sizes

some_count : (count k : ℕ) → count ≡ k → 0 < count → not (k == 0) ≡ true
some_count count k is some = by (k == 0) refl
  where
    by : (t : Bool) → (k == 0) ≡ t → not t ≡ true
    by true none = absurd (let zero_is = eqb-true k 0 none in omega (arith, zero_is, is, some))
    by false more = refl

no_count : (count k : ℕ) → count ≡ k → count ≤ 0 → not (k == 0) ≡ false
no_count count k is none = ap not (eq-eqb k 0 (omega (arith, is, none)))

-- the first of the sizes that are left
abbrev size_of : List (List Participant) → ℕ → SizeCount
size_of scopes n = record { size = suc n; count = count_of_size scopes (suc n) }

next_size : (scopes : List (List Participant)) (n : ℕ) → n < most_processes → sizes_left scopes n ≡ cond (is_some_count (size_of scopes n)) (size_of scopes n ∷ sizes_left scopes (n + 1)) (sizes_left scopes (n + 1))
next_size scopes n low =
    let next : most_processes - n ≡ suc (most_processes - (n + 1)) = omega (arith, low) in
    let later : suc n + 1 ≡ suc (n + 1) = omega arith in
    let from : ℕ → ℕ → List SizeCount = λ a k. filter is_some_count (map (λ n. record { size = n; count = count_of_size scopes n }) (range_with_len a k)) in
    ap (from (suc n)) next
    ∙ ap (λ a. cond (is_some_count (size_of scopes n)) (size_of scopes n ∷ from a (most_processes - (n + 1))) (from a (most_processes - (n + 1)))) later

-- a size that occurs
pub one_size : (scopes : List (List Participant)) (n size count : ℕ) (told told' whole : List SizeCount) → n < most_processes → size ≡ suc n → count ≡ count_of_size scopes size → 0 < count
    → told' ≡ told ++ (record { size = size; count = count } ∷ []) → told ++ sizes_left scopes n ≡ whole → told' ++ sizes_left scopes (n + 1) ≡ whole
one_size scopes n size count told told' whole low size_is is some more so_far =
    let count_is : count ≡ count_of_size scopes (suc n) = is ∙ ap (count_of_size scopes) size_is in
    let left = sizes_left scopes (n + 1) in
    ap (λ xs. xs ++ left) (more ∙ (λ i. told ++ (record { size = size_is i; count = count_is i } ∷ [])))
    ∙ append_assoc told (size_of scopes n ∷ []) left
    ∙ ap (λ xs. told ++ xs) (sym (next_size scopes n low ∙ ap (λ b. cond b (size_of scopes n ∷ left) left) (some_count count (count_of_size scopes (suc n)) count_is some)))
    ∙ so_far

-- one that does not
pub no_size : (scopes : List (List Participant)) (n size count : ℕ) (told told' whole : List SizeCount) → n < most_processes → size ≡ suc n → count ≡ count_of_size scopes size → count ≤ 0
    → told' ≡ told → told ++ sizes_left scopes n ≡ whole → told' ++ sizes_left scopes (n + 1) ≡ whole
no_size scopes n size count told told' whole low size_is is none same so_far =
    let count_is : count ≡ count_of_size scopes (suc n) = is ∙ ap (count_of_size scopes) size_is in
    let left = sizes_left scopes (n + 1) in
    ap (λ xs. xs ++ left) same
    ∙ ap (λ xs. told ++ xs) (sym (next_size scopes n low ∙ ap (λ b. cond b (size_of scopes n ∷ left) left) (no_count count (count_of_size scopes (suc n)) count_is none)))
    ∙ so_far

-- ---- those of which lines speak

used_from : (marks : List Bool) (ks all : List Constraint) (a : ℕ) (test : ℕ → Bool) → length marks ≡ length ks → ((k : ℕ) → k < length ks → get_or marks k false ≡ test (a + k)) → ((k : ℕ) → k < length ks → get_or ks k no_constraint ≡ get_or all (a + k) no_constraint)
    → marked_scopes marks (map (λ k. k.scope) ks) ≡ map (λ e. (get_or all e no_constraint).scope) (filter test (range_with_len a (length ks)))
used_from [] [] all a test long each are = refl
used_from [] (k ∷ ks) all a test long each are = absurd (omega (arith, long))
used_from (b ∷ marks) [] all a test long each are = absurd (omega (arith, long))
used_from (b ∷ marks) (k ∷ ks) all a test long each are =
    let first : a + 0 ≡ a = omega arith in
    by b (test a) (each 0 (omega arith) ∙ ap test first) (ap (λ k. k.scope) (are 0 (omega arith) ∙ ap (λ e. get_or all e no_constraint) first))
    (used_from marks ks all (a + 1) test (omega (arith, long))
    (λ k low. let later : a + suc k ≡ a + 1 + k = omega arith in each (suc k) (omega (arith, low)) ∙ ap test later)
    (λ k low. let later : a + suc k ≡ a + 1 + k = omega arith in are (suc k) (omega (arith, low)) ∙ ap (λ e. get_or all e no_constraint) later))
  where
    by : (b t : Bool) → b ≡ t → k.scope ≡ (get_or all a no_constraint).scope → marked_scopes marks (map (λ k. k.scope) ks) ≡ map (λ e. (get_or all e no_constraint).scope) (filter test (range_with_len (a + 1) (length ks)))
        → cond b (k.scope ∷ marked_scopes marks (map (λ k. k.scope) ks)) (marked_scopes marks (map (λ k. k.scope) ks))
        ≡ map (λ e. (get_or all e no_constraint).scope) (cond t (a ∷ filter test (range_with_len (a + 1) (length ks))) (filter test (range_with_len (a + 1) (length ks))))
    by true true e scope rest = λ i. scope i ∷ rest i
    by true false e scope rest = absurd (let bad : ⊥ = cc in bad)
    by false true e scope rest = absurd (let bad : ⊥ = cc in bad)
    by false false e scope rest = rest

-- the executions that are marked are those of which lines speak
pub scopes_are_used : (p : Problem) (scopes : List (List Participant)) (marks : List Bool) (ls : List refutation.Line) → scopes ≡ map (λ k. k.scope) p.constraints → MarksEach (length scopes) marks (λ e. list_any (is_in e) ls) → marked_scopes marks scopes ≡ used_scopes p ls
scopes_are_used p scopes marks ls are h =
    let many : length scopes ≡ length p.constraints = ap length are ∙ length-map p.constraints (λ k. k.scope) in
    ap (marked_scopes marks) are
    ∙ used_from marks p.constraints p.constraints 0 (λ e. list_any (is_in e) ls) (h.long ∙ many)
    (λ k low. let same : k ≡ 0 + k = omega arith in h.each k (omega (arith, low, many)) ∙ ap (λ e. list_any (is_in e) ls) same)
    (λ k low. let same : k ≡ 0 + k = omega arith in ap (λ e. get_or p.constraints e no_constraint) same)
