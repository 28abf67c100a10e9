-- A simplex as a table and as a list of vertices: what the one says of the other.
use Rattle.std.proofs.Common.{◌≡◌, ℕ, zero, suc, ◌+◌, ◌<◌, ◌≤◌, Bool, true, false, ◌&&◌, ◌==◌, List, [], ◌∷◌, length, Option, None, Some, slice_index_or, refl, sym, ap, ◌∙◌, arith, eq-eqb, ne_eqb}
use Rattle.std.specs.List.{list_any, list_all}
use Rattle.std.specs.Cmp.{ranked, nat_cmp_is}
use Rattle.std.specs.Cmp.Lexicographic.{slice_cmp}
use Rattle.std.specs.Ordering.{nat_cmp, ordering_then}
use Rattle.std.specs.declared.cmp.Ordering.{Ordering}
use Rattle.std.specs.declared.cmp.Ordering.TheVariants.{Less, Equal, Greater}
use Rattle.std.proofs.Math.Bool.{or-false}
use Rattle.wf_model.specs.Simplex.{Vertex, Simplex, same_vertex, vertex_cmp, simplex_cmp, is_face, is_nonempty, is_simplex}
use Rattle.wf_simplex.specs.Entries.{vertices_from, value_at, is_within}

-- ---- the value of a process

absent : (es : List (Option ℕ)) (m p : ℕ) → p < m → value_at (vertices_from m es) p ≡ None
absent [] m p h = refl
absent (None ∷ es) m p h = absent es (m + 1) p (omega arith)
absent (Some x ∷ es) m p h = let ne : m == p ≡ false = ne_eqb m p (λ e. omega arith) in rw ne (absent es (m + 1) p (omega arith))

value_from : (es : List (Option ℕ)) (n k : ℕ) → value_at (vertices_from n es) (n + k) ≡ slice_index_or es k None
value_from [] n k = refl
value_from (None ∷ es) n zero = absent es (n + 1) (n + 0) (omega arith)
value_from (None ∷ es) n (suc k) = let e : n + suc k ≡ n + 1 + k = omega arith in rw e (value_from es (n + 1) k)
value_from (Some x ∷ es) n zero = let e : n == n + 0 ≡ true = eq-eqb n (n + 0) (omega arith) in rw e refl
value_from (Some x ∷ es) n (suc k) =
    let ne : n == n + suc k ≡ false = ne_eqb n (n + suc k) (λ e. omega arith) in
    let e : n + suc k ≡ n + 1 + k = omega arith in
    rw ne (rw e (value_from es (n + 1) k))

pub value_of_entry : (es : List (Option ℕ)) (p : ℕ) → slice_index_or es p None ≡ value_at (vertices_from 0 es) p
value_of_entry es p = sym (value_from es 0 p) ∙ ap (value_at (vertices_from 0 es)) (omega arith)

-- ---- faces

pub all_within : List (Option ℕ) → List (Option ℕ) → Bool
all_within [] fs = true
all_within (e ∷ es) [] = true
all_within (e ∷ es) (f ∷ fs) = is_within e f && all_within es fs

no_later : (v : Vertex) (fs : List (Option ℕ)) (m : ℕ) → v.0 < m → list_any (same_vertex v) (vertices_from m fs) ≡ false
no_later v [] m h = refl
no_later v (None ∷ fs) m h = no_later v fs (m + 1) (omega arith)
no_later v (Some y ∷ fs) m h = let ne : v.0 == m ≡ false = ne_eqb v.0 m (λ e. omega arith) in rw ne (no_later v fs (m + 1) (omega arith))

-- vertices of later processes are not the first one of the other
past_first : (y : ℕ) (s : Simplex) (n : ℕ) (es : List (Option ℕ)) (m : ℕ) → n < m → list_all (λ v. list_any (same_vertex v) ((n, y) ∷ s)) (vertices_from m es) ≡ list_all (λ v. list_any (same_vertex v) s) (vertices_from m es)
past_first y s n [] m h = refl
past_first y s n (None ∷ es) m h = past_first y s n es (m + 1) (omega arith)
past_first y s n (Some x ∷ es) m h =
    let ne : m == n ≡ false = ne_eqb m n (λ e. omega arith) in
    rw ne (ap (λ b. list_any (same_vertex (m, x)) s && b) (past_first y s n es (m + 1) (omega arith)))

first_within : (x y n : ℕ) (fs : List (Option ℕ)) → list_any (same_vertex (n, x)) ((n, y) ∷ vertices_from (n + 1) fs) ≡ x == y
first_within x y n fs =
    let e : n == n ≡ true = eq-eqb n n refl in
    rw (e, no_later (n, x) fs (n + 1) (omega arith)) (or-false (x == y))

pub within_all : (n : ℕ) (es fs : List (Option ℕ)) → length es ≡ length fs → all_within es fs ≡ list_all (λ v. list_any (same_vertex v) (vertices_from n fs)) (vertices_from n es)
unfolding all_within
within_all n [] fs h = refl
within_all n (e ∷ es) [] h = absurd (omega arith)
within_all n (None ∷ es) (None ∷ fs) h = within_all (n + 1) es fs (omega arith)
within_all n (None ∷ es) (Some y ∷ fs) h = within_all (n + 1) es fs (omega arith) ∙ sym (past_first y (vertices_from (n + 1) fs) n es (n + 1) (omega arith))
within_all n (Some x ∷ es) (None ∷ fs) h = rw (no_later (n, x) fs (n + 1) (omega arith)) refl
within_all n (Some x ∷ es) (Some y ∷ fs) h =
    (λ i. sym (first_within x y n fs) i && within_all (n + 1) es fs (omega arith) i)
    ∙ ap (λ b. list_any (same_vertex (n, x)) ((n, y) ∷ vertices_from (n + 1) fs) && b) (sym (past_first y (vertices_from (n + 1) fs) n es (n + 1) (omega arith)))

within_four : (a b c d e f g h : Option ℕ) → (is_within a e && is_within b f && is_within c g && is_within d h) ≡ all_within (a ∷ b ∷ c ∷ d ∷ []) (e ∷ f ∷ g ∷ h ∷ [])
unfolding all_within
within_four a b c d e f g h = by (is_within a e) (is_within b f) (is_within c g) (is_within d h)
  where
    by : (p q r s : Bool) → (p && q && r && s) ≡ (p && (q && (r && (s && true))))
    by true true true true = refl
    by true true true false = refl
    by true true false s = refl
    by true false r s = refl
    by false q r s = refl

-- the test of the entries is the test of the vertices
pub face_by_entries : (a b c d e f g h : Option ℕ) → is_nonempty (vertices_from 0 (a ∷ b ∷ c ∷ d ∷ [])) ≡ true →
    (is_within a e && is_within b f && is_within c g && is_within d h) ≡ is_face (vertices_from 0 (a ∷ b ∷ c ∷ d ∷ [])) (vertices_from 0 (e ∷ f ∷ g ∷ h ∷ []))
face_by_entries a b c d e f g h some =
    let es : List (Option ℕ) = a ∷ b ∷ c ∷ d ∷ [] in
    let fs : List (Option ℕ) = e ∷ f ∷ g ∷ h ∷ [] in
    within_four a b c d e f g h ∙ within_all 0 es fs refl ∙ ap (λ t. t && list_all (λ v. list_any (same_vertex v) (vertices_from 0 fs)) (vertices_from 0 es)) (sym some)

-- ---- the order of two tables

-- the entry that is there comes before one that is absent, and a smaller value before a larger one
abbrev pub entry_cmp : Option ℕ → Option ℕ → Ordering
entry_cmp None None = Equal
entry_cmp None (Some y) = Greater
entry_cmp (Some x) None = Less
entry_cmp (Some x) (Some y) = nat_cmp x y

pub entries_cmp : List (Option ℕ) → List (Option ℕ) → Ordering
entries_cmp [] fs = Equal
entries_cmp (e ∷ es) [] = Equal
entries_cmp (e ∷ es) (f ∷ fs) = ordering_then (entry_cmp e f) (entries_cmp es fs)

before : (n x : ℕ) (s : Simplex) (fs : List (Option ℕ)) (m : ℕ) → n < m → 0 < length (vertices_from m fs) → slice_cmp vertex_cmp ((n, x) ∷ s) (vertices_from m fs) ≡ Less
before n x s [] m h k = absurd (omega arith)
before n x s (None ∷ fs) m h k = before n x s fs (m + 1) (omega arith) k
before n x s (Some y ∷ fs) m h k = rw (sym (nat_cmp_is n m Less h)) refl

after : (n x : ℕ) (s : Simplex) (fs : List (Option ℕ)) (m : ℕ) → n < m → 0 < length (vertices_from m fs) → slice_cmp vertex_cmp (vertices_from m fs) ((n, x) ∷ s) ≡ Greater
after n x s [] m h k = absurd (omega arith)
after n x s (None ∷ fs) m h k = after n x s fs (m + 1) (omega arith) k
after n x s (Some y ∷ fs) m h k = rw (sym (nat_cmp_is m n Greater h)) refl

pub vertices_cmp : (n : ℕ) (es fs : List (Option ℕ)) → length es ≡ length fs → length (vertices_from n es) ≡ length (vertices_from n fs) → slice_cmp vertex_cmp (vertices_from n es) (vertices_from n fs) ≡ entries_cmp es fs
unfolding entries_cmp
vertices_cmp n [] [] h k = refl
vertices_cmp n [] (f ∷ fs) h k = absurd (omega arith)
vertices_cmp n (e ∷ es) [] h k = absurd (omega arith)
vertices_cmp n (None ∷ es) (None ∷ fs) h k = vertices_cmp (n + 1) es fs (omega arith) k
vertices_cmp n (None ∷ es) (Some y ∷ fs) h k = after n y (vertices_from (n + 1) fs) es (n + 1) (omega arith) (omega arith)
vertices_cmp n (Some x ∷ es) (None ∷ fs) h k = before n x (vertices_from (n + 1) es) fs (n + 1) (omega arith) (omega arith)
vertices_cmp n (Some x ∷ es) (Some y ∷ fs) h k = rw (sym (nat_cmp_is n n Equal refl)) (ap (ordering_then (nat_cmp x y)) (vertices_cmp (n + 1) es fs (omega arith) (omega arith)))

then_all : (o p q r s : Ordering) → ordering_then (ordering_then (ordering_then (ordering_then o p) q) r) s ≡ ordering_then o (ordering_then p (ordering_then q (ordering_then r (ordering_then s Equal))))
then_all Less p q r s = refl
then_all Greater p q r s = refl
then_all Equal Less q r s = refl
then_all Equal Greater q r s = refl
then_all Equal Equal Less r s = refl
then_all Equal Equal Greater r s = refl
then_all Equal Equal Equal Less s = refl
then_all Equal Equal Equal Greater s = refl
then_all Equal Equal Equal Equal Less = refl
then_all Equal Equal Equal Equal Equal = refl
then_all Equal Equal Equal Equal Greater = refl

after_sizes : (s t : Simplex) (o p : Ordering) → (length s ≡ length t → slice_cmp vertex_cmp s t ≡ p) → o ≡ nat_cmp (length s) (length t) → ordering_then o p ≡ ordering_then o (slice_cmp vertex_cmp s t)
after_sizes s t Less p f e = refl
after_sizes s t Greater p f e = refl
after_sizes s t Equal p f e = sym (f (ranked (length s) (length t) Equal e))

-- sizes first, and then the entries
pub ordered_by_entries : (o : Ordering) (a b c d e f g h : Option ℕ) → o ≡ nat_cmp (length (vertices_from 0 (a ∷ b ∷ c ∷ d ∷ []))) (length (vertices_from 0 (e ∷ f ∷ g ∷ h ∷ []))) →
    ordering_then (ordering_then (ordering_then (ordering_then o (entry_cmp a e)) (entry_cmp b f)) (entry_cmp c g)) (entry_cmp d h) ≡ simplex_cmp (vertices_from 0 (a ∷ b ∷ c ∷ d ∷ [])) (vertices_from 0 (e ∷ f ∷ g ∷ h ∷ []))
unfolding entries_cmp
ordered_by_entries o a b c d e f g h sizes =
    let es : List (Option ℕ) = a ∷ b ∷ c ∷ d ∷ [] in
    let fs : List (Option ℕ) = e ∷ f ∷ g ∷ h ∷ [] in
    then_all o (entry_cmp a e) (entry_cmp b f) (entry_cmp c g) (entry_cmp d h)
    ∙ after_sizes (vertices_from 0 es) (vertices_from 0 fs) o (entries_cmp es fs) (vertices_cmp 0 es fs refl) sizes
    ∙ ap (λ p. ordering_then p (slice_cmp vertex_cmp (vertices_from 0 es) (vertices_from 0 fs))) sizes

-- ---- small facts

pub past_end : (es : List (Option ℕ)) (p : ℕ) → length es ≤ p → slice_index_or es p None ≡ None
past_end [] p h = refl
past_end (e ∷ es) zero h = absurd (omega arith)
past_end (e ∷ es) (suc p) h = past_end es p (omega arith)

pub nonempty_of_simplex : (s : Simplex) → is_simplex s ≡ true → is_nonempty s ≡ true
nonempty_of_simplex [] h = h
nonempty_of_simplex (v ∷ s) h = refl
