-- Reading pairs, and the faults that they may have.
use Rattle.std.proofs.Common.{◌≡◌, ℕ, ◌+◌, ◌<◌, ◌≤◌, Bool, true, false, ◌&&◌, nat_lt, nat_le, [], ◌∷◌, length, drop, None, Some, slice_index_or, refl, sym, ap, ◌∙◌, arith, add-one, drop-cons, drop_of_length-le, le-leb, lt-ltb, leb-true, ltb-true, All, ◌==◌, ◌⊎◌, inl, inr}
use Rattle.std.proofs.lemmas.Bool.{and_parts, and_from}
use Rattle.std.specs.List.{list_all}
use Rattle.wf_model.specs.Simplex.{Vertex, Simplex, processes_of, values_of, is_ascending, is_nonempty}
use Rattle.wf_model.specs.Task.{IsSimplexWithin}
use Rattle.wf_simplex.specs.Entries.{ascends_from}
use Rattle.wf_simplex.specs.Reading.{names_processes, read_fault}
use Rattle.wf_simplex.specs.declared.simplex.SimplexFault.TheVariants.{Colour}
use Rattle.wf_simplex.proofs.Ascent.{ascends_below, ascent_below, low_processes}

-- ---- ascending processes

pub ascending_step : (m : ℕ) (v : Vertex) (s : Simplex) → m ≤ v.0 → v.0 < 4 → ascends_from m (v ∷ s) ≡ ascends_from (v.0 + 1) s
ascending_step m v s h k = rw (le-leb m v.0 h, lt-ltb v.0 4 k) refl

-- the same by the bound
below_four : (m : ℕ) (s : Simplex) → ascends_from m s ≡ ascends_below 4 m s
below_four m [] = refl
below_four m (v ∷ s) = ap (λ rest. nat_le m v.0 && nat_lt v.0 4 && rest) (below_four (v.0 + 1) s)

pub ascent_names_processes : (s : Simplex) → ascends_from 0 s ≡ names_processes s
ascent_names_processes s = below_four 0 s ∙ ascent_below 4 s

-- ---- the faults

pub nonempty_by_length : (s : Simplex) → (length s == 0) ≡ false → is_nonempty s ≡ true
nonempty_by_length [] h = cc
nonempty_by_length (v ∷ s) h = refl

pub at_pair : (s : Simplex) (i : ℕ) → i < length s → drop i s ≡ slice_index_or s i (0, 0) ∷ drop (i + 1) s
at_pair s i h = rw add-one (drop-cons s i (0, 0) h)

-- a vertex out of place
stopped : (m : ℕ) (v : Vertex) (s : Simplex) → (v.0 < m) ⊎ (3 < v.0) → ascends_from m (v ∷ s) ≡ false
stopped m v s (inl low) = rw (below_leb m v.0 low) refl
  where
    below_leb : (m n : ℕ) → n < m → nat_le m n ≡ false
    below_leb m n h = by (nat_le m n) refl
      where
        by : (b : Bool) → nat_le m n ≡ b → b ≡ false
        by true e = absurd (let l : m ≤ n = leb-true m n e in omega arith)
        by false e = refl
stopped m v s (inr high) = rw (above_ltb v.0 high) (and_false (nat_le m v.0) (ascends_from (v.0 + 1) s))
  where
    above_ltb : (n : ℕ) → 3 < n → nat_lt n 4 ≡ false
    above_ltb n h = by (nat_lt n 4) refl
      where
        by : (b : Bool) → nat_lt n 4 ≡ b → b ≡ false
        by true e = absurd (let l : n < 4 = ltb-true n 4 e in omega arith)
        by false e = refl

    and_false : (a c : Bool) → (a && false && c) ≡ false
    and_false true c = refl
    and_false false c = refl

-- what the loop finds at a pair that is out of place
pub process_fault : (s : Simplex) (m i : ℕ) → is_nonempty s ≡ true → i < length s → ascends_from m (drop i s) ≡ ascends_from 0 s
    → ((slice_index_or s i (0, 0)).0 < m) ⊎ (3 < (slice_index_or s i (0, 0)).0) → read_fault s ≡ Some Colour
process_fault s m i some h same out =
    let bad : names_processes s ≡ false = sym (ascent_names_processes s) ∙ sym same ∙ ap (ascends_from m) (at_pair s i h) ∙ stopped m (slice_index_or s i (0, 0)) (drop (i + 1) s) out in
    rw some (rw bad refl)

pub no_fault : (s : Simplex) → is_nonempty s ≡ true → names_processes s ≡ true → read_fault s ≡ None
no_fault s some named = rw some (rw named refl)

-- pairs without a fault are a simplex
pub simplex_within : (s : Simplex) → is_nonempty s ≡ true → names_processes s ≡ true → All (λ x. x ≤ 255) (values_of s) → IsSimplexWithin 4 255 s
simplex_within s some named small = record {
  is_simplex = and_from (is_nonempty s) (is_ascending (processes_of s)) some (and_parts (is_ascending (processes_of s)) (list_all (λ p. nat_lt p 4) (processes_of s)) named).0;
  processes = low_processes 4 (processes_of s) (and_parts (is_ascending (processes_of s)) (list_all (λ p. nat_lt p 4) (processes_of s)) named).1;
  values = small;
}

-- once the loop went through all pairs
pub names_processes_at_end : (s : Simplex) (m i : ℕ) → length s ≤ i → ascends_from m (drop i s) ≡ ascends_from 0 s → names_processes s ≡ true
names_processes_at_end s m i h same = sym (ascent_names_processes s) ∙ sym same ∙ ap (ascends_from m) (drop_of_length-le s h)
