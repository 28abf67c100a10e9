use Rattle.std.proofs.Common.{◌≡◌, ◌+◌, ◌-◌, ◌*◌, ◌<◌, ◌≤◌, ◌==◌, ◌++◌, false, ℕ, zero, suc, [], ◌∷◌, None, length, take, take_all, slice_index_or, refl, sym, ap, ◌∙◌, arith, ne_eqb}
use Rattle.std.proofs.lemmas.List.{take_more}
use Rattle.wf_model.specs.Simplex.{Simplex}
use Rattle.wf_simplex.specs.Entries.{value_at}
use Rattle.wf_simplex.specs.Keys.{key_of, unit_of}
use Rattle.wf_simplex.proofs.KeyLemmas.{is_key, key_of-joined, simplex_of-key}
use Rattle.wf_simplex.proofs.BoundedFaces.{Climbs, climbs}
use Rattle.wf_simplex.proofs.simplex.Simplex.of_pairs.Goals as goal

-- the vertex at a place, of a process that none before it has
record IsNext (m i : ℕ) (s : Simplex) : Type 0 where
  late : m + i ≤ (slice_index_or s i (0, 0)).0
  process : (slice_index_or s i (0, 0)).0 < 4
  value : (slice_index_or s i (0, 0)).1 ≤ 255
  new : value_at (take i s) (slice_index_or s i (0, 0)).0 ≡ None

next_vertex : (m i : ℕ) (s : Simplex) → i < length s → Climbs 4 255 m s → IsNext m i s
unfolding Climbs
next_vertex m i [] lt h = absurd (omega (arith, lt))
next_vertex m zero (v ∷ s) lt h = record { late = omega (arith, h.0); process = h.1; value = h.2; new = refl }
next_vertex m (suc i) (v ∷ s) lt h =
    let after = next_vertex (v.0 + 1) i s (omega (arith, lt)) h.3 in
    let other : (v.0 == (slice_index_or s i (0, 0)).0) ≡ false = ne_eqb v.0 (slice_index_or s i (0, 0)).0 (λ e. omega (arith, e, after.late)) in
    record { late = omega (arith, h.0, after.late); process = after.process; value = after.value; new = rw other after.new }

pub overflow_cast-process : goal.overflow_cast-process
overflow_cast-process c = omega (arith, (next_vertex 0 c.loop-process.process-index c.args.pairs.now c.loop-process-test.true (climbs 4 255 c.args.pairs.now c.requires)).process)

pub overflow_cast-value : goal.overflow_cast-value
overflow_cast-value c = omega (arith, (next_vertex 0 c.loop-process.process-index c.args.pairs.now c.loop-process-test.true (climbs 4 255 c.args.pairs.now c.requires)).value)

pub key_with-key-requires-clause-process : goal.key_with-key-requires-clause-process
key_with-key-requires-clause-process c = (next_vertex 0 c.loop-process.process-index c.args.pairs.now c.loop-process-test.true (climbs 4 255 c.args.pairs.now c.requires)).process

pub key_with-key-requires-clause-few : goal.key_with-key-requires-clause-few
key_with-key-requires-clause-few c =
    let next = next_vertex 0 c.loop-process.process-index c.args.pairs.now c.loop-process-test.true (climbs 4 255 c.args.pairs.now c.requires) in
    omega (arith, c.loop-process.invariant.few, next.late, next.process)

pub loop-process-preserved : goal.loop-process-preserved
loop-process-preserved c =
    let s = c.args.pairs.now in
    let i = c.loop-process.process-index in
    let v = slice_index_or s i (0, 0) in
    let taken = take i s in
    let next = next_vertex 0 i s c.loop-process-test.true (climbs 4 255 s c.requires) in
    let more : take (i + 1) s ≡ taken ++ (v ∷ []) = take_more s i (0, 0) c.loop-process-test.true in
    let made = c.key_with-key.ensures in
    record {
      key = made.key ∙ ap (λ k. k + 68719476736 - (256 - v.1) * unit_of v.0) c.loop-process.invariant.key
          ∙ key_of-joined taken v.0 v.1 next.process next.value next.new ∙ ap key_of (sym more);
      few = omega (arith, made.few, c.loop-process.invariant.few);
    }

pub invariant_of-result : goal.invariant_of-result
invariant_of-result c =
    let all = take_all c.loop-process.process-index c.args.pairs.now c.loop-process-test.false in
    is_key c.loop-process.key c.args.pairs.now (c.loop-process.invariant.key ∙ ap key_of all) c.requires

pub returns : goal.returns
returns c =
    let all = take_all c.loop-process.process-index c.args.pairs.now c.loop-process-test.false in
    simplex_of-key c.loop-process.key c.args.pairs.now (c.loop-process.invariant.key ∙ ap key_of all) c.requires
