use Rattle.std.proofs.Common.{All, ◌≡◌, ◌+◌, ◌-◌, ◌*◌, ◌==◌, ◌<◌, ◌≤◌, false, slice_index_or, sym, ap, ◌∙◌, subst, arith, [], ◌∷◌, ◌++◌, inl, inr, drop, take, take_all, ne_eqb}
use Rattle.wf_model.specs.Simplex.{Vertex, values_of}
use Rattle.std.proofs.lemmas.List.{take_more, map-append}
use Rattle.std.proofs.lemmas.List.Elements.{All-push}
use Rattle.wf_simplex.specs.Entries.{value_at, ascends_from}
use Rattle.wf_simplex.specs.Keys.{key_of, one_vertex, unit_of}
use Rattle.wf_simplex.proofs.KeyLemmas.{is_key, key_of-joined, simplex_of-key, value_at-other}
use Rattle.wf_simplex.proofs.Reading.{nonempty_by_length, process_fault, no_fault, simplex_within, ascending_step, names_processes_at_end, at_pair}
use Rattle.wf_simplex.proofs.simplex.Simplex.read.Goals as goal
use Rattle.wf_simplex.proofs.simplex.Simplex.read.Goals.{then-process-least-via-then-process-least, then-process-least-via-else-process-least+then-process-gt3}

pub returns-then-process-least : goal.returns-then-process-least
returns-then-process-least c =
    let some = nonempty_by_length c.args.pairs.now (sym c.is_empty.ensures ∙ c.if-is_empty.false) in
    process_fault c.args.pairs.now c.loop-process.least c.loop-process.process-index some c.loop-process-test.true c.loop-process.invariant.ascends
    (elim c.then-process-least.branch [
      | then-process-least-via-then-process-least w ↦ inl w.if-process-least.true
      | then-process-least-via-else-process-least+then-process-gt3 w ↦ inr w.if-process-gt3.true
    ])

pub loop-process-preserved : goal.loop-process-preserved
loop-process-preserved c =
    let s = c.args.pairs.now in
    let i = c.loop-process.process-index in
    let least = c.loop-process.least in
    let inv = c.loop-process.invariant in
    let v = slice_index_or s i (0, 0) in
    let taken = take i s in
    let more : take (i + 1) s ≡ taken ++ (v ∷ []) = take_more s i (0, 0) c.loop-process-test.true in
    let low : least ≤ v.0 = c.if-process-least.false in
    let high : v.0 < 4 = omega arith in
    let made = c.key_with-key.ensures in
    record {
      key = made.key ∙ ap (λ k. k + one_vertex - (256 - v.1) * unit_of v.0) inv.key
          ∙ key_of-joined taken v.0 v.1 high made.value (inv.absent v.0 low) ∙ ap key_of (sym more);
      few = omega (arith, made.few, inv.few);
      count = omega (arith, inv.count, low);
      most = omega (arith, high);
      absent = λ p h.
          let other : (v.0 == p) ≡ false = ne_eqb v.0 p (λ e. omega (arith, h, e)) in
          ap (λ t. value_at t p) more ∙ value_at-other taken v.0 v.1 p other ∙ inv.absent p (omega (arith, h, low));
      small = subst (All (λ x. x ≤ 255)) (sym (ap values_of more ∙ map-append (λ (w : Vertex). w.1) taken (v ∷ [])))
          (All-push (λ x. x ≤ 255) (values_of taken) v.1 inv.small made.value);
      ascends = sym (ascending_step least v (drop (i + 1) s) low high) ∙ ap (ascends_from least) (sym (at_pair s i c.loop-process-test.true)) ∙ inv.ascends;
    }

pub invariant_of-result : goal.invariant_of-result
invariant_of-result c =
    let s = c.args.pairs.now in
    let inv = c.loop-process.invariant in
    let some = nonempty_by_length s (sym c.is_empty.ensures ∙ c.if-is_empty.false) in
    let named = names_processes_at_end s c.loop-process.least c.loop-process.process-index c.loop-process-test.false inv.ascends in
    let all = take_all c.loop-process.process-index s c.loop-process-test.false in
    is_key c.loop-process.key s (inv.key ∙ ap key_of all) (simplex_within s some named (subst (λ t. All (λ x. x ≤ 255) (values_of t)) all inv.small))

pub returns : goal.returns
returns c =
    let s = c.args.pairs.now in
    let inv = c.loop-process.invariant in
    let some = nonempty_by_length s (sym c.is_empty.ensures ∙ c.if-is_empty.false) in
    let named = names_processes_at_end s c.loop-process.least c.loop-process.process-index c.loop-process-test.false inv.ascends in
    let all = take_all c.loop-process.process-index s c.loop-process-test.false in (
      no_fault s some named,
      simplex_of-key c.loop-process.key s (inv.key ∙ ap key_of all) (simplex_within s some named (subst (λ t. All (λ x. x ≤ 255) (values_of t)) all inv.small)),
    )
