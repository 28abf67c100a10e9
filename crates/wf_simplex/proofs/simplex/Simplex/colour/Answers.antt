use Rattle.std.proofs.Common.{◌≡◌, ℕ, suc, ◌+◌, ◌<◌, ◌≤◌, length, slice_index, sym, ap, ◌∙◌, subst, arith}
use Rattle.wf_model.specs.Simplex.{processes_of}
use Rattle.wf_simplex.specs.Keys.{digit_at}
use Rattle.wf_simplex.proofs.KeyLemmas.{vertices_on, all_on, none_on, on_present, on_absent}
use Rattle.wf_simplex.proofs.simplex.Simplex.colour.Goals as goal
use Rattle.wf_simplex.proofs.simplex.Simplex.colour.Goals.{then-digit-lt-ABSENT+else-left-eq0, else-digit-lt-ABSENT}

-- past a process that takes part one place less is left
next_process : (key p left next : ℕ) → p < 4 → digit_at key p < 256 → left ≡ suc next
    → slice_index (processes_of (vertices_on key (p + 1))) next ≡ slice_index (processes_of (vertices_on key p)) left
next_process key p left next low there is =
    sym (ap (λ k. slice_index (processes_of (vertices_on key p)) k) is ∙ ap (λ s. slice_index (processes_of s) (suc next)) (on_present key p low there))

pub loop-process-init : goal.loop-process-init
loop-process-init c =
    let is = all_on c.self.inside.key ∙ c.self.view_is in
    record {
      process = ap (λ s. slice_index (processes_of s) c.args.place) is;
      inside = subst (λ s. c.args.place < length s) (sym is) c.requires;
    }

pub returns-then-left-eq0 : goal.returns-then-left-eq0
returns-then-left-eq0 c =
    let key = c.self.inside.key in
    let p = c.loop-process.process in
    let here = on_present key p c.loop-process-test.true (subst (λ d. d < 256) c.digit.ensures c.if-digit-lt-ABSENT.true) in
    ap (λ s. slice_index (processes_of s) 0) (sym here)
    ∙ ap (λ k. slice_index (processes_of (vertices_on key p)) k) (sym c.if-left-eq0.true)
    ∙ c.loop-process.invariant.process

pub loop-process-preserved : goal.loop-process-preserved
loop-process-preserved c =
    let key = c.self.inside.key in
    let p = c.loop-process.process in
    let left = c.loop-process.left in
    let next = c.if-digit-lt-ABSENT.left in
    let inv = c.loop-process.invariant in
    elim c.if-digit-lt-ABSENT.branch [
      | then-digit-lt-ABSENT+else-left-eq0 w ↦
          let low : digit_at key p < 256 = subst (λ d. d < 256) c.digit.ensures w.if-digit-lt-ABSENT.true in
          let less : left ≡ suc next = omega (arith, w.left-is, w.if-left-eq0.false) in
          record {
            process = next_process key p left next c.loop-process-test.true low less ∙ inv.process;
            inside = omega (arith, inv.inside, less, ap length (on_present key p c.loop-process-test.true low));
          }
      | else-digit-lt-ABSENT w ↦
          let same = on_absent key p c.loop-process-test.true (subst (λ d. 256 ≤ d) c.digit.ensures w.if-digit-lt-ABSENT.false) in
          record {
            process = ap (λ s. slice_index (processes_of s) next) (sym same) ∙ ap (λ k. slice_index (processes_of (vertices_on key p)) k) w.left-is ∙ inv.process;
            inside = omega (arith, inv.inside, w.left-is, ap length same);
          }
    ]

pub unreachable-requires : goal.unreachable-requires
unreachable-requires c =
    let key = c.self.inside.key in
    omega (arith, c.loop-process.invariant.inside, ap length (none_on key c.loop-process.process c.loop-process-test.false))
