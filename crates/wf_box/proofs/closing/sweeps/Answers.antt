use Rattle.std.proofs.Common.{◌≡◌, ℕ, ◌<◌, ◌≤◌, None, length, arith}
use Rattle.wf_model.specs.Box.{count}
use Rattle.wf_base.specs.Set.Sets.{box_of}
use Rattle.wf_box.proofs.SweepLemmas.{count_few, grown, swept_done, swept_more, swept_out}
use Rattle.wf_box.proofs.WorkLemmas.{proceeds_then, still_working}
use Rattle.wf_box.proofs.NameLemmas.{named_then}
use Rattle.wf_box.proofs.closing.sweeps.Goals as goal

less : {m n : ℕ} → m ≤ n → (n ≡ m → ⊥) → m < n
less low other = omega (arith, low, other)

pub overflow_add-sweeps : goal.overflow_add-sweeps
overflow_add-sweeps c = omega (arith, c.sweeping.invariant.1, count_few c.args.workspace.now.tracked.words.items, c.requires.working.kept.few)

pub returns-in-Some-clause-named : goal.returns-in-Some-clause-named
returns-in-Some-clause-named c = named_then c.args.problem.now _ _ _ _ _ _ c.sweeping.invariant.2 c.sweep.ensures.named

pub returns-then-len-before-clause-named : goal.returns-then-len-before-clause-named
returns-then-len-before-clause-named c = named_then c.args.problem.now _ _ _ _ _ _ c.sweeping.invariant.2 c.sweep.ensures.named

pub returns-then-len-before-clause-step : goal.returns-then-len-before-clause-step
returns-then-len-before-clause-step c =
    let same : length c.sweep.new.lines.items ≡ length c.sweeping.lines.items = omega (arith, c.if-len-before.true, c.len.ensures, c.len-before.ensures, c.sweeping.lines.ok.0, c.sweep.new.lines.ok.0) in
    (swept_done c.args.problem.now c.sweeping.lines.items c.sweep.new.lines.items c.sweeping.workspace.tracked.words.items c.sweep.new.workspace.tracked.words.items _ _ _ c.sweeping.invariant.3 same c.in_default.ensures.step).0

pub returns-then-len-before-clause-sweep_count : goal.returns-then-len-before-clause-sweep_count
returns-then-len-before-clause-sweep_count c =
    let same : length c.sweep.new.lines.items ≡ length c.sweeping.lines.items = omega (arith, c.if-len-before.true, c.len.ensures, c.len-before.ensures, c.sweeping.lines.ok.0, c.sweep.new.lines.ok.0) in
    (swept_done c.args.problem.now c.sweeping.lines.items c.sweep.new.lines.items c.sweeping.workspace.tracked.words.items c.sweep.new.workspace.tracked.words.items _ _ _ c.sweeping.invariant.3 same c.in_default.ensures.step).1

pub sweeping-preserved : goal.sweeping-preserved
sweeping-preserved c =
    let p = c.args.problem.now in
    let before = c.sweeping.lines.ok.0 in
    let after = c.sweep.new.lines.ok.0 in
    let up = grown p c.sweeping.lines.items c.sweep.new.lines.items c.sweeping.workspace.tracked.words.items c.sweep.new.workspace.tracked.words.items None c.in_default.ensures.step in
    let more : length c.sweep.new.lines.items ≡ length c.sweeping.lines.items → ⊥ = λ same. c.if-len-before.false (let e : c.len.result ≡ c.len-before.result = omega (arith, same, before, after, c.len.ensures, c.len-before.ensures) in e) in
    let lines_differ : length c.sweeping.lines.items < length c.sweep.new.lines.items = less up more in
    let fewer : count (box_of c.sweep.new.workspace.tracked.words.items) < count (box_of c.sweeping.workspace.tracked.words.items) = omega (arith, c.in_default.ensures.proceeds.ends.1, up, before, after, lines_differ) in (
      omega arith,
      omega (arith, fewer, c.sweeping.invariant.1),
      named_then p _ _ _ _ _ _ c.sweeping.invariant.2 c.sweep.ensures.named,
      swept_more p c.sweeping.lines.items c.sweep.new.lines.items c.sweeping.workspace.tracked.words.items c.sweep.new.workspace.tracked.words.items _ _ _ c.sweeping.invariant.3 fewer more c.in_default.ensures.step,
      proceeds_then _ _ _ _ _ _ c.sweeping.workspace _ _ c.sweeping.invariant.4 c.in_default.ensures.proceeds,
      c.in_default.ensures.marked,
    )

pub sweep-requires-clause-working : goal.sweep-requires-clause-working
sweep-requires-clause-working c = still_working _ _ _ _ _ _ c.sweeping.invariant.4

pub returns-in-Some-clause-proceeds : goal.returns-in-Some-clause-proceeds
returns-in-Some-clause-proceeds c = proceeds_then _ _ _ _ _ _ c.sweeping.workspace _ _ c.sweeping.invariant.4 c.in-Some.ensures.proceeds

pub returns-then-len-before-clause-proceeds : goal.returns-then-len-before-clause-proceeds
returns-then-len-before-clause-proceeds c = proceeds_then _ _ _ _ _ _ c.sweeping.workspace _ _ c.sweeping.invariant.4 c.in_default.ensures.proceeds

pub returns-then-len-before-clause-sweeps : goal.returns-then-len-before-clause-sweeps
returns-then-len-before-clause-sweeps c = omega (arith, c.sweeping.invariant.1, c.in_default.ensures.proceeds.ends.1, c.if-len-before.true, c.len.ensures, c.len-before.ensures)

pub returns-in-Some-clause-step : goal.returns-in-Some-clause-step
returns-in-Some-clause-step c =
    swept_out c.args.problem.now c.sweeping.lines.items c.sweep.new.lines.items c.sweeping.workspace.tracked.words.items c.sweep.new.workspace.tracked.words.items c.in-Some.point _ _ _ c.sweeping.invariant.3 c.in-Some.ensures.step
