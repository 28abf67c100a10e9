use Rattle.std.proofs.Common.{length, ◌≤◌, ◌≡◌, Result, Ok, Err, List, Vec, Global, sym, ap, subst, refl}
use Rattle.std.specs.declared.alloc.AllocError.{AllocError}
use Rattle.std.specs.declared.sync.Arc.{Arc}
use Rattle.std.specs.Result.{IfOk}
use Rattle.std.proofs.lemmas.List.{length-map}
use Rattle.wf_complex.specs.Packed.{scope_in}
use Rattle.wf_complex.specs.Protocol.{ArePacked}
use Rattle.wf_complex.specs.ProtocolSeen.{built_seen, executions_in}
use Rattle.wf_complex.specs.declared.packed.PackedExecution.{PackedExecution}
use Rattle.wf_complex.proofs.PackedLemmas.{fours_in}
use Rattle.wf_complex.proofs.protocol.Protocol.packed.Goals as goal

-- what is shared is what is kept
shared : (r : Result (Arc (Vec PackedExecution Global) Global) AllocError) (kept : Vec PackedExecution Global) (P : List PackedExecution → Type 0) → IfOk r (λ a. a.value ≡ kept) → P kept.items → IfOk r (λ a. P a.value.items)
shared (Ok a) kept P is holds = subst P (ap (λ v. v.items) (sym is)) holds
shared (Err e) kept P is holds = tt

pub returns-clause-packed : goal.returns-clause-packed
returns-clause-packed c =
    let p = c.self.inside in
    let packed : ArePacked (built_seen p) (executions_in p) = record {
      long = sym (length-map (executions_in p) (scope_in p.inputs.items));
      simplices = refl;
      points = fours_in p.inputs.items (executions_in p) c.self.invariant.packed;
    } in
    shared c.try_clone.result p.executions.value (ArePacked c.args.self.now) c.try_clone.ensures (subst (λ b. ArePacked b (executions_in p)) c.self.view_is packed)

pub returns-clause-few : goal.returns-clause-few
returns-clause-few c =
    shared c.try_clone.result c.self.inside.executions.value (λ es. length es ≤ 500000) c.try_clone.ensures c.self.invariant.few_executions
