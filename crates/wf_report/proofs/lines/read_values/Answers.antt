use Rattle.std.proofs.Common.{ℕ, List, [], ◌∷◌, ◌++◌, Some, Ok, sym, ◌∙◌, arith, subst, length-append}
use Rattle.std.proofs.lemmas.List.{take_all}
use Rattle.wf_report.specs.Parts.{PassesValue, value_then, values_then}
use Rattle.wf_report.specs.Reads.{Parse, Reads}
use Rattle.wf_report.specs.declared.halt.ReadStop.TheVariants.{SourceFailed}
use Rattle.wf_base.specs.declared.streams.source.ReadFault.TheVariants as unread
use Rattle.wf_report.proofs.InTurn.{last_value, no_memory, no_values, one_value, values_stop}
use Rattle.wf_report.proofs.lines.read_values.Goals as goal

pub values-init : goal.values-init
values-init g c = record {
  done = [];
  read = no_values c.args.source.now c.args.window.now;
  first = c.new-values.ensures.items ∙ sym (take_all c.args.most [] (omega arith));
  number = omega arith;
  can = c.requires;
}

pub returns-in_err-value-clause-read : goal.returns-in_err-value-clause-read
returns-in_err-value-clause-read g c =
    values_stop c.args.source.now c.values.source c.next_value.new.source c.args.window.now c.values.window c.next_value.new.window c.in_err-value.field-0.0 c.args.most c.values.invariant.done value_then c.from_residual.result c.from_residual.ensures
    c.values.invariant.read c.in_err-value.ensures.value

pub returns-in_err-keep-clause-read : goal.returns-in_err-keep-clause-read
returns-in_err-keep-clause-read g c =
    let k = c.values in
    let w = c.next_value.new.window in
    let read = λ (next : List ℕ → Parse). subst (λ o. Reads (values_then next) (value_then next) k.source c.next_value.new.source k.window w (Ok o)) c.in-Some.is (c.in_ok-value.ensures.value next) in
    values_stop c.args.source.now k.source c.next_value.new.source c.args.window.now k.window w (SourceFailed unread.OutOfMemory) c.args.most k.invariant.done value_then c.from_residual-in_err-keep.result c.from_residual-in_err-keep.ensures
    k.invariant.read
    (λ next. no_memory (values_then next) (value_then next) (value_then next) k.source c.next_value.new.source k.window w (Some c.in-Some.value) (read next) c.in_ok-value.ensures.can)

pub values-preserved : goal.values-preserved
values-preserved g c =
    let k = c.values in
    let before = k.invariant in
    let w = c.next_value.new.window in
    let v = c.in-Some.value in
    let passed = subst (PassesValue k.window w) c.in-Some.is c.in_ok-value.ensures.passes in
    let size = length-append before.done (v ∷ []) in
    let number = before.number in
    record {
      done = before.done ++ v ∷ [];
      read = one_value c.args.source.now k.source c.next_value.new.source c.args.window.now k.window w before.done before.read v
          (λ next. subst (λ o. Reads (values_then next) (value_then next) k.source c.next_value.new.source k.window w (Ok o)) c.in-Some.is (c.in_ok-value.ensures.value next));
      first = c.in_ok-keep.ensures before.done before.first;
      number = omega (arith, number, passed.0, size);
      can = c.in_ok-value.ensures.can;
    }

pub values-smaller : goal.values-smaller
values-smaller g c =
    let passed = subst (PassesValue c.values.window c.next_value.new.window) c.in-Some.is c.in_ok-value.ensures.passes in
    omega (arith, passed.0, passed.1)

pub returns-clause-read : goal.returns-clause-read
returns-clause-read g c =
    let k = c.values in
    let w = c.next_value.new.window in
    let passed = subst (PassesValue k.window w) c.in_default.is c.in_ok-value.ensures.passes in (
      k.invariant.done,
      last_value c.args.source.now k.source c.next_value.new.source c.args.window.now k.window w k.invariant.done k.invariant.read k.values
          (λ next. subst (λ o. Reads (values_then next) (value_then next) k.source c.next_value.new.source k.window w (Ok o)) c.in_default.is (c.in_ok-value.ensures.value next)),
      (k.invariant.first, passed ∙ k.invariant.number),
    )
