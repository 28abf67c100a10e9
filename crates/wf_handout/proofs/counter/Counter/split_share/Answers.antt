use Rattle.std.proofs.Common.{rules, arith, ◌-◌, sym, subst, []}
use Rattle.atomic_table.specs.Table.{Splits}
use Rattle.wf_handout.specs.Rule.{knows, Counted, Seated}
use Rattle.wf_handout.proofs.CounterSteps.{deals}
use Rattle.wf_handout.proofs.counter.Counter.split_share.Goals as goal

pub split_seat-seat-requires : goal.split_seat-seat-requires
split_seat-seat-requires c =
    let some = c.requires.rest.0 in (
      search rules,
      omega (arith, c.self.invariant.0),
      subst (λ (me : Seated). Splits (Counted c.self.inside.table.shared.key) c.args.rest.now.seat.id me.0 (knows me.0.taken (me.0.parts - 1) me.0.nones) (knows [] 1 0)) (sym c.requires.rest.1)
          (deals _ _ c.args.rest.now.left (omega arith)),
    )
