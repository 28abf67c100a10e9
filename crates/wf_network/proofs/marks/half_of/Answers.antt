use Rattle.std.proofs.Common.{rules, ◌≡◌, ◌<◌, ◌*◌, ◌+◌, ◌^◌, arith, subst, sym}
use Rattle.wf_network.specs.Marks.{IsHalf}
use Rattle.wf_network.proofs.MarkLemmas.{high_half, low_half}
use Rattle.wf_network.proofs.marks.half_of.Goals as goal

pub returns-then-users-eq0 : goal.returns-then-users-eq0
returns-then-users-eq0 c = subst (IsHalf c.args.users) (sym c.from-bits.ensures) (low_half c.args.users c.if-users-eq0.true (let fits : c.args.users.bits < 2 ^ 32 = search rules in fits))

pub returns-else-users-eq0 : goal.returns-else-users-eq0
returns-else-users-eq0 c =
    let is : c.args.users.bits * 2 ^ 32 + 0 ≡ c.from-bits.result * 4294967296 = omega (arith, c.from-bits.ensures) in
    subst (IsHalf c.args.users) is (high_half c.args.users (omega (arith, c.if-users-eq0.false)))
