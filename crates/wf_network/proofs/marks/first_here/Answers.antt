use Rattle.std.proofs.Common.{arith, slice_index, ◌/◌, ◌%◌, ◌^◌, ◌<◌}
use Rattle.std.proofs.Math.Nat.{div-le_self}
use Rattle.wf_network.proofs.MarkLemmas.{next_here, none_here, shift_low}
use Rattle.wf_network.proofs.marks.first_here.Goals as goal

pub returns-clause-next : goal.returns-clause-next
returns-clause-next c =
    let words = c.args.words.now in
    let from = c.args.from in
    let word = slice_index words (from / 64) in
    let fits : word < 2 ^ 64 = (c.type_inv.words (from / 64)).fits in
    let some : 0 < word / 2 ^ (from % 64) = omega (arith, c.if-here-eq0.false) in
    next_here words from c.requires.within some (omega (arith, fits, div-le_self word (2 ^ (from % 64)))) (shift_low word (from % 64) (omega arith) fits some)

pub returns-then-here-eq0-clause-last : goal.returns-then-here-eq0-clause-last
returns-then-here-eq0-clause-last c = λ m after same. none_here c.args.words.now c.args.from m c.if-here-eq0.true after same
