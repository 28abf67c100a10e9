use Rattle.std.proofs.Common.{◌≡◌, ◌^◌, drop}
use Rattle.std.specs.Int.Bits.{bit_or}
use Rattle.wf_complex.specs.Table.{process_bits_at}
use Rattle.wf_complex.proofs.views.process_bits_seen.Given as goal

abbrev pub invariant-loop-id : goal.invariant-loop-id
invariant-loop-id l = bit_or l.all (process_bits_at l.bits (drop l.id-index l.ids)) ≡ bit_or (2 ^ l.process) (process_bits_at l.bits l.ids)
