use Rattle.std.proofs.Common.{arith}
use Rattle.std.proofs.lemmas.Fmt.{length-decimal-le}
use Rattle.wf_report.proofs.writing.put_value.Goals as goal

pub write_number-number-requires : goal.write_number-number-requires
write_number-number-requires c = grind (arith, length-decimal-le 3)

pub write_byte-begin-requires : goal.write_byte-begin-requires
write_byte-begin-requires c = grind (arith, length-decimal-le 3)
