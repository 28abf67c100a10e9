use Rattle.std.proofs.Common.{arith}
use Rattle.std.proofs.lemmas.Fmt.{length-decimal-le}
use Rattle.std.proofs.lemmas.List.{drop_all}
use Rattle.wf_report.specs.declared.writing.TheConstants.{ROOM}
use Rattle.wf_report.proofs.writing.write_line.Goals as goal

pub write_number-third-requires : goal.write_number-third-requires
write_number-third-requires c = grind (arith, length-decimal-le 3)

pub write_number-second-requires : goal.write_number-second-requires
write_number-second-requires c = grind (arith, length-decimal-le 3)

pub write_number-first-requires : goal.write_number-first-requires
write_number-first-requires c = grind (arith, length-decimal-le 3, length-decimal-le 10)

pub write_byte-requires : goal.write_byte-requires
write_byte-requires c = grind (arith, length-decimal-le 3, length-decimal-le 10)

pub write_number-number-requires : goal.write_number-number-requires
write_number-number-requires c = grind (arith, length-decimal-le 10)

pub write_byte-requires-in-Empty : goal.write_byte-requires-in-Empty
write_byte-requires-in-Empty c = grind (arith, length-decimal-le 10)

pub write_number-number-requires-in-Branch : goal.write_number-number-requires-in-Branch
write_number-number-requires-in-Branch c = grind (arith, length-decimal-le 10)

pub write_byte-requires-in-Branch : goal.write_byte-requires-in-Branch
write_byte-requires-in-Branch c = grind (arith, length-decimal-le 10)

pub returns-in-Remove-clause-written : goal.returns-in-Remove-clause-written
returns-in-Remove-clause-written c =
    let none_behind = drop_all ROOM c.args.room.now (omega arith) in
    rw (c.in-Remove.is, c.write_byte.ensures.written, c.write_number-first.ensures.written, c.write_number-second.ensures.written, c.write_number-third.ensures.written, c.write_byte-feed.ensures.written, none_behind, c.from.ensures, c.from-in-Remove.ensures)

pub returns-in-Empty-clause-written : goal.returns-in-Empty-clause-written
returns-in-Empty-clause-written c =
    let none_behind = drop_all ROOM c.args.room.now (omega arith) in
    rw (c.in-Empty.is, c.write_byte-in-Empty.ensures.written, c.write_number-number.ensures.written, c.write_byte-feed.ensures.written, none_behind)

pub returns-in-Branch-clause-written : goal.returns-in-Branch-clause-written
returns-in-Branch-clause-written c =
    let none_behind = drop_all ROOM c.args.room.now (omega arith) in
    rw (c.in-Branch.is, c.write_byte-in-Branch.ensures.written, c.write_number-number-in-Branch.ensures.written, c.write_byte-feed.ensures.written, none_behind)

pub returns-in-Found-clause-written : goal.returns-in-Found-clause-written
returns-in-Found-clause-written c =
    let none_behind = drop_all ROOM c.args.room.now (omega arith) in
    rw (c.in-Found.is, c.write_byte-in-Found.ensures.written, c.write_byte-feed.ensures.written, none_behind)
