use Rattle.std.proofs.Common.{◌≡◌, None, Some, arith}
use Rattle.json.specs.Json.{read_key}
use Rattle.wf_task_parse.proofs.TokensOfValues.{more-shorter, read-more, read-all}
use Rattle.wf_task_parse.proofs.members.members.Goals as goal

pub members-smaller : goal.members-smaller
members-smaller g c =
    let key : read_key c.members.cursor ≡ Some (Some c.in-Some-next.key.now, c.next_key.new.self) = grind arith in
    let added = c.in_ok-fill.ensures (grind arith) in
    more-shorter g.S.Fields.hold g.S.Fields.deep c.args.cursor.now c.members.fields c.fill.new.self c.members.cursor c.next_key.new.self c.fill.new.cursor c.in-Some-next.key.now key added

pub members-preserved : goal.members-preserved
members-preserved g c =
    let key : read_key c.members.cursor ≡ Some (Some c.in-Some-next.key.now, c.next_key.new.self) = grind arith in
    let added = c.in_ok-fill.ensures (grind arith) in
    read-more g.S.Fields.hold g.S.Fields.deep c.args.cursor.now c.members.fields c.fill.new.self c.members.cursor c.next_key.new.self c.fill.new.cursor c.in-Some-next.key.now c.members.invariant key added

pub returns-in_default-next : goal.returns-in_default-next
returns-in_default-next g c sure =
    let end : read_key c.members.cursor ≡ Some (None, c.next_key.new.self) = grind arith in
    read-all g.S.Fields.hold g.S.Fields.deep c.args.cursor.now c.members.fields c.members.cursor c.next_key.new.self c.members.invariant end
