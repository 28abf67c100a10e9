use Rattle.std.proofs.Common.{◌≡◌, ◌++◌, ◌+◌, ◌≤◌, length, take, arith, length-append, length-take}
use Rattle.std.proofs.KnownBytes.{Consumes-trans}
use Rattle.wf_base.proofs.streams.source.read_all.Goals as goal

pub returns-then-is_err : goal.returns-then-is_err
returns-then-is_err g c =
    let n = c.in-Ok.n in
    let before = c.loop-piece.text.items in
    let piece = take n c.read.new.piece in
    let both = length-append before piece in
    let cut = length-take n c.read.new.piece in
    let kept = c.read.auto.piece in
    let window = length-take c.min-room.result c.loop-piece.piece in
    let got : c.read.new.self.taken ≡ c.loop-piece.source.taken + n = c.in-Ok.ensures.taken in
    let none : c.read.new.self.failures ≡ c.loop-piece.source.failures + 0 = c.in-Ok.ensures.failures in
    let whole : n ≡ length piece = c.in-Ok.ensures.bound.1 in
    let fits : length (before ++ piece) ≤ c.args.most + 1 = omega (arith, c.min-room.ensures) in
    (before ++ piece, record { bytes_are = Consumes-trans _ _ _ _ _ c.loop-piece.invariant.1 c.in-Ok.ensures.bytes.0; taken = omega (arith, got, whole); failures = omega (arith, none) }, fits)
