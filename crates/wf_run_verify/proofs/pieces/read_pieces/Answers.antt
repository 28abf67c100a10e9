use Rattle.std.proofs.Common.{◌≡◌, ◌++◌, ℕ, List, arith, subst, take, length-take}
use Rattle.std.proofs.lemmas.List.{take-append-le}
use Rattle.wf_run_verify.specs.Proofs.{IsFaultFor}
use Rattle.wf_run_verify.proofs.ProofsToLines.{ended, piece_refused}
use Rattle.wf_run_verify.proofs.pieces.read_pieces.Goals as goal

pub returns-in-Ok-eq0 : goal.returns-in-Ok-eq0
returns-in-Ok-eq0 g c =
    let is = c.in-Ok-eq0.ensures in
    let none = c.in-Ok-eq0.field-0-test in
    let few = c.pieces-test.true in
    let room = length-take c.min-room.result c.pieces.piece in
    let kept = c.read.auto.piece in
    let least = c.min-room.ensures in
    let some = c.requires.piece in
    let long = c.pieces.invariant.4 in
    ended (λ begun given. g.R.ProofReader.has_read begun given c.pieces.reader) (λ begun given done. g.R.ProofReader.is_accepted begun given) g.R.ProofReader.is_refused c.args.reader
    c.args.source.now c.pieces.source c.read.new.self c.pieces.given c.pieces.invariant.0
    c.in-Ok-eq0.field-0 c.read.new.piece none is.bytes.0 is.taken is.failures
    (omega (arith, few)) (is.bytes.1 none (omega (arith, few, room, kept, least, some, long))) c.finish.result c.finish.ensures.accepted c.finish.ensures.refused

pub returns-in_err-feed-in-Ok : goal.returns-in_err-feed-in-Ok
returns-in_err-feed-in-Ok g c =
    let n = c.in-Ok.n in
    let is = c.in-Ok.ensures in
    let few = c.pieces-test.true in
    let bound = is.bound.0 in
    let room = length-take c.min-room.result c.pieces.piece in
    let kept = c.read.auto.piece in
    let least = c.min-room.ensures in
    let long = c.pieces.invariant.4 in
    let fault = c.in_err-feed-in-Ok.field-0.0 in
    let begun = c.args.reader in
    let holds : List ℕ → Type 0 = λ given. g.R.ProofReader.has_read begun given c.pieces.reader in
    let same : take n _ ≡ take n c.read.new.piece =
    take-append-le n c.read.new.piece _ bound in
    piece_refused (λ given done. g.R.ProofReader.is_accepted begun given) (g.R.ProofReader.is_refused begun) c.args.source.now c.pieces.source c.read.new.self holds c.pieces.given c.pieces.invariant.0
    n (take n c.read.new.piece) fault c.from_residual.result is.bound.1 is.bytes.0 is.taken is.failures (omega (arith, few, bound, room, kept, least))
    (subst (λ bytes. (given : List ℕ) → holds given → IsFaultFor (g.R.ProofReader.is_refused begun (given ++ bytes) c.read.new.self.left) fault) same
    (λ given. c.in_err-feed-in-Ok.ensures.refused begun given c.read.new.self.left)) c.from_residual.ensures
