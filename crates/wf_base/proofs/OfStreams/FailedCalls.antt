-- Where a call failed, nothing is promised of what it would have given.
use Rattle.std.proofs.Common.{Result, Ok, Err, IsErr}
use Rattle.std.specs.Prelude.{IfOk}
use Rattle.std.specs.Result.{OnOk}
use Rattle.std.proofs.lemmas.Bool.{false≢true}

pub failed : {X E : Type 0} (result : Result X E) (P : Type 0) → IsErr result → OnOk result P
failed (Ok x) P fails = absurd (false≢true fails)
failed (Err e) P fails = tt

pub none_given : {X E : Type 0} (result : Result X E) (P : X → Type 0) → IsErr result → IfOk result P
none_given (Ok x) P fails = absurd (false≢true fails)
none_given (Err e) P fails = tt
