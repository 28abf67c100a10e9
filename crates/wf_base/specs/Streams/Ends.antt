-- What can be asked of a source and a sink, and what one call of theirs does.
use Rattle.std.specs.Prelude.{ℕ, ◌-◌, ◌^◌, ◌<◌, List, length, Bool, true, ◌&&◌, ◌==◌, not, Result, Ok, Err}
use Rattle.wf_base.specs.Streams.Seen.{Reading, Writing}

-- the source can count the calls and the bytes of one more text
abbrev pub CanRead : Reading → Type 0
CanRead source = (source.failures < 2 ^ 64 - 1) × (source.taken < 2 ^ 63)

-- the sink can count one more failure
abbrev pub CanWrite : Writing → Type 0
CanWrite sink = sink.failures < 2 ^ 64 - 1

-- both can count what a run asks of them
abbrev pub CanCount : Reading → Writing → Type 0
CanCount source sink = CanRead source × CanWrite sink

abbrev pub count_of : {E : Type 0} → Result ℕ E → ℕ
count_of (Ok n) = n
count_of (Err e) = 0

-- the call answered an error, or took no byte of a piece that had one
abbrev pub took_nothing : {E : Type 0} → Result ℕ E → List ℕ → Bool
took_nothing (Ok n) piece = (n == 0) && not (length piece == 0)
took_nothing (Err e) piece = true
