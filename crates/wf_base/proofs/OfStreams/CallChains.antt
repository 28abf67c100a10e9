-- One call after others.
use Rattle.std.proofs.Common.{◌≡◌, ℕ, List, ◌++◌, arith}
use Rattle.std.specs.Io.KnownBytes.{Appends}
use Rattle.std.proofs.KnownBytes.{Appends-trans}
use Rattle.wf_base.specs.Streams.Seen.{Writing}
use Rattle.wf_base.specs.Streams.Texts.{Took}

-- a sink that took bytes took more
pub Took-more : (a b c : Writing) (bs cs : List ℕ) → Took a b bs 0 → Appends b.held c.held cs → c.failures ≡ b.failures → Took a c (bs ++ cs) 0
Took-more a b c bs cs before bytes failures =
    record { bytes_are = Appends-trans _ _ _ _ _ before.bytes_are bytes; failures = omega (arith, before.failures, failures) }
