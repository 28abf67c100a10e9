use Rattle.std.specs.Prelude.{bit_and}
use Rattle.std.proofs.lemmas.Simd.{zip2_splat}
use Rattle.wf_lane.proofs.WordLemmas.{zero_flags}
use Rattle.wf_lane.proofs.lanes.disjoint_lanes.Goals as goal

pub returns : goal.returns
returns c = zero_flags (λ w. bit_and w c.args.set) c.args.words _ c.requires (zip2_splat bit_and c.args.words 8 c.args.set c.requires)
