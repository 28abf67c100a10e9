-- What the definitions of lemmas say together.
use Rattle.std.specs.Prelude.{◌⊎◌}
use Rattle.wf_sat_text.specs.Clauses.Formula.{Clause}
use Rattle.wf_sat_check.specs.Rup.Rat.{IsRat, IsRedundant}
use Rattle.wf_sat_check.specs.Rup.Seen.{Entails, Known}
use Rattle.wf_sat_check.specs.Rup.Unit.{FollowsByPropagation}

-- each model of what is known satisfies a clause that follows by unit propagation
abbrev pub WhatFollowsIsEntailed : Type 0
WhatFollowsIsEntailed = (known : Known) (clause : Clause) → FollowsByPropagation known clause → Entails known clause

-- a clause that follows or is RAT on its first literal may be added: each model of what is known
-- can be changed into one that satisfies the clause too
abbrev pub WhatIsJustifiedIsRedundant : Type 0
WhatIsJustifiedIsRedundant =
    (known : Known) (clause : Clause) → FollowsByPropagation known clause ⊎ IsRat known clause → IsRedundant known clause
