use Rattle.std.proofs.Common.{List, ◌++◌, length, map}
use Rattle.json.specs.Token.{Token}
use Rattle.wf_task_parse.specs.Plain.{TakesItems}
use Rattle.wf_task_parse.proofs.plain.items.Given as goal

-- whatever follows, what was found comes before it
abbrev pub invariant-items : goal.invariant-items
invariant-items g l =
    (xs : List g.T.Shape.Seen) (new : List Token) → TakesItems g.T.Shape.reading g.T.Plain.deep l.cursor xs new
    → TakesItems g.T.Shape.reading g.T.Plain.deep l.initial.cursor (map g.T.Shape.seen (g.L.Growing.listed l.found) ++ xs) new

abbrev pub decreases-items : goal.decreases-items
decreases-items g l = length l.cursor
