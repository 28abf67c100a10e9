use Rattle.std.proofs.Common.{◌≡◌, ◌++◌, map}
use Rattle.wf_base.specs.Lines.Lines.{line_of}
use Rattle.wf_search.specs.Outline.{gaps_filled}
use Rattle.wf_search.proofs.outline.fill_gaps.Given as goal

abbrev pub invariant-loop-gap : goal.invariant-loop-gap
invariant-loop-gap l =
    map line_of l.lines.items ++ gaps_filled l.gap-iterator.a.rest.now l.gap-iterator.b.rest.items
    ≡ gaps_filled l.initial.gap-iterator.a.rest.now l.initial.gap-iterator.b.rest.items
