use Rattle.std.proofs.Common.{◌++◌, ◌∷◌, [], None, map, sym, ap, ◌∙◌, arith}
use Rattle.std.proofs.lemmas.List.{map-append}
use Rattle.wf_base.specs.Set.Sets.{box_of}
use Rattle.wf_model.specs.Closing.{Step, and_then}
use Rattle.wf_base.specs.Lines.Lines.{line_of}
use Rattle.wf_base.specs.declared.lines.line.Line.TheVariants as line
use Rattle.wf_box.specs.Closes.{without_named}
use Rattle.wf_box.specs.Steps.{reached}
use Rattle.wf_box.proofs.NameLemmas.{named_by}
use Rattle.wf_box.proofs.CloseLemmas.{closing_empty, empty_there, point_there, closing_sweeps}
use Rattle.wf_box.proofs.ChangeLemmas.{grown_none}
use Rattle.wf_box.proofs.closing.close_tracked.Goals as goal

pub returns-in-Some-clause-step : goal.returns-in-Some-clause-step
returns-in-Some-clause-step c =
    let closed = closing_empty c.args.problem.now (box_of c.args.workspace.now.tracked.words.items) c.in-Some.point (sym c.mark_and_find_empty-prepared.ensures.empty ∙ c.in-Some.is) in
    λ i. record {
      lines = (ap (map line_of) c.put.ensures.lines ∙ map-append line_of c.args.lines.now.items (line.Empty c.in-Some.point ∷ []) ∙ ap (λ (s : Step). map line_of c.args.lines.now.items ++ s.lines) (sym closed)) i;
      left = ap (λ (s : Step). s.left) (sym closed) i;
    }

pub returns-in-Some-clause-proceeds : goal.returns-in-Some-clause-proceeds
returns-in-Some-clause-proceeds c =
    let working = c.requires.working in
    let t = c.args.workspace.now.tracked in
    let empty = sym c.mark_and_find_empty-prepared.ensures.empty ∙ c.in-Some.is in
    record {
      kept = working.kept;
      long = working.long;
      marks_long = omega (arith, working.marks_long, c.mark_and_find_empty-prepared.ensures.long);
      grown = grown_none t.words.items t.trail.items;
      ends = (point_there (box_of t.words.items) c.in-Some.point empty, empty_there (box_of t.words.items) c.in-Some.point empty, (c.args.lines.now.items, c.put.ensures.lines));
      known = working.known;
    }

pub sweeps-requires-clause-working : goal.sweeps-requires-clause-working
sweeps-requires-clause-working c =
    let working = c.requires.working in
    record { kept = working.kept; long = working.long; marks_long = omega (arith, working.marks_long, c.mark_and_find_empty-prepared.ensures.long); room = working.room; known = working.known }

pub returns-in-Some-clause-named : goal.returns-in-Some-clause-named
returns-in-Some-clause-named c =
    ap (λ (s : Step). without_named c.args.problem.now s.lines (box_of c.args.workspace.now.tracked.words.items)) (sym (closing_empty c.args.problem.now (box_of c.args.workspace.now.tracked.words.items) c.in-Some.point (sym c.mark_and_find_empty-prepared.ensures.empty ∙ c.in-Some.is)))

pub returns-clause-named : goal.returns-clause-named
returns-clause-named c =
    let closed = closing_sweeps c.args.problem.now (box_of c.args.workspace.now.tracked.words.items) (sym c.mark_and_find_empty-prepared.ensures.empty ∙ c.in_default.is) in
    let step = c.sweeps.ensures.step ∙ ap (λ s. and_then (reached c.args.lines.now.items None c.args.workspace.now.tracked.words.items) (λ _. s)) (sym closed) in
    named_by c.args.problem.now c.args.lines.now.items c.sweeps.new.lines.items c.args.workspace.now.tracked.words.items c.sweeps.new.workspace.tracked.words.items _ c.sweeps.ensures.named (ap (λ (s : Step). s.lines) step)

pub returns-clause-step : goal.returns-clause-step
returns-clause-step c =
    let closed = closing_sweeps c.args.problem.now (box_of c.args.workspace.now.tracked.words.items) (sym c.mark_and_find_empty-prepared.ensures.empty ∙ c.in_default.is) in
    c.sweeps.ensures.step ∙ ap (λ s. and_then (reached c.args.lines.now.items None c.args.workspace.now.tracked.words.items) (λ _. s)) (sym closed)
