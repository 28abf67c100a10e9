use Rattle.std.proofs.Common.{ap, refl, ◌∙◌, [], arith, length}
use Rattle.std.specs.List.{slice_index_or}
use Rattle.wf_run_branches.proofs.BranchRuns.{is_long}
use Rattle.wf_run_branches.proofs.branch.branch_in.Goals as goal

pub returns : goal.returns
returns c = λ t r task is.
    let boxed = c.in_ok-boxed.ensures in
    let low = c.requires in
    let all = ap length is.branches_are in
    record {
      number = refl;
      there = omega (arith, low, all);
      count = c.branches.ensures.branches ∙ all;
      sets = c.in_ok-sets.ensures ∙ boxed.branch ∙ ap (λ boxes. slice_index_or boxes c.args.number []) is.branches_are;
      long = is_long t r c.args.cover.now c.in_ok-sets.sets.items c.in_ok-boxed.boxed.sets task is boxed.closed c.in_ok-sets.ensures;
    }
