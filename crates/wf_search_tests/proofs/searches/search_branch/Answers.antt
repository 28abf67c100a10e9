use Rattle.wf_search_tests.proofs.searches.search_branch.Goals as goal

pub search-requires : goal.search-requires
search-requires c = c.in_ok-branch.ensures.is c.args.problem.now c.points-points.ensures.well_formed c.requires.cover
