use Rattle.std.proofs.Common.{◌∙◌}
use Rattle.wf_tree_refine.proofs.RowSearch.{search_has}
use Rattle.wf_tree_refine.proofs.rows.has_row.Goals as goal

pub returns : goal.returns
returns c = c.is_ok.ensures.value ∙ search_has c.args.rows.now c.args.row.now c.binary_search.result c.requires c.binary_search.ensures.bound c.binary_search.ensures.ok c.binary_search.ensures.position
