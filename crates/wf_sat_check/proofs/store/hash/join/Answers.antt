use Rattle.std.proofs.Common.{◌∙◌, ◌+◌, ◌%◌, ◌/◌, ap}
use Rattle.std.specs.Prelude.{◌^◌}
use Rattle.wf_sat_check.specs.Store.Index.{finished, joined}
use Rattle.wf_sat_check.proofs.store.hash.join.Goals as goal

pub returns : goal.returns
unfolding joined
returns c = ap (λ n. n / 2 ^ 32) (c.finish-2.ensures ∙ ap (λ n. finished ((n + c.args.second) % 2 ^ 64)) c.finish.ensures)
