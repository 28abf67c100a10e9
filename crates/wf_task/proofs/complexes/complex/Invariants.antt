use Rattle.std.proofs.Common.{◌≡◌, ◌≤◌, length, map, take, vec_len, vec_capacity}
use Rattle.wf_task_parse.specs.DraftSeen.{pairs_seen}
use Rattle.wf_task.proofs.complexes.complex.Given as goal

abbrev pub invariant-loop-simplex : goal.invariant-loop-simplex
invariant-loop-simplex l = record {
  facets : l.facets.items ≡ map pairs_seen (take l.simplex-index l.listed);
  count : vec_len l.facets ≡ l.simplex-index;
  room : length l.listed ≤ vec_capacity l.facets;
}
