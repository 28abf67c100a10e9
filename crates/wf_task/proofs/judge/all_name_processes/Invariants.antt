use Rattle.std.proofs.Common.{◌≡◌, map, drop}
use Rattle.std.specs.List.{list_all}
use Rattle.wf_task.specs.Judge.{names_processes}
use Rattle.wf_task.proofs.judge.all_name_processes.Given as goal

abbrev pub invariant-loop-simplex : goal.invariant-loop-simplex
invariant-loop-simplex l = list_all (names_processes l.processes) (map (λ s. s.pairs.items) (drop l.simplex-index l.simplices)) ≡ list_all (names_processes l.processes) (map (λ s. s.pairs.items) l.simplices)
