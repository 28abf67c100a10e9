use Rattle.wf_network.proofs.problem.rule_with_table.Given as goal

abbrev pub invariant-loop-number : goal.invariant-loop-number
invariant-loop-number l = Unit {0}
