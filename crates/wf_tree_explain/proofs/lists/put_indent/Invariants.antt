use Rattle.std.proofs.Common.{◌≡◌, ◌++◌, ◌-◌, string_bytes}
use Rattle.wf_tree_explain.specs.Words.{spaces}
use Rattle.wf_tree_explain.proofs.lists.put_indent.Given as goal

abbrev pub invariant-cases : goal.invariant-cases
invariant-cases l = string_bytes l.text ++ spaces (l._case-end - l._case) ≡ string_bytes l.initial.text ++ spaces l._case-end
