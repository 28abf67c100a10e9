-- Worked examples, by computation.
use Rattle.std.specs.Prelude.{◌≡◌, [], ◌∷◌, codes, refl, take}
use Rattle.std.specs.Fmt.{digits}
use Rattle.wf_model.specs.Lists.{below, lists_of}
use Rattle.wf_model.specs.Presets.{own, set_agreement}
use Rattle.wf_tree_model.specs.KnownResults.{hourglass, hourglass_by_cases, hourglass_tree, one_decides_0, three_bits, two_decided}
use Rattle.wf_tree_model.specs.Trees.{balance_node, nodes_of, split_node}
use Rattle.wf_tree_model.specs.KnownResults.{symmetry_breaking}
use Rattle.wf_tree_explain.specs.Words.{argument_text, cover_text, tuples_text, values_text}

-- ---- the whole

pub consensus_in_words : argument_text (set_agreement 2 1 own) (balance_node 2 1 (one_decides_0 2) ∷ []) ≡ codes "No decision map after any number of rounds.\n\nSuppose that there is a decision map.\nCount executions modulo 2:\n  {p0=0} has one execution,\n  p1 decides 0 as often on {p0=0, p1=1} as on {p1=1},\n  p0 decides 0 as often on {p0=0, p1=1} as on {p0=0}.\nAdd these equations up. Each tuple that is allowed counts as often on the left as on the right modulo 2, but the single executions add 1 on the right. So 0 would be 1 modulo 2.\n"
unfolding digits
consensus_in_words = refl

pub set_agreement_in_words : argument_text (set_agreement 3 2 own) (balance_node 2 1 two_decided ∷ []) ≡ codes "No decision map after any number of rounds.\n\nSuppose that there is a decision map.\nCount executions modulo 2:\n  {p0=0} has one execution,\n  p1 decides 0 as often on {p0=0, p1=1} as on {p1=1},\n  p0 decides 0 as often on {p0=0, p1=1} as on {p0=0},\n  p1 and p2 decide 0 1 or 1 0 as often on {p0=0, p1=1, p2=2} as on {p1=1, p2=2},\n  p0 and p2 decide 0 1 or 1 0 as often on {p0=0, p1=1, p2=2} as on {p0=0, p2=2},\n  p0 and p1 decide 0 1 or 1 0 as often on {p0=0, p1=1, p2=2} as on {p0=0, p1=1}.\nAdd these equations up. Each tuple that is allowed counts as often on the left as on the right modulo 2, but the single executions add 1 on the right. So 0 would be 1 modulo 2.\n"
unfolding digits
set_agreement_in_words = refl

pub hourglass_in_words : argument_text (hourglass 1) (nodes_of hourglass_tree) ≡ codes "No decision map after any number of rounds.\n\nSuppose that there is a decision map.\nOn {p0=0, p1=0, p2=0} and its faces a value has a name of its own for each part of what is decided beside it:\n  1 of p0 is called 3 in 1 2 2.\nCount executions modulo 2:\n  {p1=0} has one execution,\n  p1 decides 1 as often on {p0=0, p1=0} as on {p1=0},\n  p0 decides 1 as often on {p0=0, p1=0} as on {p0=0}.\nAdd these equations up. Each tuple that is allowed counts as often on the left as on the right modulo 2, but the single executions add 1 on the right. So 0 would be 1 modulo 2.\n"
unfolding digits
hourglass_in_words = refl

pub hourglass_by_cases_in_words : argument_text (hourglass 1) (nodes_of hourglass_by_cases) ≡ codes "No decision map after any number of rounds.\n\nSuppose that there is a decision map.\nOn {p0=0, p1=0, p2=0} all executions decide tuples of one part of 2: they are joined by changes of a single view.\nPart 1: 0 2 2 or 1 2 2.\n  Count executions modulo 2:\n    {p2=0} has one execution,\n    p2 decides 1 as often on {p1=0, p2=0} as on {p2=0},\n    p1 and p2 decide 1 1 as often on {p0=0, p1=0, p2=0} as on {p1=0, p2=0}.\n  Add these equations up. Each tuple that is allowed counts as often on the left as on the right modulo 2, but the single executions add 1 on the right. So 0 would be 1 modulo 2.\nPart 2: 1 1 1.\n  Count executions modulo 2:\n    {p0=0} has one execution,\n    p0 decides 0 as often on {p0=0, p2=0} as on {p0=0},\n    p0 and p2 decide 0 2 as often on {p0=0, p1=0, p2=0} as on {p0=0, p2=0}.\n  Add these equations up. Each tuple that is allowed counts as often on the left as on the right modulo 2, but the single executions add 1 on the right. So 0 would be 1 modulo 2.\n"
unfolding digits
hourglass_by_cases_in_words = refl

-- modulo 3 executions have signs, and views are classes
pub symmetry_breaking_in_words : argument_text (symmetry_breaking 3) (balance_node 3 1 three_bits ∷ []) ≡ codes "No decision map after any number of rounds.\n\nSuppose that there is a decision map. The task is symmetric, so this is about comparison-based protocols: a simplex stands for all with the same inputs in the order of their processes, and points are views up to the names of the processes.\nCount executions with their signs modulo 3:\n  {p0=0} has one execution,\n  p1 decides 1 as often on {p0=0, p1=0} as on {p1=0},\n  p0 decides 0 as often on {p0=0, p1=0} as on {p0=0},\n  p1 and p2 decide 1 1 as often on {p0=0, p1=0, p2=0} as on {p1=0, p2=0},\n  p0 and p2 decide 0 1 as often on {p0=0, p1=0, p2=0} as on {p0=0, p2=0}, 2 times,\n  p0 and p1 decide 0 0 as often on {p0=0, p1=0, p2=0} as on {p0=0, p1=0}.\nAdd these equations up. Each tuple that is allowed counts as often on the left as on the right modulo 3, but the single executions add 1 on the right. So 0 would be 1 modulo 3.\nAn execution of n processes after r rounds counts with a minus sign if n * r and the number of blocks in its words differ by an odd number.\n"
unfolding digits
symmetry_breaking_in_words = refl

-- ---- nodes

-- a vertex has one part for each value, so a value is never decided beside two
pub nothing_taken_apart : argument_text (hourglass 1) (split_node 0 ∷ [])
    ≡ codes "No decision map after any number of rounds.\n\nSuppose that there is a decision map.\nOn {p0=0} no value is taken apart.\n"
unfolding digits
nothing_taken_apart = refl

-- no place 3
pub cover_in_words : cover_text 1 ((0, 0) ∷ (2, 1) ∷ []) 7 2 1 (record { first = 0; value = 1; second = 1; other = 2; sheets = 1 ∷ 0 ∷ [] } ∷ record { first = 1; value = 3; second = 3; other = 4; sheets = 0 ∷ 1 ∷ [] } ∷ [])
    ≡ codes "  On {p0=0, p2=1} and its faces values lie on sheets 0 to 1, and p2 alone is on sheet 0. Value V on sheet S is called V + S * 7. Values of one execution lie on one sheet, but\n    from 1 of p0 to 2 of p2 the sheets 0 and 1 go to 1 and 0,\n    from 3 of p2 to 4 of nobody the sheets 0 and 1 go to 0 and 1.\n"
unfolding digits
cover_in_words = refl

-- ---- tuples

-- 24 tuples are told one by one, and of 25 the first 24
pub tuples_that_are_told : tuples_text values_text (take 24 (lists_of (below 3) 3)) ≡ codes "0 0 0, 0 0 1, 0 0 2, 0 1 0, 0 1 1, 0 1 2, 0 2 0, 0 2 1, 0 2 2, 1 0 0, 1 0 1, 1 0 2, 1 1 0, 1 1 1, 1 1 2, 1 2 0, 1 2 1, 1 2 2, 2 0 0, 2 0 1, 2 0 2, 2 1 0, 2 1 1 or 2 1 2"
unfolding digits
tuples_that_are_told = refl

pub one_tuple_more : tuples_text values_text (take 25 (lists_of (below 3) 3)) ≡ codes "0 0 0, 0 0 1, 0 0 2, 0 1 0, 0 1 1, 0 1 2, 0 2 0, 0 2 1, 0 2 2, 1 0 0, 1 0 1, 1 0 2, 1 1 0, 1 1 1, 1 1 2, 1 2 0, 1 2 1, 1 2 2, 2 0 0, 2 0 1, 2 0 2, 2 1 0, 2 1 1, 2 1 2, or one of 1 more"
unfolding digits
one_tuple_more = refl
