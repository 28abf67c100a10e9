use Rattle.std.proofs.Common.{sym, subst, take}
use Rattle.wf_sat_cnf.specs.Reading.{IsFirstWord}
use Rattle.wf_sat_cnf.proofs.SolverLemmas.{rest_of, split_first}
use Rattle.wf_sat_cnf.proofs.solver.split_word.Goals as goal

pub returns : goal.returns
returns c =
    let n = c.word_length-end.result in
    subst (λ rest. IsFirstWord (take n c.args.text.now) rest c.args.text.now) (sym (rest_of n c.args.text.now))
    (split_first n c.args.text.now c.requires.some c.requires.first c.word_length-end.ensures.word c.word_length-end.ensures.end)
