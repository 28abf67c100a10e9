use Rattle.std.proofs.Common.{length, sym, ap, ◌∙◌, Contains, subst}
use Rattle.wf_model.specs.Word.{Word, words}
use Rattle.wf_simplex.specs.WordTable.{length-word_at}
use Rattle.wf_simplex.proofs.Words.{is_a_word}
use Rattle.wf_simplex.proofs.word.Word.size.Goals as goal

pub returns-clause-count : goal.returns-clause-count
returns-clause-count c = sym (length-word_at c.self.inside.size c.self.inside.index c.self.invariant) ∙ ap length c.self.view_is

pub returns-clause-word : goal.returns-clause-word
returns-clause-word c =
    let is_word : Word → Type 0 = λ w. Contains (words 1 (length w)) w in
    subst is_word c.self.view_is (is_a_word c.self.inside.size c.self.inside.index c.self.invariant)
