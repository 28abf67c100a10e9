use Rattle.std.proofs.Common.{Some, sym, ap, ◌∙◌}
use Rattle.wf_simplex.specs.WordTable.{word_at}
use Rattle.wf_simplex.proofs.Allowed.{first_there}
use Rattle.wf_simplex.proofs.word.Word.first_allowed.Goals as goal

pub returns : goal.returns
returns c =
    first_there c.args.m c.args.size c.requires.one c.requires.most c.requires.some c.requires.few
    ∙ ap (λ i. Some (word_at c.args.size i)) (sym c.start.ensures)
