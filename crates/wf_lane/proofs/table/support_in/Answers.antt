use Rattle.std.proofs.Common.{◌∙◌, ap}
use Rattle.std.specs.Prelude.{count_by}
use Rattle.wf_lane.specs.Words.{joined_words, is_live}
use Rattle.wf_lane.proofs.RevisedRows.{same_rows}
use Rattle.wf_lane.proofs.table.support_in.Goals as goal

pub returns-then-columns-eq0 : goal.returns-then-columns-eq0
returns-then-columns-eq0 c =
    let columns = c.args.columns.now in
    let sets = c.args.sets in
    let rows = same_rows _ _ _ _ columns.first.words.items columns.second.words.items columns.third.words.items columns.fourth.words.items c.deref.ensures.value c.deref-then-columns-eq0.ensures.value c.deref-then-columns-eq0-2.ensures.value c.deref-then-columns-eq0-3.ensures.value in
    let e = c.revise_columns.ensures in
    record {
      first = e.first ∙ ap (joined_words sets (λ r. r.first)) rows;
      second = e.second ∙ ap (joined_words sets (λ r. r.second)) rows;
      third = e.third ∙ ap (joined_words sets (λ r. r.third)) rows;
      fourth = e.fourth ∙ ap (joined_words sets (λ r. r.fourth)) rows;
      alive = e.alive ∙ ap (count_by (is_live sets)) rows;
    }
