use Rattle.std.proofs.Common.{refl, sym, subst}
use Rattle.wf_lane.specs.Words.{ors}
use Rattle.wf_lane.specs.Rows.{AreMarked}
use Rattle.wf_lane.proofs.ColumnLemmas.{all_cut, none_cut}
use Rattle.wf_lane.proofs.column.Column.cut.Goals as goal

pub returns-then-blocks-eq0-clause-cut : goal.returns-then-blocks-eq0-clause-cut
returns-then-blocks-eq0-clause-cut c = none_cut c.args.self c.requires.whole

pub returns-clause-cut : goal.returns-clause-cut
returns-clause-cut c =
    let p = c.in_ok-places.places in
    let words = c.args.self.words.items in
    all_cut _ p c.in_ok-places.ensures.apart c.in_ok-places.ensures.words refl
    (c.in_ok-sets.ensures.long) c.requires.few c.requires.whole.whole
    (subst (λ n. AreMarked n p words c.in_ok-sets.sets.items) (sym c.requires.whole.whole) (subst (λ ws. AreMarked (ors ws) p ws c.in_ok-sets.sets.items) c.deref.ensures.value c.in_ok-sets.ensures.marked))
