use Rattle.std.proofs.Common.{List, eqb, false, ◌≡◌, ◌<◌, [], ℕ, get_or, length, inl, inr, sym, ap, ◌∙◌, subst, arith, vec_capacity}
use Rattle.std.specs.Vec.{with_items}
use Rattle.std.specs.List.{slice_set}
use Rattle.std.specs.Cmp.Lexicographic.{bytes_decides, pointwise}
use Rattle.std.proofs.lemmas.Bool.{cases_eq, false≢true}
use Rattle.std.proofs.lemmas.List.{with_items_is, get_or-set_other}
use Rattle.wf_network.specs.Users.{IsUser}
use Rattle.wf_box.specs.Steps.{IsNamed, TakesEach}
use Rattle.wf_box.specs.Changes.{IsGrown, IsTracked}
use Rattle.wf_box.proofs.QuietLemmas.{marked_user}
use Rattle.wf_box.proofs.ChangeLemmas.{grown_none, grown_one, less_from, same_again}
use Rattle.wf_box.proofs.WorkLemmas.{ends_if}
use Rattle.wf_box.proofs.revision.remove_from_point.Given.{Over}
use Rattle.wf_box.proofs.revision.remove_from_point.Goals as goal

-- sets that a test finds different
differ : (xs ys : List ℕ) → pointwise eqb xs ys ≡ false → xs ≡ ys → ⊥
differ xs ys is e = false≢true (sym is ∙ (bytes_decides xs ys).1 e)

-- where the point's set is as before, so are all
unchanged : (g : Over) (c : goal.Then-eq g) → (with_items c.args.workspace.now.tracked.words c.remove_each-emptied.new.sets).items ≡ c.args.workspace.now.tracked.words.items
unchanged g c =
    let now = with_items_is c.args.workspace.now.tracked.words c.remove_each-emptied.new.sets (omega (arith, c.remove_each-emptied.ensures.long, ap length c.deref_mut.ensures.value, c.args.workspace.now.tracked.words.ok.0)) in
    let t = c.remove_each-emptied.ensures in
    let same : c.index-2.result.now ≡ c.index.result.now = (bytes_decides c.index-2.result.now c.index.result.now).0 (sym c.eq.ensures ∙ c.if-eq.true) in
    same_again c.args.workspace.now.tracked.words.items c.deref_mut.result.now c.remove_each-emptied.new.sets _ c.args.place.point c.index.result.now c.index-2.result.now c.deref_mut.ensures.value now (omega (arith, c.requires.point, c.requires.working.long)) t.long t.others c.index.ensures c.index-2.ensures same

-- the sets as the vector has them
pub note-requires-clause-kept : goal.note-requires-clause-kept
note-requires-clause-kept g c =
    let now = with_items_is c.args.workspace.now.tracked.words c.remove_each-emptied.new.sets (omega (arith, c.remove_each-emptied.ensures.long, ap length c.deref_mut.ensures.value, c.args.workspace.now.tracked.words.ok.0)) in
    let t = c.remove_each-emptied.ensures in
    let less = less_from c.args.workspace.now.tracked.words.items c.deref_mut.result.now c.remove_each-emptied.new.sets _ c.args.place.point c.index.result.now c.index-2.result.now c.deref_mut.ensures.value now (omega (arith, c.requires.point, c.requires.working.long)) t.long t.others t.fewer t.same c.index.ensures c.index-2.ensures (differ _ _ (sym c.eq.ensures ∙ c.if-eq.false)) in
    subst (λ ws. IsTracked ws c.args.workspace.now.tracked.trail.items (vec_capacity c.args.workspace.now.tracked.trail) c.args.workspace.now.tracked.open_from) (sym less.back) c.requires.working.kept

pub note-requires-clause-fewer : goal.note-requires-clause-fewer
note-requires-clause-fewer g c =
    let now = with_items_is c.args.workspace.now.tracked.words c.remove_each-emptied.new.sets (omega (arith, c.remove_each-emptied.ensures.long, ap length c.deref_mut.ensures.value, c.args.workspace.now.tracked.words.ok.0)) in
    let t = c.remove_each-emptied.ensures in
    let less = less_from c.args.workspace.now.tracked.words.items c.deref_mut.result.now c.remove_each-emptied.new.sets _ c.args.place.point c.index.result.now c.index-2.result.now c.deref_mut.ensures.value now (omega (arith, c.requires.point, c.requires.working.long)) t.long t.others t.fewer t.same c.index.ensures c.index-2.ensures (differ _ _ (sym c.eq.ensures ∙ c.if-eq.false)) in
    less.fewer

pub returns-then-eq : goal.returns-then-eq
returns-then-eq g c = record {
  step =
      let now = with_items_is c.args.workspace.now.tracked.words c.remove_each-emptied.new.sets (omega (arith, c.remove_each-emptied.ensures.long, ap length c.deref_mut.ensures.value, c.args.workspace.now.tracked.words.ok.0)) in
      subst (λ ws. TakesEach (g.V.ValueSet.wide c.args.lost) c.args.place c.args.lines.now c.args.workspace.now.tracked.words.items c.remove_each-emptied.new.lines ws c.remove_each-emptied.result) (sym now)
      (subst (λ ws. TakesEach (g.V.ValueSet.wide c.args.lost) c.args.place c.args.lines.now ws c.remove_each-emptied.new.lines c.remove_each-emptied.new.sets c.remove_each-emptied.result) c.deref_mut.ensures.value c.remove_each-emptied.ensures.step);
  proceeds =
      let t = c.args.workspace.now.tracked in
      let e = c.remove_each-emptied.ensures in
      let now = with_items_is t.words c.remove_each-emptied.new.sets (omega (arith, e.long, ap length c.deref_mut.ensures.value, t.words.ok.0)) in
      record {
        kept = subst (λ ws. IsTracked ws t.trail.items (vec_capacity t.trail) t.open_from) (sym (unchanged g c)) c.requires.working.kept;
        long = ap length (unchanged g c) ∙ c.requires.working.long;
        marks_long = c.requires.working.marks_long;
        grown = subst (λ ws. IsGrown t.words.items t.trail.items ws t.trail.items) (sym (unchanged g c)) (grown_none t.words.items t.trail.items);
        ends = ends_if c.args.lines.now c.remove_each-emptied.new.lines t (record { words = with_items t.words c.remove_each-emptied.new.sets; trail = t.trail; open_from = t.open_from }) c.deref_mut.result.now c.remove_each-emptied.new.sets c.remove_each-emptied.result c.args.place.point c.deref_mut.ensures.value (sym now) e.emptied e.room e.spent;
        known = c.requires.working.known;
      };
  untouched = λ e none. (none, λ v user. ap (λ ws. get_or ws v []) (unchanged g c));
  silent = λ e user none. unchanged g c;
  named = λ p at.
      let now = with_items_is c.args.workspace.now.tracked.words c.remove_each-emptied.new.sets (omega (arith, c.remove_each-emptied.ensures.long, ap length c.deref_mut.ensures.value, c.args.workspace.now.tracked.words.ok.0)) in
      subst (λ ws. IsNamed p c.args.lines.now.items c.args.workspace.now.tracked.words.items c.remove_each-emptied.new.lines.items ws) (sym now)
      (subst (λ ws. IsNamed p c.args.lines.now.items ws c.remove_each-emptied.new.lines.items c.remove_each-emptied.new.sets) c.deref_mut.ensures.value (c.remove_each-emptied.ensures.named p at));
}

pub returns : goal.returns
returns g c = record {
  step =
      let now = with_items_is c.args.workspace.now.tracked.words c.remove_each-emptied.new.sets (omega (arith, c.remove_each-emptied.ensures.long, ap length c.deref_mut.ensures.value, c.args.workspace.now.tracked.words.ok.0)) in
      subst (λ ws. TakesEach (g.V.ValueSet.wide c.args.lost) c.args.place c.args.lines.now c.args.workspace.now.tracked.words.items c.remove_each-emptied.new.lines ws c.remove_each-emptied.result) (sym (c.note.ensures.words ∙ now))
      (subst (λ ws. TakesEach (g.V.ValueSet.wide c.args.lost) c.args.place c.args.lines.now ws c.remove_each-emptied.new.lines c.remove_each-emptied.new.sets c.remove_each-emptied.result) c.deref_mut.ensures.value c.remove_each-emptied.ensures.step);
  proceeds =
      let w = c.args.workspace.now.tracked in
      let t = c.remove_each-emptied.ensures in
      let now = with_items_is w.words c.remove_each-emptied.new.sets (omega (arith, t.long, ap length c.deref_mut.ensures.value, w.words.ok.0)) in
      let within : c.args.place.point < length w.words.items = omega (arith, c.requires.point, c.requires.working.long) in
      let less = less_from w.words.items c.deref_mut.result.now c.remove_each-emptied.new.sets _ c.args.place.point c.index.result.now c.index-2.result.now c.deref_mut.ensures.value now within t.long t.others t.fewer t.same c.index.ensures c.index-2.ensures (differ _ _ (sym c.eq.ensures ∙ c.if-eq.false)) in
      record {
        kept = c.note.ensures.kept;
        long = ap length (c.note.ensures.words ∙ now) ∙ t.long ∙ ap length c.deref_mut.ensures.value ∙ c.requires.working.long;
        marks_long = omega (arith, c.requires.working.marks_long, c.mark_each.ensures.long);
        grown = grown_one w.words.items w.trail.items c.note.new.self.words.items c.note.new.self.trail.items _ c.note.ensures.trail (ap (λ ws. slice_set ws c.args.place.point c.index.result.now) c.note.ensures.words ∙ less.back);
        ends = ends_if c.args.lines.now c.remove_each-emptied.new.lines w c.note.new.self c.deref_mut.result.now c.remove_each-emptied.new.sets c.remove_each-emptied.result c.args.place.point c.deref_mut.ensures.value (sym (c.note.ensures.words ∙ now)) t.emptied t.room t.spent;
        known = c.requires.working.known;
      };
  untouched = λ e none.
      let now = with_items_is c.args.workspace.now.tracked.words c.remove_each-emptied.new.sets (omega (arith, c.remove_each-emptied.ensures.long, ap length c.deref_mut.ensures.value, c.args.workspace.now.tracked.words.ok.0)) in (
        c.mark_each.ensures.kept e none,
        λ v user. elim (cases_eq v c.args.place.point) [
          | inl here ↦ absurd (marked_user c.args.network.now.users c.args.place.point e c.executions_of-users.result.now c.mark_each.new.self.words.items c.executions_of-users.ensures.users c.mark_each.ensures.marked none (subst (λ u. IsUser c.args.network.now.users u e) here user))
          | inr other ↦
              ap (λ ws. get_or ws v []) (c.note.ensures.words ∙ now ∙ c.remove_each-emptied.ensures.others)
              ∙ get_or-set_other c.deref_mut.result.now c.args.place.point v (get_or c.remove_each-emptied.new.sets c.args.place.point []) [] other
              ∙ ap (λ ws. get_or ws v []) c.deref_mut.ensures.value
        ],
      );
  silent = λ e user none. absurd (marked_user c.args.network.now.users c.args.place.point e c.executions_of-users.result.now c.mark_each.new.self.words.items c.executions_of-users.ensures.users c.mark_each.ensures.marked none user);
  named = λ p at.
      let now = with_items_is c.args.workspace.now.tracked.words c.remove_each-emptied.new.sets (omega (arith, c.remove_each-emptied.ensures.long, ap length c.deref_mut.ensures.value, c.args.workspace.now.tracked.words.ok.0)) in
      subst (λ ws. IsNamed p c.args.lines.now.items c.args.workspace.now.tracked.words.items c.remove_each-emptied.new.lines.items ws) (sym (c.note.ensures.words ∙ now))
      (subst (λ ws. IsNamed p c.args.lines.now.items ws c.remove_each-emptied.new.lines.items c.remove_each-emptied.new.sets) c.deref_mut.ensures.value (c.remove_each-emptied.ensures.named p at));
}
