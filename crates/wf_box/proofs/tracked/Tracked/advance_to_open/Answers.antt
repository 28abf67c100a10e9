use Rattle.std.proofs.Common.{◌≡◌, Some, length, arith, sym, ◌∙◌, []}
use Rattle.std.specs.Prelude.{nat_lt}
use Rattle.std.proofs.lemmas.List.{length-map}
use Rattle.std.proofs.lemmas.List.Quantifiers.{position-Some}
use Rattle.wf_model.specs.Box.{first_open}
use Rattle.wf_base.specs.Set.Sets.{box_of, values_in}
use Rattle.wf_box.proofs.tracked.Tracked.advance_to_open.Goals as goal

pub returns-in-Some-clause-kept : goal.returns-in-Some-clause-kept
returns-in-Some-clause-kept c =
    let is : first_open (box_of c.args.self.now.words.items) ≡ Some c.in-Some.point = sym c.first_open-found.ensures ∙ c.in-Some.is in
    let found = position-Some (λ set. nat_lt 1 (length set)) (box_of c.args.self.now.words.items) c.in-Some.point [] is in
    record {
      few = c.requires.few;
      small = c.requires.small;
      room = c.requires.room;
      within = c.requires.within;
      open_within = omega (arith, found.0, length-map c.args.self.now.words.items values_in);
      single = λ v low. grind (arith, found.2 v low);
    }
