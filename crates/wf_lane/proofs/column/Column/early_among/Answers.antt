use Rattle.std.proofs.Common.{ap, sym, ◌∙◌}
use Rattle.std.specs.Prelude.{bit_or}
use Rattle.std.specs.Int.Bits.{or_zero_l}
use Rattle.wf_lane.proofs.BlockLemmas.{later_occur}
use Rattle.wf_lane.proofs.FewLemmas.{early, early_step, early_end}
use Rattle.wf_lane.proofs.column.Column.early_among.Goals as goal

pub values-init : goal.values-init
values-init c = record { rest = or_zero_l (early c.args.values c.args.self.now.words.items); occur = c.requires.values }

pub values-preserved : goal.values-preserved
values-preserved c =
    let words = c.args.self.now.words.items in
    let split = c.in-Some.ensures.split in
    record {
      rest =
          ap (λ r. bit_or (bit_or c.values.joined r) (early c.in-Some.others words)) c.early_with-joined.ensures
          ∙ early_step c.values.joined c.values.left c.in-Some.value c.in-Some.others words split
          ∙ c.values.invariant.rest;
      occur = later_occur c.args.self.now c.values.left c.in-Some.value c.in-Some.others split c.values.invariant.occur;
    }

pub returns : goal.returns
returns c = sym (early_end c.values.joined c.values.left c.args.self.now.words.items c.in_default.ensures.split) ∙ c.values.invariant.rest
