use Rattle.std.proofs.Common.{◌≡◌, ◌<◌, length, get_or, arith, ap, ◌∙◌}
use Rattle.std.proofs.lemmas.List.{get_or-map, get_or_default, length-map}
use Rattle.wf_model.specs.View.{base}
use Rattle.wf_complex.specs.Views.{view_at, process_bits}
use Rattle.wf_complex.specs.Table.{shown}
use Rattle.wf_complex.proofs.views.Views.colours_in.Goals as goal

process_bits_long : (c : goal.After-row_known-1) → length c.self.inside.bits.items ≡ length c.args.self.now
process_bits_long c = ap length c.self.invariant.bits_shown ∙ length-map (shown c.self.inside.nodes.keys) process_bits ∙ ap length c.self.view_is

pub returns : goal.returns
returns c =
    let within : c.args.id < length (shown c.self.inside.nodes.keys) = omega (arith, c.requires, ap length c.self.view_is) in
    let stored : c.args.id < length c.self.inside.bits.items = omega (arith, c.requires, process_bits_long c) in
    record {
      bits =
          c.index.ensures
          ∙ get_or_default c.self.inside.bits.items c.args.id c.index.result.now 0 stored
          ∙ ap (λ cs. get_or cs c.args.id 0) c.self.invariant.bits_shown
          ∙ get_or-map process_bits (shown c.self.inside.nodes.keys) c.args.id (base 0 0) 0 within
          ∙ ap (λ vs. process_bits (view_at vs c.args.id)) c.self.view_is;
    }
