use Rattle.wf_complex.proofs.NewNumbers.{found, missed}
use Rattle.wf_complex.proofs.node.new_id.Goals as goal

pub unreachable-requires : goal.unreachable-requires
unreachable-requires c = missed c.args.old.now c.args.new.now c.args.id c.requires.ascending c.requires.fewer c.in-Err.field-0 c.requires.known c.in-Err.ensures.position

pub returns : goal.returns
returns c = found c.args.old.now c.args.new.now c.args.id c.requires.ascending c.requires.fewer c.in-Ok.place c.in-Ok.ensures.position
