use Rattle.wf_complex.proofs.Entries.{process_read}
use Rattle.wf_complex.proofs.views.Views.colour.Goals as goal

pub returns : goal.returns
returns c = record { process = process_read c.args.self.now c.args.id c.entry.result.now c.entry.ensures.entry c.entry.ensures.view }
