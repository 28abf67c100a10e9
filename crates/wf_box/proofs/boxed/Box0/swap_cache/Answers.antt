use Rattle.std.proofs.Common.{◌∙◌, ap, subst, sym}
use Rattle.wf_box.specs.Boxes.{ServeFor, Tracked}
use Rattle.wf_network.specs.Revising.{answers_in}
use Rattle.wf_box.proofs.boxed.Box0.swap_cache.Goals as goal

pub returns-clause-serve : goal.returns-clause-serve
returns-clause-serve c = λ p is. subst (ServeFor p) (ap (λ (b : Tracked). b.known) (sym c.self.view_is) ∙ ap answers_in (sym c.swap.ensures.y_after)) is.known
