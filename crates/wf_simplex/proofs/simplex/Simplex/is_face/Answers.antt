use Rattle.std.proofs.Common.{ap₂, ◌&&◌, ◌∙◌}
use Rattle.wf_model.specs.Simplex.{is_face}
use Rattle.wf_simplex.specs.Entries.{is_within}
use Rattle.wf_simplex.specs.Keys.{entry_of}
use Rattle.wf_simplex.proofs.KeyLemmas.{face_by_keys}
use Rattle.wf_simplex.proofs.simplex.Simplex.is_face.Goals as goal

pub returns : goal.returns
returns c =
    (λ i. c.is_within.ensures i && c.is_within-2.ensures i && c.is_within-3.ensures i && c.is_within-4.ensures i)
    ∙ (λ i. is_within (entry_of (c.digit.ensures i)) (entry_of (c.digit-2.ensures i)) && is_within (entry_of (c.digit-3.ensures i)) (entry_of (c.digit-4.ensures i))
    && is_within (entry_of (c.digit-5.ensures i)) (entry_of (c.digit-6.ensures i)) && is_within (entry_of (c.digit-7.ensures i)) (entry_of (c.digit-8.ensures i)))
    ∙ face_by_keys c.self.inside.key c.other.inside.key c.self.invariant
    ∙ ap₂ is_face c.self.view_is c.other.view_is
