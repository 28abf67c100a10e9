use Rattle.std.proofs.Common.{take, ap, subst, ◌∙◌}
use Rattle.wf_base.specs.Streams.Texts.{Took}
use Rattle.wf_base.proofs.OfStreams.PagePieces.{sent_after}
use Rattle.wf_base.proofs.streams.page.Page.put_overflowing.Goals as goal

pub returns-then-piece-gt-ROOM : goal.returns-then-piece-gt-ROOM
returns-then-piece-gt-ROOM g c =
    let held = ap (take c.self.inside.filled) c.deref.ensures.value ∙ c.self.view_is in
    let passed = subst (λ bs. Took c.args.sink.now c.send.new.sink bs 0) held c.in_ok-send.ensures in
    sent_after _ _ _ _ _ c.send-then-piece-gt-ROOM.result passed c.send-then-piece-gt-ROOM.ensures
