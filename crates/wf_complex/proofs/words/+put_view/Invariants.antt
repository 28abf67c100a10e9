use Rattle.std.proofs.Common.{◌≡◌, ◌++◌, string_bytes, map, drop}
use Rattle.wf_complex.specs.Views.{view_at}
use Rattle.wf_complex.proofs.ViewTexts.{rest_of}
use Rattle.wf_complex.proofs.words.+put_view.Given as goal

abbrev pub decreases-put_view : goal.decreases-put_view
decreases-put_view l = l.id

abbrev pub invariant-loop-place : goal.invariant-loop-place
invariant-loop-place l =
    string_bytes l.text ++ rest_of l.ranks l.place (map (view_at l.views) (drop l.place l.part-items)) ≡ string_bytes l.initial.text ++ rest_of l.ranks 0 (map (view_at l.views) l.part-items)
