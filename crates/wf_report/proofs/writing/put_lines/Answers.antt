use Rattle.std.proofs.Common.{◌≡◌, ℕ, ◌+◌, ◌<◌, ◌++◌, List, take, map, flat_map, length, get_or, sym, ap, ◌∙◌, append_assoc}
use Rattle.std.proofs.lemmas.Option.{slice_get-get_or}
use Rattle.wf_model.specs.Report.{line_text}
use Rattle.wf_base.specs.Lines.Lines.{line_of}
use Rattle.wf_base.specs.declared.lines.line.Line.{Line}
use Rattle.wf_report.proofs.Taken.{flat_map-take}
use Rattle.wf_report.proofs.writing.put_lines.Goals as goal

one_more : (start before after : List ℕ) (lines : List Line) (n : ℕ) (d : Line) → n < length lines → before ≡ start ++ flat_map line_text (map line_of (take n lines)) → after ≡ before ++ line_text (line_of (get_or lines n d))
    → after ≡ start ++ flat_map line_text (map line_of (take (n + 1) lines))
one_more start before after lines n d low so_far is =
    is
    ∙ ap (λ bs. bs ++ line_text (line_of (get_or lines n d))) so_far
    ∙ append_assoc start (flat_map line_text (map line_of (take n lines))) (line_text (line_of (get_or lines n d)))
    ∙ ap (λ bs. start ++ bs) (sym (flat_map-take line_text line_of lines n (get_or lines n d) (slice_get-get_or lines n d low)))

pub loop-line-preserved : goal.loop-line-preserved
loop-line-preserved c = one_more c.args.text.now.items c.loop-line.text.items c.put_line.new.text.items c.args.lines.now c.loop-line.line-index _ c.loop-line-test.true c.loop-line.invariant c.in_ok-put_line.ensures
