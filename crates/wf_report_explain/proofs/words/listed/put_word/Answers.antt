use Rattle.std.proofs.Common.{ℕ, List, ◌+◌, ◌++◌, ◌<◌, ◌≤◌, flat_map, length, sym, ap, ◌∙◌, subst, arith, false}
use Rattle.wf_base.proofs.OfStreams.Lemmas.{IsPut, begun, went_on, stopped, all_put}
use Rattle.wf_report_explain.specs.Words.Text.{block_of, block_text, participant_text, word_text}
use Rattle.wf_report_explain.proofs.OfWords.Pieces.{all_numbers, next_number, no_number, numbers_left}
use Rattle.wf_report_explain.proofs.words.listed.put_word.Goals as goal

pub loop-block-init : goal.loop-block-init
loop-block-init g c =
    let cs = c.args.all.now in
    let f : ℕ → List ℕ = λ block. block_text (participant_text false false) (block_of cs c.args.word.now block) in
    subst (λ ns. IsPut c.args.sink.now c.args.page.now c.args.sink.now c.args.page.now (word_text (participant_text false false) cs c.args.word.now) (flat_map f ns)) (sym (all_numbers (length cs))) (begun c.args.sink.now c.args.page.now (word_text (participant_text false false) cs c.args.word.now))

pub returns-in_err-put_block : goal.returns-in_err-put_block
returns-in_err-put_block g c =
    let cs = c.args.all.now in
    let f : ℕ → List ℕ = λ block. block_text (participant_text false false) (block_of cs c.args.word.now block) in
    let low : c.loop-block.block < length cs = omega (arith, c.loop-block-test.true, c.size-block-end.ensures.count, c.requires.long) in
    let here = c.as_slice.ensures ∙ c.block_of-members.ensures.members in
    let rest = flat_map f (numbers_left (c.loop-block.block + 1) (length cs)) in
    stopped _ _ _ _ _ _ _ (block_text (participant_text false false) c.as_slice.result.now) _ rest c.from_residual.result c.from_residual.ensures.0 c.loop-block.invariant c.in_err-put_block.ensures
    (next_number f c.loop-block.block (length cs) low ∙ ap (λ ps. block_text (participant_text false false) ps ++ rest) (sym here))

pub loop-block-preserved : goal.loop-block-preserved
loop-block-preserved g c =
    let cs = c.args.all.now in
    let f : ℕ → List ℕ = λ block. block_text (participant_text false false) (block_of cs c.args.word.now block) in
    let low : c.loop-block.block < length cs = omega (arith, c.loop-block-test.true, c.size-block-end.ensures.count, c.requires.long) in
    let here = c.as_slice.ensures ∙ c.block_of-members.ensures.members in
    let rest = flat_map f (numbers_left (c.loop-block.block + 1) (length cs)) in
    went_on _ _ _ _ _ _ _ (block_text (participant_text false false) c.as_slice.result.now) _ rest c.loop-block.invariant c.in_ok-put_block.ensures
    (next_number f c.loop-block.block (length cs) low ∙ ap (λ ps. block_text (participant_text false false) ps ++ rest) (sym here))

pub returns : goal.returns
returns g c =
    let cs = c.args.all.now in
    let f : ℕ → List ℕ = λ block. block_text (participant_text false false) (block_of cs c.args.word.now block) in
    let high : length cs ≤ c.loop-block.block = omega (arith, c.loop-block-test.false, c.size-block-end.ensures.count, c.requires.long) in
    all_put _ _ _ _ _ _ c.loop-block.invariant (no_number f c.loop-block.block (length cs) high)
