use Rattle.std.proofs.Common.{[], ◌+◌, ◌/◌, ◌%◌, ◌++◌, false, length, sym, ap, ◌∙◌, arith}
use Rattle.wf_base.proofs.OfStreams.Lemmas.{stopped, all_put}
use Rattle.wf_report_explain.specs.Words.Text.{participant_text, plain_names, word_text}
use Rattle.wf_report_explain.specs.Words.Table.{break_text}
use Rattle.wf_report_explain.proofs.OfWords.ExecutionPlaces.{another, read_at}
use Rattle.wf_report_explain.proofs.OfWords.Pieces.{all_rounds_put, no_round_put, one_round_put, round_parted, rounds_left, same_put}
use Rattle.wf_report_explain.proofs.words.listed.put_words.Goals as goal

pub loop-round-init : goal.loop-round-init
loop-round-init g c =
    no_round_put c.args.sink.now c.args.page.now c.args.found.now.simplex c.args.found.now.words.now c.args.found.now.rounds c.args.found.now.count c.args.found.now.place (omega arith)
    c.requires.whole.count c.requires.whole.place

pub nonzero_div-count : goal.nonzero_div-count
nonzero_div-count g c =
    let a = another (plain_names c.args.found.now.simplex) c.args.found.now.words.now c.args.found.now.rounds c.loop-round.round c.loop-round.count c.loop-round.place _ _ c.loop-round.invariant.at c.loop-round-test.true in
    a.some

pub nonzero_div-place : goal.nonzero_div-place
nonzero_div-place g c =
    let a = another (plain_names c.args.found.now.simplex) c.args.found.now.words.now c.args.found.now.rounds c.loop-round.round c.loop-round.count c.loop-round.place _ _ c.loop-round.invariant.at c.loop-round-test.true in
    a.each

pub nonzero_rem-place : goal.nonzero_rem-place
nonzero_rem-place g c =
    let a = another (plain_names c.args.found.now.simplex) c.args.found.now.words.now c.args.found.now.rounds c.loop-round.round c.loop-round.count c.loop-round.place _ _ c.loop-round.invariant.at c.loop-round-test.true in
    a.each

pub bounds-words-place : goal.bounds-words-place
bounds-words-place g c =
    let a = another (plain_names c.args.found.now.simplex) c.args.found.now.words.now c.args.found.now.rounds c.loop-round.round c.loop-round.count c.loop-round.place _ _ c.loop-round.invariant.at c.loop-round-test.true in
    a.low

pub put_round-requires-clause-long : goal.put_round-requires-clause-long
put_round-requires-clause-long g c =
    let a = another (plain_names c.args.found.now.simplex) c.args.found.now.words.now c.args.found.now.rounds c.loop-round.round c.loop-round.count c.loop-round.place _ _ c.loop-round.invariant.at c.loop-round-test.true in
    ap length c.index-words-place.is ∙ c.requires.whole.long _ c.index-words-place.result a.low ∙ ap length (sym (c.as_slice-in-loop-round.ensures ∙ c.members_of-members.ensures.members))

pub returns-in_err-put_round : goal.returns-in_err-put_round
returns-in_err-put_round g c =
    let cs = c.args.found.now.simplex in
    let ws = c.args.found.now.words.now in
    let a = another (plain_names cs) ws c.args.found.now.rounds c.loop-round.round c.loop-round.count c.loop-round.place _ _ c.loop-round.invariant.at c.loop-round-test.true in
    stopped _ _ _ _ _ _ _ _ _ _ c.from_residual.result c.from_residual.ensures.0 c.loop-round.invariant.put c.in_err-put_round.ensures
    (round_parted cs ws c.args.found.now.rounds c.loop-round.round c.loop-round.count c.loop-round.place c.index-words-place.result c.loop-round.invariant.at c.loop-round-test.true
    (read_at ws _ c.index-words-place.result [] a.low c.index-words-place.is)
    ∙ ap (λ all. (break_text c.loop-round.round ++ word_text (participant_text false false) all c.index-words-place.result) ++ rounds_left cs ws c.args.found.now.rounds (c.loop-round.round + 1) (c.loop-round.place % (c.loop-round.count / length ws)))
    (sym (c.as_slice-in-loop-round.ensures ∙ c.members_of-members.ensures.members)))

pub loop-round-preserved : goal.loop-round-preserved
loop-round-preserved g c =
    let cs = c.args.found.now.simplex in
    let ws = c.args.found.now.words.now in
    let a = another (plain_names cs) ws c.args.found.now.rounds c.loop-round.round c.loop-round.count c.loop-round.place _ _ c.loop-round.invariant.at c.loop-round-test.true in
    one_round_put _ _ _ _ _ _ _ cs ws c.args.found.now.rounds c.loop-round.round c.loop-round.count c.loop-round.place c.index-words-place.result c.loop-round.invariant c.loop-round-test.true
    (read_at ws _ c.index-words-place.result [] a.low c.index-words-place.is)
    (same_put _ _ _ _ _ _ (ap (λ all. break_text c.loop-round.round ++ word_text (participant_text false false) all c.index-words-place.result) (c.as_slice-in-loop-round.ensures ∙ c.members_of-members.ensures.members)) c.in_ok-put_round.ensures)

pub returns : goal.returns
returns g c =
    all_put _ _ _ _ _ _ c.loop-round.invariant.put
    (all_rounds_put c.args.found.now.simplex c.args.found.now.words.now c.args.found.now.rounds c.loop-round.round c.loop-round.count c.loop-round.place c.loop-round.invariant.at (omega (arith, c.loop-round-test.false)))
