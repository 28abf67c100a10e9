use Rattle.std.proofs.Common.{[], ◌==◌, ◌++◌, length, sym, ap, ◌∙◌, string_bytes, arith}
use Rattle.wf_report_explain.specs.Words.Text.{argument_names, participant_text, word_text}
use Rattle.wf_report_explain.proofs.OfWords.ExecutionPlaces.{none_told, one_more_round, all_told, another, length-named, read_at, round_shown}
use Rattle.wf_report_explain.proofs.words.executions.put_words.Goals as goal

pub loop-round-init : goal.loop-round-init
loop-round-init c = none_told (argument_names c.args.ranks c.args.found.now.simplex) c.args.found.now.words.now c.args.found.now.rounds c.args.found.now.count c.args.found.now.place (string_bytes c.args.text.now) (omega arith) c.requires.count c.requires.place

pub nonzero_div-count : goal.nonzero_div-count
nonzero_div-count c =
    let a = another (argument_names c.args.ranks c.args.found.now.simplex) c.args.found.now.words.now c.args.found.now.rounds c.loop-round.round c.loop-round.count c.loop-round.place _ _ c.loop-round.invariant c.loop-round-test.true in
    a.some

pub nonzero_div-word : goal.nonzero_div-word
nonzero_div-word c =
    let a = another (argument_names c.args.ranks c.args.found.now.simplex) c.args.found.now.words.now c.args.found.now.rounds c.loop-round.round c.loop-round.count c.loop-round.place _ _ c.loop-round.invariant c.loop-round-test.true in
    a.each

pub nonzero_rem-place : goal.nonzero_rem-place
nonzero_rem-place c =
    let a = another (argument_names c.args.ranks c.args.found.now.simplex) c.args.found.now.words.now c.args.found.now.rounds c.loop-round.round c.loop-round.count c.loop-round.place _ _ c.loop-round.invariant c.loop-round-test.true in
    a.each

pub bounds-words-place : goal.bounds-words-place
bounds-words-place c =
    let a = another (argument_names c.args.ranks c.args.found.now.simplex) c.args.found.now.words.now c.args.found.now.rounds c.loop-round.round c.loop-round.count c.loop-round.place _ _ c.loop-round.invariant c.loop-round-test.true in
    a.low

pub put_word-requires : goal.put_word-requires
put_word-requires c =
    let a = another (argument_names c.args.ranks c.args.found.now.simplex) c.args.found.now.words.now c.args.found.now.rounds c.loop-round.round c.loop-round.count c.loop-round.place _ _ c.loop-round.invariant c.loop-round-test.true in
    let s = c.args.found.now.simplex in let ranks = c.args.ranks in
    ap length c.index-words-place.is ∙ c.requires.long _ c.index-words-place.result a.low
    ∙ sym (length-named ranks s) ∙ ap length (sym (c.as_slice-in-loop-round.ensures ∙ c.members_of-members.ensures.members))

pub loop-round-preserved : goal.loop-round-preserved
loop-round-preserved c =
    let s = c.args.found.now.simplex in let ranks = c.args.ranks in
    let names = argument_names ranks s in
    let ws = c.args.found.now.words.now in let w = c.index-words-place.result in
    let a = another names ws c.args.found.now.rounds c.loop-round.round c.loop-round.count c.loop-round.place _ _ c.loop-round.invariant c.loop-round-test.true in
    one_more_round names ws c.args.found.now.rounds c.loop-round.round c.loop-round.count c.loop-round.place (string_bytes c.loop-round.text) (string_bytes c.put_round_separator.new.text) (string_bytes c.put_word.new.text) _ c.index-words-place.result
    c.loop-round.invariant c.loop-round-test.true c.in_ok-put_round_separator.ensures
    (c.in_ok-put_word.ensures ∙ ap (λ all. string_bytes c.put_round_separator.new.text ++ word_text (participant_text ranks (c.loop-round.round == 0)) all w) (c.as_slice-in-loop-round.ensures ∙ c.members_of-members.ensures.members)
    ∙ ap (λ xs. string_bytes c.put_round_separator.new.text ++ xs) (round_shown ranks s c.loop-round.round w)) (read_at ws _ c.index-words-place.result [] a.low c.index-words-place.is)

pub returns : goal.returns
returns c = all_told (argument_names c.args.ranks c.args.found.now.simplex) c.args.found.now.words.now c.args.found.now.rounds c.loop-round.round c.loop-round.count c.loop-round.place (string_bytes c.loop-round.text) _ c.loop-round.invariant (omega (arith, c.loop-round-test.false))
