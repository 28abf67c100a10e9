use Rattle.std.proofs.Common.{◌<◌, length, sym, ap, ◌∙◌, arith}
use Rattle.std.proofs.lemmas.List.{take_all}
use Rattle.wf_model.specs.Word.{words}
use Rattle.wf_complex.proofs.Lemmas.{length_first, next_at}
use Rattle.wf_report_explain.proofs.OfWords.ExecutionPlaces.{one_more_word}
use Rattle.wf_report_explain.proofs.words.executions.words_of.Goals as goal

pub loop-turn-init : goal.loop-turn-init
loop-turn-init c = record {
  word = λ _. c.first_allowed-word.ensures;
  size = length_first c.args.first_block c.args.size c.first_allowed-word.result c.first_allowed-word.ensures;
  items = c.new-list.ensures.items;
}

pub loop-turn-preserved : goal.loop-turn-preserved
loop-turn-preserved c =
    let all = words c.args.first_block c.args.size in
    let n = c.loop-turn._turn in
    let low : n < length all = omega (arith, c.allowed_count-turn-end.ensures, c.loop-turn-test.true) in
    let at = c.loop-turn.invariant.word low in
    record {
      word =
          next_at all (words c.args.first_block (length c.loop-turn.word)) (ap (words c.args.first_block) (sym c.loop-turn.invariant.size)) n c.loop-turn.word c.next_allowed-more.new.self c.next_allowed-more.result at
          (c.next_allowed-more.ensures.next n) (c.next_allowed-more.ensures.last n);
      size = c.next_allowed-more.ensures.size ∙ c.loop-turn.invariant.size;
      items = c.in_ok-push.ensures.items ∙ one_more_word all n c.loop-turn.word c.loop-turn.list.items at c.loop-turn.invariant.items;
    }

pub returns : goal.returns
returns c = c.loop-turn.invariant.items ∙ take_all c.loop-turn._turn (words c.args.first_block c.args.size) (omega (arith, c.allowed_count-turn-end.ensures, c.loop-turn-test.false))
