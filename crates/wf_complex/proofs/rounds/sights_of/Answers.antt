use Rattle.std.proofs.Common.{◌<◌, ◌++◌, [], ◌∷◌, All, length, arith, sym, ap, ◌∙◌, subst}
use Rattle.std.proofs.lemmas.List.{map_push}
use Rattle.std.proofs.lemmas.List.Elements.{All-push}
use Rattle.wf_model.specs.Word.{words}
use Rattle.wf_complex.specs.declared.rounds.ImmediateSnapshot.{ImmediateSnapshot}
use Rattle.wf_complex.specs.Rounds.{words_in, IsSightOf}
use Rattle.wf_complex.proofs.WalkLemmas.{length_first, next_at, take_word}
use Rattle.wf_complex.proofs.rounds.sights_of.Goals as goal

pub loop-turn-init : goal.loop-turn-init
loop-turn-init c = record {
  word = λ _. c.first_allowed-word.ensures;
  size = length_first c.args.first_block c.args.size c.first_allowed-word.result c.first_allowed-word.ensures;
  made = ap words_in c.in_ok-all.ensures.items;
  sights = subst (All (IsSightOf c.args.size)) (sym c.in_ok-all.ensures.items) (λ k d h. absurd (let none : ⊥ = omega (arith, h) in none));
}

pub loop-turn-preserved : goal.loop-turn-preserved
loop-turn-preserved c =
    let ws = words c.args.first_block c.args.size in
    let below : c.loop-turn.turn < length (words c.args.first_block c.args.size) = omega (arith, c.allowed_count-count.ensures, c.loop-turn-test.true) in
    let at = c.loop-turn.invariant.word below in
    let s = c.sight_of.result in
    record {
      word = next_at ws (words c.args.first_block (length c.loop-turn.word)) (ap (words c.args.first_block) (sym c.loop-turn.invariant.size)) c.loop-turn.turn c.loop-turn.word c.next_allowed.new.self c.next_allowed.result at (c.next_allowed.ensures.next c.loop-turn.turn) (c.next_allowed.ensures.last c.loop-turn.turn);
      size = c.next_allowed.ensures.size ∙ c.loop-turn.invariant.size;
      made =
          ap words_in c.in_ok-push.ensures.items
          ∙ map_push (λ (x : ImmediateSnapshot). x.word) c.loop-turn.all.items s
          ∙ (λ i. c.loop-turn.invariant.made i ++ c.sight_of.ensures.word i ∷ [])
          ∙ sym (take_word ws c.loop-turn.turn c.loop-turn.word at);
      sights = subst (All (IsSightOf c.args.size)) (sym c.in_ok-push.ensures.items) (All-push (IsSightOf c.args.size) c.loop-turn.all.items s c.loop-turn.invariant.sights (ap length c.sight_of.ensures.word ∙ c.loop-turn.invariant.size, c.sight_of.ensures.seen));
    }
