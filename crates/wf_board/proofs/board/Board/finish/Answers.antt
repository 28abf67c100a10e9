use Rattle.std.proofs.Common.{◌≡◌, ◌⊎◌, [], ◌∷◌, ◌++◌, length, ap, sym, ◌∙◌, subst}
use Rattle.std.specs.Prelude.{All, Contains}
use Rattle.wf_board.specs.Rule.{Seated}
use Rattle.wf_board.specs.Desk.{gathered}
use Rattle.wf_board.proofs.Gathered.{length-gathered, each_seen}
use Rattle.wf_board.proofs.board.Board.finish.Goals as goal

pub close-words-requires : goal.close-words-requires
close-words-requires c =
    let all = c.join_seats-all.ensures in
    let ds = c.pop.new.self.items ++ c.in-Some.first ∷ [] in
    let here : c.args.seats.items ≡ ds = c.in-Some.ensures.items in
    (all.0, ap (λ (m : Seated). length m.0.seen) all.1 ∙ (length-gathered ds ∙ (sym (ap length here) ∙ c.requires.0)))

pub returns-clause-seen : goal.returns-clause-seen
returns-clause-seen c =
    let ds = c.pop.new.self.items ++ c.in-Some.first ∷ [] in
    let here : c.args.seats.items ≡ ds = c.in-Some.ensures.items in
    let seen = subst (λ (m : Seated). All (λ x. (x ≡ c.args.self.branches) ⊎ Contains m.0.posted x) m.0.seen) c.join_seats-all.ensures.1 c.close-words.ensures.seen in
    rw here (each_seen (λ x. (x ≡ c.args.self.branches) ⊎ Contains (gathered ds).posted x) ds seen)
