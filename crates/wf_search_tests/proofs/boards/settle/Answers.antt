use Rattle.std.proofs.Common.{◌≡◌, ◌≢◌, ℕ, ◌+◌, [], ◌∷◌, ap, ◌∙◌, arith}
use Rattle.wf_core.specs.Count.{times}
use Rattle.wf_core.proofs.Lemmas.{times_other}
use Rattle.wf_board.specs.Desk.{Desk, settled, looked, posted, searched, is_cut}
use Rattle.wf_board.proofs.Lemmas.{settled-posted, settled-searched, settled-is_cut}
use Rattle.wf_search_tests.proofs.boards.settle.Goals as goal

-- another branch is settled as often as before
other : (x i n m : ℕ) → m ≡ n + times x (i ∷ []) → x ≢ i → m ≡ n
other x i n m e apart = let t = times_other x i [] apart in omega arith

pub returns-then-matches-clause-settled : goal.returns-then-matches-clause-settled
returns-then-matches-clause-settled c x apart =
    other x c.args.branch _ _ (ap (λ (d : Desk). times x (settled d)) c.post.ensures.posted ∙ settled-posted x c.args.branch c.post.result c.args.seat.now) apart

pub returns-then-least-branch-clause-settled : goal.returns-then-least-branch-clause-settled
returns-then-least-branch-clause-settled c x apart =
    other x c.args.branch _ _ (ap (λ (d : Desk). times x (settled d)) (c.cut.ensures ∙ ap (λ (d : Desk). is_cut d c.args.branch) c.least.ensures.looked) ∙ settled-is_cut x c.args.branch (looked c.args.seat.now c.least.result)) apart

pub returns-then-branch-eq2-clause-settled : goal.returns-then-branch-eq2-clause-settled
returns-then-branch-eq2-clause-settled c x apart =
    let r = c.post-then-branch-eq2.result in
    other x c.args.branch _ _ (ap (λ (d : Desk). times x (settled d)) (c.post-then-branch-eq2.ensures.posted ∙ ap (λ (d : Desk). posted d c.args.branch r) c.least.ensures.looked) ∙ settled-posted x c.args.branch r (looked c.args.seat.now c.least.result)) apart

pub returns-clause-settled : goal.returns-clause-settled
returns-clause-settled c x apart =
    other x c.args.branch _ _ (ap (λ (d : Desk). times x (settled d)) (c.searched.ensures ∙ ap (λ (d : Desk). searched d c.args.branch) c.least.ensures.looked) ∙ settled-searched x c.args.branch (looked c.args.seat.now c.least.result)) apart
