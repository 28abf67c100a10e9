use Rattle.std.proofs.Common.{ℕ, ◌≡◌, ◌*◌, ◌^◌, ◌<◌, length, arith, ap, sym, subst, ◌∙◌}
use Rattle.wf_board.specs.Desk.{BoardId}
use Rattle.wf_board.specs.Rule.{Ends}
use Rattle.wf_board.proofs.Gathered.{ends}
use Rattle.wf_board.proofs.board.Board.close.Goals as goal

pub overflow_cast-result-2 : goal.overflow_cast-result-2
overflow_cast-result-2 c =
    let closed = c.close_with-closed.ensures.values.2 in
    let inv = c.self.invariant in
    let every : length c.args.all.me.0.seen ≡ c.self.inside.table.shared.key.workers = c.requires.1 ∙ sym (inv.3 ∙ ap (λ (x : BoardId). x.workers) c.self.view_is) in
    let k = ends c.self.inside.table.shared.key closed.0 c.args.all.id c.args.all.me.0 _ c.word-least.result c.word-refuted.result c.word-cut.result closed.1.0 closed.1.1 every closed.2 c.word-least.ensures c.word-refuted.ensures c.word-cut.ensures in
    let small : c.self.inside.table.shared.key.branches * c.self.inside.table.shared.key.workers < 2 ^ 32 = rw (inv.2, inv.3) inv.4 in
    let a = k.refuted_is in let b = k.room in record { fits = omega arith }

pub overflow_cast-result-3 : goal.overflow_cast-result-3
overflow_cast-result-3 c =
    let closed = c.close_with-closed.ensures.values.2 in
    let inv = c.self.invariant in
    let every : length c.args.all.me.0.seen ≡ c.self.inside.table.shared.key.workers = c.requires.1 ∙ sym (inv.3 ∙ ap (λ (x : BoardId). x.workers) c.self.view_is) in
    let k = ends c.self.inside.table.shared.key closed.0 c.args.all.id c.args.all.me.0 _ c.word-least.result c.word-refuted.result c.word-cut.result closed.1.0 closed.1.1 every closed.2 c.word-least.ensures c.word-refuted.ensures c.word-cut.ensures in
    let small : c.self.inside.table.shared.key.branches * c.self.inside.table.shared.key.workers < 2 ^ 32 = rw (inv.2, inv.3) inv.4 in
    let a = k.cut_is in let b = k.room in record { fits = omega arith }

pub returns : goal.returns
returns c =
    let closed = c.close_with-closed.ensures.values.2 in
    let inv = c.self.invariant in
    let branches = inv.2 ∙ ap (λ (x : BoardId). x.branches) c.self.view_is in
    let workers = inv.3 ∙ ap (λ (x : BoardId). x.workers) c.self.view_is in
    let k = ends c.self.inside.table.shared.key closed.0 c.args.all.id c.args.all.me.0 _ c.word-least.result c.word-refuted.result c.word-cut.result closed.1.0 closed.1.1 (c.requires.1 ∙ sym workers) closed.2 c.word-least.ensures c.word-refuted.ensures c.word-cut.ensures in
    subst (λ (b : ℕ). Ends b c.args.self.workers c.args.all.me.0 c.word-least.result c.word-refuted.result c.word-cut.result) branches
    (subst (λ (w : ℕ). Ends c.self.inside.table.shared.key.branches w c.args.all.me.0 c.word-least.result c.word-refuted.result c.word-cut.result) workers k)
