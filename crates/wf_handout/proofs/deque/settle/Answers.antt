use Rattle.std.proofs.Common.{◌≡◌, ◌+◌, ◌≤◌, ◌++◌, ◌∷◌, [], ℕ, List, length, ap, sym, ◌∙◌, refl, subst, arith, append_assoc, append-nil, cond, eqb}
use Rattle.crossbeam_deque.specs.Handles.{view, worker_view}
use Rattle.wf_core.specs.Count.{times, total}
use Rattle.wf_core.proofs.Lemmas.{times-append, times_same}
use Rattle.wf_handout.specs.declared.deque.Pile.{Pile}
use Rattle.wf_handout.specs.Piles.{pile}
use Rattle.wf_handout.proofs.DequeSteps.{merges, nearer, fair, total_times, on_err}
use Rattle.wf_handout.proofs.deque.settle.Goals as goal

pub absorb-requires-clause-rule : goal.absorb-requires-clause-rule
absorb-requires-clause-rule c = merges _ _ _ _ (let p = c.owner.invariant.1 in omega arith)

pub loop-branch-init : goal.loop-branch-init
loop-branch-init c =
    let o = c.owner.view_is in
    let r = c.thief.view_is in
    let v = c.absorb.ensures.rule in
    let o1 = c.owner.invariant.1 in
    let r1 = c.thief.invariant.2 in
    let parts : (worker_view c.owner.inside.deque).parts + (view c.thief.inside.pass).parts ≡ 2 = omega arith in (
      [],
      sym (append-nil _),
      v ∙ (λ k. pile (parts k) (o k).dealt ((o k).taken ++ (r k).taken)) ∙ ap (pile 2 c.args.owner.dealt) (sym (append-nil _)),
      c.absorb.ensures.same.0.1 ∙ c.owner.invariant.0,
    )

pub loop-branch-smaller : goal.loop-branch-smaller
loop-branch-smaller c =
    let t = c.in-Some.ensures.taken in
    let v = worker_view c.loop-branch.deque in
    let w = worker_view c.pop_front.new.deque in
    let d : w.dealt ≡ v.dealt = ap (λ (p : Pile). p.dealt) t.0 in
    let k : w.taken ≡ v.taken ++ c.in-Some.branch ∷ [] = ap (λ (p : Pile). p.taken) t.0 in
    let n = nearer v.dealt v.taken c.in-Some.branch (λ h. subst (λ (l : List ℕ). total h l ≤ total h v.dealt) k (subst (λ (l : List ℕ). total h w.taken ≤ total h l) d (t.1 h))) in
    let a = ap length d in
    let b = ap length k in
    omega arith

pub loop-branch-preserved : goal.loop-branch-preserved
loop-branch-preserved c =
    let i = c.loop-branch.invariant in
    let t = c.in-Some.ensures.taken in
    let b = c.in-Some.branch in
    let both = c.args.owner.taken ++ c.args.thief.taken in (
      i.0 ++ b ∷ [],
      c.in_ok-push.ensures.items ∙ ap (λ (l : List ℕ). l ++ b ∷ []) i.1 ∙ append_assoc c.args.left.now.items i.0 (b ∷ []),
      t.0 ∙ (λ k. pile (i.2 k).parts (i.2 k).dealt ((i.2 k).taken ++ b ∷ [])) ∙ ap (pile 2 c.args.owner.dealt) (append_assoc both i.0 (b ∷ [])),
      c.in-Some.ensures.flavor,
    )

pub returns-in_err-push-clause-short : goal.returns-in_err-push-clause-short
returns-in_err-push-clause-short c =
    let i = c.loop-branch.invariant in
    let t = c.in-Some.ensures.taken in
    let v = worker_view c.loop-branch.deque in
    let w = worker_view c.pop_front.new.deque in
    let b = c.in-Some.branch in
    let f = fair w.dealt w.taken t.1 b in
    let d : times b w.dealt ≡ times b c.args.owner.dealt = ap (λ (p : Pile). times b p.dealt) t.0 ∙ ap (λ (p : Pile). times b p.dealt) i.2 in
    let k : times b w.taken ≡ times b (v.taken ++ b ∷ []) = ap (λ (p : Pile). times b p.taken) t.0 in
    let e : times b v.taken ≡ times b ((c.args.owner.taken ++ c.args.thief.taken) ++ i.0) = ap (λ (p : Pile). times b p.taken) i.2 in
    let a0 = times-append b v.taken (b ∷ []) in
    let a1 = times-append b (c.args.owner.taken ++ c.args.thief.taken) i.0 in
    let a2 = times-append b c.args.owner.taken c.args.thief.taken in
    let a3 = times_same b b [] refl in
    on_err c.from_residual.result (b, omega arith)

pub returns-clause-whole : goal.returns-clause-whole
returns-clause-whole c = λ x.
    let i = c.loop-branch.invariant in
    let v = worker_view c.loop-branch.deque in
    let e = c.in_default.ensures.taken.1 (ap (λ (p : Pile). p.parts) i.2) (λ y. cond (eqb x y) 1 0) in
    let a = total_times x v.dealt in
    let b = total_times x v.taken in
    let d = ap (λ (p : Pile). times x p.dealt) i.2 in
    let k = ap (λ (p : Pile). times x p.taken) i.2 in
    let l = ap (times x) i.1 in
    let a0 = times-append x (c.args.owner.taken ++ c.args.thief.taken) i.0 in
    let a1 = times-append x c.args.owner.taken c.args.thief.taken in
    let a2 = times-append x c.args.left.now.items i.0 in
    omega arith
