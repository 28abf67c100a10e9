use Rattle.std.proofs.Common.{◌≡◌, ◌+◌, ◌-◌, ◌*◌, [], ◌∷◌, ◌++◌, sym, ap, ◌∙◌, subst, ℕ, ◌<◌}
use Rattle.wf_model.specs.Simplex.{Simplex}
use Rattle.wf_model.specs.Task.{IsTaskSimplex}
use Rattle.wf_simplex.specs.Keys.{key_of, one_vertex, key_limit, simplex_of, unit_of, IsKey}
use Rattle.wf_simplex.proofs.KeyLemmas.{is_key, joined_key, simplex_of-key, key_of-below, last_process}
use Rattle.wf_simplex.proofs.simplex.Simplex.with_vertex.Goals as goal

-- the key of a simplex with one more vertex
key_is : (key new : ℕ) (s : Simplex) (p x : ℕ) → IsKey key → simplex_of key ≡ s → new ≡ key + one_vertex - (256 - x) * unit_of p → IsTaskSimplex (s ++ ((p, x) ∷ [])) → new ≡ key_of (s ++ ((p, x) ∷ []))
key_is key new s p x h seen is simplex =
    is ∙ ap (λ k. k + one_vertex - (256 - x) * unit_of p) (sym h.exact ∙ ap key_of seen) ∙ joined_key s p x simplex

pub key_with-requires-clause-process : goal.key_with-requires-clause-process
key_with-requires-clause-process c = last_process c.args.self.now c.args.process c.args.value c.requires

pub key_with-requires-clause-few : goal.key_with-requires-clause-few
key_with-requires-clause-few c = subst (λ k. k < key_limit) c.self.invariant.exact (key_of-below (simplex_of c.self.inside.key) c.self.invariant.simplex)

pub invariant_of-result : goal.invariant_of-result
invariant_of-result c =
    let s = c.args.self.now in
    let p = c.args.process in
    let x = c.args.value in
    is_key c.key_with.result (s ++ ((p, x) ∷ [])) (key_is c.self.inside.key c.key_with.result s p x c.self.invariant c.self.view_is c.key_with.ensures.key c.requires) c.requires

pub returns : goal.returns
returns c =
    let s = c.args.self.now in
    let p = c.args.process in
    let x = c.args.value in
    simplex_of-key c.key_with.result (s ++ ((p, x) ∷ [])) (key_is c.self.inside.key c.key_with.result s p x c.self.invariant c.self.view_is c.key_with.ensures.key c.requires) c.requires
