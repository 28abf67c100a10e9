-- The last of a list, and what becomes of the nodes if the last is changed.
use Rattle.std.proofs.Common.{◌≡◌, ℕ, zero, suc, ◌+◌, ◌-◌, List, [], ◌∷◌, length, map, Bool, true, false, Option, Some, option_map, refl, sym, ◌∙◌, ap, arith, slice_set, slice_index_or, IfOk, Result}
use Rattle.std.proofs.lemmas.Result.{IfOk-weaker}
use Rattle.std.specs.List.{slice_get}
use Rattle.wf_tree_model.specs.Trees.{Node}
use Rattle.wf_tree_text.specs.Seen.{node_seen, nodes_seen}
use Rattle.wf_tree_text.specs.Steps.{changed}
use Rattle.wf_tree_text.specs.Text.{at_last, is_smaller, may_follow}
use Rattle.wf_tree_text.specs.declared.obstruction.TreeNode as code

one_less : (n : ℕ) → suc (suc n) - 1 ≡ suc (suc n - 1)
one_less n = omega arith

-- what may follow looks at the last alone
pub follows_last : {X Y : Type 0} (key : Y → List ℕ) (seen : X → Y) (xs : List X) (last : X) (next : Y) → slice_get xs (length xs - 1) ≡ Some last
    → may_follow key (map seen xs) next ≡ is_smaller (key (seen last)) (key next)
follows_last key seen [] last next h = absurd (let bad : ⊥ = cc in bad)
follows_last key seen (x ∷ []) last next h = let same : x ≡ last = cc in ap (λ y. is_smaller (key (seen y)) (key next)) same
follows_last key seen (x ∷ y ∷ xs) last next h = follows_last key seen (y ∷ xs) last next (ap (slice_get (x ∷ y ∷ xs)) (sym (one_less (length xs))) ∙ h)

last_changed : (nodes : List code.TreeNode) (p : ℕ) (last new : code.TreeNode) (added : Bool) (change : Node → Option Node) → p + 1 ≡ length nodes → last ≡ slice_index_or nodes p last
    → changed added (node_seen new) ≡ change (node_seen last) → changed added (nodes_seen (slice_set nodes p new)) ≡ at_last change (nodes_seen nodes)
last_changed [] p last new added change long h e = absurd (omega (arith, long))
last_changed (n ∷ []) (suc p) last new added change long h e = absurd (omega (arith, long))
last_changed (n ∷ []) zero last new added change long h e = one added (node_seen new) ∙ ap (option_map (λ m. m ∷ [])) (e ∙ ap (λ x. change (node_seen x)) h)
  where
    one : (added : Bool) (m : Node) → changed added (m ∷ []) ≡ option_map (λ m. m ∷ []) (changed added m)
    one true m = refl
    one false m = refl
last_changed (n ∷ m ∷ ns) zero last new added change long h e = absurd (omega (arith, long))
last_changed (n ∷ m ∷ ns) (suc p) last new added change long h e =
    more added (nodes_seen (slice_set (m ∷ ns) p new)) ∙ ap (option_map (λ ms. node_seen n ∷ ms)) (last_changed (m ∷ ns) p last new added change (omega (arith, long)) h e)
  where
    more : (added : Bool) (ms : List Node) → changed added (node_seen n ∷ ms) ≡ option_map (λ ms. node_seen n ∷ ms) (changed added ms)
    more true ms = refl
    more false ms = refl

pub at_last_changed : {E : Type 0} (r : Result Bool E) (nodes : List code.TreeNode) (p : ℕ) (last new : code.TreeNode) (change : Node → Option Node) → p + 1 ≡ length nodes → last ≡ slice_index_or nodes p last
    → IfOk r (λ added. changed added (node_seen new) ≡ change (node_seen last)) → IfOk r (λ added. changed added (nodes_seen (slice_set nodes p new)) ≡ at_last change (nodes_seen nodes))
at_last_changed r nodes p last new change long h e = IfOk-weaker r _ _ (λ added. last_changed nodes p last new added change long h) e
