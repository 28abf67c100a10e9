-- A step that takes values in turn.
use Rattle.std.proofs.Common.{◌≡◌, ℕ, ◌+◌, ◌<◌, List, [], ◌∷◌, ◌++◌, flat_map, get_or, length, take, append-nil, sym, ap, ◌∙◌}
use Rattle.std.proofs.lemmas.Grind.{flat_map-append}
use Rattle.std.proofs.lemmas.List.{take_more}
use Rattle.std.proofs.lemmas.List.Sums.{fold_more}
use Rattle.wf_model.specs.Task.{Tuple}
use Rattle.wf_report_explain.specs.Argument.ArgumentState as state
use Rattle.wf_report_explain.specs.Argument.ArgumentState.{Gone, ArgumentState, Taking, needed, taken, take_each, with_reasons}
use Rattle.wf_report_explain.specs.declared.argument.reasons.Reason.{Reason}

-- one value more
pub taking_more : (tuples : List Tuple) (points : List ℕ) (n place v : ℕ) (values : List ℕ) (i : ℕ) (first gone gone' : Gone) (reasons reasons' : List Reason) → i < length values
    → gone' ≡ taken n v gone (get_or values i 0) → reasons' ≡ with_reasons gone points reasons (needed tuples place (get_or values i 0))
    → record { gone = gone; reasons = reasons } ≡ take_each tuples points n place v first (take i values)
    → record { gone = gone'; reasons = reasons' } ≡ take_each tuples points n place v first (take (i + 1) values)
taking_more tuples points n place v values i first gone gone' reasons reasons' inside g r told =
    let step : Taking → Taking = λ t. state.take tuples points n place v t (get_or values i 0) in
    let both : Gone → List Reason → Taking = λ gone reasons. record { gone = gone; reasons = reasons } in
    (λ j. both (g j) (r j)) ∙ ap step told ∙ sym (fold_more (state.take tuples points n place v) (both first []) values i 0 inside)

pub needed_more : (tuples : List Tuple) (place : ℕ) (values : List ℕ) (i : ℕ) (noted noted' : List Tuple) → i < length values → noted' ≡ noted ++ needed tuples place (get_or values i 0)
    → noted ≡ flat_map (needed tuples place) (take i values) → noted' ≡ flat_map (needed tuples place) (take (i + 1) values)
needed_more tuples place values i noted noted' inside more told =
    let a = get_or values i 0 in
    more
    ∙ ap (λ xs. xs ++ needed tuples place a) told
    ∙ ap (λ xs. flat_map (needed tuples place) (take i values) ++ xs) (sym (append-nil (needed tuples place a)))
    ∙ sym (flat_map-append (needed tuples place) (take i values) (a ∷ []))
    ∙ ap (flat_map (needed tuples place)) (sym (take_more values i 0 inside))

abbrev with_gone : Gone → ArgumentState → ArgumentState
with_gone gone s = record s { gone = gone }

-- only what is gone changes
pub gone_alone : (first before after : ArgumentState) (gone : Gone) → record first { gone = before.gone } ≡ before → after ≡ record before { gone = gone } → record first { gone = after.gone } ≡ after
gone_alone first before after gone same is = ap (with_gone after.gone) same ∙ ap (λ g. with_gone g before) (ap (λ s. s.gone) is) ∙ sym is
