-- Reasons in words: those that are told together, and those that are to come.
use Rattle.std.proofs.Common.{◌≡◌, ℕ, zero, suc, ◌<◌, ◌≤◌, ◌==◌, ◌&&◌, List, [], ◌∷◌, ◌++◌, length, drop, get_or, Bool, true, false, cond, Option, Some, append_assoc, refl, sym, ap, ◌∙◌, arith}
use Rattle.wf_report_explain.specs.Words.Text.{values_text}
use Rattle.wf_report_explain.specs.Argument.Text.{lead_text, origin_text, reasons_from, same_origin, values_beside}
use Rattle.wf_report_explain.specs.declared.argument.reasons.Reason.{Reason}

-- reasons that are told already
told_before : (before : Option ℕ) (told : ℕ) (xs : List Reason) → reasons_from before told xs ≡ reasons_from before 0 (drop told xs)
told_before before zero xs = refl
told_before before (suc told) [] = refl
told_before before (suc told) (x ∷ xs) = told_before before told xs

few_beside : (x : Reason) (xs : List Reason) → length (values_beside x xs) ≤ length xs
few_beside x [] = omega arith
few_beside x (y ∷ ys) = by ((x.point == y.point) && same_origin x.loss.step y.loss.step) (few_beside x ys)
  where
    by : (t : Bool) → length (values_beside x ys) ≤ length ys → length (cond t (y.loss.value ∷ values_beside x ys) []) ≤ suc (length ys)
    by true few = omega (arith, few)
    by false few = omega arith

-- the first reason, and those beside it
pub alike_told : (before : Option ℕ) (reasons : List Reason) (x : Reason) (values : List ℕ) (count : ℕ) (t0 t1 t2 t3 : List ℕ) → 0 < length reasons → get_or reasons 0 x ≡ x → values ≡ x.loss.value ∷ values_beside x (drop 1 reasons) → count ≡ length values
    → t1 ≡ t0 ++ lead_text before x.point → t2 ≡ t1 ++ values_text values → t3 ≡ t2 ++ origin_text x.loss.step → t3 ++ reasons_from (Some x.point) 0 (drop count reasons) ≡ t0 ++ reasons_from before 0 reasons
alike_told before [] x values count t0 t1 t2 t3 some is are long first second third = absurd (omega (arith, some))
alike_told before (y ∷ xs) x values count t0 t1 t2 t3 some is are long first second third =
    let others = values_beside x xs in
    let n : count ≡ suc (length others) = long ∙ ap length are in
    let rest = reasons_from (Some x.point) 0 (drop (length others) xs) in
    let told : t3 ≡ ((t0 ++ lead_text before x.point) ++ values_text (x.loss.value ∷ others)) ++ origin_text x.loss.step = third ∙ ap (λ t. t ++ origin_text x.loss.step) (second ∙ (λ i. first i ++ values_text (are i))) in
    (λ i. told i ++ reasons_from (Some x.point) 0 (drop (n i) (y ∷ xs)))
    ∙ append_assoc ((t0 ++ lead_text before x.point) ++ values_text (x.loss.value ∷ others)) (origin_text x.loss.step) rest
    ∙ append_assoc (t0 ++ lead_text before x.point) (values_text (x.loss.value ∷ others)) (origin_text x.loss.step ++ rest)
    ∙ append_assoc t0 (lead_text before x.point) (values_text (x.loss.value ∷ others) ++ (origin_text x.loss.step ++ rest))
    ∙ ap (λ later. t0 ++ (lead_text before x.point ++ (values_text (x.loss.value ∷ others) ++ (origin_text x.loss.step ++ later)))) (sym (told_before (Some x.point) (length others) xs))
    ∙ ap (λ y. t0 ++ reasons_from before 0 (y ∷ xs)) (sym is)

pub alike_within : (reasons : List Reason) (x : Reason) (values : List ℕ) (count : ℕ) → 0 < length reasons → values ≡ x.loss.value ∷ values_beside x (drop 1 reasons) → count ≡ length values → count ≤ length reasons
alike_within [] x values count some are long = absurd (omega (arith, some))
alike_within (y ∷ xs) x values count some are long = omega (arith, few_beside x xs, long, ap length are)
