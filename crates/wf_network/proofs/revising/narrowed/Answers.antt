use Rattle.std.proofs.Common.{rules, ◌≡◌, ◌≢◌, ◌<◌, ◌&&◌, ◌∙◌, ℕ, Bool, true, false, List, [], ap, arith, get_or, length, refl, sym}
use Rattle.std.specs.Bool.{OnFalse}
use Rattle.std.proofs.lemmas.Bool.{and_from, true≢false}
use Rattle.std.proofs.lemmas.List.{get_or-map, length-map}
use Rattle.wf_network.specs.Revising.{wide_set, widened}
use Rattle.wf_network.proofs.revising.narrowed.Goals as goal

low_at : (parts : List ℕ) (sets : List (List ℕ)) (i : ℕ) (low : Bool) → widened parts ≡ sets → i < length sets → OnFalse low ((part : ℕ) → wide_set part ≢ get_or sets i []) → low ≡ true
low_at parts sets i true same inside wide = refl
low_at parts sets i false same inside wide =
    let there : i < length parts = omega (arith, inside, ap length same, length-map parts wide_set) in
    absurd (wide (get_or parts i 0) (sym (get_or-map wide_set parts i 0 [] there) ∙ ap (λ xs. get_or xs i []) same))

pub returns-else-is_low-clause-none : goal.returns-else-is_low-clause-none
returns-else-is_low-clause-none c = λ parts same.
    let sets = c.args.sets in
    let long : length sets ≡ 4 = search rules in
    let first = low_at parts sets 0 c.is_low.result same (omega arith) c.is_low.ensures.wide in
    let second = low_at parts sets 1 c.is_low-2.result same (omega arith) c.is_low-2.ensures.wide in
    let third = low_at parts sets 2 c.is_low-3.result same (omega arith) c.is_low-3.ensures.wide in
    let fourth = low_at parts sets 3 c.is_low-4.result same (omega arith) c.is_low-4.ensures.wide in
    let two = and_from c.is_low.result c.is_low-2.result first second in
    let three = and_from (c.is_low.result && c.is_low-2.result) c.is_low-3.result two third in
    true≢false (sym (and_from ((c.is_low.result && c.is_low-2.result) && c.is_low-3.result) c.is_low-4.result three fourth) ∙ c.if-is_low.false)
