use Rattle.std.proofs.Common.{◌+◌, ◌<◌, ◌≤◌, ◌++◌, ap, flat_map, map, length, sym, ◌∙◌, arith}
use Rattle.std.proofs.lemmas.List.{length-map}
use Rattle.wf_base.specs.Set.Sets.{values_in}
use Rattle.wf_sat_formula.specs.Branches.{ruled_out}
use Rattle.wf_sat_cnf.specs.Exclusions.{exclusions_at}
use Rattle.wf_sat_cnf.specs.Tokens.{clause_tokens, formula_tokens}
use Rattle.wf_sat_cnf.proofs.PutLemmas.{between_numbers, next_list_of, no_number}
use Rattle.wf_sat_cnf.proofs.TakenLemmas.{all_taken, stopped, went_on}
use Rattle.wf_sat_cnf.proofs.exclusions.give_exclusions.Goals as goal

pub returns-in_err-give_missing : goal.returns-in_err-give_missing
returns-in_err-give_missing g c =
    let values = values_in c.args.variables.now.values in
    let box = map values_in c.args.sets.now in
    let i = c.loop-point.point in
    let f = exclusions_at values box in
    let low : i < length box = omega (arith, c.loop-point-test.true, length-map c.args.sets.now values_in) in
    let rest = formula_tokens (flat_map f (between_numbers (i + 1) (length box))) in
    let here = ap (map (ruled_out values i)) c.missing_in-missing.ensures in
    let step = next_list_of clause_tokens f i (length box) low ∙ ap (λ cs. formula_tokens cs ++ rest) (sym here) in
    stopped g.met.K.TokenSink.laws _ _ _ _ _ _ _ _ _ rest _ c.from_residual.result c.from_residual.ensures.0 c.loop-point.invariant c.in_err-give_missing.ensures step

pub loop-point-preserved : goal.loop-point-preserved
loop-point-preserved g c =
    let values = values_in c.args.variables.now.values in
    let box = map values_in c.args.sets.now in
    let i = c.loop-point.point in
    let f = exclusions_at values box in
    let low : i < length box = omega (arith, c.loop-point-test.true, length-map c.args.sets.now values_in) in
    let rest = formula_tokens (flat_map f (between_numbers (i + 1) (length box))) in
    let here = ap (map (ruled_out values i)) c.missing_in-missing.ensures in
    let step = next_list_of clause_tokens f i (length box) low ∙ ap (λ cs. formula_tokens cs ++ rest) (sym here) in
    went_on g.met.K.TokenSink.laws _ _ _ _ _ _ _ _ _ rest c.loop-point.invariant c.in_ok-give_missing.ensures step

pub returns : goal.returns
returns g c =
    let box = map values_in c.args.sets.now in
    let f = exclusions_at (values_in c.args.variables.now.values) box in
    let all : length box ≤ c.loop-point.point = omega (arith, c.loop-point-test.false, length-map c.args.sets.now values_in) in
    all_taken g.met.K.TokenSink.laws _ _ _ _ _ _ c.loop-point.invariant (ap (λ ns. formula_tokens (flat_map f ns)) (no_number c.loop-point.point (length box) all))
