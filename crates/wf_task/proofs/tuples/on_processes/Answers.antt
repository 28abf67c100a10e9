use Rattle.std.proofs.Common.{◌≡◌, ℕ, ◌<◌, ◌≤◌, List, length, take, zip, sym, ap, ◌∙◌, subst, arith, refl, length-set, take_all}
use Rattle.wf_model.specs.Simplex.{Simplex, processes_of}
use Rattle.wf_model.specs.Task.{IsSimplexWithin}
use Rattle.wf_task.proofs.TupleLemmas.{zip_within, length-zip_processes, paired}
use Rattle.wf_task.proofs.tuples.on_processes.Goals as goal

pub loop-place-preserved : goal.loop-place-preserved
loop-place-preserved c =
    let i = c.loop-place.place in
    let s = c.args.simplex.now in
    let within : i < length s = omega (arith, c.loop-place-test.true, c.colours-size.ensures.count) in
    let inside : i < length c.loop-place.pairs = omega (arith, c.loop-place-test.true, c.colours-size.ensures.few, c.loop-place.invariant.four) in
    record {
      four = length-set c.loop-place.pairs i _ ∙ c.loop-place.invariant.four;
      made = paired c.loop-place.pairs s c.args.values.now i _ _ inside within c.requires.long c.loop-place.invariant.made (c.from-process.ensures ∙ c.colour.ensures) refl;
    }

-- all pairs were made
all_made : (pairs s : Simplex) (xs : List ℕ) (n i : ℕ) → n ≡ length s → length xs ≡ length s → n ≤ i → i ≤ n → take i pairs ≡ take i (zip (processes_of s) xs) → take n pairs ≡ zip (processes_of s) xs
all_made pairs s xs n i count long past upto made =
    let all : i ≡ n = omega arith in
    ap (λ k. take k pairs) (sym all) ∙ made ∙ take_all i (zip (processes_of s) xs) (omega (arith, length-zip_processes s xs long))

pub of_pairs-requires : goal.of_pairs-requires
of_pairs-requires c =
    let s = c.args.simplex.now in
    subst (IsSimplexWithin 4 255)
    (sym (all_made c.loop-place.pairs s c.args.values.now c.colours-size.result c.loop-place.place c.colours-size.ensures.count c.requires.long c.loop-place-test.false c.loop-place.auto.place-end c.loop-place.invariant.made))
    (zip_within 4 s c.args.values.now c.colours-size.ensures.simplex c.requires)

pub returns : goal.returns
returns c =
    c.of_pairs.ensures
    ∙ all_made c.loop-place.pairs c.args.simplex.now c.args.values.now c.colours-size.result c.loop-place.place c.colours-size.ensures.count c.requires.long c.loop-place-test.false c.loop-place.auto.place-end c.loop-place.invariant.made
