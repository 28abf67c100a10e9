use Rattle.std.proofs.Common.{◌≡◌, ◌<◌, ◌≤◌, ℕ, List, None, length, take, zip, sym, ap, ◌∙◌, arith, length-set, take_all}
use Rattle.wf_model.specs.Simplex.{Simplex, processes_of}
use Rattle.wf_simplex.specs.Reading.{read_fault}
use Rattle.wf_simplex.proofs.Lemmas.{read_fault-within}
use Rattle.wf_task.proofs.Lemmas.{zip_within, length-zip_processes, paired}
use Rattle.wf_task_presets.proofs.preset.with_values.Goals as goal

pub loop-place-preserved : goal.loop-place-preserved
loop-place-preserved c =
    let i = c.loop-place.place in
    let s = c.args.simplex.now in
    let within : i < length s = omega (arith, c.loop-place-test.true, c.colours-place-end.ensures.count) in
    let inside : i < length c.loop-place.pairs = omega (arith, c.loop-place-test.true, c.colours-place-end.ensures.few, c.loop-place.invariant.four) in
    record {
      four = length-set c.loop-place.pairs i _ ∙ c.loop-place.invariant.four;
      made = paired c.loop-place.pairs s c.args.values.now i _ _ inside within c.requires c.loop-place.invariant.made c.colour.ensures c.value.ensures;
    }

-- all pairs were made
all_made : (pairs s : Simplex) (xs : List ℕ) (n m i : ℕ) → n ≡ length s → m ≡ length xs → length xs ≡ length s → n ≤ i → i ≤ n → take i pairs ≡ take i (zip (processes_of s) xs) → take m pairs ≡ zip (processes_of s) xs
all_made pairs s xs n m i count size long past upto made =
    let all : i ≡ m = omega arith in
    ap (λ k. take k pairs) (sym all) ∙ made ∙ take_all i (zip (processes_of s) xs) (omega (arith, length-zip_processes s xs long))

pub unreachable-requires : goal.unreachable-requires
unreachable-requires c =
    let s = c.args.simplex.now in
    let made = all_made c.loop-place.pairs s c.args.values.now c.colours-place-end.result c.size.result c.loop-place.place c.colours-place-end.ensures.count c.size.ensures.count c.requires c.loop-place-test.false c.loop-place.auto.place-end c.loop-place.invariant.made in
    let none : read_fault (take c.size.result c.loop-place.pairs) ≡ None =
    ap read_fault made ∙ read_fault-within (zip (processes_of s) c.args.values.now) (zip_within 4 s c.args.values.now c.colours-place-end.ensures.simplex (record { long = c.requires; small = c.size.ensures.small })) in
    let some = c.in-Err.ensures in
    cc (none, some)

pub returns : goal.returns
returns c =
    c.in-Ok.ensures.1
    ∙ all_made c.loop-place.pairs c.args.simplex.now c.args.values.now c.colours-place-end.result c.size.result c.loop-place.place c.colours-place-end.ensures.count c.size.ensures.count c.requires c.loop-place-test.false c.loop-place.auto.place-end c.loop-place.invariant.made
