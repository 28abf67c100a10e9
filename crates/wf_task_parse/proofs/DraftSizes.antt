-- A draft of a text lists no more than the text has bytes.
use Rattle.std.proofs.Common.{◌≡◌, ◌≤◌, ◌==◌, List, length, Option, None, Some, Ok, codes, refl, subst}
use Rattle.serde_json.specs.Data.{Data, Items}
use Rattle.serde_json.specs.Find.{get, as_bool, as_array, as_object}
use Rattle.serde_json.specs.Events.{members_len}
use Rattle.wf_task_parse.specs.declared.fault.Key.{Key}
use Rattle.wf_task_parse.specs.declared.fault.Key.TheVariants.{Whole, Version, Processes, Symmetric, Inputs, Outputs, Delta}
use Rattle.wf_task_parse.specs.declared.fault.TaskFault.TheVariants as fault
use Rattle.wf_task_parse.specs.Shape.{whole_of, simplex_of, entry_of, each}
use Rattle.wf_task_parse.specs.RawTask.{Listed, or_fault, value_at, least_block_at, key_count, placed, list_at, draft_of}
use Rattle.wf_task_parse.specs.Listed.{ListsFew}
use Rattle.wf_task_parse.specs.Parts.{IsOfText, IsPart}
use Rattle.wf_task_parse.proofs.Counts.{part_under, few_items}
use Rattle.wf_task_parse.proofs.Vertices.{chained, placed-ok, ended_draft}

few_at : {A : Type 0} (key : Key) (f : Data → Option A) (found : Option Data) (xs : List A) → IsPart found → list_at key f found ≡ Ok xs → length xs ≤ 16777216
few_at key f None xs part h = cc
few_at key f (Some d) xs part h =
    let items = chained (or_fault (fault.Shape key 0) (as_array d)) (λ items. placed key (each f items)) xs h in
    few_items f d items.0 xs (found_array (as_array d) items.0 items.1) part (placed-ok key (each f items.0) xs items.2)
  where
    found_array : (o : Option Items) (ds : Items) → or_fault (fault.Shape key 0) o ≡ Ok ds → o ≡ Some ds
    found_array None ds e = cc
    found_array (Some es) ds e = cc

pub few_listed : (d : Data) (listed : Listed) → IsOfText d → draft_of d ≡ Ok listed → ListsFew listed
unfolding draft_of
few_listed d listed text h =
    let object = chained (or_fault (fault.Shape Whole 0) (as_object d)) _ listed h in
    let version = chained (value_at Version whole_of (get (codes "version") d)) _ listed object.2 in
    let least_block = chained (least_block_at version.0 (get (codes "first_block") d)) _ listed version.2 in
    let processes = chained (value_at Processes whole_of (get (codes "processes") d)) _ listed least_block.2 in
    let symmetric = chained (value_at Symmetric as_bool (get (codes "symmetric") d)) _ listed processes.2 in
    let inputs = chained (list_at Inputs simplex_of (get (codes "inputs") d)) _ listed symmetric.2 in
    let outputs = chained (list_at Outputs simplex_of (get (codes "outputs") d)) _ listed inputs.2 in
    let delta = chained (list_at Delta entry_of (get (codes "delta") d)) _ listed outputs.2 in
    let made : Listed = record { version = version.0; least_block = least_block.0; processes = processes.0; symmetric = symmetric.0; inputs = inputs.0; outputs = outputs.0; delta = delta.0 } in
    subst ListsFew (ended_draft (members_len object.0 == key_count least_block.0) made listed delta.2) (record {
      inputs = few_at Inputs simplex_of (get (codes "inputs") d) inputs.0 (part_under (codes "inputs") d (get (codes "inputs") d) refl text) inputs.1;
      outputs = few_at Outputs simplex_of (get (codes "outputs") d) outputs.0 (part_under (codes "outputs") d (get (codes "outputs") d) refl text) outputs.1;
      entries = few_at Delta entry_of (get (codes "delta") d) delta.0 (part_under (codes "delta") d (get (codes "delta") d) refl text) delta.1;
    })
