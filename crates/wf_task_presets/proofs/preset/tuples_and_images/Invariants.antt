use Rattle.std.proofs.Common.{◌≡◌, take, map, vec_items}
use Rattle.wf_task_presets.specs.Family.{tuples_for, images_of}
use Rattle.wf_task_presets.proofs.preset.tuples_and_images.Given as goal

abbrev pub invariant-loop-simplex : goal.invariant-loop-simplex
invariant-loop-simplex l = record {
  tuples : map vec_items l.tuples.items ≡ map (tuples_for l.family) (take l.simplex-index l.inputs);
  images : l.images.items ≡ images_of l.family (take l.simplex-index l.inputs);
}
