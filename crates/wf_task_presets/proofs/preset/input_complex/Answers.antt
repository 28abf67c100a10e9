use Rattle.std.proofs.Common.{Ok, length, sym, ap, ◌∙◌, arith}
use Rattle.wf_model.specs.Simplex.{complex_of}
use Rattle.wf_task_presets.specs.Preset.{inputs_seen}
use Rattle.wf_task_presets.proofs.PresetLimits.{agreement_inputs, vertices-refused, simplices-refused, inputs-accepted, facets-within}
use Rattle.wf_task_presets.proofs.preset.input_complex.Goals as goal

pub returns-then-vertex_count-gt-MAX_VERTICES : goal.returns-then-vertex_count-gt-MAX_VERTICES
returns-then-vertex_count-gt-MAX_VERTICES c =
    vertices-refused (agreement_inputs c.args.processes (inputs_seen c.args.inputs)) (omega (arith, c.vertex_count.ensures, c.if-vertex_count-gt-MAX_VERTICES.true))

pub returns-then-facet_count-gt-MAX_INPUTS : goal.returns-then-facet_count-gt-MAX_INPUTS
returns-then-facet_count-gt-MAX_INPUTS c =
    simplices-refused (agreement_inputs c.args.processes (inputs_seen c.args.inputs)) (omega (arith, c.vertex_count.ensures, c.if-vertex_count-gt-MAX_VERTICES.false))
    (omega (arith, c.facet_count.ensures, c.if-facet_count-gt-MAX_INPUTS.true, facets-within c.args.processes (inputs_seen c.args.inputs) c.requires.some))

pub returns-then-simplices-gt-MAX_INPUTS : goal.returns-then-simplices-gt-MAX_INPUTS
returns-then-simplices-gt-MAX_INPUTS c =
    let made = c.in_ok-complex.ensures ∙ ap complex_of (c.deref.ensures.value ∙ c.in_ok-facets.ensures) in
    simplices-refused (agreement_inputs c.args.processes (inputs_seen c.args.inputs)) (omega (arith, c.vertex_count.ensures, c.if-vertex_count-gt-MAX_VERTICES.false))
    (omega (arith, c.if-simplices-gt-MAX_INPUTS.true, ap length (c.simplices.ensures.simplices ∙ made)))

pub returns : goal.returns
returns c =
    let made = c.in_ok-complex.ensures ∙ ap complex_of (c.deref.ensures.value ∙ c.in_ok-facets.ensures) in
    inputs-accepted (agreement_inputs c.args.processes (inputs_seen c.args.inputs)) (omega (arith, c.vertex_count.ensures, c.if-vertex_count-gt-MAX_VERTICES.false))
    (omega (arith, c.if-simplices-gt-MAX_INPUTS.false, ap length (c.simplices.ensures.simplices ∙ made)))
    ∙ ap Ok (sym made)
