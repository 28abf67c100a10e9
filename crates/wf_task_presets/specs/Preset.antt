-- Set agreement and renaming, unless their numbers or a limit refuse them.
use Rattle.std.specs.Prelude.{ℕ, ◌==◌, ◌&&◌, ◌||◌, nat_le, nat_lt, Bool, true, not, List, length, count_by, Result, Ok}
use Rattle.wf_model.specs.Limits.{most_inputs, most_vertices}
use Rattle.wf_model.specs.Presets as model
use Rattle.wf_model.specs.Simplex.{Simplex, complex_of}
use Rattle.wf_model.specs.Task.{Task, inputs}
use Rattle.wf_task_parse.specs.declared.fault.TaskLimit.TheVariants as limit
use Rattle.wf_task_parse.specs.declared.fault.TaskFault.{TaskFault}
use Rattle.wf_task_parse.specs.declared.fault.TaskFault.TheVariants as fault
use Rattle.wf_task_presets.specs.declared.preset.Inputs.{Inputs}
use Rattle.wf_task_presets.specs.declared.preset.Inputs.TheVariants.{Own, All}
use Rattle.wf_task_presets.specs.declared.named.Preset.{Preset}
use Rattle.wf_task_presets.specs.declared.named.Preset.TheVariants.{SetAgreement, Renaming}
use Rattle.wf_task_parse.specs.RawTask.{◌>>=◌}
use Rattle.wf_task.specs.Judge.{refused_if, sizes_judged}
use Rattle.wf_task.specs.Canonical.{listed_of}

abbrev pub inputs_seen : Inputs → model.Inputs
inputs_seen Own = model.own
inputs_seen (All m) = model.all m

-- the input complex of set agreement
abbrev pub input_complex_of : ℕ → Inputs → List Simplex
input_complex_of n choice = complex_of (model.input_facets n (inputs_seen choice))

-- the task, or the first limit that its canonical text breaks
unfoldable pub within_limits : Task → Result Task TaskFault
within_limits t = sizes_judged (listed_of t) (inputs t) >>= λ _. Ok t

-- the input complex, or the first limit that it breaks
unfoldable pub inputs_judged : List Simplex → Result (List Simplex) TaskFault
inputs_judged complex = do
  vertices ← refused_if (nat_lt most_vertices (count_by (λ s. length s == 1) complex)) (fault.TooMany limit.Vertices)
  simplices ← refused_if (nat_lt most_inputs (length complex)) (fault.TooMany limit.Simplices)
  Ok complex

-- as many processes, and as many values, as a task may have
abbrev pub has_processes : ℕ → Bool
has_processes n = nat_le 1 n && nat_le n 4

abbrev pub has_values : ℕ → Bool
has_values m = nat_le 1 m && nat_le m 64

abbrev pub has_input_values : Inputs → Bool
has_input_values Own = true
has_input_values (All m) = has_values m

-- the set agreement task, or why there is none
unfoldable pub set_agreement_of : ℕ → ℕ → Inputs → Result Task TaskFault
set_agreement_of n k choice = do
  processes ← refused_if (not (has_processes n)) fault.Processes
  values ← refused_if ((k == 0) || not (has_input_values choice)) fault.Value
  within_limits (model.set_agreement n k (inputs_seen choice))

-- the renaming task, or why there is none
unfoldable pub renaming_of : ℕ → ℕ → Result Task TaskFault
renaming_of n names = do
  processes ← refused_if (not (has_processes n)) fault.Processes
  values ← refused_if (not (has_values names)) fault.Value
  within_limits (model.renaming n names)

-- the task of a name and its numbers, or why there is none
abbrev pub preset_task : Preset → Result Task TaskFault
preset_task (SetAgreement n k inputs) = set_agreement_of n k inputs
preset_task (Renaming n names) = renaming_of n names
