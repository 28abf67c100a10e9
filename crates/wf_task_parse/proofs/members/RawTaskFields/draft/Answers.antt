use Rattle.std.proofs.Common.{◌≡◌, ◌==◌, is_some, Some, arith}
use Rattle.wf_task_parse.specs.declared.draft.RawTask.{RawTask}
use Rattle.wf_task_parse.proofs.Fields.{draft-found}
use Rattle.wf_task_parse.proofs.members.RawTaskFields.draft.Goals as goal

pub returns : goal.returns
returns c ms hold =
    let s = c.args.self in
    let version : s.version ≡ Some c.in_ok-version.version = c.in_ok-version.was in
    let processes : s.processes ≡ Some c.in_ok-processes.field-0 = c.in_ok-processes.was in
    let symmetric : s.symmetric ≡ Some c.in_ok-symmetric.field-0 = c.in_ok-symmetric.was in
    let inputs : s.inputs ≡ Some c.in_ok-inputs.field-0 = c.in_ok-inputs.was in
    let outputs : s.outputs ≡ Some c.in_ok-outputs.field-0 = c.in_ok-outputs.was in
    let delta : s.delta ≡ Some c.in_ok-delta.field-0 = c.in_ok-delta.was in
    let draft : RawTask = record {
      version = c.in_ok-version.version;
      least_block = s.least_block;
      processes = c.in_ok-processes.field-0;
      symmetric = c.in_ok-symmetric.field-0;
      inputs = c.in_ok-inputs.field-0;
      outputs = c.in_ok-outputs.field-0;
      delta = c.in_ok-delta.field-0;
    } in
    let named : (draft.version == 2) ≡ is_some draft.least_block = c.if-not-matches_version.ensures (grind arith) in
    draft-found s draft ms hold named (λ i. record {
      version = version i;
      least_block = s.least_block;
      processes = processes i;
      symmetric = symmetric i;
      inputs = inputs i;
      outputs = outputs i;
      delta = delta i;
    })
