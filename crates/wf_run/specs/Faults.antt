-- How the refusals of the parts become those of a run, and the number and the name of each.
use Rattle.std.specs.Prelude.{ℕ, List, ◌++◌, codes, decimal}
use Rattle.wf_base.specs.declared.streams.source.ReadFault.{ReadFault}
use Rattle.wf_base.specs.declared.streams.source.ReadFault.TheVariants as read
use Rattle.wf_task_parse.specs.declared.fault.TaskFault.{TaskFault}
use Rattle.wf_task_parse.specs.declared.fault.TaskFault.TheVariants as task
use Rattle.wf_task_parse.specs.FaultText as task_text
use Rattle.wf_complex.specs.declared.fault.BuildFault.{BuildFault}
use Rattle.wf_complex.specs.declared.fault.BuildFault.TheVariants as build
use Rattle.wf_complex.specs.Faults as build_text
use Rattle.wf_report.specs.declared.fault.CertFault.{CertFault}
use Rattle.wf_report.specs.declared.fault.CertFault.TheVariants as amiss
use Rattle.wf_report.specs.Faults as report_faults
use Rattle.wf_sat_cnf.specs.declared.solver.ModelFault.{ModelFault}
use Rattle.wf_sat_cnf.specs.declared.solver.ModelFault.TheVariants as model
use Rattle.wf_sat_check.specs.declared.rup.proof.ProofFault.{ProofFault}
use Rattle.wf_sat_check.specs.declared.rup.proof.ProofFault.TheVariants as proof
use Rattle.wf_sat_check.specs.declared.lrat.proof.LratFault.{LratFault}
use Rattle.wf_sat_check.specs.declared.lrat.proof.LratFault.TheVariants as hints
use Rattle.wf_run.specs.declared.obstruction.CheckerLimit.{CheckerLimit}
use Rattle.wf_run.specs.declared.obstruction.CheckerLimit.TheVariants as limit
use Rattle.wf_run.specs.declared.obstruction.ObstructionFault.{ObstructionFault}
use Rattle.wf_run.specs.declared.obstruction.ObstructionFault.TheVariants as obstruction
use Rattle.wf_run.specs.declared.fault.PartFault.{PartFault}
use Rattle.wf_run.specs.declared.fault.PartFault.TheVariants as part
use Rattle.wf_run.specs.declared.fault.Printed.{Printed}
use Rattle.wf_run.specs.declared.fault.Printed.TheVariants as printed
use Rattle.wf_run.specs.declared.fault.RunFault.{RunFault}
use Rattle.wf_run.specs.declared.fault.RunFault.TheVariants.{TooLong, Task, Build, Cert, Model, Proof, Hints, Obstruction, OtherRounds, NoMap, NoBranch, OtherPart, NotInBranch, NoPart, InPart, TooManyParts, OutOfMemory, Read, Write}

-- a text that is too long is one refusal, and so is out of memory, wherever they came
abbrev pub of_read : ReadFault → RunFault
of_read read.TooLong = TooLong
of_read read.OutOfMemory = OutOfMemory
of_read read.Read = Read

abbrev pub of_task : TaskFault → RunFault
of_task task.TooLong = TooLong
of_task task.OutOfMemory = OutOfMemory
of_task e = Task e

abbrev pub of_build : BuildFault → RunFault
of_build build.OutOfMemory = OutOfMemory
of_build e = Build e

abbrev pub of_report_fault : CertFault → RunFault
of_report_fault amiss.TooLong = TooLong
of_report_fault amiss.OutOfMemory = OutOfMemory
of_report_fault e = Cert e

abbrev pub of_model : ModelFault → RunFault
of_model model.OutOfMemory = OutOfMemory
of_model e = Model e

abbrev pub of_proof : ProofFault → RunFault
of_proof proof.OutOfMemory = OutOfMemory
of_proof e = Proof e

abbrev pub of_hints : LratFault → RunFault
of_hints hints.OutOfMemory = OutOfMemory
of_hints e = Hints e

-- what is printed of a solver's text that gives no map
abbrev pub model_text : ModelFault → List ℕ
model_text (model.NoModel line) = codes "37 NoModel " ++ decimal line
model_text (model.NotALiteral line) = codes "38 NotALiteral " ++ decimal line
model_text (model.NoSuchVariable line) = codes "39 NoSuchVariable " ++ decimal line
model_text model.OutOfMemory = task_text.fault_text task.OutOfMemory

-- what is printed of a clausal proof that is not accepted
abbrev pub proof_text : ProofFault → List ℕ
proof_text (proof.NotALiteral line) = codes "38 NotALiteral " ++ decimal line
proof_text (proof.NoSuchVariable line) = codes "39 NoSuchVariable " ++ decimal line
proof_text (proof.NotImplied line) = codes "40 NotImplied " ++ decimal line
proof_text (proof.NoContradiction line) = codes "41 NoContradiction " ++ decimal line
proof_text proof.Binary = codes "42 Binary: ask the solver for text by --no-binary"
proof_text proof.OutOfMemory = task_text.fault_text task.OutOfMemory

-- what is printed of a proof with hints that is not accepted
abbrev pub hints_text : LratFault → List ℕ
hints_text (hints.NotALiteral line) = codes "38 NotALiteral " ++ decimal line
hints_text (hints.NoSuchVariable line) = codes "39 NoSuchVariable " ++ decimal line
hints_text (hints.ClauseLeftOut line) = codes "61 ClauseLeftOut " ++ decimal line
hints_text (hints.NoConflict line) = codes "62 NoConflict " ++ decimal line
hints_text (hints.UnknownHint line) = codes "63 UnknownHint " ++ decimal line
hints_text (hints.IdOutOfRange line) = codes "64 IdOutOfRange " ++ decimal line
hints_text (hints.NoContradiction line) = codes "41 NoContradiction " ++ decimal line
hints_text hints.Binary = codes "42 Binary: ask the solver for text by --no-binary"
hints_text hints.OutOfMemory = task_text.fault_text task.OutOfMemory

-- what is printed of a limit of the checker of obstructions
abbrev pub limit_text : CheckerLimit → List ℕ
limit_text limit.Levels = codes "levels"
limit_text limit.Nodes = codes "nodes"
limit_text limit.Names = codes "names"
limit_text limit.Tuples = codes "tuples"

-- what is printed of nodes that are no obstruction
abbrev pub obstruction_text : ObstructionFault → List ℕ
obstruction_text obstruction.FirstBlock = codes "50 FirstBlock"
obstruction_text (obstruction.SumRange line) = codes "51 SumRange " ++ decimal line
obstruction_text (obstruction.NoSimplex line) = codes "52 NoSimplex " ++ decimal line
obstruction_text (obstruction.NoPlace line) = codes "53 NoPlace " ++ decimal line
obstruction_text (obstruction.OthersLength line) = codes "54 OthersLength " ++ decimal line
obstruction_text (obstruction.WeightRange line) = codes "55 WeightRange " ++ decimal line
obstruction_text (obstruction.OtherSum line) = codes "56 OtherSum " ++ decimal line
obstruction_text (obstruction.NotBalanced line simplex tuple) =
    codes "57 NotBalanced " ++ (decimal line ++ (codes " " ++ (decimal simplex ++ (codes " " ++ decimal tuple))))
obstruction_text (obstruction.NoTree line) = codes "58 NoTree " ++ decimal line
obstruction_text (obstruction.Behind line) = codes "59 Behind " ++ decimal line
obstruction_text (obstruction.Symmetric line) = codes "65 Symmetric " ++ decimal line
obstruction_text (obstruction.OneParticipant line) = codes "66 OneParticipant " ++ decimal line
obstruction_text (obstruction.NoSheet line) = codes "67 NoSheet " ++ decimal line
obstruction_text (obstruction.NotFlat line tuple) = codes "68 NotFlat " ++ (decimal line ++ (codes " " ++ decimal tuple))
obstruction_text (obstruction.TooLarge line above) = codes "69 TooLarge " ++ (decimal line ++ (codes " " ++ limit_text above))

-- what is printed of a part about a branch that is not accepted
abbrev pub part_fault_text : PartFault → List ℕ
part_fault_text (part.Report e) = report_faults.fault_text e
part_fault_text part.NotInBranch = codes "46 NotInBranch"

-- each part owns the numbers and the names of its own refusals
abbrev pub fault_text : RunFault → List ℕ
fault_text TooLong = task_text.fault_text task.TooLong
fault_text (Task e) = task_text.fault_text e
fault_text OutOfMemory = task_text.fault_text task.OutOfMemory
fault_text (Build e) = build_text.fault_text e
fault_text (Cert e) = report_faults.fault_text e
fault_text (Model e) = model_text e
fault_text (Proof e) = proof_text e
fault_text (Hints e) = hints_text e
fault_text (Obstruction e) = obstruction_text e
fault_text OtherRounds = codes "36 OtherRounds"
fault_text NoMap = codes "43 NoMap"
fault_text (NoBranch branches) = codes "44 NoBranch " ++ decimal branches
fault_text OtherPart = codes "45 OtherPart"
fault_text NotInBranch = codes "46 NotInBranch"
fault_text (NoPart branch) = codes "47 NoPart " ++ decimal branch
fault_text (InPart branch e) = codes "48 InPart " ++ (decimal branch ++ (codes ": " ++ part_fault_text e))
fault_text (TooManyParts branches) = codes "49 TooManyParts " ++ decimal branches
fault_text Read = codes "30 Read"
fault_text Write = codes "31 Write"

-- what is printed of a refusal, by what the code makes of it
abbrev pub printed_text : Printed → List ℕ
printed_text (printed.Task e) = task_text.fault_text e
printed_text (printed.Build e) = build_text.fault_text e
printed_text (printed.Cert e) = report_faults.fault_text e
printed_text (printed.Obstruction e) = obstruction_text e
printed_text (printed.InPart branch e) = codes "48 InPart " ++ (decimal branch ++ (codes ": " ++ part_fault_text e))
printed_text (printed.Words name number) = report_faults.printed name.now number
