-- The workers of a shared, which is what all of them share.
use Rattle.std.specs.Prelude.{List, All}
use Rattle.wf_pool.specs.declared.shared.SharedState.{SharedState}
use Rattle.wf_pool.specs.declared.worker.Worker.{Worker}
use Rattle.wf_pool.specs.Work.{IsFresh, IsWorker}

-- a worker of its board that tells the truth about its problem
abbrev pub IsWorkerOf : {G : Type 0} → SharedState G → Worker → Type 0
IsWorkerOf s w = IsWorker s.spec.problem.now s.spec.kept s.board.now w

-- one that has settled nothing
abbrev pub IsFreshOf : {G : Type 0} → SharedState G → Worker → Type 0
IsFreshOf s w = IsFresh s.spec.problem.now s.spec.kept s.board.now w

abbrev pub AreWorkersOf : {G : Type 0} → SharedState G → List Worker → Type 0
AreWorkersOf s ws = All (IsWorkerOf s) ws
