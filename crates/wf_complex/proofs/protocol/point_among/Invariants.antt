use Rattle.std.proofs.Common.{◌≡◌, zip, drop}
use Rattle.wf_model.specs.Simplex.{processes_of}
use Rattle.wf_complex.specs.Protocol.{point_in}
use Rattle.wf_complex.proofs.protocol.point_among.Given as goal

abbrev pub invariant-loop-place : goal.invariant-loop-place
invariant-loop-place l = point_in l.process (zip (drop l.place (processes_of l.simplex)) (drop l.place l.points)) ≡ point_in l.process (zip (processes_of l.simplex) l.points)
