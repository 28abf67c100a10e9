use Rattle.std.proofs.Common.{◌≡◌, List, None, length}
use Rattle.wf_model.specs.Refutation as refutation
use Rattle.wf_model.specs.Closing.{before, canonical, in_turn}
use Rattle.wf_box.specs.Boxes.{ServeFor}
use Rattle.wf_search.specs.Found.{turns}
use Rattle.wf_search.specs.SearchStack.{HasFirst}
use Rattle.wf_search.specs.Turning.{AreBoxesOf}
use Rattle.wf_search.proofs.maps.search_map.Given as goal

-- some lines were written before, and dropped
abbrev pub invariant-turns : goal.invariant-turns
invariant-turns g l =
    record {
      written : List refutation.Line;
      asked : g.S.Stop.asked (turns written) l.initial.stop l.stop;
      problem : l.pending.problem ≡ l.problem;
      boxes : AreBoxesOf l.problem l.pending.boxes;
      first : HasFirst l.pending.boxes;
      answers : ServeFor l.problem l.answers;
      search : before written None (in_turn (canonical l.problem) l.pending.boxes) ≡ canonical l.problem l.fn.boxed.sets;
    }

abbrev pub decreases-turns : goal.decreases-turns
decreases-turns g l = length (in_turn (canonical l.problem) l.pending.boxes).lines
