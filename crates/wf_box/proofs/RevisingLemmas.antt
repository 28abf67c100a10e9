-- An execution that loses nothing, and the answers that were kept meanwhile.
use Rattle.std.proofs.Common.{None, Vec, ℕ, refl}
use Rattle.wf_lane.specs.Table.{HasSupported}
use Rattle.wf_base.specs.declared.lines.line.Line.{Line}
use Rattle.wf_network.specs.Revising.{AreKnown, answers_in, found_in}
use Rattle.wf_network.specs.declared.memo.SupportCache.{SupportCache}
use Rattle.wf_network.specs.Problems.{constraints_in, rule_in}
use Rattle.wf_network.specs.declared.problem.Network.{Network}
use Rattle.wf_network.proofs.Lemmas.{few_at, rule_known, within_now}
use Rattle.wf_box.specs.Working.{IsRevising, Revises}
use Rattle.wf_box.specs.declared.workspace.Workspace.{Workspace}
use Rattle.wf_box.proofs.NameLemmas.{named_none}
use Rattle.wf_box.proofs.PlaceLemmas.{keeps_all, loses_nothing}
use Rattle.wf_box.proofs.WorkLemmas.{proceeds_known}

-- with other answers that are right it is revised as before
pub revising_still : {A : Type 0} (n : Network) (e : ℕ) (lines : Vec Line A) (w : Workspace) (memo : SupportCache) → IsRevising n e lines w → AreKnown (constraints_in n) (answers_in memo)
    → IsRevising n e lines (record { tracked = w.tracked; marks = w.marks; memo = memo })
revising_still n e lines w memo is known = record {
  network = is.network;
  number = is.number;
  working = record { kept = is.working.kept; long = is.working.long; marks_long = is.working.marks_long; room = is.working.room; known = known };
}

-- where all candidates are supported nothing is to be done
pub revises_none : {A : Type 0} (n : Network) (e : ℕ) (lines : Vec Line A) (w : Workspace) (memo : SupportCache) → IsRevising n e lines w → AreKnown (constraints_in n) (answers_in memo)
    → HasSupported (found_in n e w.tracked.words.items) (rule_in n e).table (found_in n e w.tracked.words.items) → Revises n e lines w lines (record { tracked = w.tracked; marks = w.marks; memo = memo }) None
revises_none n e lines w memo is known supported =
    let words = w.tracked.words.items in
    let rule = rule_known n e is.network is.number in
    let within = within_now n e words is.network is.number is.working.long in
    let few = few_at n e is.network is.number in
    record {
      step = keeps_all n.rules.items _ (rule_in n e) words (found_in n e words) e lines.items rule within few refl supported;
      proceeds = proceeds_known _ _ _ w _ known is.working;
      untouched = λ f other none. (none, λ v user. refl);
      quiet = λ none. loses_nothing n.rules.items _ (rule_in n e) words (found_in n e words) rule within few refl supported;
      named = λ p at. named_none p lines.items words;
    }
