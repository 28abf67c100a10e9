-- What a clause sees of a question, and what each question keeps.
use Rattle.std.specs.Prelude.{◌≡◌, ◌≤◌, ℕ, List, [], ◌++◌, flat_map, map, length, string_bytes}
use Rattle.wf_model.specs.Limits.{most_points}
use Rattle.wf_model.specs.Box.{Box}
use Rattle.wf_base.specs.Set.Sets.{values_in}
use Rattle.wf_sat_formula.specs.Patterns.{Pattern}
use Rattle.wf_sat_formula.specs.Dimacs.{clause_text}
use Rattle.wf_complex.specs.Protocol.{Built}
use Rattle.wf_sat_cnf.specs.Patterns.{patterns_seen}
use Rattle.wf_sat_cnf.specs.Variables.{IsNumbered}
use Rattle.wf_sat_cnf.specs.Clauses.{AreCovered}
use Rattle.wf_sat_cnf.specs.Exclusions.{clauses_with, sets_in}
use Rattle.wf_sat_cnf.specs.declared.question.CnfFormula.TheInside.{Inside}

-- the whole text, after a head, with the clauses that rule out what a box has not
abbrev pub text_after : List ℕ → List ℕ → List (List Pattern) → Built → Box → List ℕ
text_after head values patterns b box = head ++ flat_map clause_text (clauses_with values patterns b box)

abbrev pub question_seen : Inside → List ℕ
question_seen q =
    text_after (string_bytes q.head) (values_in q.variables.values) (map patterns_seen q.patterns.items) q.protocol.now
    (map values_in (sets_in q.branch))

-- the variables are numbered, each execution has patterns, a branch has few
-- points, and the page is empty
pub record IsReady (q : Inside) : Type 0 where
  pub numbered : IsNumbered q.variables
  pub covered : AreCovered (map patterns_seen q.patterns.items) q.protocol.now
  pub few : length (sets_in q.branch) ≤ most_points
  pub empty : q.page ≡ []
