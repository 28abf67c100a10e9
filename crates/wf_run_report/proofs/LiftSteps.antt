-- The steps of a lifting: from a report that is accepted to the report of the lifted map.
use Rattle.std.proofs.Common.{◌≡◌, ◌≤◌, ℕ, ◌-◌, List, length, Option, Result, Ok, Err, Vec, sym, ap, subst, ◌∙◌, arith}
use Rattle.std.proofs.lemmas.List.{length-map}
use Rattle.wf_model.specs.Task.{Task}
use Rattle.wf_model.specs.Points.{points}
use Rattle.wf_model.specs.DecisionMap.{listed}
use Rattle.wf_model.specs.Limits.{most_rounds}
use Rattle.wf_model.specs.Report.{Report, a_map, report_about, report_text}
use Rattle.wf_complex.specs.Protocol.{Built, Builds, IsProtocol}
use Rattle.wf_report.specs.declared.report.Header.{Header}
use Rattle.wf_report.specs.Reports.{IsHeaderOf, with_header}
use Rattle.wf_report_check.specs.Truth.{HoldsOf}
use Rattle.wf_report_trim.specs.Lift.{AreLifted, lifted_by}
use Rattle.wf_run.specs.Texts.{text_of_report}
use Rattle.wf_run.specs.Run.{answered}
use Rattle.wf_run_verify.specs.Verify.{Judges}
use Rattle.wf_run.specs.declared.fault.RunFault.{RunFault}
use Rattle.wf_run.proofs.Lemmas.{IsRefusal}
use Rattle.wf_run_verify.proofs.Lemmas.{own_rounds, passed}
use Rattle.wf_run_report.specs.Lifting.{LiftsBody, LiftsChecked, LiftsMap, Made, rounds_asked}

-- a map has a value for each point
pub map_long : (t : Task) (r : ℕ) (b : Built) (m : List ℕ) → IsProtocol t r b → HoldsOf t r (a_map m) → length m ≡ length b.points
map_long t r b m is (f, decides, same) = ap length (sym same) ∙ length-map (points t r) f ∙ ap length (sym is.points_are)

-- the report of the lifted values is that of the lifted map
pub lifted_report : (t : Task) (r more : ℕ) (values lifted : List ℕ) (b : Built) (header : Header) (text : List ℕ) → HoldsOf t r (a_map values) → Builds t more (Ok b) → AreLifted t r b.rounds values lifted
    → IsHeaderOf t b.rounds header → text ≡ report_text (with_header header (a_map lifted)) → LiftsMap t r more values (Ok (tt, text))
unfolding text_of_report
lifted_report t r more values lifted b header text (f, decides, same) built are about is = (
  (b, built),
  f,
  decides,
  same,
  is
      ∙ ap report_text (about (a_map lifted))
      ∙ ap (λ m. report_text (report_about t b.rounds (a_map m))) (sym (are f same))
      ∙ ap (λ n. report_text (report_about t n (a_map (listed t n (lifted_by t (n - r) f))))) built.2.rounds_are,
)

-- ---- from a report that is read to its answer

-- the report is refused
pub unaccepted : {A : Type 0} (more : ℕ) (t : Task) (r : Report) (e : RunFault) (result : Result (Unit {0} × Vec ℕ A) RunFault) → Judges t r (Err e) → IsRefusal e result → LiftsChecked more t r (answered result)
unaccepted more t r e result judges is = (Err e, judges, passed e result is)

-- a report that is accepted, and its complex
module _ (t : Task) (r : Report) (b : Built) (judges : Judges t r (Ok b)) where
  same_rounds : b.rounds ≡ r.rounds
  same_rounds = judges.1.rounds_are

  pub judged_built : Builds t b.rounds (Ok b)
  judged_built = let within = judges.0.within in own_rounds t r.rounds b (within.1.0, within.1.1, judges.1)

  -- the report is true
  pub judged_holds : HoldsOf t b.rounds r.body
  judged_holds = subst (λ n. HoldsOf t n r.body) (sym same_rounds) judges.0.holds

  -- and the rounds that are asked for
  module _ (rounds : Option ℕ) (own : ℕ) (owns : own ≡ b.rounds) where
    pub own_few : own ≤ most_rounds
    own_few = let few = judges.0.within.1.0 in omega (arith, few, owns, same_rounds)

    module _ (asked : ℕ) (asks : asked ≡ rounds_asked rounds own) where
      asks_of_report : asked ≡ rounds_asked rounds r.rounds
      asks_of_report = asks ∙ ap (rounds_asked rounds) (owns ∙ same_rounds)

      -- they are as many as those of the complex, or more
      pub asks_more : r.rounds ≤ rounds_asked rounds r.rounds → b.rounds ≤ asked
      asks_more more = omega (arith, more, asks_of_report, same_rounds)

      -- the answer is lifted
      pub body_lifted : (made : Made) → LiftsBody t b.rounds asked r.body made → LiftsChecked (rounds_asked rounds r.rounds) t r made
      body_lifted made lifts =
          (Ok b, judges, subst (λ n. LiftsBody t n (rounds_asked rounds r.rounds) r.body made) same_rounds (subst (λ k. LiftsBody t b.rounds k r.body made) asks_of_report lifts))
