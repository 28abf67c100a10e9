use Rattle.wf_sat_check.proofs.OfLrat.ModelLemmas.{kept_by, sound_by}
use Rattle.wf_sat_check.proofs.lrat.checker.LratChecker.derive.Goals as goal

pub returns-clause-sound : goal.returns-clause-sound
returns-clause-sound c = sound_by c.judge.result c.args.self.now c.args.id c.args.clause.now c.args.hints.now c.judge.ensures.verdict

pub returns-clause-kept : goal.returns-clause-kept
returns-clause-kept c =
    kept_by c.judge.result c.args.self.now c.judge.new.self c.args.id c.args.clause.now c.args.hints.now c.judge.ensures.verdict c.judge.ensures.after c.judge.ensures.unchanged
