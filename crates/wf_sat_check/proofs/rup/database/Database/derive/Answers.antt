use Rattle.std.proofs.Common.{◌∙◌, ap, sym}
use Rattle.wf_sat_check.specs.Rup.Stored.{Stored}
use Rattle.wf_sat_check.proofs.OfRup.RatLemmas.{redundant-in, refused-in, satisfiable-in}
use Rattle.wf_sat_check.proofs.rup.database.Database.derive.Goals as goal

pub returns-in_err-add-clause-kept : goal.returns-in_err-add-clause-kept
returns-in_err-add-clause-kept c =
    satisfiable-in c.args.self.now c.self-2.inside.trail c.self-2.inside.clauses c.self-2.inside.is_refuted c.args.lemma.now
    (c.self-2.view_is ∙ c.in_ok-compact_in_time.ensures) c.add.new.self c.is_justified.new.trail c.is_justified.new.clauses
    c.in_ok-justified.ensures.trail c.in_ok-justified.ensures.clauses (c.in_ok-justified.ensures.justified c.if-justified.true) c.in_err-add.ensures.sound

pub returns-in_ok-add-clause-redundant : goal.returns-in_ok-add-clause-redundant
returns-in_ok-add-clause-redundant c =
    λ yes. redundant-in c.args.self.now c.self-2.inside.trail c.self-2.inside.clauses c.self-2.inside.is_refuted c.args.lemma.now
    (c.self-2.view_is ∙ c.in_ok-compact_in_time.ensures) (c.in_ok-justified.ensures.justified c.if-justified.true)

pub returns-in_ok-add-clause-kept : goal.returns-in_ok-add-clause-kept
returns-in_ok-add-clause-kept c =
    satisfiable-in c.args.self.now c.self-2.inside.trail c.self-2.inside.clauses c.self-2.inside.is_refuted c.args.lemma.now
    (c.self-2.view_is ∙ c.in_ok-compact_in_time.ensures) c.add.new.self c.is_justified.new.trail c.is_justified.new.clauses
    c.in_ok-justified.ensures.trail c.in_ok-justified.ensures.clauses (c.in_ok-justified.ensures.justified c.if-justified.true) c.in_ok-add.ensures.sound

pub returns-else-justified-clause-refused : goal.returns-else-justified-clause-refused
returns-else-justified-clause-refused c = λ no.
    let same = c.self-2.view_is ∙ c.in_ok-compact_in_time.ensures in
    refused-in c.args.self.now c.self-2.inside.trail c.self-2.inside.clauses c.self-2.inside.is_refuted c.args.lemma.now same
    (ap (λ (s : Stored). s.is_refuted) (same ∙ sym c.self.view_is) ∙ c.if-self.false) (c.in_ok-justified.ensures.refused c.if-justified.false)
