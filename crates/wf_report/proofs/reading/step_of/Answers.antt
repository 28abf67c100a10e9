use Rattle.std.proofs.Common.{◌≡◌, ◌∙◌, true, false, codes, sym, ap}
use Rattle.wf_model.specs.Report.{same_text}
use Rattle.wf_report.proofs.LineLemmas.{b_line, no_word, other_line, p_line, z_line}
use Rattle.wf_report.proofs.reading.step_of.Goals as goal

pub returns-in_default : goal.returns-in_default
returns-in_default c = c.end_of.ensures ∙ sym (no_word c.args.line.now c.requires c.in_default.ensures.cases)

pub returns-then-eq : goal.returns-then-eq
returns-then-eq c =
    let name = c.in-Some.name.now in
    let is_p : same_text name (codes "p") ≡ true = sym (ap (same_text name) c.as_slice.ensures) ∙ sym c.eq.ensures ∙ c.if-eq.true in
    c.removal_of.ensures ∙ sym (p_line c.args.line.now name _ c.requires c.in-Some.ensures.cases.0 c.in-Some.ensures.cases.1 is_p)

pub returns-then-eq-2 : goal.returns-then-eq-2
returns-then-eq-2 c =
    let name = c.in-Some.name.now in
    let is_z : same_text name (codes "z") ≡ true = sym (ap (same_text name) c.as_slice-2.ensures) ∙ sym c.eq-2.ensures ∙ c.if-eq-2.true in
    c.empty_of.ensures ∙ sym (z_line c.args.line.now name _ c.requires c.in-Some.ensures.cases.0 c.in-Some.ensures.cases.1 is_z)

pub returns-then-eq-3 : goal.returns-then-eq-3
returns-then-eq-3 c =
    let name = c.in-Some.name.now in
    let is_b : same_text name (codes "b") ≡ true = sym (ap (same_text name) c.as_slice-3.ensures) ∙ sym c.eq-3.ensures ∙ c.if-eq-3.true in
    c.branch_of.ensures ∙ sym (b_line c.args.line.now name _ c.requires c.in-Some.ensures.cases.0 c.in-Some.ensures.cases.1 is_b)

pub returns : goal.returns
returns c =
    let name = c.in-Some.name.now in
    let no_p : same_text name (codes "p") ≡ false = sym (ap (same_text name) c.as_slice.ensures) ∙ sym c.eq.ensures ∙ c.if-eq.false in
    let no_z : same_text name (codes "z") ≡ false = sym (ap (same_text name) c.as_slice-2.ensures) ∙ sym c.eq-2.ensures ∙ c.if-eq-2.false in
    let no_b : same_text name (codes "b") ≡ false = sym (ap (same_text name) c.as_slice-3.ensures) ∙ sym c.eq-3.ensures ∙ c.if-eq-3.false in
    sym (other_line c.args.line.now name _ c.requires c.in-Some.ensures.cases.0 c.in-Some.ensures.cases.1 no_p no_z no_b)
