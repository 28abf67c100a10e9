use Rattle.std.proofs.Common.{◌≡◌, ◌≤◌, ℕ, List, subst, sym, ap, ◌∙◌}
use Rattle.std.specs.Prelude.{count_by}
use Rattle.wf_model.specs.Box.{is_alive}
use Rattle.wf_lane.specs.Table.{Table, HasSupported, sets_of}
use Rattle.wf_lane.specs.Wide.{AreSupported, lives}
use Rattle.wf_lane.specs.Kinds.{IsKind, table_of_kind}
use Rattle.wf_lane.proofs.WideLaws.{wide_alive, wide_rest, wide_supported}
use Rattle.wf_lane.proofs.table.TupleTable.revise.Goals as goal

pub returns-in-Wide-clause-supported : goal.returns-in-Wide-clause-supported
returns-in-Wide-clause-supported c =
    let width = c.self.inside.width in
    let masks = c.revise_rows.result.masks in
    let candidates = c.args.candidates in
    let is = sym c.deref.ensures ∙ c.in-Wide.is in
    let kept = subst (IsKind width) is c.self.invariant in
    let table = sym (ap (table_of_kind width) is) ∙ c.self.view_is in
    subst (λ (table : Table). HasSupported masks table candidates) table
    (wide_supported width c.in-Wide.rows.items candidates masks kept (subst (λ (rows : List (List ℕ)). AreSupported masks rows candidates) c.deref-in-Wide.ensures.value c.revise_rows.ensures.supported))

pub returns-in-Wide-clause-rest : goal.returns-in-Wide-clause-rest
returns-in-Wide-clause-rest c = λ place past.
    let width = c.self.inside.width in
    let masks = c.revise_rows.result.masks in
    let candidates = c.args.candidates in
    let is = sym c.deref.ensures ∙ c.in-Wide.is in
    let kept = subst (IsKind width) is c.self.invariant in
    let outside : width ≤ place = subst (λ (table : Table). table.width ≤ place) (sym (sym (ap (table_of_kind width) is) ∙ c.self.view_is)) past in
    wide_rest width c.in-Wide.rows.items candidates masks kept (subst (λ (rows : List (List ℕ)). AreSupported masks rows candidates) c.deref-in-Wide.ensures.value c.revise_rows.ensures.supported) place outside

pub returns-in-Wide-clause-alive : goal.returns-in-Wide-clause-alive
returns-in-Wide-clause-alive c =
    let width = c.self.inside.width in
    let candidates = c.args.candidates in
    let alive = c.revise_rows.result.alive in
    let is = sym c.deref.ensures ∙ c.in-Wide.is in
    let kept = subst (IsKind width) is c.self.invariant in
    let table = sym (ap (table_of_kind width) is) ∙ c.self.view_is in
    subst (λ (table : Table). alive ≡ count_by (is_alive (sets_of table.width candidates)) table.rows) table
    (wide_alive width c.in-Wide.rows.items candidates alive kept (c.revise_rows.ensures.alive ∙ ap (count_by (lives candidates)) c.deref-in-Wide.ensures.value))
