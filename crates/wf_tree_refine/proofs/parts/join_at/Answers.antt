use Rattle.std.proofs.Common.{◌≡◌, ◌≤◌, ◌+◌, ℕ, None, Some, nat_eq, inl, inr, refl, subst, sym, ap, ◌∙◌, arith}
use Rattle.std.specs.HashMap.{get}
use Rattle.std.specs.List.{AllByRecursion}
use Rattle.std.proofs.lemmas.Bool.{cases_eq}
use Rattle.std.proofs.lemmas.List.Elements.{recursion_from_All}
use Rattle.std.specs.Map.{lookup}
use Rattle.wf_tree_refine.specs.Keys.{key_without, row_at}
use Rattle.wf_tree_refine.proofs.Joining.{all_joined, first_low, key_at, later_low, none_joined, one_joined}
use Rattle.wf_tree_refine.proofs.Membership.{row_here}
use Rattle.wf_tree_refine.proofs.parts.join_at.Goals as goal

pub join-requires-clause-first : goal.join-requires-clause-first
join-requires-clause-first c =
    let key = c.key_without.result in
    let before = get nat_eq c.rows.firsts in
    let low = first_low (before key) c.rows.number c.in_ok-first.first c.in_ok-first.ensures.first (c.rows.invariant.low key) in
    let inside = c.rows-test.true in
    omega (arith, low, inside)

pub rows-init : goal.rows-init
rows-init c =
    let empty : (q : ℕ) → get nat_eq c.in_ok-firsts.firsts q ≡ None = λ q. ap (lookup (nat_eq q)) c.in_ok-firsts.ensures.empty in
    record {
      parents = c.requires.parents;
      small = λ i low. absurd (let bad : ⊥ = omega (arith, low) in bad);
      low = λ q j e. absurd (let bad : None ≡ Some j = sym (empty q) ∙ e in cc);
      joining = λ label f. (label, f, none_joined c.args.place c.args.rows.now (get nat_eq c.in_ok-firsts.firsts) label empty);
    }

pub rows-preserved : goal.rows-preserved
rows-preserved c =
    let rows = c.args.rows.now in
    let number = c.rows.number in
    let inside = c.rows-test.true in
    let key = c.key_without.result in
    let first = c.in_ok-first.first in
    let before = get nat_eq c.rows.firsts in
    let after = get nat_eq c.get_or_insert.new.firsts in
    let row = row_here rows number c.index-rows-number.result inside c.index-rows-number.is in
    let here : key ≡ key_at c.args.place rows number = c.key_without.ensures.key ∙ ap (key_without c.args.place 0) row in
    let is = c.in_ok-first.ensures.first in
    let put = c.in_ok-first.ensures.kept in
    record {
      parents = c.join.ensures.parents;
      small = λ i low. elim (cases_eq i number) [
        | inl e ↦ subst (λ k. AllByRecursion (λ x. x ≤ 255) (row_at rows k)) (sym e) (subst (AllByRecursion (λ x. x ≤ 255)) row (recursion_from_All (λ x. x ≤ 255) c.index-rows-number.result c.key_without.ensures.small))
        | inr ne ↦ c.rows.invariant.small i (omega (arith, low, ne))
      ];
      low = later_low number (number + 1) key first before after refl is put c.rows.invariant.low;
      joining = λ label f.
          let so = c.rows.invariant.joining label f in
          (_, c.join.ensures.forest so.0 so.1, one_joined c.args.place rows number (number + 1) key first before after label so.0 refl inside here is put so.2);
    }

pub returns-clause-joined : goal.returns-clause-joined
returns-clause-joined c = λ label f.
    let so = c.rows.invariant.joining label f in
    let past = c.rows-test.false in
    (so.0, so.1, all_joined c.args.place c.args.rows.now c.rows.number (get nat_eq c.rows.firsts) label so.0 past so.2)

pub returns-clause-small : goal.returns-clause-small
returns-clause-small c = λ i low. let past = c.rows-test.false in c.rows.invariant.small i (omega (arith, low, past))
