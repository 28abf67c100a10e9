use Rattle.std.proofs.Common.{◌≡◌, ◌<◌, ◌^◌, ◌∷◌, [], ◌++◌, All, map, length, sym, subst, ap, ◌∙◌}
use Rattle.std.specs.Int.Bits.{bit_or}
use Rattle.std.proofs.lemmas.List.{length-map}
use Rattle.wf_complex.specs.Views.{process_bits}
use Rattle.wf_complex.specs.Table.{node_view, shown, process_bits_at}
use Rattle.wf_complex.proofs.Entries.{entry_earlier, entry_process_bits}
use Rattle.wf_complex.proofs.Steps.{IsNumbered, stored_at, stood, joined_last, is_table_joined}
use Rattle.wf_complex.proofs.views.Views.number_by_hash.Goals as goal
use Rattle.wf_complex.proofs.views.Views.number_by_hash.Goals.{Then-not-is_new}

-- ---- an entry that stood there

stood_already : (c : Then-not-is_new) → IsNumbered c.args.self.now (shown c.insert_full.new.self.keys) (node_view c.args.self.now c.args.node) c.in_ok-place.place
stood_already c =
    stood c.self.inside.nodes.keys c.insert_full.new.self.keys c.self.inside.bits.items c.args.self.now c.self.view_is c.self.invariant c.args.node c.in_ok-place.place
    c.in_ok-place.is_new c.in_ok-place.ensures.added c.in_ok-place.ensures.keys
    (stored_at c.insert_full.new.self.keys c.in_ok-place.place c.args.node c.in_ok-place.ensures.stored.0 c.in_ok-place.ensures.stored.1 c.in_ok-place.ensures.stored.2) c.if-not-is_new.true

pub returns-then-not-is_new-clause-table : goal.returns-then-not-is_new-clause-table
returns-then-not-is_new-clause-table c = (stood_already c).table

pub returns-then-not-is_new-clause-number : goal.returns-then-not-is_new-clause-number
returns-then-not-is_new-clause-number c = (stood_already c).number

pub returns-then-not-is_new-clause-stands : goal.returns-then-not-is_new-clause-stands
returns-then-not-is_new-clause-stands c = (stood_already c).stands

-- ---- a new entry

pub process_bits_seen-bits-requires-clause-numbers : goal.process_bits_seen-bits-requires-clause-numbers
process_bits_seen-bits-requires-clause-numbers c =
    let known = c.deref.ensures.value ∙ c.in_ok-reserve.ensures.items ∙ c.self.invariant.bits_shown ∙ ap (map process_bits) c.self.view_is in
    let long : length c.args.self.now ≡ length c.deref.result.now = sym (ap length known ∙ length-map c.args.self.now process_bits) in
    let earlier = subst (All (λ k. k < length c.args.self.now)) (sym c.parts.ensures) (entry_earlier (length c.args.self.now) c.args.node c.requires.entry) in
    subst (λ n. All (λ k. k < n) c.parts.result.now) long earlier

pub invariant_of-self-2 : goal.invariant_of-self-2
invariant_of-self-2 c =
    let known = c.deref.ensures.value ∙ c.in_ok-reserve.ensures.items ∙ c.self.invariant.bits_shown ∙ ap (map process_bits) c.self.view_is in
    let bits : c.process_bits_seen-bits.result ≡ process_bits (node_view c.args.self.now c.args.node) =
    c.process_bits_seen-bits.ensures
    ∙ (λ i. bit_or (2 ^ c.args.node.process) (process_bits_at (known i) (c.parts.ensures i)))
    ∙ entry_process_bits c.args.self.now c.args.node c.requires.entry in
    is_table_joined c.self.inside.nodes.keys c.insert_full.new.self.keys c.self.inside.bits.items c.args.self.now c.self.view_is c.self.invariant c.args.node c.in_ok-place.place
    c.in_ok-place.is_new c.in_ok-place.ensures.added c.in_ok-place.ensures.keys
    (stored_at c.insert_full.new.self.keys c.in_ok-place.place c.args.node c.in_ok-place.ensures.stored.0 c.in_ok-place.ensures.stored.1 c.in_ok-place.ensures.stored.2)
    c.if-not-is_new.false c.in_ok-place.ensures.unique c.requires.entry
    c.push_reserved.new.self.items (c.push_reserved.ensures.items ∙ (λ i. c.in_ok-reserve.ensures.items i ++ bits i ∷ [])) c.requires.room

new_view : (c : goal.After-push_reserved) → IsNumbered c.args.self.now (shown c.insert_full.new.self.keys) (node_view c.args.self.now c.args.node) c.in_ok-place.place
new_view c =
    joined_last c.self.inside.nodes.keys c.insert_full.new.self.keys c.self.inside.bits.items c.args.self.now c.self.view_is c.self.invariant c.args.node c.in_ok-place.place
    c.in_ok-place.is_new c.in_ok-place.ensures.added c.in_ok-place.ensures.keys
    (stored_at c.insert_full.new.self.keys c.in_ok-place.place c.args.node c.in_ok-place.ensures.stored.0 c.in_ok-place.ensures.stored.1 c.in_ok-place.ensures.stored.2)
    c.if-not-is_new.false c.in_ok-place.ensures.unique c.requires.entry

pub returns-clause-table : goal.returns-clause-table
returns-clause-table c = (new_view c).table

pub returns-clause-number : goal.returns-clause-number
returns-clause-number c = (new_view c).number

pub returns-clause-stands : goal.returns-clause-stands
returns-clause-stands c = (new_view c).stands
