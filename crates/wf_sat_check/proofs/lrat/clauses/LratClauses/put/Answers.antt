use Rattle.std.proofs.Common.{◌≡◌, ◌+◌, ◌-◌, ◌<◌, ◌++◌, ◌∷◌, [], ◌∙◌, ap, refl, subst, sym, arith, length, replicate, vec_len}
use Rattle.std.specs.Prelude.{Some, None}
use Rattle.std.proofs.lemmas.Grind.{common_steps}
use Rattle.std.proofs.lemmas.List.{length-map}
use Rattle.wf_sat_check.specs.Lrat.Slots.{AreFirsts, clause_of, slot_at, slots_in}
use Rattle.wf_sat_check.proofs.OfLrat.FirstsLemmas.{firsts_lowered, firsts_put}
use Rattle.wf_sat_check.proofs.OfLrat.LaidLemmas.{laid-put, laid-words, slots_in-append, slots_in-put, slots_in-words}
use Rattle.wf_sat_check.proofs.OfLrat.SlotLemmas.{set-place}
use Rattle.wf_sat_check.proofs.lrat.clauses.LratClauses.put.Goals as goal

pub returns-in_err-extend_from_slice : goal.returns-in_err-extend_from_slice
returns-in_err-extend_from_slice c =
    let same : slots_in c.extend_from_slice.new.self.items c.self.inside.places.items ≡ c.args.self.now =
    rw (c.in_err-extend_from_slice.ensures.items, c.in_ok-push.ensures.items)
    (slots_in-append _ _ _ c.self.invariant.laid ∙ c.self.view_is) in
    grind (arith, common_steps, same)

pub returns-in_err-resize : goal.returns-in_err-resize
returns-in_err-resize c =
    let same : slots_in c.extend_from_slice.new.self.items c.resize.new.self.items ≡ c.args.self.now =
    rw (c.in_ok-extend_from_slice.ensures.items, c.in_err-resize.ensures.items, c.in_ok-push.ensures.items)
    (slots_in-words c.self.inside.arena.items c.args.clause.now c.self.inside.places.items c.self.invariant.laid ∙ c.self.view_is) in
    grind (arith, common_steps, same)

pub invariant_of-self-in_err-extend_from_slice : goal.invariant_of-self-in_err-extend_from_slice
invariant_of-self-in_err-extend_from_slice c =
    let arena = c.self.inside.arena.items in
    let places = c.self.inside.places.items in
    rw (c.in_err-extend_from_slice.ensures.items, c.in_ok-push.ensures.items)
    (record {
      laid = laid-words arena _ places c.self.invariant.laid;
      firsts = subst (AreFirsts c.note.new.self) (sym (slots_in-append arena _ places c.self.invariant.laid))
          (firsts_lowered c.self.inside.firsts c.note.new.self (slots_in arena places) c.self.invariant.firsts c.note.ensures.still);
    })

pub invariant_of-self-in_err-resize : goal.invariant_of-self-in_err-resize
invariant_of-self-in_err-resize c =
    let arena = c.self.inside.arena.items in
    let places = c.self.inside.places.items in
    let clause = c.args.clause.now in
    rw (c.in_ok-extend_from_slice.ensures.items, c.in_err-resize.ensures.items, c.in_ok-push.ensures.items)
    (record {
      laid = laid-words (arena ++ length clause ∷ []) clause places (laid-words arena (length clause ∷ []) places c.self.invariant.laid);
      firsts = subst (AreFirsts c.note.new.self) (sym (slots_in-words arena clause places c.self.invariant.laid))
          (firsts_lowered c.self.inside.firsts c.note.new.self (slots_in arena places) c.self.invariant.firsts c.note.ensures.still);
    })

pub invariant_of-self-2 : goal.invariant_of-self-2
invariant_of-self-2 c =
    let arena = c.self.inside.arena.items in
    let places = c.self.inside.places.items in
    let clause = c.args.clause.now in
    let gap = c.args.id - 1 - length places in
    let lens : vec_len c.self.inside.places ≡ length places = omega (arith, c.self.inside.places.ok.0) in
    let heads : c.len-head.result ≡ length arena = omega (arith, c.len-head.ensures, c.self.inside.arena.ok.0) in
    let above : length places < c.args.id = omega (arith, c.requires, ap length c.self.view_is, length-map places (slot_at arena)) in
    rw (
      c.in_ok-extend_from_slice.ensures.items,
      c.in_ok-resize.ensures.items,
      c.in_ok-push.ensures.items,
      lens,
      heads,
      set-place places c.args.id (length arena + 1) above,
    )
    (record {
      laid = laid-put arena clause places gap (length arena + 1) refl c.self.invariant.laid;
      firsts = subst (AreFirsts c.note.new.self) (sym (slots_in-put arena clause places gap (length arena + 1) refl c.self.invariant.laid))
          (firsts_put c.note.new.self clause gap c.min.result c.in_ok-note.ensures.noted (slots_in arena places)
          (firsts_lowered c.self.inside.firsts c.note.new.self (slots_in arena places) c.self.invariant.firsts c.note.ensures.still)
          (omega (arith, c.min.ensures, above, length-map places (slot_at arena))));
    })

pub returns : goal.returns
returns c =
    let arena = c.self.inside.arena.items in
    let places = c.self.inside.places.items in
    let lens : vec_len c.self.inside.places ≡ length places = omega (arith, c.self.inside.places.ok.0) in
    let heads : c.len-head.result ≡ length arena = omega (arith, c.len-head.ensures, c.self.inside.arena.ok.0) in
    let above : length places < c.args.id = omega (arith, c.requires, ap length c.self.view_is, length-map places (slot_at arena)) in
    let gaps : c.args.id - 1 - length places ≡ c.args.id - 1 - length c.args.self.now = omega (arith, ap length c.self.view_is, length-map places (slot_at arena)) in
    rw (
      c.in_ok-extend_from_slice.ensures.items,
      c.in_ok-resize.ensures.items,
      c.in_ok-push.ensures.items,
      lens,
      heads,
      set-place places c.args.id (length arena + 1) above,
    )
    (slots_in-put arena c.args.clause.now places (c.args.id - 1 - length places) (length arena + 1) refl c.self.invariant.laid
    ∙ ap (λ xs. xs ++ (replicate (c.args.id - 1 - length places) None ++ Some (clause_of c.args.clause.now) ∷ [])) c.self.view_is
    ∙ ap (λ n. c.args.self.now ++ (replicate n None ++ Some (clause_of c.args.clause.now) ∷ [])) gaps)
