use Rattle.std.proofs.Common.{ap, sym, ◌∙◌, drop, List, ℕ}
use Rattle.std.proofs.lemmas.List.{take_rest}
use Rattle.wf_model.specs.Box.{first_open}
use Rattle.wf_base.specs.Set.Sets.{box_of}
use Rattle.wf_box.proofs.ChangeLemmas.{open_later, shifted}
use Rattle.wf_box.proofs.tracked.Tracked.first_open.Goals as goal

pub returns-in-Some : goal.returns-in-Some
returns-in-Some c =
    let from = c.args.self.now.open_from in
    let later = sym c.in-Some.is ∙ c.first_open.ensures ∙ ap (λ ws. first_open (box_of ws)) (take_rest c.deref.result.now from) in
    ap (shifted from) (later ∙ ap (λ (ws : List (List ℕ)). first_open (box_of (drop from ws))) c.deref.ensures.value) ∙ sym (open_later c.args.self.now.words.items from c.requires.open_within c.requires.single)

pub returns-in-None : goal.returns-in-None
returns-in-None c =
    let from = c.args.self.now.open_from in
    let later = sym c.in-None.is ∙ c.first_open.ensures ∙ ap (λ ws. first_open (box_of ws)) (take_rest c.deref.result.now from) in
    ap (shifted from) (later ∙ ap (λ (ws : List (List ℕ)). first_open (box_of (drop from ws))) c.deref.ensures.value) ∙ sym (open_later c.args.self.now.words.items from c.requires.open_within c.requires.single)
