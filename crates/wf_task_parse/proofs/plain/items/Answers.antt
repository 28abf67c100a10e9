use Rattle.std.proofs.Common.{◌≡◌, [], ◌∷◌, length, map, IfSome, Some, ap, subst, arith, append-nil}
use Rattle.json.specs.Json.{after_end_array}
use Rattle.wf_task_parse.specs.Plain.{Takes, TakesItems}
use Rattle.wf_task_parse.proofs.TokensOfValues.{takes-shorter, takes-no_end, items-over, items-more, push-seen}
use Rattle.wf_task_parse.proofs.plain.items.Goals as goal

pub items-smaller : goal.items-smaller
items-smaller g c =
    let f = g.T.Shape.reading in
    let deep = g.T.Plain.deep in
    let one = subst (λ o. IfSome o (λ x. Takes f deep c.take_end_array.new.self (g.T.Shape.seen x) c.plain.new.cursor)) c.in-Some.is c.in_ok-item.ensures in
    let same : c.take_end_array.new.self ≡ c.items.cursor = grind arith in
    omega (arith, takes-shorter f deep c.take_end_array.new.self (g.T.Shape.seen c.in-Some.item) c.plain.new.cursor one, ap length same)

pub items-preserved : goal.items-preserved
items-preserved g c xs new rest =
    let f = g.T.Shape.reading in
    let deep = g.T.Plain.deep in
    let seen = g.T.Shape.seen in
    let x = seen c.in-Some.item in
    let found = g.L.Growing.listed c.items.found in
    let after = c.plain.new.cursor in
    let same : c.take_end_array.new.self ≡ c.items.cursor = grind arith in
    let one = subst (λ o. IfSome o (λ y. Takes f deep c.take_end_array.new.self (seen y) after)) c.in-Some.is c.in_ok-item.ensures in
    let here = subst (λ ts. Takes f deep ts x after) same one in
    let before = c.items.invariant (x ∷ xs) new (items-more f deep c.items.cursor x after xs new here (takes-no_end f deep c.items.cursor x after here) rest) in
    subst (λ ys. TakesItems f deep c.args.cursor.now ys new) (push-seen seen found c.in-Some.item (g.L.Growing.listed c.put.new.self) xs c.in_ok-put.ensures) before

pub returns : goal.returns
returns g c =
    let f = g.T.Shape.reading in
    let deep = g.T.Plain.deep in
    let new = c.take_end_array.new.self in
    let found = map g.T.Shape.seen (g.L.Growing.listed c.items.found) in
    let end : after_end_array c.items.cursor ≡ Some new = grind arith in
    subst (λ ys. TakesItems f deep c.args.cursor.now ys new) (append-nil found) (c.items.invariant [] new (items-over f deep c.items.cursor new end))
