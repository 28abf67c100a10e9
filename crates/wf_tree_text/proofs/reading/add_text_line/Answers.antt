use Rattle.std.proofs.Common.{◌≡◌, ◌∙◌, None, option_map, sym, ap}
use Rattle.std.specs.Option.{option_and_then}
use Rattle.std.proofs.lemmas.Result.{IfOk-weaker}
use Rattle.wf_report.specs.Steps.{words}
use Rattle.wf_tree_text.specs.Seen.{nodes_seen}
use Rattle.wf_tree_text.specs.Steps.{changed, line_seen}
use Rattle.wf_tree_text.specs.Text.{line_of_numbers, numbers_of_words, with_line}
use Rattle.wf_tree_text.proofs.NodeLines.{name_alone, name_and_numbers, next_by}
use Rattle.wf_tree_text.proofs.reading.add_text_line.Goals as goal

pub returns-in_default : goal.returns-in_default
returns-in_default c = sym (name_alone (nodes_seen c.args.nodes.now.items) c.args.line.now c.requires c.in_default.ensures.cases)

pub returns-then-not-branch : goal.returns-then-not-branch
returns-then-not-branch c =
    let nodes = nodes_seen c.args.nodes.now.items in
    let name = c.in-Some.name.now in
    let no_numbers : numbers_of_words (words c.in-Some.rest.now) ≡ None = sym c.in_ok-read_numbers.ensures ∙ ap (λ t. changed t c.read_numbers.new.numbers.items) c.if-not-branch.true in
    sym (
    name_and_numbers nodes c.args.line.now name c.in-Some.rest.now c.requires c.in-Some.ensures.cases.0 c.in-Some.ensures.cases.1
    ∙ ap (λ o. option_and_then (with_line nodes) (option_and_then (line_of_numbers name) o)) no_numbers)

pub returns-in_default-2 : goal.returns-in_default-2
returns-in_default-2 c =
    let nodes = nodes_seen c.args.nodes.now.items in
    let name = c.in-Some.name.now in
    let numbers = c.read_numbers.new.numbers.items in
    sym (
    next_by nodes c.args.line.now name c.in-Some.rest.now numbers c.requires c.in-Some.ensures.cases.0 c.in-Some.ensures.cases.1 (sym c.in_ok-read_numbers.ensures ∙ ap (λ t. changed t numbers) c.if-not-branch.false)
    ∙ ap (option_and_then (with_line nodes)) (ap (line_of_numbers name) (sym c.deref.ensures.value) ∙ sym c.in_ok-said.ensures ∙ ap (option_map line_seen) c.in_default-2.is))

pub returns : goal.returns
returns c =
    let nodes = nodes_seen c.args.nodes.now.items in
    let name = c.in-Some.name.now in
    let numbers = c.read_numbers.new.numbers.items in
    let next =
    next_by nodes c.args.line.now name c.in-Some.rest.now numbers c.requires c.in-Some.ensures.cases.0 c.in-Some.ensures.cases.1 (sym c.in_ok-read_numbers.ensures ∙ ap (λ t. changed t numbers) c.if-not-branch.false)
    ∙ ap (option_and_then (with_line nodes)) (ap (line_of_numbers name) (sym c.deref.ensures.value) ∙ sym c.in_ok-said.ensures ∙ ap (option_map line_seen) c.in-Some-2.is) in
    IfOk-weaker c.add_line.result _ _ (λ added e. e ∙ sym next) c.add_line.ensures
