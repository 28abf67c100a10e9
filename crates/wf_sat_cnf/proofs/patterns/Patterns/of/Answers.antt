use Rattle.std.proofs.Common.{◌∙◌, map, sym}
use Rattle.wf_base.specs.Set.Sets.{values_in}
use Rattle.wf_sat_cnf.specs.Found.{patterns_on}
use Rattle.wf_sat_cnf.specs.Patterns.{pattern_seen}
use Rattle.wf_sat_cnf.proofs.Steps.{nothing_there, choice_more, all_choices}
use Rattle.wf_sat_cnf.proofs.patterns.Patterns.of.Goals as goal

pub returns-then-is_empty : goal.returns-then-is_empty
returns-then-is_empty c = nothing_there c.args.size (values_in c.args.values) c.args.tuples.now c.requires (sym c.is_empty.ensures ∙ c.if-is_empty.true)

pub loop-number-preserved : goal.loop-number-preserved
loop-number-preserved c =
    choice_more (patterns_on c.args.size (values_in c.args.values) c.args.tuples.now) c.loop-number.number (map pattern_seen c.loop-number.others.items) (map pattern_seen c.add_patterns.new.found.items)
    c.loop-number-test.true c.in_ok-add_patterns.ensures c.loop-number.invariant

pub returns : goal.returns
returns c =
    all_choices c.args.size (values_in c.args.values) c.args.tuples.now c.loop-number.number (map pattern_seen c.loop-number.others.items) c.requires
    (sym c.is_empty.ensures ∙ c.if-is_empty.false) c.loop-number-test.false c.loop-number.invariant
