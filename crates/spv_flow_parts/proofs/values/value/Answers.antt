use Rattle.spv_flow_parts.proofs.Terms.{term_made, sort_made, value_calls, value_in, value_sorts, value_sort}
use Rattle.spv_flow_parts.proofs.values.value.Goals as goal

pub expression_term-made-requires-clause-calls : goal.expression_term-made-requires-clause-calls
expression_term-made-requires-clause-calls c = value_calls c.args.program.now c.args.body.now c.args.terms.now c.requires.stands c.args.e.now c.requires.value

pub expression_term-made-requires-clause-sorted : goal.expression_term-made-requires-clause-sorted
expression_term-made-requires-clause-sorted c = value_sorts c.args.program.now c.args.body.now c.args.terms.now c.requires.stands c.args.e.now c.requires.value

pub returns-clause-made : goal.returns-clause-made
returns-clause-made c =
    let made = c.expression_term-made.ensures in
    term_made c.args.terms.now c.expression_term-made.new.terms _ _ (value_in c.args.program.now c.args.body.now c.args.terms.now c.requires.stands c.args.e.now c.requires.value) c.expression_term-made.result c.limited.result
    made.tree made.in_range made.grows made.only made.size c.limited.ensures.same c.limited.ensures.walk

pub returns-clause-sort : goal.returns-clause-sort
returns-clause-sort c =
    sort_made c.args.terms.now c.expression_term-made.new.terms _ _ (value_in c.args.program.now c.args.body.now c.args.terms.now c.requires.stands c.args.e.now c.requires.value) c.expression_term-made.result c.limited.result
    _ _ (value_sort c.args.program.now c.args.body.now c.args.terms.now c.requires.stands c.args.e.now c.requires.value) c.expression_term-made.ensures.sort c.limited.ensures.same
