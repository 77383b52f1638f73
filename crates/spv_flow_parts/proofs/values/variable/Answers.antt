use Rattle.spv_flow_parts.proofs.Terms.{term_made, sort_made, variable_calls, variable_in, variable_sorts, variable_sort}
use Rattle.spv_flow_parts.proofs.values.variable.Goals as goal

pub place_term-made-requires-clause-calls : goal.place_term-made-requires-clause-calls
place_term-made-requires-clause-calls c = variable_calls c.args.program.now c.args.body.now c.args.terms.now c.requires.stands c.args.d.now c.requires.variable

pub place_term-made-requires-clause-sorted : goal.place_term-made-requires-clause-sorted
place_term-made-requires-clause-sorted c = variable_sorts c.args.program.now c.args.body.now c.args.terms.now c.requires.stands c.args.d.now c.requires.variable

pub returns-clause-made : goal.returns-clause-made
returns-clause-made c =
    let made = c.place_term-made.ensures in
    term_made c.args.terms.now c.place_term-made.new.terms _ _ (variable_in c.args.program.now c.args.body.now c.args.terms.now c.requires.stands c.args.d.now c.requires.variable) c.place_term-made.result c.limited.result
    made.tree made.in_range made.grows made.only made.size c.limited.ensures.same c.limited.ensures.walk

pub returns-clause-sort : goal.returns-clause-sort
returns-clause-sort c =
    sort_made c.args.terms.now c.place_term-made.new.terms _ _ (variable_in c.args.program.now c.args.body.now c.args.terms.now c.requires.stands c.args.d.now c.requires.variable) c.place_term-made.result c.limited.result
    _ _ (variable_sort c.args.program.now c.args.body.now c.args.terms.now c.requires.stands c.args.d.now c.requires.variable) c.place_term-made.ensures.sort c.limited.ensures.same
