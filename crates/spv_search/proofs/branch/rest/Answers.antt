use Rattle.spv_search.proofs.Consulted.{next_as}
use Rattle.spv_search.proofs.Splitting.{rest_opened, rest_there}
use Rattle.spv_search.proofs.branch.rest.Goals as goal

pub consult-requires-clause-atoms : goal.consult-requires-clause-atoms
consult-requires-clause-atoms c = c.requires.resting.quiet.arrived.set_up.opened.within

pub consult-requires-clause-known : goal.consult-requires-clause-known
consult-requires-clause-known c =
    rest_there c.args.terms.now c.args.condition.now c.args.atoms.now c.args.ground.now c.args.limits.now c.args.path.now c.args.branches.now c.args.marks.now.items c.requires.resting
    (c.law_rest.ensures c.args.condition.now c.args.atoms.now c.args.ground.now c.args.limits.now c.args.branches.now c.args.marks.now.items c.requires.resting)

pub consult-requires-clause-state : goal.consult-requires-clause-state
consult-requires-clause-state c =
    rest_opened c.args.terms.now c.args.condition.now c.args.atoms.now c.args.ground.now c.args.limits.now c.args.path.now c.args.branches.now c.args.marks.now.items c.requires.resting
    (c.law_rest.ensures c.args.condition.now c.args.atoms.now c.args.ground.now c.args.limits.now c.args.branches.now c.args.marks.now.items c.requires.resting)

pub returns-in-Found : goal.returns-in-Found
returns-in-Found c = next_as c.args.terms.now c.args.condition.now c.args.atoms.now c.args.path.now _ _ c.in-Found.is c.in_ok-next.ensures c.args.limits.now

pub split-requires-clause-split : goal.split-requires-clause-split
split-requires-clause-split c = next_as c.args.terms.now c.args.condition.now c.args.atoms.now c.args.path.now _ _ c.in-Split.is c.in_ok-next.ensures
