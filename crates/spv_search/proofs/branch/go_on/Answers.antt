use Rattle.spv_search.proofs.Splitting.{rest_full, rest_there}
use Rattle.spv_search.proofs.Turns.{chosen, chosen_may, there_in}
use Rattle.spv_search.proofs.branch.go_on.Goals as goal

pub choose-requires-clause-atoms : goal.choose-requires-clause-atoms
choose-requires-clause-atoms c = c.requires.resting.quiet.arrived.set_up.opened.within

pub choose-requires-clause-known : goal.choose-requires-clause-known
choose-requires-clause-known c =
    there_in c.args.terms.now c.args.path.now.known.items c.as_slice-2.result.now c.as_slice-2.ensures.value
    (rest_there c.args.terms.now c.args.condition.now c.args.atoms.now c.args.ground.now c.args.limits.now c.args.path.now c.args.branches.now c.args.marks.now.items c.requires.resting
    (c.law_rest.ensures c.args.condition.now c.args.atoms.now c.args.ground.now c.args.limits.now c.args.branches.now c.args.marks.now.items c.requires.resting))

pub split-requires-clause-split : goal.split-requires-clause-split
split-requires-clause-split c =
    chosen_may c.args.terms.now c.args.atoms.now c.args.path.now.lists.all.items c.args.path.now.known.items c.in-Split.t
    (chosen c.args.terms.now c.args.atoms.now c.args.path.now.lists.all.items c.as_slice.result.now c.args.path.now.known.items c.as_slice-2.result.now c.choose.result _ c.as_slice.ensures.value c.as_slice-2.ensures.value c.in-Split.is c.choose.ensures.choice)

pub survey-requires-clause-state : goal.survey-requires-clause-state
survey-requires-clause-state c =
    rest_full c.args.terms.now c.args.condition.now c.args.atoms.now c.args.ground.now c.args.limits.now c.args.path.now c.args.branches.now c.args.marks.now.items c.requires.resting
    (c.law_rest.ensures c.args.condition.now c.args.atoms.now c.args.ground.now c.args.limits.now c.args.branches.now c.args.marks.now.items c.requires.resting)
    (chosen c.args.terms.now c.args.atoms.now c.args.path.now.lists.all.items c.as_slice.result.now c.args.path.now.known.items c.as_slice-2.result.now c.choose.result _ c.as_slice.ensures.value c.as_slice-2.ensures.value c.in-Full.is c.choose.ensures.choice)
