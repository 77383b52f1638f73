use Rattle.std.proofs.Common.{refl}
use Rattle.spv_search.specs.Searching.{formulas_in}
use Rattle.spv_search.proofs.Turns.{was_told, ended_visited, grown_as}
use Rattle.spv_search.proofs.Visiting.{quiet_on}
use Rattle.spv_search.proofs.branch.grow.Goals as goal

pub grow-requires-clause-asked : goal.grow-requires-clause-asked
grow-requires-clause-asked c = c.requires.arrived.set_up.asked

pub grow-requires-clause-told : goal.grow-requires-clause-told
grow-requires-clause-told c = was_told c.args.terms.now c.args.condition.now c.args.atoms.now c.args.ground.now c.args.limits.now c.args.path.now c.args.branches.now c.args.marks.now.items c.requires.arrived

pub close_by-requires-clause-ends : goal.close_by-requires-clause-ends
close_by-requires-clause-ends c =
    (grown_as c.args.terms.now c.args.condition.now c.args.ground.now c.args.branches.now c.grow.new.self _ _ c.in-Some.is (c.in_ok-ended.ensures.told (formulas_in c.args.terms.now c.args.branches.now.cases) c.requires.arrived.path)).ends

pub close_by-requires-clause-comes : goal.close_by-requires-clause-comes
close_by-requires-clause-comes c = c.requires.arrived.comes

pub returns-in_ok-close_by-in-Some : goal.returns-in_ok-close_by-in-Some
returns-in_ok-close_by-in-Some c =
    ended_visited c.args.terms.now c.args.condition.now c.args.atoms.now c.args.ground.now c.args.limits.now c.args.path.now c.grow.new.self _ c.args.branches.now c.close_by.new.branches c.args.marks.now.items c.in-Some.end c.requires.arrived
    c.in_ok-ended.ensures.goes
    (grown_as c.args.terms.now c.args.condition.now c.args.ground.now c.args.branches.now c.grow.new.self _ _ c.in-Some.is (c.in_ok-ended.ensures.told (formulas_in c.args.terms.now c.args.branches.now.cases) c.requires.arrived.path))
    c.close_by.ensures.derivation refl refl (c.in_ok-close_by-in-Some.ensures.taken c.args.limits.now c.requires.arrived.within)

pub ask-requires-clause-quiet : goal.ask-requires-clause-quiet
ask-requires-clause-quiet c =
    quiet_on c.args.terms.now c.args.condition.now c.args.atoms.now c.args.ground.now c.args.limits.now c.args.path.now c.grow.new.self c.args.branches.now c.args.marks.now.items c.in_ok-ended.ensures.goes c.requires.arrived
    (grown_as c.args.terms.now c.args.condition.now c.args.ground.now c.args.branches.now c.grow.new.self _ _ c.in-None.is (c.in_ok-ended.ensures.told (formulas_in c.args.terms.now c.args.branches.now.cases) c.requires.arrived.path))
