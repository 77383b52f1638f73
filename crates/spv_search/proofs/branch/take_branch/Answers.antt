use Rattle.std.proofs.Common.{refl}
use Rattle.spv_search.proofs.Turns.{arrived_as}
use Rattle.spv_search.proofs.Visiting.{visited_same}
use Rattle.spv_search.proofs.branch.take_branch.Goals as goal

pub close_by-requires-clause-ends : goal.close_by-requires-clause-ends
close_by-requires-clause-ends c =
    (arrived_as c.args.terms.now c.args.condition.now c.args.atoms.now c.args.ground.now c.args.limits.now c.args.path.now c.args.branches.now c.args.marks.now.items c.args.end _ c.in-Some.is c.requires.arrived).path.ends

pub close_by-requires-clause-comes : goal.close_by-requires-clause-comes
close_by-requires-clause-comes c = c.requires.arrived.comes

pub returns-in_ok-close_by-in-Some : goal.returns-in_ok-close_by-in-Some
returns-in_ok-close_by-in-Some c =
    visited_same c.args.terms.now c.args.condition.now c.args.atoms.now c.args.ground.now c.args.limits.now c.args.path.now _ c.args.branches.now c.close_by.new.branches c.args.marks.now.items c.args.end c.close_by.ensures.derivation refl refl
    (arrived_as c.args.terms.now c.args.condition.now c.args.atoms.now c.args.ground.now c.args.limits.now c.args.path.now c.args.branches.now c.args.marks.now.items c.args.end _ c.in-Some.is c.requires.arrived).path.both c.requires.arrived
    (c.in_ok-close_by-in-Some.ensures.taken c.args.limits.now c.requires.arrived.within)

pub grow-requires-clause-arrived : goal.grow-requires-clause-arrived
grow-requires-clause-arrived c =
    arrived_as c.args.terms.now c.args.condition.now c.args.atoms.now c.args.ground.now c.args.limits.now c.args.path.now c.args.branches.now c.args.marks.now.items c.args.end _ c.in-None.is c.requires.arrived
