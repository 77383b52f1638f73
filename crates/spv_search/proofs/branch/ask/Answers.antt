use Rattle.std.proofs.Common.{length, refl, ap, ◌∙◌}
use Rattle.spv_search.proofs.Turns.{answered, now_rests, now_path, now_closes, now_within, now_visited, now_stopped, now_pivots}
use Rattle.spv_search.proofs.branch.ask.Goals as goal

pub state-requires : goal.state-requires
state-requires c = c.requires.quiet.arrived.path.both

pub rest-requires-clause-resting : goal.rest-requires-clause-resting
rest-requires-clause-resting c =
    now_rests c.args.terms.now c.args.condition.now c.args.atoms.now c.args.ground.now c.args.limits.now c.args.path.now c.state.new.path c.args.branches.now c.args.marks.now.items c.requires.quiet c.in_ok-shared.ensures.stated
    (answered c.args.terms.now c.state.new.path.both (length c.args.path.now.derivation) _ _ c.in-Open.is c.in_ok-shared.ensures.answer)

pub close-requires-clause-closes : goal.close-requires-clause-closes
close-requires-clause-closes c =
    now_closes c.args.terms.now c.args.condition.now c.args.atoms.now c.args.ground.now c.args.limits.now c.args.path.now c.state.new.path c.args.branches.now c.args.marks.now.items c.requires.quiet c.in_ok-shared.ensures.stated c.in-Closed.steps.items
    (answered c.args.terms.now c.state.new.path.both (length c.args.path.now.derivation) _ _ c.in-Closed.is c.in_ok-shared.ensures.answer)

pub close-requires-clause-within : goal.close-requires-clause-within
close-requires-clause-within c =
    now_within c.args.terms.now c.args.condition.now c.args.atoms.now c.args.ground.now c.args.limits.now c.args.path.now c.state.new.path c.args.branches.now c.args.marks.now.items c.requires.quiet c.in_ok-shared.ensures.stated c.in-Closed.steps.items
    (answered c.args.terms.now c.state.new.path.both (length c.args.path.now.derivation) _ _ c.in-Closed.is c.in_ok-shared.ensures.answer)

pub close-requires-clause-path : goal.close-requires-clause-path
close-requires-clause-path c =
    now_path c.args.terms.now c.args.condition.now c.args.atoms.now c.args.ground.now c.args.limits.now c.args.path.now c.state.new.path c.args.branches.now c.args.marks.now.items c.requires.quiet c.in_ok-shared.ensures.stated

pub close-requires-clause-comes : goal.close-requires-clause-comes
close-requires-clause-comes c = c.requires.quiet.arrived.comes

pub close-requires-clause-count : goal.close-requires-clause-count
close-requires-clause-count c = c.in_ok-count.ensures ∙ ap length c.cases.ensures

pub returns-in_ok-close-in-Closed : goal.returns-in_ok-close-in-Closed
returns-in_ok-close-in-Closed c =
    now_visited c.args.terms.now c.args.condition.now c.args.atoms.now c.args.ground.now c.args.limits.now c.args.path.now c.state.new.path c.args.branches.now c.args.marks.now.items c.requires.quiet c.in_ok-shared.ensures.stated
    _ c.close.new.branches c.close.ensures.derivation refl refl (c.in_ok-close-in-Closed.ensures.taken c.args.limits.now c.requires.quiet.arrived.within)

pub give_up-requires : goal.give_up-requires
give_up-requires c = answered c.args.terms.now c.state.new.path.both (length c.args.path.now.derivation) _ _ c.in-Limit.is c.in_ok-shared.ensures.answer

pub returns-in_ok-verdict-in-Limit : goal.returns-in_ok-verdict-in-Limit
returns-in_ok-verdict-in-Limit c =
    c.in_ok-verdict-in-Limit.ensures c.args.terms.now c.args.condition.now c.args.limits.now
    (now_stopped c.args.terms.now c.args.condition.now c.args.atoms.now c.args.ground.now c.args.limits.now c.args.path.now c.state.new.path c.args.branches.now c.args.marks.now.items c.requires.quiet c.in_ok-shared.ensures.stated
    (answered c.args.terms.now c.state.new.path.both (length c.args.path.now.derivation) _ _ c.in-Limit.is c.in_ok-shared.ensures.answer))
    (now_pivots c.args.terms.now c.args.condition.now c.args.atoms.now c.args.ground.now c.args.limits.now c.args.path.now c.state.new.path c.args.branches.now c.args.marks.now.items c.requires.quiet c.in_ok-shared.ensures.stated)
