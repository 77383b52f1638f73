use Rattle.spv_flow_parts.proofs.calls.Building.{pair_added, pair_stops}
use Rattle.spv_flow_parts.proofs.calls.at_call.add_pair.Goals as goal

pub returns-in_err-name : goal.returns-in_err-name
returns-in_err-name c =
    pair_stops c.args.terms.now c.made.new.terms c.args.head c.args.t c.args.t c.law_arena.ensures c.requires.t c.requires.variable c.requires.sort c.in_err-name.ensures.grows
    c.from_residual.result c.in_err-name.field-0.0 c.args.pairs.now.items c.args.pairs.now.items c.from_residual.ensures.1 c.in_err-name.ensures.walk

pub returns : goal.returns
returns c =
    pair_added c.args.terms.now c.made.new.terms c.args.head c.args.t c.in_ok-name.name c.law_arena.ensures c.requires.t c.requires.variable c.requires.sort c.in_ok-name.ensures.grows
    c.in_ok-name.ensures.term c.in_ok-name.ensures.sort c.in_ok-name.ensures.walk tt c.args.pairs.now.items c.push_pair.new.pairs.items c.in_ok-push_pair.ensures
