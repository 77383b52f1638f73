use Rattle.spv_trail.proofs.propagation.Ends.{opposite_ends, crossing, crossed_ends}
use Rattle.spv_trail.proofs.propagation.ending.end_by.Goals as goal

pub returns-in-Opposite : goal.returns-in-Opposite
returns-in-Opposite c =
    λ cases ks may cite clash. opposite_ends c.args.terms.now c.args.condition.now c.args.falsity cases c.args.derivation.now ks may c.args.added cite c.args.clash clash c.in-Opposite.number c.in-Opposite.is

pub returns-in_ok-number-in-Crossed : goal.returns-in_ok-number-in-Crossed
returns-in_ok-number-in-Crossed c =
    λ cases ks may cite clash.
    let k = crossing c.args.terms.now c.args.condition.now c.args.falsity cases c.args.derivation.now ks may c.args.added cite c.args.clash clash c.in-Crossed.equation c.in-Crossed.order c.in-Crossed.is in
    crossed_ends c.args.terms.now c.args.condition.now c.args.falsity cases c.args.derivation.now ks may c.args.added cite c.args.clash clash c.in-Crossed.equation c.in-Crossed.order c.in-Crossed.is c.deny.new.derivation c.in_ok-number-in-Crossed.number
    (c.in_ok-number-in-Crossed.ensures cases may.path may.falsity_is k.equation.truth k.orders_it k.ordering.number)
