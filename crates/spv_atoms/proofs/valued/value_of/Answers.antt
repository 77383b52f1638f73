use Rattle.std.proofs.Common.{None, arith}
use Rattle.spv_atoms.proofs.Values.{found_there, not_found, no_place}
use Rattle.spv_atoms.proofs.valued.value_of.Goals as goal

pub returns-in_default : goal.returns-in_default
returns-in_default c = no_place c.args.t c.args.order.now c.args.found.now c.in_default.ensures

pub returns-then-place-found : goal.returns-then-place-found
returns-then-place-found c = found_there c.args.t c.args.order.now c.args.found.now c.in-Some.place None c.in-Some.ensures (omega (arith, c.if-place-found.true))

pub returns-else-place-found : goal.returns-else-place-found
returns-else-place-found c = not_found c.args.t c.args.order.now c.args.found.now c.in-Some.place c.in-Some.ensures (omega (arith, c.if-place-found.false))
