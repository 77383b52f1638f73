use Rattle.std.proofs.Common.{arith}
use Rattle.spv_effects.proofs.mod_sets.Members.{names_end}
use Rattle.spv_effects.proofs.mod_sets.sets.add_named.Goals as goal

pub returns : goal.returns
returns c = names_end c.args.names.now c.loop-t.t-index _ _ (omega (arith, c.loop-t-test.false)) c.loop-t.invariant
