use Rattle.std.proofs.Common.{arith}
use Rattle.spv_program.specs.Programs.{routine_at}
use Rattle.spv_program.specs.Changes.{items_of_callee}
use Rattle.spv_effects.specs.mod_sets.Sets.{has_root}
use Rattle.spv_effects.specs.mod_sets.Changing.{among, shared_roots}
use Rattle.spv_effects.proofs.mod_sets.Tests.{turn, end}
use Rattle.spv_effects.proofs.mod_sets.changing.add_callees.Goals as goal

pub loop-number-preserved : goal.loop-number-preserved
loop-number-preserved c =
    turn (λ r q. among (shared_roots (items_of_callee (routine_at c.args.program.now r))) q) c.args.callees.now c.loop-number.number-index (has_root c.loop-number.roots) _
    c.loop-number.invariant (has_root c.add_callee.new.roots) _ c.loop-number-test.true c.in_ok-add_callee.ensures.each

pub returns : goal.returns
returns c = record {
  each = end (λ r q. among (shared_roots (items_of_callee (routine_at c.args.program.now r))) q) c.args.callees.now c.loop-number.number-index (has_root c.loop-number.roots) _
      c.loop-number.invariant (omega (arith, c.loop-number-test.false));
}
