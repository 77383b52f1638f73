use Rattle.std.proofs.Common.{arith}
use Rattle.spv_program.specs.Uses.{Own, same_root}
use Rattle.spv_effects.specs.frame_events.Names.{named}
use Rattle.spv_effects.specs.mod_sets.Roots.{plain_root}
use Rattle.spv_effects.proofs.mod_sets.Tests.{turn, end}
use Rattle.spv_effects.proofs.mod_sets.Rows.{none_named}
use Rattle.spv_effects.proofs.mod_sets.roots.own_of.Goals as goal

pub loop-row-init : goal.loop-row-init
loop-row-init c = none_named c.args.rows.now c.new-own.result c.new-own.ensures

pub loop-row-preserved : goal.loop-row-preserved
loop-row-preserved c =
    turn (λ r x. same_root (Own x) (plain_root r.root)) c.args.rows.now c.loop-row.row-index (named c.loop-row.own) _ c.loop-row.invariant (named c.add_own.new.own)
    _ c.loop-row-test.true c.in_ok-add_own.ensures.each

pub returns : goal.returns
returns c at x = end (λ r y. same_root (Own y) (plain_root r.root)) c.args.rows.now c.loop-row.row-index (named c.loop-row.own) _ c.loop-row.invariant (omega (arith, c.loop-row-test.false)) x at
