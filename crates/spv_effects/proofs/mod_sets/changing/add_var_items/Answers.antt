use Rattle.std.proofs.Common.{◌&&◌, ◌||◌, ap, ◌∙◌, arith}
use Rattle.spv_program.specs.Uses.{Shared, same_root}
use Rattle.spv_effects.specs.mod_sets.Sets.{has_root}
use Rattle.spv_effects.proofs.mod_sets.Tests.{turn, end}
use Rattle.spv_effects.proofs.mod_sets.Events.{var_items_are}
use Rattle.spv_effects.proofs.mod_sets.changing.add_var_items.Goals as goal

pub loop-g-preserved : goal.loop-g-preserved
loop-g-preserved c =
    turn (λ g q. g.is_var && same_root q (Shared g.item)) c.args.globals.now c.loop-g.g-index (has_root c.loop-g.roots) _ c.loop-g.invariant (has_root c.add_if.new.roots)
    _ c.loop-g-test.true c.in_ok-add_if.ensures.each

pub returns : goal.returns
returns c = record {
  each = λ q.
      end (λ g r. g.is_var && same_root r (Shared g.item)) c.args.globals.now c.loop-g.g-index (has_root c.loop-g.roots) _ c.loop-g.invariant (omega (arith, c.loop-g-test.false)) q
      ∙ ap (λ b. has_root c.args.roots.now q || b) (var_items_are c.args.globals.now q);
}
