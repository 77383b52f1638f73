use Rattle.std.proofs.Common.{None, option_map, ap, ◌∙◌}
use Rattle.spv_frame_check.specs.declared.aliases.RootSet.{RootSet}
use Rattle.spv_frame_check.specs.Roots.{plain_root, plain_roots, has_root, twice_by}
use Rattle.spv_frame_check.proofs.Meeting.{twice_by-none, turn}
use Rattle.spv_frame_check.proofs.aliases.twice.Goals as goal

pub loop-root-init : goal.loop-root-init
loop-root-init c =
    ap (λ (s : RootSet). twice_by (has_root s) None (plain_roots c.args.given.items)) c.new-seen.ensures ∙ twice_by-none (plain_roots c.args.given.items)

pub loop-root-preserved : goal.loop-root-preserved
loop-root-preserved c =
    turn c.loop-root.seen c.add.new.self (option_map plain_root c.loop-root.found) (option_map plain_root c.seen_or-found.result)
    c.loop-root.roots.items c.pop.new.self.items c.in-Some.root c.in-Some.ensures.items c.in_ok-add.ensures c.seen_or-found.ensures ∙ c.loop-root.invariant
