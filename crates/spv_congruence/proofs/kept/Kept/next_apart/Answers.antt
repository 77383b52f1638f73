use Rattle.std.proofs.Common.{sym, ◌∙◌}
use Rattle.spv_congruence.proofs.Goings.{early_in, last_due, skipped}
use Rattle.spv_congruence.proofs.kept.Kept.next_apart.Goals as goal

pub label-requires : goal.label-requires
label-requires c = early_in c.args.self.now c.requires.fits _ _ (last_due c.args.self.now _ _ _ _ _ c.in-Some.ensures.items c.loop-equal.invariant.level).left

pub label-requires-in-Some : goal.label-requires-in-Some
label-requires-in-Some c = early_in c.args.self.now c.requires.fits _ _ (last_due c.args.self.now _ _ _ _ _ c.in-Some.ensures.items c.loop-equal.invariant.level).right

pub loop-equal-preserved : goal.loop-equal-preserved
loop-equal-preserved c = record {
  level = skipped c.args.self.now _ _ _ _ c.in-Some.ensures.items (sym c.label.ensures ∙ (c.if-label.false ∙ c.label-in-Some.ensures)) c.loop-equal.invariant.level;
}
