use Rattle.std.proofs.Common.{sym, ◌∙◌}
use Rattle.spv_frame_check.proofs.Collected.{taken_before}
use Rattle.spv_frame_check.proofs.effects.Once.take.Goals as goal

pub returns-then-has : goal.returns-then-has
returns-then-has c = taken_before _ c.args.item (sym c.has.ensures ∙ c.if-has.true)
