use Rattle.std.proofs.Common.{◌∙◌}
use Rattle.std.specs.Ordering.{int_cmp}
use mathlib.Core.Path.{ap₂}
use Rattle.spv_whole.proofs.Crosswise.{order-over}
use Rattle.spv_frac.proofs.frac.Frac.cmp.Goals as goal

pub returns-clause-value : goal.returns-clause-value
returns-clause-value c =
    c.cmp.ensures ∙ ap₂ int_cmp c.in_ok-scaled.ensures.left c.in_ok-scaled.ensures.right ∙ order-over c.args.self c.args.other c.scaled.ensures.is_frac.is_lowest.positive
