use Rattle.spv_atoms.proofs.Sums.{never-wide}
use Rattle.spv_atoms.proofs.linear_form.Linear.minus.Goals as goal

pub returns-in-None : goal.returns-in-None
returns-in-None c = absurd (never-wide c.args.other.now c.in_ok-negated.field-0 c.law_linear.ensures c.in_ok-negated.ensures c.in-None.is)
