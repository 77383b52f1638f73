use Rattle.spv_assign.proofs.limited_steps.Replacements.{replaced_makes}
use Rattle.spv_assign.proofs.limited_steps.replacing.replaced.Goals as goal

pub returns-clause-walk : goal.returns-clause-walk
returns-clause-walk c =
    c.limited.ensures.walk c.args.terms.now _
    (replaced_makes (λ cs. cs.items) c.args.terms.now c.replaced-made.new.terms c.replaced-made.result _ c.replaced-made.ensures.conditions c.replaced-made.ensures.in_range c.replaced-made.ensures.grows c.replaced-made.ensures.only
    c.replaced-made.ensures.size)
