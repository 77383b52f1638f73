use Rattle.spv_assign.proofs.limited_steps.Limits.{make_makes}
use Rattle.spv_assign.proofs.limited_steps.making.made.Goals as goal

pub returns-clause-walk : goal.returns-clause-walk
returns-clause-walk c =
    c.limited.ensures.walk c.args.terms.now _
    (make_makes c.args.terms.now c.make-made.new.self c.law_arena.ensures c.args.head c.args.args.now c.requires.args c.make-made.result c.make-made.ensures.id
    c.make-made.ensures.arena c.make-made.ensures.in_range c.make-made.ensures.tree c.make-made.ensures.grows c.make-made.ensures.size c.make-made.ensures.unchanged)
