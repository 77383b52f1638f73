use Rattle.std.proofs.Common.{sym, ◌∙◌}
use Rattle.spv_trail.proofs.followers.Ordering.{core_itself, core_other}
use Rattle.spv_trail.proofs.followers.negations.add_negation.Goals as goal

pub returns-then-eq : goal.returns-then-eq
returns-then-eq c = core_itself c.args.terms.now c.law_arena.ensures c.args.question c.core-same.result.0 c.core-same.result.1 _ c.core-same.ensures.core (sym c.eq.ensures ∙ c.if-eq.true)

pub returns : goal.returns
returns c = core_other c.args.terms.now c.law_arena.ensures c.args.question c.core-same.result.0 c.core-same.result.1 _ _ c.core-same.ensures.core (sym c.eq.ensures ∙ c.if-eq.false) c.in_ok-put.ensures
