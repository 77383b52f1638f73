use Rattle.spv_derivations.proofs.derivation.Bridges.{on_ok}
use Rattle.spv_trail.proofs.propagation.RowConstraint.{may_tell, order_fits, order_told}
use Rattle.spv_trail.proofs.propagation.telling.tell_order.Goals as goal

pub tell_literal-requires-clause-may : goal.tell_literal-requires-clause-may
tell_literal-requires-clause-may c =
    may_tell c.args.terms.now c.args.condition.now c.args.both.now c.args.t c.order_part-part.result c.requires.t (order_fits c.args.terms.now c.args.t c.args.order c.order_part-part.result c.order_part-part.ensures c.requires.comparison)

pub returns-clause-tells : goal.returns-clause-tells
returns-clause-tells c =
    on_ok c.tell_literal.result c.tell_literal.ensures.tells
    (λ l. order_told c.args.terms.now c.args.both.now c.tell_literal.new.both c.args.t c.args.order c.order_part-part.result c.order_part-part.ensures c.requires.comparison l)
