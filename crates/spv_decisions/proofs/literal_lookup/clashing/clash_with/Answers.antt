use Rattle.spv_decisions.proofs.literal_lookup.Opposed.{opposed, new_crossed, old_crossed, no_clash}
use Rattle.spv_decisions.proofs.literal_lookup.clashing.clash_with.Goals as goal

pub returns-then-contrary-clause-found : goal.returns-then-contrary-clause-found
returns-then-contrary-clause-found c = opposed c.args.terms.now c.args.added c.args.k c.contrary.result c.contrary.ensures c.if-contrary.true

pub returns-then-crosses-clause-found : goal.returns-then-crosses-clause-found
returns-then-crosses-clause-found c = new_crossed c.args.terms.now c.args.added c.args.k c.crosses.result c.crosses.ensures c.if-crosses.true

pub returns-then-crosses-2-clause-found : goal.returns-then-crosses-2-clause-found
returns-then-crosses-2-clause-found c = old_crossed c.args.terms.now c.args.added c.args.k c.crosses-2.result c.crosses-2.ensures c.if-crosses-2.true

pub returns-clause-none : goal.returns-clause-none
returns-clause-none c =
    no_clash c.args.terms.now c.args.added c.args.k c.contrary.result c.crosses.result c.crosses-2.result c.contrary.ensures c.if-contrary.false c.crosses.ensures c.if-crosses.false c.crosses-2.ensures c.if-crosses-2.false
