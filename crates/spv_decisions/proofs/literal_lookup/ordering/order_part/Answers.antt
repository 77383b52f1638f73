use Rattle.spv_term.specs.Arena.{tree}
use Rattle.spv_decisions.proofs.literal_lookup.Ordered.{below_part, above_part, has_sides}
use Rattle.spv_decisions.proofs.literal_lookup.ordering.order_part.Goals as goal

pub returns-then-puts_below : goal.returns-then-puts_below
returns-then-puts_below c =
    let a = c.args.terms.now in
    below_part a c.args.t c.args.k (tree a c.in-Some.left) (tree a c.in-Some.right) c.puts_below.result c.in-Some.ensures.value c.puts_below.ensures c.if-puts_below.true

pub returns-else-puts_below : goal.returns-else-puts_below
returns-else-puts_below c =
    let a = c.args.terms.now in
    above_part a c.args.t c.args.k (tree a c.in-Some.left) (tree a c.in-Some.right) c.puts_below.result c.in-Some.ensures.value c.puts_below.ensures c.if-puts_below.false c.requires.orders

pub unreachable-requires : goal.unreachable-requires
unreachable-requires c = has_sides c.args.terms.now c.args.t c.args.k c.in-None.ensures.value c.requires.orders
