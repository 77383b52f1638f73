use Rattle.std.proofs.Common.{◌∙◌}
use Rattle.spv_trail.proofs.followers.Ordering.{have_lists, an_equation, pair_in}
use Rattle.spv_trail.proofs.followers.equations.add_equation.Goals as goal

pub put_at-requires : goal.put_at-requires
put_at-requires c = have_lists c.args.terms.now c.args.orders.now c.requires.orders _ c.requires.lists

pub put_at-requires-in-Some : goal.put_at-requires-in-Some
put_at-requires-in-Some c = have_lists c.args.terms.now c.args.orders.now c.requires.orders _ (c.in_ok-put_at-in-Some.ensures.many ∙ c.requires.lists)

pub returns-in_ok-put_at-in-Some-2 : goal.returns-in_ok-put_at-in-Some-2
returns-in_ok-put_at-in-Some-2 c = an_equation c.args.terms.now c.args.orders.now c.requires.orders c.args.question c.sides.result c.sides.ensures.value (c.in-Some.left, c.in-Some.right) c.in-Some.is
    (pair_in c.args.terms.now c.sides.result (c.in-Some.left, c.in-Some.right) c.sides.ensures.in_range c.in-Some.is) _ _ _ c.in_ok-put_at-in-Some.ensures.puts c.in_ok-put_at-in-Some-2.ensures.puts
