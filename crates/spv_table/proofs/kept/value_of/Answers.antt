use Rattle.std.proofs.Common.{List, length, sym, subst, ap, ◌∙◌}
use Rattle.spv_table.specs.declared.kept.Kept.{Kept}
use Rattle.spv_table.specs.Kept.{AreKept, listed_over}
use Rattle.spv_table.proofs.Keeping.{order_behind, order_ready, beside_kept}
use Rattle.spv_table.proofs.kept.value_of.Goals as goal

pub all_kept-requires-clause-behind : goal.all_kept-requires-clause-behind
all_kept-requires-clause-behind c = order_behind c.args.terms.now c.law_arena.ensures c.in_ok-order.order c.args.t c.in_ok-order.ensures.in_range c.in_ok-order.ensures.order

pub kept_of-requires : goal.kept_of-requires
kept_of-requires c =
    order_ready c.args.terms.now c.law_arena.ensures c.in_ok-order.order c.args.t c.in_ok-order.ensures.in_range c.in_ok-order.ensures.order c.requires.t (length c.as_slice.result.now)
    (ap (λ ks. length ks) c.as_slice.ensures.value ∙ c.in_ok-kept.ensures.length)

pub returns : goal.returns
returns c =
    (beside_kept c.args.terms.now (listed_over c.args.terms.now c.args.values.now) c.in_ok-order.order c.as_slice.result.now c.args.t c.kept_of.result.now
    (subst (λ (ks : List Kept). AreKept c.args.terms.now (listed_over c.args.terms.now c.args.values.now) c.in_ok-order.order ks) (sym c.as_slice.ensures.value) c.in_ok-kept.ensures.kept) c.kept_of.ensures).value
