use Rattle.std.proofs.Common.{length, ap}
use Rattle.std.specs.Prelude.{Err}
use Rattle.spv_term.specs.declared.nodes.TermFault.TheVariants.{Size}
use Rattle.spv_search_terms.proofs.condition_copy.Exits.{same_fault}
use Rattle.spv_search_terms.proofs.condition_copy.FillLemmas.{base_on, roots_in, order_is, fill_gained, fill_stops_first, fill_stops, claim_same}
use Rattle.spv_search_terms.proofs.condition_copy.filling.fill.Goals as goal

pub returns-in_err-base-clause-size : goal.returns-in_err-base-clause-size
returns-in_err-base-clause-size c =
    λ is.
    fill_stops_first c.args.terms.now c.args.condition.now c.args.new.now (c.in_err-base.ensures.size (ap Err (same_fault c.in_err-base.field-0.0 c.from_residual.result c.from_residual.ensures.1 Size is)))

pub subterms-requires : goal.subterms-requires
subterms-requires c = roots_in (length c.args.terms.now.nodes) c.args.condition.now c.in_ok-roots.roots.items c.as_slice.result.now c.in_ok-roots.ensures c.as_slice.ensures.value c.requires.given c.requires.goal

pub returns-in_err-images-clause-size : goal.returns-in_err-images-clause-size
returns-in_err-images-clause-size c =
    λ is.
    fill_stops c.args.terms.now c.args.condition.now c.args.new.now c.make_base.new.new c.in_ok-order.order
    (order_is c.args.terms.now c.args.condition.now c.in_ok-roots.roots.items c.as_slice.result.now c.in_ok-order.order c.in_ok-roots.ensures c.as_slice.ensures.value c.in_ok-order.ensures.order) c.in_ok-base.ensures.gains
    (c.in_err-images.ensures.size (ap Err (same_fault c.in_err-images.field-0.0 c.from_residual-in_err-images.result c.from_residual-in_err-images.ensures.1 Size is)))

pub returns-clause-gains : goal.returns-clause-gains
returns-clause-gains c =
    fill_gained c.args.terms.now c.args.condition.now c.args.new.now c.make_base.new.new c.copy_all.new.new c.in_ok-order.order
    (order_is c.args.terms.now c.args.condition.now c.in_ok-roots.roots.items c.as_slice.result.now c.in_ok-order.order c.in_ok-roots.ensures c.as_slice.ensures.value c.in_ok-order.ensures.order) c.in_ok-base.ensures.gains
    c.in_ok-images.ensures.gains

pub returns-clause-filled : goal.returns-clause-filled
returns-clause-filled c = record {
  condition =
      claim_same c.args.terms.now c.args.condition.now c.copy_all.new.new c.in_ok-condition.condition c.in_ok-roots.roots.items c.as_slice.result.now c.in_ok-order.order c.in_ok-images.images.items c.as_slice-2.result.now c.in_ok-roots.ensures
      c.as_slice.ensures.value c.as_slice-2.ensures.value c.in_ok-order.ensures.roots c.in_ok-images.ensures.images c.in_ok-condition.ensures.given c.in_ok-condition.ensures.goal c.in_ok-condition.ensures.origin;
  base = base_on c.make_base.new.new c.copy_all.new.new c.in_ok-base.base c.in_ok-images.ensures.grows c.in_ok-base.ensures.base;
}
