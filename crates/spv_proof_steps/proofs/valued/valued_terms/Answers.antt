use Rattle.std.proofs.Common.{length, ap, ◌∙◌}
use Rattle.spv_atoms.proofs.Values.{among_valued}
use Rattle.spv_proof_steps.proofs.ValuedLemmas.{all_inside}
use Rattle.spv_proof_steps.proofs.valued.valued_terms.Goals as goal

pub values_in_order-requires-clause-own : goal.values_in_order-requires-clause-own
values_in_order-requires-clause-own c = ap length c.as_slice-2.ensures.value ∙ (c.in_ok-own.ensures.length ∙ ap length c.as_slice.ensures)

pub returns-clause-roots : goal.returns-clause-roots
returns-clause-roots c = among_valued c.in_ok-order.order c.in_ok-found.found.items c.args.roots.now c.in_ok-found.ensures.length c.in_ok-order.ensures.roots

pub returns-clause-inside : goal.returns-clause-inside
returns-clause-inside c =
    all_inside c.args.terms.now c.in_ok-order.order c.in_ok-found.found.items c.args.roots.now c.in_ok-order.ensures.layered c.in_ok-found.ensures.length c.in_ok-order.ensures.roots
