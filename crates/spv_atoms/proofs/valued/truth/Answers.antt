use Rattle.std.proofs.Common.{subst}
use Rattle.spv_logic.specs.declared.conditions.TermId.{TermId}
use Rattle.std.proofs.Common.{List}
use Rattle.spv_atoms.specs.Tables.{assigned}
use Rattle.spv_atoms.specs.Valued.{pairs, AreGiven}
use Rattle.spv_atoms.proofs.Values.{truth_is}
use Rattle.spv_atoms.proofs.valued.truth.Goals as goal

pub returns : goal.returns
returns c =
    truth_is c.args.terms.now c.args.known.now c.in_ok-order.order c.in_ok-own.own.items c.as_slice-2.result.now c.in_ok-found.found.items c.as_slice-3.result.now c.args.f c.value_of.result
    (subst (λ (xs : List TermId). AreGiven c.args.terms.now (assigned (pairs c.args.terms.now c.args.known.now)) xs c.in_ok-own.own.items) c.as_slice.ensures c.in_ok-own.ensures)
    c.as_slice-2.ensures.value c.in_ok-found.ensures.values c.in_ok-found.ensures.length c.in_ok-order.ensures.roots.0 c.as_slice-3.ensures.value c.value_of.ensures
