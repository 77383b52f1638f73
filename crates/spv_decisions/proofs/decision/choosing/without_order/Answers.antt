use Rattle.std.proofs.Common.{◌≡◌, false, length, sym, ◌∙◌, arith}
use Rattle.std.proofs.lemmas.Option.{slice_get-get_or}
use Rattle.spv_logic.specs.declared.conditions.TermId.{TermId}
use Rattle.spv_term.proofs.TreeLemmas.{AllBelow-at}
use Rattle.spv_decisions.specs.decision.Choosing.{lacks_order}
use Rattle.spv_decisions.proofs.literal_lookup.Turns.{one_more, all_of_them}
use Rattle.spv_decisions.proofs.decision.choosing.without_order.Goals as goal

pub lacks_order-requires-clause-t : goal.lacks_order-requires-clause-t
lacks_order-requires-clause-t c =
    AllBelow-at (length c.args.terms.now.nodes) c.args.atoms.now c.loop-t.t-index _ c.requires.atoms
    (slice_get-get_or c.args.atoms.now c.loop-t.t-index (record { 0 = 0 }) (omega (arith, c.loop-t-test.true)))

pub loop-t-preserved : goal.loop-t-preserved
loop-t-preserved c =
    one_more (λ (t : TermId). lacks_order c.args.terms.now c.args.values.now c.args.known.now t ≡ false) c.args.atoms.now c.loop-t.t-index (record { 0 = 0 }) c.loop-t.invariant (omega (arith, c.loop-t-test.true))
    (sym c.lacks_order.ensures ∙ c.if-lacks_order.false)

pub returns-clause-none : goal.returns-clause-none
returns-clause-none c = record {
  each = all_of_them (λ (t : TermId). lacks_order c.args.terms.now c.args.values.now c.args.known.now t ≡ false) c.args.atoms.now c.loop-t.t-index c.loop-t.invariant (omega (arith, c.loop-t-test.false));
}
