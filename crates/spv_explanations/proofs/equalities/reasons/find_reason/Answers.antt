use Rattle.std.proofs.Common.{sym, ◌∙◌}
use Rattle.spv_explanations.proofs.equalities.Owed.{stands-gains}
use Rattle.spv_explanations.proofs.equalities.reasons.find_reason.Goals as goal

pub returns-in-Some-clause-gains : goal.returns-in-Some-clause-gains
returns-in-Some-clause-gains c =
    stands-gains c.args.terms.now c.args.graph.now c.args.derivation.now c.loop.derivation c.loop.known c.loop.works.items c.args.s c.args.t c.in-Some.number c.loop.invariant.goes_on c.loop.invariant.stands
    (sym c.number.ensures ∙ c.in-Some.is)

pub show-requires-clause-stands : goal.show-requires-clause-stands
show-requires-clause-stands c = record {
  reasons = c.loop.invariant.stands.reasons;
  shown = c.loop.invariant.stands.shown;
  owed = c.next_work-work.ensures.others c.args.graph.now c.loop.invariant.stands.owed;
}
