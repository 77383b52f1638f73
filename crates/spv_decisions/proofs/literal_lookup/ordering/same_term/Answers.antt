use Rattle.spv_atoms.proofs.Walks.{term_eq-ids}
use Rattle.spv_decisions.proofs.literal_lookup.ordering.same_term.Goals as goal

pub returns : goal.returns
returns c = term_eq-ids c.args.terms.now c.law_arena.ensures c.args.t c.args.u c.requires.t c.requires.u
