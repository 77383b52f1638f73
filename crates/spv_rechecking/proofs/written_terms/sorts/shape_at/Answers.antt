use Rattle.spv_term.proofs.SortLemmas.{shape_at-found, shape_at-missing}
use Rattle.spv_rechecking.proofs.written_terms.sorts.shape_at.Goals as goal

pub returns-clause-there : goal.returns-clause-there
returns-clause-there c = shape_at-found c.args.shapes.now c.args.t.0 c.get.result _ c.get.ensures.lookup.1 c.get.ensures.lookup.3

pub returns-clause-missing : goal.returns-clause-missing
returns-clause-missing c = shape_at-missing c.args.shapes.now c.args.t.0 c.get.result _ c.get.ensures.lookup.3
