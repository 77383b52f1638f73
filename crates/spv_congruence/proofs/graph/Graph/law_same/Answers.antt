use Rattle.std.proofs.Common.{subst}
use Rattle.spv_congruence.specs.Told.{IsExact}
use Rattle.spv_congruence.proofs.Exact.{exact}
use Rattle.spv_congruence.proofs.graph.Graph.law_same.Goals as goal

pub returns : goal.returns
returns c = subst IsExact c.self.view_is (exact c.self.inside.kept c.self.invariant.fits c.self.invariant.graph_is c.law_joins.ensures)
