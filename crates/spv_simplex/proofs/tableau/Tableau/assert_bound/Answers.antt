use Rattle.std.proofs.Common.{refl}
use Rattle.spv_simplex.proofs.Calls.{asserted_as}
use Rattle.spv_simplex.proofs.tableau.Tableau.assert_bound.Goals as goal

pub invariant_of-self : goal.invariant_of-self
invariant_of-self c =
    asserted_as _ c.args.self.now c.self.inside.parts c.self.inside.trail c.push.new.self _ _ c.args.row c.args.side c.of-value.result _ c.self.invariant refl refl
    c.self.view_is c.of-value.ensures c.requires c.push.ensures c.law_trail.ensures
