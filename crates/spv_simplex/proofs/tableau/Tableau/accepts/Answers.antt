use Rattle.std.proofs.Common.{rules, ◌≡◌, refl}
use Rattle.spv_tableau_rules.specs.tableaux.Bounds.{bound_on, other_side}
use Rattle.spv_dictionary.specs.pivoting.Trail.{IsFree}
use Rattle.spv_simplex.proofs.Accepting.{accepts_as, uncomparable_as}
use Rattle.spv_simplex.proofs.tableau.Tableau.accepts.Goals as goal

pub returns-clause-value : goal.returns-clause-value
returns-clause-value c =
    let free : IsFree c.self.inside.trail c.args.row c.args.side = search rules in
    let other : c.bound.result ≡ bound_on c.self.inside.trail.bounds c.args.row (other_side c.args.side) = search rules in
    accepts_as _ _ c.self.inside.parts c.self.inside.trail _ _ c.self.invariant refl refl c.self.view_is c.args.row c.args.side c.of.result _ c.of.ensures free c.bound.result other c.leaves_value.result c.leaves_value.ensures.value

pub returns-clause-wide : goal.returns-clause-wide
returns-clause-wide c =
    let other : c.bound.result ≡ bound_on c.self.inside.trail.bounds c.args.row (other_side c.args.side) = search rules in
    uncomparable_as _ _ c.self.view_is c.args.row c.args.side c.of.result _ c.of.ensures c.bound.result other c.leaves_value.result c.leaves_value.ensures.wide
