use Rattle.std.proofs.Common.{rules, ◌≤◌, length, refl}
use Rattle.spv_simplex.proofs.Calls.{undone}
use Rattle.spv_simplex.proofs.tableau.Tableau.undo.Goals as goal

pub invariant_of-self : goal.invariant_of-self
invariant_of-self c =
    let few : c.mark.inside.count ≤ length c.self.inside.trail.bounds = search rules in
    undone _ c.self.inside.parts c.self.inside.trail c.keep.new.self _ _ c.mark.inside.count _ c.self.invariant refl refl c.keep.ensures few c.min-self-inside.ensures c.law_trail.ensures
