use Rattle.std.proofs.Common.{rules, ◌≡◌, ◌≤◌, ◌++◌, ◌∷◌, [], List, subst}
use Rattle.std.specs.Prelude.{vec_capacity}
use Rattle.spv_dictionary.proofs.pivoting.Bounding.{pop_keeps, trail_of}
use Rattle.spv_dictionary.specs.pivoting.Trail.{IsTrail}
use Rattle.spv_tableau_rules.specs.tableaux.Bounds.{Bound}
use Rattle.spv_dictionary.proofs.pivoting.trail.Trail.pop.Goals as goal

pub invariant_of-self : goal.invariant_of-self
invariant_of-self c =
    let items : c.self.inside.bounds.items ≡ c.pop.new.self.items ++ c.unwrap-last.result ∷ [] = search rules in
    let capacity : c.self.inside.most ≤ vec_capacity c.pop.new.self = search rules in
    let kept = pop_keeps c.self.inside.most c.pop.new.self.items c.unwrap-last.result c.self.inside.lower.items c.self.inside.upper.items
    (subst (λ (bounds : List Bound). IsTrail (trail_of c.self.inside.most bounds c.self.inside.lower.items) c.self.inside.lower.items c.self.inside.upper.items) items c.self.invariant.0) in
    (rw (c.write.ensures.lower, c.write.ensures.upper, c.row.ensures, c.side.ensures) kept, capacity)
