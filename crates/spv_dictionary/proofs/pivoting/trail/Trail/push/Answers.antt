use Rattle.std.proofs.Common.{rules, ◌≡◌, ◌≤◌, ◌<◌, ◌++◌, ◌∷◌, [], None, length, sym, subst}
use Rattle.std.specs.Prelude.{vec_capacity}
use Rattle.spv_tableau_rules.specs.tableaux.Bounds.{bound_on}
use Rattle.spv_dictionary.specs.pivoting.Trail.{Trail, bound_of}
use Rattle.spv_dictionary.proofs.pivoting.Bounding.{push_keeps}
use Rattle.spv_dictionary.proofs.pivoting.trail.Trail.push.Goals as goal

pub invariant_of-self : goal.invariant_of-self
invariant_of-self c =
    let items : c.push.new.self.items ≡ c.self.inside.bounds.items ++ bound_of c.args.row c.args.side c.args.value ∷ [] = search rules in
    let capacity : c.self.inside.most ≤ vec_capacity c.push.new.self = search rules in
    let kept = push_keeps c.self.inside.most c.self.inside.bounds.items c.self.inside.lower.items c.self.inside.upper.items c.args.row c.args.side c.args.value c.self.invariant.0
    (subst (λ (t : Trail). c.args.row < t.rows) (sym c.self.view_is) c.requires.row)
    (subst (λ (t : Trail). length t.bounds < t.most) (sym c.self.view_is) c.requires.room)
    (subst (λ (t : Trail). bound_on t.bounds c.args.row c.args.side ≡ None) (sym c.self.view_is) c.requires.free) in
    (rw (items, c.write.ensures.lower, c.write.ensures.upper) kept, capacity)
