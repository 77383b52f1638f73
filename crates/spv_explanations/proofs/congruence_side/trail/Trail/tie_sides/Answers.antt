use Rattle.std.proofs.Common.{refl, sym, ◌∙◌}
use Rattle.spv_explanations.proofs.congruence_side.Ties.{sides-node, sides-nodes}
use Rattle.spv_explanations.proofs.congruence_side.Trails.{grows_same}
use Rattle.spv_explanations.proofs.congruence_side.trail.Trail.tie_sides.Goals as goal

pub returns-in_default-clause-grows : goal.returns-in_default-clause-grows
returns-in_default-clause-grows c = grows_same _ _ refl refl refl refl

pub enter-requires-clause-left : goal.enter-requires-clause-left
enter-requires-clause-left c =
    (sides-nodes c.args.terms.now c.args.self.now.graph c.requires.holds.of c.law_terms.ensures c.args.t (c.in-Some.left, c.in-Some.right) c.requires.node
    (sides-node c.args.terms.now c.args.t (c.in-Some.left, c.in-Some.right) (sym c.equation_sides.ensures ∙ c.in-Some.is))).0

pub enter-requires-clause-right : goal.enter-requires-clause-right
enter-requires-clause-right c =
    (sides-nodes c.args.terms.now c.args.self.now.graph c.requires.holds.of c.law_terms.ensures c.args.t (c.in-Some.left, c.in-Some.right) c.requires.node
    (sides-node c.args.terms.now c.args.t (c.in-Some.left, c.in-Some.right) (sym c.equation_sides.ensures ∙ c.in-Some.is))).1
