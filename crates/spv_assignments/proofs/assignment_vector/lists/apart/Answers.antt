use Rattle.std.proofs.Common.{refl}
use Rattle.spv_assignments.proofs.assignment_vector.Giving.{apart_sides, apart_none}
use Rattle.spv_assignments.proofs.assignment_vector.lists.apart.Goals as goal

pub returns-in-Some : goal.returns-in-Some
returns-in-Some c =
    apart_sides c.args.terms.now c.args.given.now c.args.t c.in-Some.left c.in-Some.right c.ordered.result (c.in-Some.ensures.in_range _ refl).0 (c.in-Some.ensures.in_range _ refl).1 c.in-Some.ensures.value c.ordered.ensures

pub returns-in-None : goal.returns-in-None
returns-in-None c = apart_none c.args.terms.now c.args.given.now c.args.t c.in-None.ensures.value
