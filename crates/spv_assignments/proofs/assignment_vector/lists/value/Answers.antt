use Rattle.std.proofs.Common.{refl}
use Rattle.spv_assignments.proofs.assignment_vector.Giving.{value_core, value_negation}
use Rattle.spv_assignments.proofs.assignment_vector.lists.value.Goals as goal

pub returns-in-Some : goal.returns-in-Some
returns-in-Some c =
    value_negation c.args.terms.now c.law_arena.ensures c.args.cores.now c.args.before.now c.args.t c.in-Some.u c.value_at.result c.not_of.result c.requires.t (c.in-Some.ensures.in_range _ refl)
    c.in-Some.ensures.value c.requires.before c.value_at.ensures c.not_of.ensures

pub returns-in-None : goal.returns-in-None
returns-in-None c = value_core c.args.terms.now c.args.cores.now c.args.t c.value_at-in-None.result c.requires.t c.in-None.ensures.value c.value_at-in-None.ensures
