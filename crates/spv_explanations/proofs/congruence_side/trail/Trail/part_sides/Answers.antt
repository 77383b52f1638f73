use Rattle.spv_explanations.proofs.congruence_side.Ties.{backed_apart}
use Rattle.spv_explanations.proofs.congruence_side.trail.Trail.part_sides.Goals as goal

pub tie_sides-requires-clause-backed : goal.tie_sides-requires-clause-backed
tie_sides-requires-clause-backed c = λ s u h. backed_apart c.args.terms.now c.law_arena.ensures c.deny.new.self.derivation c.args.t c.in_ok-denied.denied (s, u) c.in_ok-denied.ensures.fact h
