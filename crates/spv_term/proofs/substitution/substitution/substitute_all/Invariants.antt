use Rattle.spv_term.specs.substitution.Images.{pairs_at, substituted}
use Rattle.spv_term.specs.substitution.Walk.{weights}
use Rattle.spv_term.proofs.substitution.WalkLemmas.{Walks}
use Rattle.spv_term.proofs.substitution.substitution.substitute_all.Given as goal

abbrev pub invariant-loop-work : goal.invariant-loop-work
invariant-loop-work l = Walks l.fn.terms l.terms (pairs_at l.fn.terms l.pairs) (substituted l.fn.terms l.pairs l.list) l.list l.works.items l.images

abbrev pub decreases-loop-work : goal.decreases-loop-work
decreases-loop-work l = weights l.fn.terms l.works.items
