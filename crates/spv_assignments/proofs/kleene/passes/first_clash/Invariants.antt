use Rattle.spv_assignments.specs.kleene.Passes.{HasPassed}
use Rattle.spv_assignments.proofs.kleene.passes.first_clash.Given as goal

abbrev pub invariant-loop-t : goal.invariant-loop-t
invariant-loop-t l = HasPassed l.terms l.own l.s l.v l.ids l.t-index l.found.items
