use Rattle.std.proofs.Common.{◌≡◌, take}
use Rattle.spv_atoms.proofs.copies.same_terms.Given as goal

abbrev pub invariant-loop-t : goal.invariant-loop-t
invariant-loop-t l = l.list ≡ take l.t-index l.ts
