use Rattle.std.proofs.Common.{◌≡◌, map, take}
use Rattle.spv_atoms.specs.Steps.{multiple_by}
use Rattle.spv_atoms.proofs.copies.multiples_numbered.Given as goal

abbrev pub invariant-loop-multiple : goal.invariant-loop-multiple
invariant-loop-multiple g l = l.list ≡ map (multiple_by (g.F.FactNumbers.number l.numbers)) (take l.multiple-index l.multiples)
