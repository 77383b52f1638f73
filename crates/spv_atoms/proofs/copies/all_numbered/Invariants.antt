use Rattle.std.proofs.Common.{◌≡◌, map, take}
use Rattle.spv_atoms.proofs.copies.all_numbered.Given as goal

abbrev pub invariant-loop-k : goal.invariant-loop-k
invariant-loop-k g l = l.list ≡ map (g.F.FactNumbers.number l.numbers) (take l.k-index l.ks)
