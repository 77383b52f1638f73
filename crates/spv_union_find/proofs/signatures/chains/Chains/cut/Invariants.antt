use Rattle.std.proofs.Common.{◌≡◌, ◌≤◌, take, length}
use Rattle.spv_union_find.proofs.signatures.chains.Chains.cut.Given as goal

abbrev pub invariant-loop-self : goal.invariant-loop-self
invariant-loop-self l = record {
  hashes : take l.count l.self.hashes ≡ take l.count l.fn.self.hashes;
  room : l.fn.self.room ≤ l.self.room;
}

abbrev pub decreases-loop-self : goal.decreases-loop-self
decreases-loop-self l = length l.self.hashes
