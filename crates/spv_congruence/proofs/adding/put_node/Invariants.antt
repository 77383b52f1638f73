use Rattle.std.proofs.Common.{◌≡◌, ◌<◌, length}
use Rattle.std.specs.Vec.{vec_capacity, vec_len}
use Rattle.spv_congruence.proofs.AddLemmas.{SameNodes}
use Rattle.spv_congruence.proofs.adding.put_node.Given as goal

abbrev pub invariant-loop : goal.invariant-loop
invariant-loop l = record {
  same : SameNodes l.fn.nodes.items l.nodes.items;
  many : length l.nodes.items ≡ l.counter;
  len : vec_len l.nodes ≡ l.counter;
  room : l.place < vec_capacity l.nodes;
}
