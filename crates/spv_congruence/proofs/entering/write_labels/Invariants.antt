use Rattle.std.proofs.Common.{◌≡◌, ◌≤◌, take, map}
use Rattle.std.specs.Vec.{vec_capacity, vec_len}
use Rattle.spv_congruence.specs.Graph.{label_of}
use Rattle.spv_congruence.proofs.entering.write_labels.Given as goal

abbrev pub invariant-loop-t : goal.invariant-loop-t
invariant-loop-t l = record {
  items : l.out.items ≡ map (label_of l.classes.joins) (take l.t-index l.t-items);
  len : vec_len l.out ≡ l.t-index;
  room : vec_capacity l.fn.out ≤ vec_capacity l.out;
}
