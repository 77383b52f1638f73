use Rattle.std.proofs.Common.{◌≡◌, ◌≤◌, ◌+◌, drop}
use Rattle.spv_logic.specs.declared.conditions.TermId.{TermId}
use Rattle.spv_union_find.specs.signatures.Signatures.{cells_of}
use Rattle.spv_congruence.specs.Graph.{IsUpTo, IsEarly, label_of, weight_of}
use Rattle.spv_congruence.specs.Keep.{graph, Fits, GoesOn}
use Rattle.spv_congruence.proofs.kept.Kept.enter_rest.Given as goal

abbrev pub invariant-loop-place : goal.invariant-loop-place
invariant-loop-place l = record {
  fits : Fits l.self;
  upto : IsUpTo (graph l.self) l.place;
  goes : GoesOn l.fn.self l.self;
  labels_stay : (u : TermId) → IsEarly l.fn.self.added l.fn.from u → label_of l.self.classes.joins u ≡ label_of l.fn.self.classes.joins u;
  from : l.fn.from ≤ l.place;
  room : cells_of l.self.table.rows + weight_of l.self.nodes (drop l.place l.self.added) ≤ l.self.table.room;
}
