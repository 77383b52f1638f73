use Rattle.std.proofs.Common.{◌≡◌, drop}
use Rattle.spv_term.specs.Arena.{tree}
use Rattle.spv_table.specs.Kept.{PairsIn, listed_over}
use Rattle.spv_table.proofs.kept.listed.Given as goal

abbrev pub invariant-loop-pair : goal.invariant-loop-pair
invariant-loop-pair l = record {
  in_range : PairsIn l.terms (drop l.pair-index l.values);
  same : listed_over l.terms (drop l.pair-index l.values) (tree l.terms l.t) ≡ listed_over l.terms l.values (tree l.terms l.t);
}
