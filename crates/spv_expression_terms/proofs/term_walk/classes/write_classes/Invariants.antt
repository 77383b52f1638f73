use Rattle.std.proofs.Common.{◌≡◌, ◌≤◌, List, ◌++◌, take, length}
use Rattle.spv_expression_terms.specs.declared.postfix.pieces.Piece.{Piece}
use Rattle.spv_expression_terms.specs.term_walk.Selectors.{classes_of}
use Rattle.spv_expression_terms.proofs.term_walk.classes.write_classes.Given as goal

abbrev pub invariant-loop-left : goal.invariant-loop-left
invariant-loop-left l = record {
  within : l.left ≤ length l.selectors;
  writes : (rest : List Piece) → l.pieces.items ++ classes_of (take l.left l.selectors) rest ≡ l.initial.pieces.items ++ classes_of l.selectors rest;
}

abbrev pub decreases-loop-left : goal.decreases-loop-left
decreases-loop-left l = l.left
