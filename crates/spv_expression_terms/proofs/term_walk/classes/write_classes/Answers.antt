use Rattle.std.proofs.Common.{◌≡◌, ℕ, suc, ◌-◌, ◌<◌, ◌++◌, length, take, subst, ◌∙◌, arith}
use Rattle.spv_expression_terms.specs.term_walk.Selectors.{classes_of}
use Rattle.spv_expression_terms.proofs.term_walk.Selectors.{one_class_more}
use Rattle.spv_expression_terms.proofs.term_walk.classes.write_classes.Goals as goal

pub loop-left-preserved : goal.loop-left-preserved
loop-left-preserved c =
    let left = c.loop-left.left in
    let selectors = c.args.selectors.now in
    let is : suc (left - 1) ≡ left = omega (arith, c.loop-left-test.true) in
    let below : left - 1 < length selectors = omega (arith, c.loop-left-test.true, c.loop-left.invariant.within) in
    record {
      within = omega (arith, c.loop-left.invariant.within);
      writes = λ rest.
          subst (λ (n : ℕ). c.write_class.new.pieces.items ++ classes_of (take (left - 1) selectors) rest ≡ c.loop-left.pieces.items ++ classes_of (take n selectors) rest) is
          (one_class_more selectors (left - 1) c.index-selectors-left.result c.loop-left.pieces.items c.write_class.new.pieces.items rest below c.index-selectors-left.is c.in_ok-write_class.ensures)
          ∙ c.loop-left.invariant.writes rest;
    }
