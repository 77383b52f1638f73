use Rattle.std.proofs.Common.{◌<◌, length, arith, sym, ◌∙◌}
use Rattle.spv_logic.specs.Formulas.{equation}
use Rattle.spv_term.proofs.ArenaLemmas.{length-Extends, tree-Extends}
use Rattle.spv_tests.proofs.reasons_tests.examples.make_example.Goals as goal

pub returns : goal.returns
returns c =
    let first = length-Extends c.in_ok-equal.ensures.grows in
    let second = length-Extends c.in_ok-both.ensures.grows in
    let left : c.in_ok-left.left.0 < length c.equated.new.terms.nodes = omega (arith, first, c.in_ok-left.ensures.left) in
    let right : c.in_ok-left.right.0 < length c.equated.new.terms.nodes = omega (arith, first, c.in_ok-left.ensures.right) in
    let left_is = tree-Extends c.in_ok-both.ensures.grows c.in_ok-left.left left in
    let right_is = tree-Extends c.in_ok-both.ensures.grows c.in_ok-left.right right in
    record {
      left_in = omega (arith, second, left);
      right_in = omega (arith, second, right);
      equal_in = omega (arith, second, c.in_ok-equal.ensures.within);
      both_in = c.in_ok-both.ensures.within;
      is = c.in_ok-both.ensures.tree ∙ (λ i. equation (sym left_is i) (sym right_is i));
    }
