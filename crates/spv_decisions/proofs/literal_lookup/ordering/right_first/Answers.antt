use Rattle.std.proofs.Common.{refl}
use Rattle.spv_term.specs.Arena.{tree}
use Rattle.spv_proof_steps.proofs.Shown.{some_in}
use Rattle.spv_decisions.proofs.literal_lookup.Ordered.{right_of_sides, right_of_none}
use Rattle.spv_decisions.proofs.literal_lookup.ordering.right_first.Goals as goal

pub returns-in-Some : goal.returns-in-Some
returns-in-Some c = record {
  value = right_of_sides (tree c.args.terms.now c.args.t) (tree c.args.terms.now c.in-Some.left) (tree c.args.terms.now c.in-Some.right) c.in-Some.ensures.value;
  in_range = some_in _ (c.in-Some.right, c.in-Some.left) ((c.in-Some.ensures.in_range _ refl).1, (c.in-Some.ensures.in_range _ refl).0);
}

pub returns-in-None : goal.returns-in-None
returns-in-None c = record {
  value = right_of_none (tree c.args.terms.now c.args.t) _ c.in-None.ensures.value c.lower.ensures.value;
  in_range = c.lower.ensures.in_range;
}
